use Rattle.std.proofs.Common.{◌≡◌, ◌∙◌, ℕ, List, [], ◌∷◌, length, true, refl, sym, ap, arith}
use Rattle.std.specs.Prelude.{◌==◌}
use Rattle.std.proofs.lemmas.Bool.Decides.{nat_tests}
use Rattle.dns_nsec.proofs.bitmaps.has_no_type.Goals as goal

no_octet : (xs : List ℕ) → (length xs == 0) ≡ true → xs ≡ []
no_octet [] e = refl
no_octet (x ∷ xs) e = absurd (grind (arith, nat_tests))

pub returns : goal.returns
returns c =
    let octets = c.args.octets.now in
    let none = c.types_of_bitmaps.ensures.none octets (λ i. omega (arith, c.type_inv.octets i)) c.requires in
    (λ h. none.1 (no_octet octets (sym c.is_empty.ensures ∙ h)), λ e. c.is_empty.ensures ∙ ap (λ (l : List ℕ). length l == 0) (none.0 e))
