-- What a grammar that knows no places reads from a place to the end.
use Rattle.std.proofs.Common.{◌≡◌, ℕ, ◌-◌, ◌≤◌, true, false, cond, ltb, List, [], ◌∷◌, length, drop, Option, Some, None, refl, ap, ◌∙◌, arith}
use Rattle.std.specs.Prelude.{◌==◌}
use Rattle.std.proofs.lemmas.Bool.{le-ltb}
use Rattle.std.proofs.lemmas.Bool.Decides.{nat_tests}
use Rattle.std.proofs.lemmas.List.{length-drop}
use Rattle.dns_wire.specs.Reading.{Follows, LeavesRest, plain_at, all_of, all_at, with_end}

whole_at : {Y : Type 0} (contents bytes : List ℕ) (read : Option (Y × List ℕ)) → length bytes ≤ length contents → ((y : Y) (rest : List ℕ) → read ≡ Some (y, rest) → Follows rest bytes) → all_at contents (with_end contents read) ≡ all_of read
whole_at contents bytes None within leaves = refl
whole_at contents bytes (Some (y, [])) within leaves =
    let same : (length contents - 0 == length contents) ≡ true = grind (arith, nat_tests) in
    rw same refl
whole_at contents bytes (Some (y, x ∷ rest)) within leaves =
    let f = leaves y (x ∷ rest) refl in
    let differ : (length contents - length (x ∷ rest) == length contents) ≡ false = grind (arith, nat_tests, f.within, ap length f.rest_is, length-drop f.count bytes) in
    rw differ refl

-- what all the octets from a place on spell is what is read there up to the end
pub all_from : {Y : Type 0} (grammar : List ℕ → Option (Y × List ℕ)) (contents : List ℕ) (at : ℕ) → LeavesRest grammar → at ≤ length contents → all_at contents (plain_at grammar contents at) ≡ all_of (grammar (drop at contents))
all_from grammar contents at leaves within =
    let fits : ltb (length contents) at ≡ false = le-ltb _ _ within in
    ap (λ b. all_at contents (cond b None (with_end contents (grammar (drop at contents))))) fits
    ∙ whole_at contents (drop at contents) (grammar (drop at contents)) (omega (arith, length-drop at contents)) (λ y rest e. leaves (drop at contents) y rest e)
