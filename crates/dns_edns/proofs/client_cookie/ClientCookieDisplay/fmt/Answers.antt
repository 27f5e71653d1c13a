use Rattle.std.proofs.Common.{ℕ, List, ◌++◌, true, take, get_or, [], sym, ap, ◌∙◌, arith, rules}
use Rattle.std.specs.List.{flat_map}
use Rattle.std.proofs.Output.{has_written_append, has_written_of_eq}
use Rattle.std.proofs.lemmas.Fmt.{hex_byte}
use Rattle.std.proofs.lemmas.List.{flat_map_more, take_more}
use Rattle.dns_edns.specs.Digits.{capital_digits}
use Rattle.dns_edns.proofs.client_cookie.ClientCookieDisplay.fmt.Goals as goal

pub loop-octet-preserved : goal.loop-octet-preserved
loop-octet-preserved g c =
    λ plain.
    let octets = c.args.self.now.octets in
    let i = c.loop-octet.octet-index in
    let octet = get_or octets i 0 in
    has_written_of_eq _ _ _ _ _
    (ap (λ (text : List ℕ). flat_map capital_digits (take i octets) ++ text) (hex_byte true octet c.loop-octet-test.element_fits.fits)
    ∙ flat_map_more capital_digits [] (take i octets) octet
    ∙ ap (flat_map capital_digits) (sym (take_more octets i 0 (omega (arith, c.loop-octet-test.true)))))
    (has_written_append _ _ _ _ _ _ (c.loop-octet.invariant plain) (search rules))
