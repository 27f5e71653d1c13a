use Rattle.std.proofs.Common.{◌≡◌, false, sym, ap, subst, ◌∙◌, true≢false}
use Rattle.std.specs.Net.Addr.{segments_of, ipv6_segments}
use Rattle.dns_plain.specs.AddressTexts.{IsHexText}
use Rattle.dns_plain.proofs.AddressTexts.{has_dot, as_colon_hex, as_hex_text, hex_undotted, grouped}
use Rattle.dns_plain.proofs.aaaa.AaaaFromStr.from_str.Goals as goal

-- src/aaaa.rt:51:13
pub returns-then-contains : goal.returns-then-contains
returns-then-contains c v spells =
    absurd (true≢false (sym c.if-contains.true ∙ c.contains.ensures.value ∙ ap has_dot c.as_bytes.ensures.value ∙ hex_undotted c.args.s.now (segments_of v.octets) spells))

-- src/aaaa.rt:49:5
pub returns-in-Ok : goal.returns-in-Ok
returns-in-Ok c =
    let none : has_dot c.args.s.now ≡ false = sym (ap has_dot c.as_bytes.ensures.value) ∙ sym c.contains.ensures.value ∙ c.if-contains.false in
    subst (IsHexText c.args.s.now) (sym (ap segments_of c.octets.ensures ∙ grouped (ipv6_segments c.in-Ok.address))) (as_hex_text c.args.s.now (ipv6_segments c.in-Ok.address) none c.in-Ok.ensures)

-- src/aaaa.rt:49:5
pub returns-in-Err : goal.returns-in-Err
returns-in-Err c v spells = c.in-Err.ensures (record { segments = segments_of v.octets }) (as_colon_hex c.args.s.now (segments_of v.octets) spells)
