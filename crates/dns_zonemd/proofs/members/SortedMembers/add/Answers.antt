use Rattle.std.proofs.Common.{◌++◌, ◌+◌, ◌<◌, ◌≡◌, ◌∙◌, ◌∷◌, [], List, ap, arith, length, subst, sym, ℕ}
use Rattle.std.specs.List.{concat}
use Rattle.std.specs.Prelude.{map}
use Rattle.std.proofs.lemmas.List.{length-append}
use Rattle.sha2.specs.Hashers.{Holds384, Holds512}
use Rattle.dns_message.specs.Order.{SortKey, octets_of_key}
use Rattle.dns_zonemd.specs.SortedZone.{firsts}
use Rattle.dns_zonemd.specs.States.{HoldsMembers, is_alike_first}
use Rattle.dns_zonemd.proofs.StateLemmas.{alike_more, firsts_few, last_more, least_of, next_number, on_ok, other_more, stream_more}
use Rattle.dns_zonemd.proofs.members.SortedMembers.add.Goals as goal

pub returns-then-is_alike_first : goal.returns-then-is_alike_first
returns-then-is_alike_first c = λ ks within h.
    let k = c.args.form.now in
    let alike = ap (λ (l : List SortKey). is_alike_first l k) (sym h.last) ∙ sym c.if-is_alike_first.ensures in
    subst (λ (l : List SortKey). HoldsMembers l c.args.self.now) (sym (alike_more ks k alike)) h

pub returns : goal.returns
returns c =
    let k = c.args.form.now in
    let old = c.args.self.now in
    let octets : c.octets-octets.result.now ≡ octets_of_key k = c.octets-octets.ensures.octets in
    on_ok c.replace.result c.replace.ensures (λ last-is ks within h.
    let ms = firsts ks in
    let stream = concat (map octets_of_key ms) in
    let other = ap (λ (l : List SortKey). is_alike_first l k) (sym h.last) ∙ sym c.if-is_alike_first.ensures in
    let few : old.records < 18446744073709551615 = omega (arith, h.records, firsts_few ks, within) in
    let number : c.saturating_add-self.result ≡ old.records + 1 = c.saturating_add-self.ensures ∙ next_number old.records few in
    let sum : c.saturating_add-self-2.result ≡ old.octets + length c.octets-octets.result.now =
    c.saturating_add-self-2.ensures ∙ least_of (old.octets + length c.octets-octets.result.now) old.records (omega (arith, h.few, c.octets-octets.ensures.short)) few in
    subst (λ (l : List SortKey). HoldsMembers l (record { last = c.replace.new.forms; records = c.saturating_add-self.result; octets = c.saturating_add-self-2.result; sha384 = c.update.new.self; sha512 = c.update-2.new.self })) (sym (other_more ks k other))
    (record {
      last = last-is ∙ sym (last_more ms k);
      records = omega (arith, number, h.records, length-append ms (k ∷ []));
      octets = omega (arith, sum, h.octets, ap length octets, ap length (stream_more ms k), length-append stream (octets_of_key k));
      few = omega (arith, sum, number, h.few, c.octets-octets.ensures.short);
      sha384 = subst (Holds384 c.update.new.self) (ap (λ (l : List ℕ). stream ++ l) octets ∙ sym (stream_more ms k)) (c.update.ensures stream h.sha384);
      sha512 = subst (Holds512 c.update-2.new.self) (ap (λ (l : List ℕ). stream ++ l) octets ∙ sym (stream_more ms k)) (c.update-2.ensures stream h.sha512);
    }))
