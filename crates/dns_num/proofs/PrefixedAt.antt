-- Prefixed data in a message are read exactly if they are there.
use Rattle.std.proofs.Common.{◌≡◌, ℕ, ◌+◌, ◌-◌, ◌<◌, ◌≤◌, ◌^◌, Bool, true, false, cond, ltb, List, length, take, drop, Option, Some, None, refl, sym, ap, subst, ◌∙◌, arith, length-drop}
use Rattle.std.specs.Prelude.{◌++◌}
use Rattle.std.specs.Int.{Width, byte_len, from_be_bytes, to_be_bytes}
use Rattle.std.proofs.lemmas.Bool.{le-ltb, ltb-false}
use Rattle.std.proofs.lemmas.List.{length-take, get_or-drop, take-append-drop}
use Rattle.std.proofs.lemmas.Option.{some_pair_parts}
use Rattle.dns_wire.specs.ReadingLemmas.{then_some}
use Rattle.dns_wire.specs.Reading.{AreOctets, number, plain_at, all_at, with_end}
use Rattle.dns_num.specs.Prefixed.{prefixed_at, all_up_to, PrefixedAt}
use Rattle.dns_num.proofs.CountedData.{Narrow, number_back, spelled, small, octets_prefix}

-- a number at a place
record NumberStands (w : Width) (contents : List ℕ) (at n end : ℕ) : Type 0 where
  end_is : end ≡ at + byte_len w
  within : end ≤ length contents
  is : n ≡ from_be_bytes w (take (byte_len w) (drop at contents))

number_occurs : (w : Width) (contents : List ℕ) (at n end : ℕ) → plain_at (number w) contents at ≡ Some (n, end) → NumberStands w contents at n end
number_occurs w contents at n end e = by (ltb (length contents) at) (ltb (length (drop at contents)) (byte_len w)) refl refl e where
  by : (past short : Bool) → ltb (length contents) at ≡ past → ltb (length (drop at contents)) (byte_len w) ≡ short
      → cond past None (with_end contents (cond {A = Option (ℕ × List ℕ)} short None (Some (from_be_bytes w (take (byte_len w) (drop at contents)), drop (byte_len w) (drop at contents))))) ≡ Some (n, end) → NumberStands w contents at n end
  by true short is-past is-short h = absurd cc
  by false true is-past is-short h = absurd cc
  by false false is-past is-short h =
      let same = some_pair_parts (from_be_bytes w (take (byte_len w) (drop at contents))) n (length contents - length (drop (byte_len w) (drop at contents))) end h in
      let room : byte_len w ≤ length (drop at contents) = ltb-false _ _ is-short in
      let before : at ≤ length contents = ltb-false _ _ is-past in
      let last : length contents - length (drop (byte_len w) (drop at contents)) ≡ at + byte_len w = omega (arith, length-drop (byte_len w) (drop at contents), length-drop at contents) in
      record { end_is = sym same.1 ∙ last; within = omega (arith, same.1, last, length-drop at contents); is = sym same.0 }

-- octets of a message after a place
octets_after : (contents : List ℕ) (at : ℕ) → AreOctets contents → AreOctets (drop at contents)
octets_after contents at are i = rw (get_or-drop at contents i 0) (are (at + i))

up_to : {Y : Type 0} (b : Bool) (contents : List ℕ) (end : ℕ) (read : Option Y) (value : Y) → ltb (length contents) end ≡ b → cond b None read ≡ Some value → (end ≤ length contents) × (read ≡ Some value)
up_to true contents end read value is e = absurd cc
up_to false contents end read value is e = (ltb-false _ _ is, e)

pub prefixed_is : {Y : Type 0} (w : Width) → Narrow w → (grammar : List ℕ → ℕ → Option (Y × ℕ)) (contents : List ℕ) (at : ℕ) (value : Y) (end : ℕ) → AreOctets contents → prefixed_at w grammar contents at ≡ Some (value, end) → PrefixedAt w grammar contents at value end
unfolding prefixed_at
prefixed_is w narrow grammar contents at value end are e =
    let size = then_some (plain_at (number w) contents at) _ _ e in
    let read = then_some (all_up_to grammar contents size.0.1 (size.0.1 + size.0.0)) _ _ size.2 in
    let same = some_pair_parts read.0 value (size.0.1 + size.0.0) end read.2 in
    let n = number_occurs w contents at size.0.0 size.0.1 size.1 in
    let up = up_to (ltb (length contents) (size.0.1 + size.0.0)) contents (size.0.1 + size.0.0) _ read.0 refl read.1 in
    let prefix = octets_prefix (drop at contents) (byte_len w) (octets_after contents at are) in
    let long : length (take (byte_len w) (drop at contents)) ≡ byte_len w = omega (arith, length-take (byte_len w) (drop at contents), length-drop at contents, n.end_is, n.within) in
    let few : size.0.0 < 256 ^ byte_len w = subst (λ (k : ℕ). k < 256 ^ byte_len w) (sym n.is) (small w narrow (take (byte_len w) (drop at contents)) prefix) in
    let last : end ≡ at + byte_len w + size.0.0 = sym same.1 ∙ ap (λ (k : ℕ). k + size.0.0) n.end_is in
    let content : all_at (take end contents) (grammar (take end contents) (at + byte_len w)) ≡ Some value =
    subst (λ (k : ℕ). all_at (take end contents) (grammar (take end contents) k) ≡ Some value) n.end_is
    (subst (λ (k : ℕ). all_at (take k contents) (grammar (take k contents) size.0.1) ≡ Some value) same.1 (up.1 ∙ ap Some same.0)) in
    record {
      count = size.0.0;
      few = few;
      number = sym (spelled w narrow (take (byte_len w) (drop at contents)) size.0.0 long prefix n.is);
      end_is = last;
      within = omega (arith, up.0, same.1);
      content = content;
    }

pub prefixed_found : {Y : Type 0} (w : Width) → Narrow w → (grammar : List ℕ → ℕ → Option (Y × ℕ)) (contents : List ℕ) (at : ℕ) (value : Y) (end : ℕ) → PrefixedAt w grammar contents at value end → prefixed_at w grammar contents at ≡ Some (value, end)
unfolding prefixed_at
prefixed_found w narrow grammar contents at value end p =
    let trailing = drop (byte_len w) (drop at contents) in
    let parts : drop at contents ≡ to_be_bytes w p.count ++ trailing = sym (take-append-drop (byte_len w) (drop at contents)) ∙ ap (λ (l : List ℕ). l ++ trailing) p.number in
    let read : number w (drop at contents) ≡ Some (p.count, trailing) = ap (number w) parts ∙ number_back w narrow p.count trailing p.few in
    let before : ltb (length contents) at ≡ false = le-ltb _ _ (omega (arith, p.end_is, p.within)) in
    let body : length contents - length trailing ≡ at + byte_len w = omega (arith, p.end_is, p.within, length-drop (byte_len w) (drop at contents), length-drop at contents) in
    let size : plain_at (number w) contents at ≡ Some (p.count, at + byte_len w) = rw (before, read) (ap (λ (k : ℕ). Some (p.count, k)) body) in
    let within : ltb (length contents) (at + byte_len w + p.count) ≡ false = le-ltb _ _ (omega (arith, p.end_is, p.within)) in
    let content : all_at (take (at + byte_len w + p.count) contents) (grammar (take (at + byte_len w + p.count) contents) (at + byte_len w)) ≡ Some value =
    subst (λ (k : ℕ). all_at (take k contents) (grammar (take k contents) (at + byte_len w)) ≡ Some value) p.end_is p.content in
    rw (size, within, content) (ap (λ (k : ℕ). Some (value, k)) (sym p.end_is))
