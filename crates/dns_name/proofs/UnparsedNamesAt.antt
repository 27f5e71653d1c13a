-- Unparsed names at places of a message.
use Rattle.std.proofs.Common.{◌≡◌, ℕ, ◌+◌, ◌-◌, ◌<◌, ◌≤◌, inl, inr, true, false, ltb, leb, List, ◌++◌, length, take, drop, Option, Some, None, refl, sym, ap, subst, ◌∙◌, append_assoc, arith}
use Rattle.std.proofs.lemmas.Bool.Decides.{nat_tests}
use Rattle.std.proofs.lemmas.Bool.{le-ltb, ltb-false}
use Rattle.std.proofs.lemmas.List.{take_at, drop_at, take-append-drop, length-append, length-take, length-drop, drop-drop}
use Rattle.std.proofs.lemmas.Option.{some_pair_parts}
use Rattle.dns_wire.specs.Reading.{with_end, plain_at}
use Rattle.dns_wire.proofs.Spelled.{chosen}
use Rattle.dns_name.specs.Unparsed.{Unparsed, unparsed_wire, IsUnparsed, end_offset, unparsed_name, leads_back, LeadsBack, if_it_leads_back, unparsed_at}
use Rattle.dns_name.proofs.UnparsedNames.{unparsed_takes, unparsed_read}

back_is : (start : ℕ) (offset : Option ℕ) → leads_back start offset ≡ true → LeadsBack start offset
back_is start None e = tt
back_is start (Some o) e =
    let low : 12 ≤ o = grind (arith, nat_tests, e) in
    let before : o - 12 < start = grind (arith, nat_tests, e) in
    (low, omega arith)

is_back : (start : ℕ) (offset : Option ℕ) → LeadsBack start offset → leads_back start offset ≡ true
is_back start None h = refl
is_back start (Some o) h =
    let low : leb 12 o ≡ true = grind (arith, nat_tests) in
    let before : ltb (o - 12) start ≡ true = grind (arith, nat_tests) in
    rw (low, before) refl

at_is : (start : ℕ) (read : Option (Unparsed × ℕ)) (name : Unparsed) (end : ℕ) → if_it_leads_back start read ≡ Some (name, end) → (read ≡ Some (name, end)) × LeadsBack start (end_offset name)
at_is start None name end e = absurd cc
at_is start (Some (found, place)) name end e =
    elim (chosen (leads_back start (end_offset found)) _ _ _ e) [
      | inl back ↦
          let same = some_pair_parts found name place end back.1 in
          (back.1, subst (λ (n : Unparsed). LeadsBack start (end_offset n)) same.0 (back_is start (end_offset found) back.0))
      | inr away ↦ absurd (let h = away.1 in cc)
    ]

ended : (contents : List ℕ) (read : Option (Unparsed × List ℕ)) (name : Unparsed) (end : ℕ) → with_end contents read ≡ Some (name, end) → (rest : List ℕ) × (read ≡ Some (name, rest)) × (length contents - length rest ≡ end)
ended contents None name end e = absurd cc
ended contents (Some (found, rest)) name end e =
    let same = some_pair_parts found name (length contents - length rest) end e in
    (rest, ap (λ (n : Unparsed). Some (n, rest)) same.0, same.1)

-- the name is at the place, up to where it ends
pub record UnparsedParts (contents : List ℕ) (start : ℕ) (name : Unparsed) (end : ℕ) : Type 0 where
  pub is : IsUnparsed name
  pub back : LeadsBack start (end_offset name)
  pub within : start ≤ length contents
  pub octets : drop start contents ≡ unparsed_wire name ++ drop end contents
  pub end_is : start + length (unparsed_wire name) ≡ end

pub unparsed_parts : (contents : List ℕ) (start : ℕ) (name : Unparsed) (end : ℕ) → unparsed_at contents start ≡ Some (name, end) → UnparsedParts contents start name end
unparsed_parts contents start name end e =
    let t = at_is start (plain_at unparsed_name contents start) name end e in
    elim (chosen (ltb (length contents) start) _ _ _ t.0) [
      | inl past ↦ absurd (let h = past.1 in cc)
      | inr within ↦
          let inside : start ≤ length contents = ltb-false _ _ within.0 in
          let found = ended contents (unparsed_name (drop start contents)) name end within.1 in
          let rest : List ℕ = found.0 in
          let read = unparsed_takes (drop start contents) name rest found.1 in
          let size : ℕ = length (unparsed_wire name) in
          let ends : start + size ≡ end = omega (arith, inside, length-drop start contents, ap length read.1, length-append (unparsed_wire name) rest, found.2) in
          let trailing : drop end contents ≡ rest =
          ap (λ (n : ℕ). drop n contents) (sym ends) ∙ sym (drop-drop size start contents) ∙ ap (drop size) read.1 ∙ drop_at (unparsed_wire name) rest size refl in
          record { is = read.0; back = t.1; within = inside; octets = read.1 ∙ ap (λ (l : List ℕ). unparsed_wire name ++ l) (sym trailing); end_is = ends }
    ]

pub unparsed_occurs : (contents : List ℕ) (start : ℕ) (name : Unparsed) (end : ℕ) → unparsed_at contents start ≡ Some (name, end) → IsUnparsed name × (start ≤ end) × (take end contents ≡ take start contents ++ unparsed_wire name) × LeadsBack start (end_offset name)
unparsed_occurs contents start name end e =
    let p = unparsed_parts contents start name end e in
    let octets : List ℕ = take start contents ++ unparsed_wire name in
    let prefix : length octets ≡ end = length-append (take start contents) (unparsed_wire name) ∙ omega (arith, p.end_is, p.within, length-take start contents) in
    let parts : contents ≡ octets ++ drop end contents =
    sym (take-append-drop start contents) ∙ ap (λ (l : List ℕ). take start contents ++ l) p.octets ∙ sym (append_assoc (take start contents) (unparsed_wire name) (drop end contents)) in
    (p.is, omega (arith, p.end_is), ap (take end) parts ∙ take_at octets (drop end contents) end prefix, p.back)

pub unparsed_found : (before rest : List ℕ) (name : Unparsed) → IsUnparsed name → LeadsBack (length before) (end_offset name) → unparsed_at (before ++ (unparsed_wire name ++ rest)) (length before) ≡ Some (name, length before + length (unparsed_wire name))
unparsed_found before rest name is back =
    let contents : List ℕ = before ++ (unparsed_wire name ++ rest) in
    let long : length contents ≡ length before + (length (unparsed_wire name) + length rest) = length-append before (unparsed_wire name ++ rest) ∙ ap (λ (n : ℕ). length before + n) (length-append (unparsed_wire name) rest) in
    let inside : ltb (length contents) (length before) ≡ false = le-ltb _ _ (omega (arith, long)) in
    let here : drop (length before) contents ≡ unparsed_wire name ++ rest = drop_at before (unparsed_wire name ++ rest) (length before) refl in
    let place : length contents - length rest ≡ length before + length (unparsed_wire name) = omega (arith, long) in
    let read : plain_at unparsed_name contents (length before) ≡ Some (name, length before + length (unparsed_wire name)) =
    rw inside (ap (with_end contents) (ap unparsed_name here ∙ unparsed_read name rest is) ∙ ap (λ (n : ℕ). Some (name, n)) place) in
    ap (if_it_leads_back (length before)) read ∙ rw (is_back (length before) (end_offset name) back) refl
