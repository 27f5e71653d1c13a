-- What the reading of an unparsed name leaves over, where it ends, and that its labels are a name.
use Rattle.std.proofs.Common.{◌≡◌, ℕ, zero, suc, ◌<◌, ◌≤◌, Bool, true, false, cond, List, [], ◌∷◌, length, take, drop, Option, Some, None, refl, sym, subst, arith, length-append, length-take}
use Rattle.std.specs.Prelude.{◌==◌, ◌||◌, nat_le, nat_lt}
use Rattle.std.specs.List.{AllByRecursion}
use Rattle.std.proofs.lemmas.Bool.{ltb-false}
use Rattle.std.proofs.lemmas.Bool.Decides.{nat_tests}
use Rattle.std.proofs.lemmas.Option.{some_pair_parts}
use Rattle.dns_wire.specs.ReadingLemmas.{follows_both, plain_ends, placed_some}
use Rattle.dns_wire.specs.Names.{IsLabel, IsName, labels_wire}
use Rattle.dns_wire.specs.Reading.{Follows, LeavesRest, EndsWithin, plain_at}
use Rattle.dns_name.specs.Unparsed.{Unparsed, end_offset, pointer_from, following_labels, unparsed_within, up_to_254, unparsed_name, leads_back, if_it_leads_back, unparsed_at}

-- what a reading took
record Took (name : Unparsed) (rest bytes : List ℕ) : Type 0 where
  sizes : AllByRecursion IsLabel name.0
  follows : Follows rest bytes

-- octets after the first
one_off : (first : ℕ) (bytes rest : List ℕ) → Follows rest bytes → Follows rest (first ∷ bytes)
one_off first bytes rest f = follows_both (first ∷ bytes) bytes rest (record { count = 1; within = omega arith; rest_is = refl }) f

pointer_takes : (first : ℕ) (bytes : List ℕ) (name : Unparsed) (rest : List ℕ) → pointer_from first bytes ≡ Some (name, rest) → Took name rest (first ∷ bytes)
pointer_takes first [] name rest e = absurd cc
pointer_takes first (low ∷ bytes) name rest e =
    let same = some_pair_parts ([], Some (first, low)) name bytes rest e in
    record {
      sizes = subst (λ (n : Unparsed). AllByRecursion IsLabel n.0) same.0 tt;
      follows = record { count = 2; within = omega arith; rest_is = sym same.1 };
    }

label_takes : (first : ℕ) (bytes : List ℕ) (later : Option (Unparsed × List ℕ)) (name : Unparsed) (rest : List ℕ) → 0 < first → first < 64 → first ≤ length bytes → ((n : Unparsed) (r : List ℕ) → later ≡ Some (n, r) → Took n r (drop first bytes)) → following_labels (take first bytes ∷ []) later ≡ Some (name, rest) → Took name rest (first ∷ bytes)
label_takes first bytes None name rest some few room again e = absurd cc
label_takes first bytes (Some (others, trailing)) name rest some few room again e =
    let same = some_pair_parts (take first bytes ∷ others.0, others.1) name trailing rest e in
    let t = again others trailing refl in
    let long : length (take first bytes) ≡ first = omega (arith, length-take first bytes) in
    let prefix : IsLabel (take first bytes) = (omega arith, omega arith) in
    record {
      sizes = subst (λ (n : Unparsed). AllByRecursion IsLabel n.0) same.0 (prefix, t.sizes);
      follows = one_off first bytes rest (subst (λ (r : List ℕ). Follows r bytes) same.1 (follows_both bytes (drop first bytes) trailing (record { count = first; within = room; rest_is = refl }) t.follows));
    }

-- what is read of the labels after the first, and what that took
record Again (bytes : List ℕ) (later : Option (Unparsed × List ℕ)) : Type 0 where
  takes : (name : Unparsed) (rest : List ℕ) → later ≡ Some (name, rest) → Took name rest bytes

at_label : (first : ℕ) (bytes : List ℕ) (later : Option (Unparsed × List ℕ)) (name : Unparsed) (rest : List ℕ) (long short : Bool) → nat_lt 63 first ≡ long → nat_lt (length bytes) first ≡ short → 0 < first → Again (drop first bytes) later → cond {A = Option (Unparsed × List ℕ)} (long || short) None (following_labels (take first bytes ∷ []) later) ≡ Some (name, rest) → Took name rest (first ∷ bytes)
at_label first bytes later name rest true short is-long is-short some again e = absurd cc
at_label first bytes later name rest false true is-long is-short some again e = absurd cc
at_label first bytes later name rest false false is-long is-short some again e = label_takes first bytes later name rest some (omega (arith, ltb-false _ _ is-long)) (ltb-false _ _ is-short) again.takes e

at_pointer : (first : ℕ) (bytes : List ℕ) (later : Option (Unparsed × List ℕ)) (name : Unparsed) (rest : List ℕ) (high : Bool) → 0 < first → Again (drop first bytes) later → cond {A = Option (Unparsed × List ℕ)} high (pointer_from first bytes) (cond (nat_lt 63 first || nat_lt (length bytes) first) None (following_labels (take first bytes ∷ []) later)) ≡ Some (name, rest) → Took name rest (first ∷ bytes)
at_pointer first bytes later name rest true some again e = pointer_takes first bytes name rest e
at_pointer first bytes later name rest false some again e = at_label first bytes later name rest (nat_lt 63 first) (nat_lt (length bytes) first) refl refl some again e

at_root : (first : ℕ) (bytes : List ℕ) (later : Option (Unparsed × List ℕ)) (name : Unparsed) (rest : List ℕ) (root : Bool) → (first == 0) ≡ root → Again (drop first bytes) later → cond {A = Option (Unparsed × List ℕ)} root (Some (([], None), bytes)) (cond (nat_le 192 first) (pointer_from first bytes) (cond (nat_lt 63 first || nat_lt (length bytes) first) None (following_labels (take first bytes ∷ []) later))) ≡ Some (name, rest) → Took name rest (first ∷ bytes)
at_root first bytes later name rest true is again e =
    let same = some_pair_parts ([], None) name bytes rest e in
    record {
      sizes = subst (λ (n : Unparsed). AllByRecursion IsLabel n.0) same.0 tt;
      follows = record { count = 1; within = omega arith; rest_is = sym same.1 };
    }
at_root first bytes later name rest false is again e = at_pointer first bytes later name rest (nat_le 192 first) (grind (arith, nat_tests)) again e

within_takes : (steps : ℕ) (bytes : List ℕ) (name : Unparsed) (rest : List ℕ) → unparsed_within steps bytes ≡ Some (name, rest) → Took name rest bytes
unfolding unparsed_within
within_takes zero bytes name rest e = absurd cc
within_takes (suc steps) [] name rest e = absurd cc
within_takes (suc steps) (first ∷ bytes) name rest e = at_root first bytes (unparsed_within steps (drop first bytes)) name rest (first == 0) refl (record { takes = λ n r h. within_takes steps (drop first bytes) n r h }) e

-- a reading whose labels are no more than 254 octets
short_takes : (read : Option (Unparsed × List ℕ)) (bytes : List ℕ) (name : Unparsed) (rest : List ℕ) → ((n : Unparsed) (r : List ℕ) → read ≡ Some (n, r) → Took n r bytes) → up_to_254 read ≡ Some (name, rest) → Took name rest bytes × (length (labels_wire name.0) ≤ 254)
short_takes None bytes name rest took e = absurd cc
short_takes (Some (found, trailing)) bytes name rest took e = by (nat_lt 254 (length (labels_wire found.0))) refl e where
  by : (b : Bool) → nat_lt 254 (length (labels_wire found.0)) ≡ b → cond {A = Option (Unparsed × List ℕ)} b None (Some (found, trailing)) ≡ Some (name, rest) → Took name rest bytes × (length (labels_wire name.0) ≤ 254)
  by true is e = absurd cc
  by false is e =
      let same = some_pair_parts found name trailing rest e in
      let t = took found trailing refl in (
        record {
          sizes = subst (λ (n : Unparsed). AllByRecursion IsLabel n.0) same.0 t.sizes;
          follows = subst (λ (r : List ℕ). Follows r bytes) same.1 t.follows;
        },
        subst (λ (n : Unparsed). length (labels_wire n.0) ≤ 254) same.0 (ltb-false _ _ is),
      )

name_takes : (bytes : List ℕ) (name : Unparsed) (rest : List ℕ) → unparsed_name bytes ≡ Some (name, rest) → Took name rest bytes × (length (labels_wire name.0) ≤ 254)
unfolding unparsed_name
name_takes bytes name rest e = short_takes (unparsed_within (length bytes) bytes) bytes name rest (λ n r h. within_takes (length bytes) bytes n r h) e

pub unparsed_leaves : LeavesRest unparsed_name
unparsed_leaves bytes name rest e = (name_takes bytes name rest e).0.follows

pub unparsed_names : (name : Unparsed) (bytes rest : List ℕ) → unparsed_name bytes ≡ Some (name, rest) → IsName name.0
unparsed_names name bytes rest e =
    let t = name_takes bytes name rest e in
    record { sizes = t.0.sizes; size = omega (arith, t.1, length-append (labels_wire name.0) (0 ∷ [])) }

-- ---- in a message

back_is : (start : ℕ) (read : Option (Unparsed × ℕ)) (name : Unparsed) (end : ℕ) → if_it_leads_back start read ≡ Some (name, end) → read ≡ Some (name, end)
back_is start None name end e = absurd cc
back_is start (Some (found, last)) name end e = by (leads_back start (end_offset found)) e where
  by : (b : Bool) → cond {A = Option (Unparsed × ℕ)} b (Some (found, last)) None ≡ Some (name, end) → ◌≡◌ {A = Option (Unparsed × ℕ)} (Some (found, last)) (Some (name, end))
  by true e = e
  by false e = absurd cc

pub unparsed_ends : EndsWithin unparsed_at
unparsed_ends contents at name end e = plain_ends unparsed_name unparsed_leaves contents at name end (back_is at (plain_at unparsed_name contents at) name end e)

pub unparsed_names_at : (name : Unparsed) (contents : List ℕ) (at end : ℕ) → unparsed_at contents at ≡ Some (name, end) → IsName name.0
unparsed_names_at name contents at end e =
    let p = placed_some unparsed_name contents at name end (back_is at (plain_at unparsed_name contents at) name end e) in
    unparsed_names name (drop at contents) p.0 p.1
