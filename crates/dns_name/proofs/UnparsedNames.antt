-- What an unparsed name is, in words: labels, and the root or a pointer, whose octets are at the start.
use Rattle.std.proofs.Common.{◌≡◌, ℕ, zero, suc, ◌+◌, ◌-◌, ◌<◌, ◌≤◌, ◌⊎◌, inl, inr, Bool, true, false, ltb, leb, List, [], ◌∷◌, ◌++◌, length, get_or, take, drop, Option, Some, None, refl, sym, ap, subst, ◌∙◌, append_assoc, arith}
use Rattle.std.specs.Prelude.{unwrap_or, IfSome, ◌==◌, ◌||◌}
use Rattle.std.specs.List.{AllByRecursion}
use Rattle.std.proofs.lemmas.Bool.Decides.{nat_tests}
use Rattle.std.proofs.lemmas.Bool.{lt-ltb, le-ltb, ltb-false}
use Rattle.std.proofs.lemmas.List.{take_at, drop_at, drop_all, take-append-drop, length-append, length-take, length-drop, drop-drop, drop-take, append-nil}
use Rattle.std.proofs.lemmas.Option.{some_pair_parts}
use Rattle.dns_wire.proofs.NamesLemmas.{few_labels}
use Rattle.dns_wire.specs.Names.{IsLabel, labels_wire}
use Rattle.dns_wire.specs.Reading.{all_of}
use Rattle.dns_wire.proofs.Spelled.{chosen}
use Rattle.dns_wire.proofs.Walk.{Walked, next_label_type, labels_wire-append, labels_wire_long}
use Rattle.dns_label.specs.Labels.{contents_of, label_wire, plain_label}
use Rattle.dns_label.proofs.FilledLabels.{label_alone}
use Rattle.dns_name.proofs.Labelled.{prefix_octets}
use Rattle.dns_name.specs.Unparsed.{Unparsed, last_octets, unparsed_wire, IsUnparsed, offset_of_pointer, end_offset, alone_offset, following_labels, pointer_from, unparsed_within, up_to_254, unparsed_name, unparsed_of}

abbrev pub ReadName : Type 0
ReadName = Option (Unparsed × List ℕ)

after_none : (read : ReadName) → following_labels [] read ≡ read
after_none None = refl
after_none (Some found) = refl

following_label : (label : List ℕ) (labels : List (List ℕ)) (read : ReadName) → following_labels (label ∷ []) (following_labels labels read) ≡ following_labels (label ∷ labels) read
following_label label labels None = refl
following_label label labels (Some found) = refl

-- ---- one label type

label_step : (label rest : List ℕ) (steps : ℕ) → IsLabel label → unparsed_within (suc steps) (length label ∷ (label ++ rest)) ≡ following_labels (label ∷ []) (unparsed_within steps rest)
unfolding unparsed_within
label_step label rest steps fits =
    let some : (length label == 0) ≡ false = grind (arith, nat_tests) in
    let low : leb 192 (length label) ≡ false = grind (arith, nat_tests) in
    let small : ltb 63 (length label) ≡ false = le-ltb _ _ (omega arith) in
    let there : ltb (length (label ++ rest)) (length label) ≡ false = le-ltb _ _ (omega (arith, length-append label rest)) in
    rw (some, low, small, there, take_at label rest (length label) refl, drop_at label rest (length label) refl) refl

labels_step : (labels : List (List ℕ)) (total steps : ℕ) (rest : List ℕ) → AllByRecursion IsLabel labels → total ≡ length labels + steps → unparsed_within total (labels_wire labels ++ rest) ≡ following_labels labels (unparsed_within steps rest)
labels_step [] total steps rest all e = let same : total ≡ steps = omega arith in rw same (sym (after_none (unparsed_within steps rest)))
labels_step (label ∷ labels) zero steps rest all e = absurd (omega arith)
labels_step (label ∷ labels) (suc total) steps rest all e =
    let next : unparsed_within total (labels_wire labels ++ rest) ≡ following_labels labels (unparsed_within steps rest) = labels_step labels total steps rest all.1 (omega arith) in
    rw append_assoc (label_step label (labels_wire labels ++ rest) total all.0 ∙ ap (following_labels (label ∷ [])) next ∙ following_label label labels (unparsed_within steps rest))

last_step : (end : Option (ℕ × ℕ)) (steps : ℕ) (rest : List ℕ) → 0 < steps → IfSome end (λ octets. 192 ≤ octets.0) → unparsed_within steps (last_octets end ++ rest) ≡ Some (([], end), rest)
unfolding unparsed_within
last_step end zero rest some high = absurd (omega arith)
last_step None (suc steps) rest some high = refl
last_step (Some (first, second)) (suc steps) rest some high =
    let more : (first == 0) ≡ false = grind (arith, nat_tests) in
    let is : leb 192 first ≡ true = grind (arith, nat_tests) in
    rw (more, is) refl

nothing_step : (steps : ℕ) → unparsed_within steps [] ≡ None
unfolding unparsed_within
nothing_step zero = refl
nothing_step (suc steps) = refl

half_step : (steps label_type : ℕ) → 192 ≤ label_type → unparsed_within steps (label_type ∷ []) ≡ None
unfolding unparsed_within
half_step zero label_type high = refl
half_step (suc steps) label_type high =
    let more : (label_type == 0) ≡ false = grind (arith, nat_tests) in
    let is : leb 192 label_type ≡ true = grind (arith, nat_tests) in
    rw (more, is) refl

or_right : (a b : Bool) → b ≡ true → (a || b) ≡ true
or_right true b e = refl
or_right false b e = e

bad_step : (steps label_type : ℕ) (rest : List ℕ) → 0 < label_type → label_type < 192 → (63 < label_type) ⊎ (length rest < label_type) → unparsed_within steps (label_type ∷ rest) ≡ None
unfolding unparsed_within
bad_step zero label_type rest some low bad = refl
bad_step (suc steps) label_type rest some low bad =
    let more : (label_type == 0) ≡ false = grind (arith, nat_tests) in
    let no_pointer : leb 192 label_type ≡ false = grind (arith, nat_tests) in
    let wrong : (ltb 63 label_type || ltb (length rest) label_type) ≡ true = elim bad [ inl large ↦ ap (λ (b : Bool). b || ltb (length rest) label_type) (lt-ltb _ _ large) | inr short ↦ or_right (ltb 63 label_type) _ (lt-ltb _ _ short) ] in
    rw (more, no_pointer, wrong) refl

-- ---- what is spelled so is read

pub unparsed_read : (name : Unparsed) (rest : List ℕ) → IsUnparsed name → unparsed_name (unparsed_wire name ++ rest) ≡ Some (name, rest)
unfolding unparsed_name
unparsed_read name rest is =
    let total : ℕ = length (unparsed_wire name ++ rest) in
    let regrouped : unparsed_wire name ++ rest ≡ labels_wire name.0 ++ (last_octets name.1 ++ rest) = append_assoc (labels_wire name.0) (last_octets name.1) rest in
    let room : length name.0 < total = omega (arith, ap length regrouped, length-append (labels_wire name.0) (last_octets name.1 ++ rest), labels_wire_long name.0, some_last name.1) in
    let found : unparsed_within total (unparsed_wire name ++ rest) ≡ Some (name, rest) =
    ap (unparsed_within total) regrouped
    ∙ labels_step name.0 total (total - length name.0) (last_octets name.1 ++ rest) is.sizes (omega arith)
    ∙ ap (following_labels name.0) (last_step name.1 (total - length name.0) rest (omega arith) is.pointer)
    ∙ ap (λ (l : List (List ℕ)). Some ((l, name.1), rest)) (append-nil name.0) in
    let fits : ltb 254 (length (labels_wire name.0)) ≡ false = le-ltb _ _ is.size in
    ap up_to_254 found ∙ rw fits refl where
      some_last : (end : Option (ℕ × ℕ)) → 0 < length (last_octets end ++ rest)
      some_last None = omega arith
      some_last (Some pointer) = omega arith

-- ---- what is read is spelled so

abbrev Takes : List ℕ → Unparsed → List ℕ → Type 0
Takes bytes name rest = (bytes ≡ unparsed_wire name ++ rest) × AllByRecursion IsLabel name.0 × IfSome name.1 (λ octets. 192 ≤ octets.0)

following_takes : (bytes label more : List ℕ) (read : ReadName) (name : Unparsed) (rest : List ℕ) → bytes ≡ length label ∷ (label ++ more) → IsLabel label → ((other : Unparsed) (left : List ℕ) → read ≡ Some (other, left) → Takes more other left) → following_labels (label ∷ []) read ≡ Some (name, rest) → Takes bytes name rest
following_takes bytes label more None name rest parts fits later e = absurd cc
following_takes bytes label more (Some (other, left)) name rest parts fits later e =
    let t = later other left refl in
    let whole : Takes bytes (label ∷ other.0, other.1) left =
    (parts ∙ ap (λ (m : List ℕ). length label ∷ (label ++ m)) t.0 ∙ ap (λ (m : List ℕ). length label ∷ m) (sym (append_assoc label (unparsed_wire other) left) ∙ ap (λ (m : List ℕ). m ++ left) (sym (append_assoc label (labels_wire other.0) (last_octets other.1)))), (fits, t.1), t.2) in
    let same = some_pair_parts (label ∷ other.0, other.1) name left rest e in
    subst (λ (p : List ℕ). Takes bytes name p) same.1 (subst (λ (p : Unparsed). Takes bytes p left) same.0 whole)

pointer_takes : (high : ℕ) (more : List ℕ) (name : Unparsed) (rest : List ℕ) → 192 ≤ high → pointer_from high more ≡ Some (name, rest) → Takes (high ∷ more) name rest
pointer_takes high [] name rest is e = absurd cc
pointer_takes high (low ∷ left) name rest is e =
    let same = some_pair_parts ([], Some (high, low)) name left rest e in
    subst (λ (p : List ℕ). Takes (high ∷ low ∷ left) name p) same.1 (subst (λ (p : Unparsed). Takes (high ∷ low ∷ left) p left) same.0 (refl, tt, is))

within_takes : (steps : ℕ) (bytes : List ℕ) (name : Unparsed) (rest : List ℕ) → unparsed_within steps bytes ≡ Some (name, rest) → Takes bytes name rest
unfolding unparsed_within
within_takes zero bytes name rest e = absurd cc
within_takes (suc steps) [] name rest e = absurd cc
within_takes (suc steps) (label_type ∷ more) name rest e =
    elim (chosen (label_type == 0) _ _ _ e) [
      | inl ended ↦
          let nothing : label_type ≡ 0 = grind (arith, nat_tests, ended.0) in
          let same = some_pair_parts ([], None) name more rest ended.1 in
          subst (λ (p : Unparsed). Takes (label_type ∷ more) p rest) same.0 (rw (nothing, same.1) refl, tt, tt)
      | inr after ↦
          elim (chosen (leb 192 label_type) _ _ _ after.1) [
            | inl pointer ↦ pointer_takes label_type more name rest (grind (arith, nat_tests, pointer.0)) pointer.1
            | inr label ↦
                elim (chosen (ltb 63 label_type || ltb (length more) label_type) _ _ _ label.1) [
                  | inl bad ↦ absurd (let h = bad.1 in cc)
                  | inr good ↦
                      let some : 0 < label_type = grind (arith, nat_tests, after.0) in
                      let small : label_type ≤ 63 = grind (arith, nat_tests, good.0) in
                      let room : label_type ≤ length more = grind (arith, nat_tests, good.0) in
                      let long : length (take label_type more) ≡ label_type = omega (arith, length-take label_type more) in
                      following_takes (label_type ∷ more) (take label_type more) (drop label_type more) (unparsed_within steps (drop label_type more)) name rest
                      (rw (long, take-append-drop label_type more) refl) (omega (arith, long), omega (arith, long))
                      (λ other left h. within_takes steps (drop label_type more) other left h) good.1
                ]
          ]
    ]

up_to_254_is : (read : ReadName) (name : Unparsed) (rest : List ℕ) → up_to_254 read ≡ Some (name, rest) → (read ≡ Some (name, rest)) × (length (labels_wire name.0) ≤ 254)
up_to_254_is None name rest e = absurd cc
up_to_254_is (Some (found, left)) name rest e =
    elim (chosen (ltb 254 (length (labels_wire found.0))) _ _ _ e) [
      | inl over ↦ absurd (let h = over.1 in cc)
      | inr fits ↦
          let same = some_pair_parts found name left rest fits.1 in
          (fits.1, subst (λ (p : Unparsed). length (labels_wire p.0) ≤ 254) same.0 (ltb-false _ _ fits.0))
    ]

pub unparsed_takes : (bytes : List ℕ) (name : Unparsed) (rest : List ℕ) → unparsed_name bytes ≡ Some (name, rest) → IsUnparsed name × (bytes ≡ unparsed_wire name ++ rest)
unfolding unparsed_name
unparsed_takes bytes name rest e =
    let u = up_to_254_is (unparsed_within (length bytes) bytes) name rest e in
    let t = within_takes (length bytes) bytes name rest u.0 in
    (record { sizes = t.1; size = u.1; pointer = t.2 }, t.0)

all_of_is : (read : ReadName) (name : Unparsed) → all_of read ≡ Some name → read ≡ Some (name, [])
all_of_is None name e = absurd cc
all_of_is (Some (found, [])) name e = ap (λ (n : Unparsed). Some (n, [])) (let h : found ≡ name = cc in h)
all_of_is (Some (found, x ∷ left)) name e = absurd cc

-- the octets of an unparsed name are its labels and the root or a pointer
pub unparsed_octets : (bytes : List ℕ) (name : Unparsed) → all_of (unparsed_name bytes) ≡ Some name → IsUnparsed name × (bytes ≡ unparsed_wire name)
unparsed_octets bytes name e =
    let t = unparsed_takes bytes name [] (all_of_is (unparsed_name bytes) name e) in
    (t.0, t.1 ∙ append-nil (unparsed_wire name))

-- an unparsed name's octets are read
pub unparsed_again : (name : Unparsed) → IsUnparsed name → (all_of (unparsed_name (unparsed_wire name)) ≡ Some name) × (unparsed_of (unparsed_wire name) ≡ name)
unparsed_again name is =
    let read : all_of (unparsed_name (unparsed_wire name)) ≡ Some name = ap all_of (ap unparsed_name (sym (append-nil (unparsed_wire name))) ∙ unparsed_read name [] is) in
    (read, ap (λ (n : Option Unparsed). unwrap_or n ([], None)) read)

last_long : (end : Option (ℕ × ℕ)) → (0 < length (last_octets end)) × (length (last_octets end) ≤ 2)
last_long None = (omega arith, omega arith)
last_long (Some pointer) = (omega arith, omega arith)

-- there are 1 to 256 octets
pub unparsed_size : (bytes : List ℕ) (name : Unparsed) → all_of (unparsed_name bytes) ≡ Some name → (0 < length bytes) × (length bytes ≤ 256)
unparsed_size bytes name e =
    let t = unparsed_octets bytes name e in
    let long : length bytes ≡ length (labels_wire name.0) + length (last_octets name.1) = ap length t.1 ∙ length-append (labels_wire name.0) (last_octets name.1) in
    (omega (arith, long, last_long name.1), omega (arith, long, last_long name.1, t.0.size))

pub root_is_unparsed : IsUnparsed ([], None)
root_is_unparsed = record { sizes = tt; size = omega arith; pointer = tt }

-- the root alone has one octet
pub root_alone_unparsed : (name : Unparsed) → length (unparsed_wire name) ≡ 1 → name ≡ ([], None)
root_alone_unparsed ([], None) e = refl
root_alone_unparsed ([], Some (high, low)) e = absurd (omega (arith, e))
root_alone_unparsed (label ∷ labels, end) e = absurd (omega (arith, e, length-append (label ++ labels_wire labels) (last_octets end), (last_long end).0))

-- ---- the first label type of an unparsed name

-- what its first octet says
pub record FirstLabelType (bytes : List ℕ) (name : Unparsed) : Type 0 where
  pub root : get_or bytes 0 0 ≡ 0 → name ≡ ([], None)
  pub no_pointer : get_or bytes 0 0 < 192 → alone_offset name ≡ None
  pub pointer : 192 ≤ get_or bytes 0 0 → (1 < length bytes) × (name.0 ≡ []) × (alone_offset name ≡ Some (offset_of_pointer (get_or bytes 0 0, get_or bytes 1 0)))

first_label_type_of : (name : Unparsed) → IsUnparsed name → FirstLabelType (unparsed_wire name) name
first_label_type_of ([], None) is = record { root = λ e. refl; no_pointer = λ low. refl; pointer = λ high. absurd (omega (arith, high)) }
first_label_type_of ([], Some (high, low)) is =
    record {
      root = λ e. absurd (let first : high ≡ 0 = e in omega (arith, first, is.pointer));
      no_pointer = λ below. absurd (let first : high < 192 = below in omega (arith, first, is.pointer));
      pointer = λ above. (omega arith, refl, refl);
    }
first_label_type_of (label ∷ labels, end) is =
    record {
      root = λ e. absurd (let first : length label ≡ 0 = e in omega (arith, first, is.sizes.0.0));
      no_pointer = λ below. refl;
      pointer = λ high. absurd (let first : 192 ≤ length label = high in omega (arith, first, is.sizes.0.1));
    }

pub first_label_type : (bytes : List ℕ) (name : Unparsed) → all_of (unparsed_name bytes) ≡ Some name → FirstLabelType bytes name
first_label_type bytes name e =
    let t = unparsed_octets bytes name e in
    subst (λ (b : List ℕ). FirstLabelType b name) (sym t.1) (first_label_type_of name t.0)

-- its first label
pub record FirstOfUnparsed (bytes : List ℕ) (size : ℕ) : Type 0 where
  pub room : size + 1 < length bytes
  pub name : unparsed_of bytes ≡ (take size (drop 1 bytes) ∷ (unparsed_of (drop size (drop 1 bytes))).0, (unparsed_of (drop size (drop 1 bytes))).1)
  pub whole : all_of (unparsed_name (drop size (drop 1 bytes))) ≡ Some (unparsed_of (drop size (drop 1 bytes)))

first_of : (name : Unparsed) (size : ℕ) → IsUnparsed name → get_or (unparsed_wire name) 0 0 ≡ size → 0 < size → size < 192 → FirstOfUnparsed (unparsed_wire name) size
first_of ([], None) size is at_prefix some low = absurd (omega (arith, at_prefix, some))
first_of ([], Some (high, next)) size is at_prefix some low = absurd (let first : high ≡ size = at_prefix in omega (arith, first, low, is.pointer))
first_of (label ∷ labels, end) size is at_prefix some low =
    let rest : IsUnparsed (labels, end) = record { sizes = is.sizes.1; size = omega (arith, is.size, length-append label (labels_wire labels)); pointer = is.pointer } in
    let again = unparsed_again (labels, end) rest in
    let whole = unparsed_again (label ∷ labels, end) is in
    let body : (label ++ labels_wire labels) ++ last_octets end ≡ label ++ unparsed_wire (labels, end) = append_assoc label (labels_wire labels) (last_octets end) in
    let room : size + 1 < length (unparsed_wire (label ∷ labels, end)) = omega (arith, at_prefix, ap length body, length-append label (unparsed_wire (labels, end)), length-append (labels_wire labels) (last_octets end), last_long end) in
    let trailing : drop size ((label ++ labels_wire labels) ++ last_octets end) ≡ unparsed_wire (labels, end) = rw (body, ← at_prefix) (drop_at label (unparsed_wire (labels, end)) (length label) refl) in
    let prefix : take size ((label ++ labels_wire labels) ++ last_octets end) ≡ label = rw (body, ← at_prefix) (take_at label (unparsed_wire (labels, end)) (length label) refl) in
    let others : (take size ((label ++ labels_wire labels) ++ last_octets end) ∷ (unparsed_of (drop size ((label ++ labels_wire labels) ++ last_octets end))).0, (unparsed_of (drop size ((label ++ labels_wire labels) ++ last_octets end))).1) ≡ (label ∷ labels, end) =
    ap (λ (l : List ℕ). (l ∷ (unparsed_of (drop size ((label ++ labels_wire labels) ++ last_octets end))).0, (unparsed_of (drop size ((label ++ labels_wire labels) ++ last_octets end))).1)) prefix
    ∙ ap (λ (n : Unparsed). (label ∷ n.0, n.1)) (ap unparsed_of trailing ∙ again.1) in
    record {
      room = room;
      name = whole.1 ∙ sym others;
      whole = rw trailing (again.0 ∙ ap Some (sym again.1));
    }

pub first_of_unparsed : (bytes : List ℕ) (size : ℕ) → all_of (unparsed_name bytes) ≡ Some (unparsed_of bytes) → get_or bytes 0 0 ≡ size → 0 < size → size < 192 → FirstOfUnparsed bytes size
first_of_unparsed bytes size e at_prefix some low =
    let t = unparsed_octets bytes (unparsed_of bytes) e in
    subst (λ (b : List ℕ). get_or b 0 0 ≡ size → FirstOfUnparsed b size) (sym t.1) (λ h. first_of (unparsed_of bytes) size t.0 h some low) at_prefix

-- the same label with its length octet, and the name after it
pub record FirstFound (bytes : List ℕ) (size : ℕ) : Type 0 where
  pub room : 1 + size ≤ length bytes
  pub is_label : all_of (plain_label (take (1 + size) bytes)) ≡ Some (contents_of (take (1 + size) bytes))
  pub whole : all_of (unparsed_name (drop (1 + size) bytes)) ≡ Some (unparsed_of (drop (1 + size) bytes))
  pub name : unparsed_of bytes ≡ (contents_of (take (1 + size) bytes) ∷ (unparsed_of (drop (1 + size) bytes)).0, (unparsed_of (drop (1 + size) bytes)).1)

pub first_standing : (bytes : List ℕ) (size : ℕ) → all_of (unparsed_name bytes) ≡ Some (unparsed_of bytes) → get_or bytes 0 0 ≡ size → 0 < size → size < 192 → FirstFound bytes size
first_standing bytes size e at_prefix some low =
    let first = first_of_unparsed bytes size e at_prefix some low in
    let contents : List ℕ = take size (drop 1 bytes) in
    let trailing : drop size (drop 1 bytes) ≡ drop (1 + size) bytes = drop-drop size 1 bytes in
    let prefix : contents_of (take (1 + size) bytes) ≡ contents = drop-take 1 size bytes in
    let long : length contents ≡ size = omega (arith, first.room, length-take size (drop 1 bytes), length-drop 1 bytes) in
    let sizes : AllByRecursion IsLabel (contents ∷ (unparsed_of (drop size (drop 1 bytes))).0) = subst (AllByRecursion IsLabel) (ap (λ (n : Unparsed). n.0) first.name) (unparsed_octets bytes (unparsed_of bytes) e).0.sizes in
    let octets : take (1 + size) bytes ≡ label_wire contents = prefix_octets bytes (omega (arith, first.room)) size ∙ ap (λ (n : ℕ). n ∷ contents) (at_prefix ∙ sym long) in
    record {
      room = omega (arith, first.room);
      is_label = label_alone (take (1 + size) bytes) contents sizes.0.1 octets ∙ ap Some (sym prefix);
      whole = subst (λ (rest : List ℕ). all_of (unparsed_name rest) ≡ Some (unparsed_of rest)) trailing first.whole;
      name = first.name ∙ ap (λ (l : List ℕ). (l ∷ (unparsed_of (drop size (drop 1 bytes))).0, (unparsed_of (drop size (drop 1 bytes))).1)) (sym prefix)
          ∙ ap (λ (rest : List ℕ). (contents_of (take (1 + size) bytes) ∷ (unparsed_of rest).0, (unparsed_of rest).1)) trailing;
    }

-- ---- where an unparsed name ends

pub record UnparsedEnds (bytes : List ℕ) (end : ℕ) (pointer : Option ℕ) : Type 0 where
  pub read : unparsed_name bytes ≡ Some (unparsed_of (take end bytes), drop end bytes)
  pub whole : all_of (unparsed_name (take end bytes)) ≡ Some (unparsed_of (take end bytes))
  pub pointer_is : end_offset (unparsed_of (take end bytes)) ≡ pointer
  pub within : end ≤ length bytes

ends_with : (bytes : List ℕ) (name : Unparsed) (end : ℕ) → IsUnparsed name → bytes ≡ unparsed_wire name ++ drop end bytes → length (unparsed_wire name) ≡ end → UnparsedEnds bytes end (end_offset name)
ends_with bytes name end is parts long =
    let prefix : take end bytes ≡ unparsed_wire name = ap (take end) parts ∙ take_at (unparsed_wire name) (drop end bytes) end long in
    let again = unparsed_again name is in
    let here : unparsed_name bytes ≡ Some (name, drop end bytes) = ap unparsed_name parts ∙ unparsed_read name (drop end bytes) is in
    let of : unparsed_of (take end bytes) ≡ name = ap unparsed_of prefix ∙ again.1 in
    record {
      read = here ∙ ap (λ (n : Unparsed). Some (n, drop end bytes)) (sym of);
      whole = ap all_of (ap unparsed_name prefix) ∙ again.0 ∙ ap Some (sym of);
      pointer_is = ap end_offset of;
      within = omega (arith, ap length parts, long, length-append (unparsed_wire name) (drop end bytes));
    }

-- labels are before the place
module _ (bytes : List ℕ) (at : ℕ) (walked : Walked bytes at) where
  pub walked_to_root : at < length bytes → at < 255 → get_or bytes at 0 ≡ 0 → UnparsedEnds bytes (at + 1) None
  walked_to_root within short is =
      let parts : bytes ≡ unparsed_wire (walked.labels, None) ++ drop (at + 1) bytes =
      walked.parts ∙ ap (λ (rest : List ℕ). labels_wire walked.labels ++ rest) (next_label_type bytes at 0 within is) ∙ sym (append_assoc (labels_wire walked.labels) (0 ∷ []) (drop (at + 1) bytes)) in
      ends_with bytes (walked.labels, None) (at + 1) (record { sizes = walked.sizes; size = omega (arith, walked.at_is); pointer = tt }) parts (length-append (labels_wire walked.labels) (0 ∷ []) ∙ omega (arith, walked.at_is))

  pub walked_to_pointer : (high : ℕ) → at < length bytes → at < 255 → get_or bytes at 0 ≡ high → 192 ≤ high → 2 ≤ length bytes - at → UnparsedEnds bytes (at + 2) (Some (offset_of_pointer (high, get_or bytes (at + 1) 0)))
  walked_to_pointer high within short is above room =
      let pointer : ℕ × ℕ = (high, get_or bytes (at + 1) 0) in
      let trailing : drop (at + 1) bytes ≡ get_or bytes (at + 1) 0 ∷ drop (at + 2) bytes = next_label_type bytes (at + 1) (get_or bytes (at + 1) 0) (omega arith) refl ∙ ap (λ (n : ℕ). get_or bytes (at + 1) 0 ∷ drop n bytes) (omega arith) in
      let parts : bytes ≡ unparsed_wire (walked.labels, Some pointer) ++ drop (at + 2) bytes =
      walked.parts ∙ ap (λ (rest : List ℕ). labels_wire walked.labels ++ rest) (next_label_type bytes at high within is ∙ ap (λ (rest : List ℕ). high ∷ rest) trailing) ∙ sym (append_assoc (labels_wire walked.labels) (high ∷ get_or bytes (at + 1) 0 ∷ []) (drop (at + 2) bytes)) in
      ends_with bytes (walked.labels, Some pointer) (at + 2) (record { sizes = walked.sizes; size = omega (arith, walked.at_is); pointer = above }) parts (length-append (labels_wire walked.labels) (high ∷ get_or bytes (at + 1) 0 ∷ []) ∙ omega (arith, walked.at_is))

  read_rest : unparsed_within (length bytes) bytes ≡ following_labels walked.labels (unparsed_within (length bytes - length walked.labels) (drop at bytes))
  read_rest =
      let enough : length walked.labels ≤ length bytes = omega (arith, labels_wire_long walked.labels, ap length walked.parts, length-append (labels_wire walked.labels) (drop at bytes)) in
      ap (unparsed_within (length bytes)) walked.parts ∙ labels_step walked.labels (length bytes) (length bytes - length walked.labels) (drop at bytes) walked.sizes (omega arith)

  rest_none : ((steps : ℕ) → unparsed_within steps (drop at bytes) ≡ None) → unparsed_name bytes ≡ None
  unfolding unparsed_name
  rest_none none = ap up_to_254 (read_rest ∙ ap (following_labels walked.labels) (none (length bytes - length walked.labels)))

  long_none : (labels : List (List ℕ)) (read : ReadName) → 254 < length (labels_wire labels) → up_to_254 (following_labels labels read) ≡ None
  long_none labels None long = refl
  long_none labels (Some (name, rest)) long =
      let over : ltb 254 (length (labels_wire (labels ++ name.0))) ≡ true = lt-ltb _ _ (omega (arith, long, ap length (labels_wire-append labels name.0), length-append (labels_wire labels) (labels_wire name.0))) in
      rw over refl

  pub walked_on : (length bytes ≤ at) ⊎ (255 ≤ at) → unparsed_name bytes ≡ None
  unfolding unparsed_name
  walked_on (inl past) = rest_none (λ steps. rw (drop_all at bytes past) (nothing_step steps))
  walked_on (inr long) = ap up_to_254 read_rest ∙ long_none walked.labels _ (omega (arith, walked.at_is))

  pub walked_to_bad : (label_type : ℕ) → at < length bytes → get_or bytes at 0 ≡ label_type → 0 < label_type → label_type < 192 → (63 < label_type) ⊎ (length bytes - at ≤ label_type) → unparsed_name bytes ≡ None
  walked_to_bad label_type within is some low bad =
      let wrong : (63 < label_type) ⊎ (length (drop (at + 1) bytes) < label_type) = elim bad [ inl large ↦ inl large | inr short ↦ inr (omega (arith, length-drop (at + 1) bytes)) ] in
      rest_none (λ steps. rw (next_label_type bytes at label_type within is) (bad_step steps label_type (drop (at + 1) bytes) some low wrong))

  pub walked_to_half : (label_type : ℕ) → at < length bytes → get_or bytes at 0 ≡ label_type → 192 ≤ label_type → length bytes - at < 2 → unparsed_name bytes ≡ None
  walked_to_half label_type within is high short =
      let nothing : drop (at + 1) bytes ≡ [] = drop_all (at + 1) bytes (omega arith) in
      rest_none (λ steps. rw (next_label_type bytes at label_type within is ∙ ap (λ (rest : List ℕ). label_type ∷ rest) nothing) (half_step steps label_type high))

-- at most 127 labels are before the root or the pointer
pub few_unparsed : (name : Unparsed) → IsUnparsed name → length name.0 ≤ 127
few_unparsed name is = few_labels name.0 (record { sizes = is.sizes; size = omega (arith, is.size, length-append (labels_wire name.0) (0 ∷ [])) })
