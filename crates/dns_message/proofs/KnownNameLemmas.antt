-- Names to which pointers lead, and names that go on with them.
use Rattle.std.proofs.Common.{◌≡◌, ℕ, ◌+◌, ◌-◌, ◌<◌, ◌≤◌, List, [], ◌∷◌, ◌++◌, length, take, drop, get_or, Option, Some, None, inl, inr, refl, sym, ap, ap₂, subst, ◌∙◌, arith, append_assoc}
use Rattle.std.specs.List.{All}
use Rattle.std.specs.Option.{IfSome}
use Rattle.std.specs.Prelude.{reverse}
use Rattle.std.specs.Str.{str_to_ascii_lowercase}
use Rattle.std.proofs.lemmas.Bool.{cases_lt}
use Rattle.std.proofs.lemmas.Grind.{flat_map-append}
use Rattle.std.proofs.lemmas.List.{drop-drop, get_or_append_left, length-append, length-take, map-append, reverse-append, take-append-drop, take-take}
use Rattle.std.proofs.Math.Seq.{get_or-append_seam, take-append_seam, take-append-add}
use Rattle.dns_wire.specs.Octets.{Labels}
use Rattle.dns_wire.specs.Names.{IsName, labels_wire, lowered, name_labels, wire}
use Rattle.dns_wire.specs.Pointers.{name_at}
use Rattle.dns_wire.proofs.Following.{name_at_is, name_at_more, name_at_name}
use Rattle.dns_wire.proofs.Lowered.{lowered_long, name_lowered}
use Rattle.dns_wire.proofs.Spelled.{labels_of_wire}
use Rattle.dns_wire.proofs.Walk.{labels_wire-append, wire_long}
use Rattle.dns_chain.specs.CanonicalNames.{GoesOn, HasOwnLabels, IsReadAs}
use Rattle.dns_chain.specs.declared.canonical_name.NameSpan.{NameSpan}
use Rattle.dns_name.specs.declared.own_labels.OwnLabels.{OwnLabels}
use Rattle.dns_message.specs.KnownNames.{Holds, IsKnown}
use Rattle.dns_message.specs.OwnerKeys.{label_key, labels_key, owner_key}
use Rattle.dns_message.specs.declared.known_names.KnownName.{KnownName}
use Rattle.dns_message.proofs.FormLemmas.{key_of_lowered}
use Rattle.dns_message.proofs.OwnerKeyLemmas.{drop_taken}

abbrev AreKnown : List ℕ → List KnownName → Type 0
AreKnown contents names = All (λ (name : KnownName). IsKnown contents name.target name) names

-- one of the names
pub is_known : (contents : List ℕ) (target : ℕ) (names : List KnownName) (before : ℕ) (name other : KnownName) → AreKnown contents names → before < length names → name ≡ get_or names before other → name.target ≡ target → IsKnown contents target name
is_known contents target names before name other known within there at =
    subst (λ t. IsKnown contents t name) at (subst (λ (n : KnownName). IsKnown contents n.target n) (sym there) (known before other within))

pub names_same : (contents : List ℕ) (names others : List KnownName) → others ≡ names → AreKnown contents names → AreKnown contents others
names_same contents names others same known = subst (AreKnown contents) (sym same) known

-- and one name more
pub names_more : (contents : List ℕ) (names more : List KnownName) (name : KnownName) → more ≡ names ++ name ∷ [] → AreKnown contents names → IsKnown contents name.target name → AreKnown contents more
names_more contents names more name are known is =
    names_same contents (names ++ name ∷ []) more are (λ k d within.
    elim (cases_lt k (length names)) [
      | inl before ↦ subst (λ (n : KnownName). IsKnown contents n.target n) (sym (get_or_append_left names (name ∷ []) d k before)) (known k d before)
      | inr after ↦
          let last : k ≡ length names = omega (arith, after, within, length-append names (name ∷ [])) in
          subst (λ (n : KnownName). IsKnown contents n.target n) (sym (ap (λ i. get_or (names ++ name ∷ []) i d) last ∙ get_or-append_seam names name [] d)) is
    ])

-- ---- a name that is read in fewer octets

pub read_in_more : (contents : List ℕ) (bound end target later : ℕ) (labels : Labels) → bound ≤ end → name_at (take bound contents) target ≡ Some (labels, later) → name_at (take end contents) target ≡ Some (labels, later)
read_in_more contents bound end target later labels within is =
    let front : take bound (take end contents) ≡ take bound contents = take-take bound end contents within in
    ap (λ (l : List ℕ). name_at l target) (sym (take-append-drop bound (take end contents)) ∙ ap (λ (l : List ℕ). l ++ drop bound (take end contents)) front)
    ∙ name_at_more (take bound contents) (drop bound (take end contents)) target labels later is

-- ---- own labels, and a name after them

module _ (contents : List ℕ) (start target : ℕ) (o : OwnLabels) (old new : List ℕ) (name : KnownName) (span : NameSpan) (is : HasOwnLabels contents start old o) (to : o.target ≡ Some target)
    (known : (labels : Labels) × (later : ℕ) × (name_at contents target ≡ Some (labels, later)) × Holds name labels)
    (size : (span.size ≡ o.size + name.size) × (span.size ≤ 255) × (span.end ≡ o.end))
    (octets : take span.size new ≡ take o.size old ++ take name.size name.octets) where
  abbrev pub own : Labels
  own = is.0

  abbrev pub base : Labels
  base = known.0

  own_long : length (wire own) ≡ length (labels_wire own) + 1
  own_long = length-append (labels_wire own) (0 ∷ [])

  both_wire : wire (own ++ base) ≡ labels_wire own ++ wire base
  both_wire = ap (λ (l : List ℕ). l ++ 0 ∷ []) (labels_wire-append own base) ∙ append_assoc (labels_wire own) (labels_wire base) (0 ∷ [])

  both_long : length (wire (own ++ base)) ≡ span.size
  both_long = ap length both_wire ∙ length-append (labels_wire own) (wire base) ∙ omega (arith, own_long, is.2, known.3.1, size.0)

  goes_on : GoesOn contents start own o.end (Some target)
  goes_on = subst (GoesOn contents start own o.end) to is.6

  both_read : name_at contents start ≡ Some (own ++ base, o.end)
  both_read = goes_on.1 base known.1 known.2 (omega (arith, both_long, size.1))

  pub joined_name : IsName (own ++ base)
  joined_name = name_at_name contents start (own ++ base) o.end (name_at_is contents start (own ++ base) o.end both_read)

  lowered_both : lowered (own ++ base) ≡ lowered own ++ lowered base
  lowered_both = map-append str_to_ascii_lowercase own base

  labels_long : length (labels_wire (lowered own)) ≡ o.size
  labels_long = omega (arith, own_long, is.2, wire_long own, wire_long (lowered own), lowered_long own)

  first_octets : take o.size old ≡ labels_wire (lowered own)
  first_octets =
      sym (take-take o.size (o.size + 1) old (omega arith)) ∙ ap (take o.size) is.3 ∙ ap (λ n. take n (wire (lowered own))) (sym labels_long)
      ∙ take-append_seam (labels_wire (lowered own)) (0 ∷ [])

  pub joined_octets : take span.size new ≡ wire (lowered (own ++ base))
  joined_octets =
      octets ∙ ap₂ (λ (x y : List ℕ). x ++ y) first_octets known.3.2
      ∙ sym (append_assoc (labels_wire (lowered own)) (labels_wire (lowered base)) (0 ∷ []))
      ∙ ap (λ (l : List ℕ). l ++ 0 ∷ []) (sym (labels_wire-append (lowered own) (lowered base)))
      ∙ ap wire (sym lowered_both)

  pub joined_read : IsReadAs contents start new span
  joined_read = (own ++ base, both_read ∙ ap (λ n. Some (own ++ base, n)) (sym size.2), joined_name, sym both_long, joined_octets)

  -- the key of both is that of the name, and then those of the own labels from the last to the first
  pub joined_key : (name_key key : List ℕ) → take name.size name_key ≡ owner_key base → take span.size key ≡ take name.size name_key ++ drop 1 (owner_key (name_labels (take (o.size + 1) old)))
      → take span.size key ≡ owner_key (name_labels (take span.size new))
  joined_key name_key key is_key put =
      let first : owner_key (name_labels (take (o.size + 1) old)) ≡ owner_key own = ap owner_key (ap name_labels is.3 ∙ (labels_of_wire (lowered own) (name_lowered own is.1)).1) ∙ key_of_lowered own in
      let last : owner_key (name_labels (take span.size new)) ≡ owner_key (own ++ base) =
      ap owner_key (ap name_labels joined_octets ∙ (labels_of_wire (lowered (own ++ base)) (name_lowered (own ++ base) joined_name)).1) ∙ key_of_lowered (own ++ base) in
      put ∙ ap₂ (λ (x y : List ℕ). x ++ drop 1 y) is_key first
      ∙ sym (flat_map-append label_key ([] ∷ reverse base) (reverse own))
      ∙ ap (λ (l : Labels). labels_key ([] ∷ l)) (sym (reverse-append own base))
      ∙ sym last

-- the key that is written after another one, over its last octet, goes on with the labels
pub key_after : (front owner key : List ℕ) (size more : ℕ) → 0 < size → length front ≡ size → length owner ≡ more + 1 → take (more + 1) (drop (size - 1) key) ≡ owner
    → take (size + more) (front ++ drop size key) ≡ front ++ drop 1 owner
key_after front owner key size more some long whole there =
    let step : size - 1 + 1 ≡ size = omega arith in
    let one : more + 1 ≡ 1 + more = omega arith in
    ap (λ n. take (n + more) (front ++ drop size key)) (sym long) ∙ take-append-add front (drop size key) more
    ∙ ap (λ (l : List ℕ). front ++ l) (ap (λ n. take more (drop n key)) (sym step) ∙ ap (take more) (sym (drop-drop 1 (size - 1) key)) ∙ sym (drop_taken 1 (1 + more) more (drop (size - 1) key) refl) ∙ ap (drop 1) (ap (λ n. take n (drop (size - 1) key)) (sym one) ∙ there))

-- what holds of as many octets as both have together
pub with_size : (found : Option NameSpan) (own size : ℕ) (key wanted : List ℕ) (end : ℕ) → IfSome found (λ span. (span.size ≡ own + size) × (span.size ≤ 255) × (span.end ≡ end))
    → take (size + own) key ≡ wanted → IfSome found (λ span. take span.size key ≡ wanted)
with_size None own size key wanted end is put = tt
with_size (Some span) own size key wanted end is put =
    let long : span.size ≡ size + own = omega (arith, is.0) in
    ap (λ n. take n key) long ∙ put

-- what holds of a name that is known, in octets up to a place and in all of them
pub known_within : (contents : List ℕ) (target end : ℕ) (name : KnownName) → IsKnown contents target name → name.bound ≤ end → (labels : Labels) × (later : ℕ) × (name_at (take end contents) target ≡ Some (labels, later)) × Holds name labels
known_within contents target end name is within = (is.1, is.2, read_in_more contents name.bound end target is.2 is.1 within is.3, is.4)

pub known_whole : (contents : List ℕ) (target : ℕ) (name : KnownName) → IsKnown contents target name → (labels : Labels) × (later : ℕ) × (name_at contents target ≡ Some (labels, later)) × Holds name labels
known_whole contents target name is =
    (is.1, is.2, ap (λ (l : List ℕ). name_at l target) (sym (take-append-drop name.bound contents)) ∙ name_at_more (take name.bound contents) (drop name.bound contents) target is.1 is.2 is.3, is.4)

-- the key of canonical octets is that of the name
key_of_octets : (octets key : List ℕ) (labels : Labels) (size : ℕ) → IsName labels → octets ≡ wire (lowered labels) → size ≡ length octets → take (length octets) key ≡ owner_key (name_labels octets) → take size key ≡ owner_key labels
key_of_octets octets key labels size name is long put =
    ap (λ n. take n key) long ∙ put ∙ ap owner_key (ap name_labels is ∙ (labels_of_wire (lowered labels) (name_lowered labels name)).1) ∙ key_of_lowered labels

-- a name that was read, and whose key was written if it is there, is known
pub known_name : (contents : List ℕ) (target : ℕ) (name : KnownName) (span : NameSpan) → name.bound ≤ length contents → IsReadAs (take name.bound contents) target name.octets span → name.size ≡ span.size
    → IfSome name.key (λ key. take (length (take name.size name.octets)) key ≡ owner_key (name_labels (take name.size name.octets))) → IsKnown contents target name
known_name contents target name span within is size put =
    let labels = is.0 in
    let octets : take name.size name.octets ≡ wire (lowered labels) = ap (λ n. take n name.octets) size ∙ is.4 in
    let long : name.size ≡ length (take name.size name.octets) = size ∙ is.3 ∙ sym (lowered_long labels) ∙ sym (ap length octets) in
    (within, labels, span.end, is.1, (is.2, size ∙ is.3, octets, keyed name.key octets long put)) where
      keyed : (key : Option (List ℕ)) → take name.size name.octets ≡ wire (lowered is.0) → name.size ≡ length (take name.size name.octets)
          → IfSome key (λ k. take (length (take name.size name.octets)) k ≡ owner_key (name_labels (take name.size name.octets))) → IfSome key (λ k. take name.size k ≡ owner_key is.0)
      keyed None octets long put = tt
      keyed (Some k) octets long put = key_of_octets (take name.size name.octets) k is.0 name.size is.2 octets long put

-- the key of a name that is known, if it has one
pub held_key : (name : KnownName) (labels : Labels) (key : List ℕ) → Holds name labels → name.key ≡ Some key → take name.size key ≡ owner_key labels
held_key name labels key is has = subst (λ (k : Option (List ℕ)). IfSome k (λ key. take name.size key ≡ owner_key labels)) has is.3

-- the key that was written for as many octets as a name has
pub key_put : (octets key : List ℕ) (size : ℕ) → size ≤ length octets → take (length (take size octets)) key ≡ owner_key (name_labels (take size octets)) → take size key ≡ owner_key (name_labels (take size octets))
key_put octets key size within put =
    let long : size ≡ length (take size octets) = omega (arith, length-take size octets, within) in
    ap (λ n. take n key) long ∙ put

-- a joined name, if there is one
pub joined_found : (contents : List ℕ) (start target : ℕ) (o : OwnLabels) (old new : List ℕ) (name : KnownName) (found : Option NameSpan) → HasOwnLabels contents start old o → o.target ≡ Some target
    → (labels : Labels) × (later : ℕ) × (name_at contents target ≡ Some (labels, later)) × Holds name labels
    → IfSome found (λ span. (span.size ≡ o.size + name.size) × (span.size ≤ 255) × (span.end ≡ o.end))
    → IfSome found (λ span. take span.size new ≡ take o.size old ++ take name.size name.octets)
    → IfSome found (IsReadAs contents start new)
joined_found contents start target o old new name None is to known size octets = tt
joined_found contents start target o old new name (Some span) is to known size octets = joined_read contents start target o old new name span is to known size octets

pub joined_found_key : (contents : List ℕ) (start target : ℕ) (o : OwnLabels) (old new name_key key : List ℕ) (name : KnownName) (found : Option NameSpan) → HasOwnLabels contents start old o → o.target ≡ Some target
    → (known : (labels : Labels) × (later : ℕ) × (name_at contents target ≡ Some (labels, later)) × Holds name labels)
    → take name.size name_key ≡ owner_key known.0
    → IfSome found (λ span. (span.size ≡ o.size + name.size) × (span.size ≤ 255) × (span.end ≡ o.end))
    → IfSome found (λ span. take span.size new ≡ take o.size old ++ take name.size name.octets)
    → IfSome found (λ span. take span.size key ≡ take name.size name_key ++ drop 1 (owner_key (name_labels (take (o.size + 1) old))))
    → IfSome found (λ span. take span.size key ≡ owner_key (name_labels (take span.size new)))
joined_found_key contents start target o old new name_key key name None is to known is_key size octets put = tt
joined_found_key contents start target o old new name_key key name (Some span) is to known is_key size octets put = joined_key contents start target o old new name span is to known size octets name_key key is_key put
