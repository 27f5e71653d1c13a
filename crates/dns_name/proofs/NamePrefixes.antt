-- Two sequences of labels walked from their starts, over the octets that agree.
use Rattle.std.proofs.Common.{◌-◌, ◌++◌, Bool, true, false, cond, take, ap₂, subst, ◌≡◌, ℕ, suc, ◌+◌, ◌<◌, ◌≤◌, List, ◌∷◌, length, get_or, drop, Some, refl, sym, ap, ◌∙◌, arith, nat_cmp}
use Rattle.std.specs.Char.{to_ascii_lowercase, eq_ignore_ascii_case}
use Rattle.std.specs.Ordering.{ordering_then}
use Rattle.std.specs.Str.{str_to_ascii_lowercase}
use Rattle.std.specs.Cmp.Lexicographic.{slice_cmp}
use Rattle.std.specs.declared.cmp.Ordering.{Ordering}
use Rattle.std.specs.declared.cmp.Ordering.TheVariants.{Less, Equal, Greater}
use Rattle.std.proofs.lemmas.Bool.{eqb-true}
use Rattle.std.proofs.lemmas.Cmp.{nat_list_cmp_total, tied_itself}
use Rattle.std.proofs.lemmas.Map.Lookups.{exact_bytes}
use Rattle.std.proofs.lemmas.Str.Ascii.{lowercase_is}
use Rattle.std.proofs.lemmas.List.{take_at}
use Rattle.dns_wire.specs.Agreement.{agreeing_prefix}
use Rattle.dns_wire.specs.Names.{labels_wire, IsLabel, IsName, lowered}
use Rattle.dns_wire.specs.Reversed.{relative_name, relative_labels}
use Rattle.dns_wire.proofs.Agreeing.{block_agrees}
use Rattle.dns_wire.proofs.Backward.{relative_is}
use Rattle.dns_label.specs.Order.{label_cmp}
use Rattle.dns_name.specs.Order.{key_cmp}
use Rattle.dns_name.proofs.Agreed.{low_prefix, agrees_low, low_long}

-- a label after its length
abbrev pub piece : List ℕ → List ℕ
piece label = length label ∷ label

-- a length is no letter
length_small : (label : List ℕ) → IsLabel label → to_ascii_lowercase (length label) ≡ length label
length_small label is = (lowercase_is (length label)).1 (omega (arith, is.1))

pieces_low : (label other : List ℕ) → str_to_ascii_lowercase label ≡ str_to_ascii_lowercase other → str_to_ascii_lowercase (piece label) ≡ str_to_ascii_lowercase (piece other)
pieces_low label other same = rw (low_long label other same, same) refl

module _ (label other : List ℕ) (rest others : List (List ℕ)) where
  -- labels that are the same in lowercase agree, and then those after them
  over : str_to_ascii_lowercase label ≡ str_to_ascii_lowercase other → agreeing_prefix (labels_wire (label ∷ rest)) (labels_wire (other ∷ others)) ≡ suc (length label) + agreeing_prefix (labels_wire rest) (labels_wire others)
  over same = agrees_low (piece label) (piece other) (labels_wire rest) (labels_wire others) (pieces_low label other same)

  -- a label within the octets that agree is the same in lowercase
  inside : IsLabel label → IsLabel other → length label < agreeing_prefix (labels_wire (label ∷ rest)) (labels_wire (other ∷ others)) → str_to_ascii_lowercase label ≡ str_to_ascii_lowercase other
  inside is js within =
      let head : suc 0 ≤ agreeing_prefix (labels_wire (label ∷ rest)) (labels_wire (other ∷ others)) = omega (arith, within) in
      let first = ap (λ l. get_or l 0 0) (low_prefix 1 (labels_wire (label ∷ rest)) (labels_wire (other ∷ others)) head) in
      let long : length label ≡ length other = sym (length_small label is) ∙ first ∙ length_small other js in
      let all = low_prefix (suc (length label)) (labels_wire (label ∷ rest)) (labels_wire (other ∷ others)) within in
      ap str_to_ascii_lowercase (sym (take_at label (labels_wire rest) (length label) refl))
      ∙ ap (drop 1) all
      ∙ ap str_to_ascii_lowercase (take_at other (labels_wire others) (length label) (sym long))

  pub passed : IsLabel label → IsLabel other → (agreed : ℕ) → agreed ≡ agreeing_prefix (labels_wire (label ∷ rest)) (labels_wire (other ∷ others)) → length label < agreed → (key_cmp (lowered (label ∷ rest)) (lowered (other ∷ others)) ≡ key_cmp (lowered rest) (lowered others)) × (agreed ≡ suc (length label) + agreeing_prefix (labels_wire rest) (labels_wire others))
  passed is js agreed scanned within =
      let same = inside is js (omega (arith, scanned, within)) in (
        ap (λ l. ordering_then (slice_cmp nat_cmp (str_to_ascii_lowercase label) l) (key_cmp (lowered rest) (lowered others))) (sym same)
            ∙ ap (λ o. ordering_then o (key_cmp (lowered rest) (lowered others))) (tied_itself nat_list_cmp_total (str_to_ascii_lowercase label)),
        scanned ∙ over same,
      )

  pub decides : (agreed : ℕ) → agreed ≡ agreeing_prefix (labels_wire (label ∷ rest)) (labels_wire (other ∷ others)) → agreed ≤ length label → key_cmp (lowered (label ∷ rest)) (lowered (other ∷ others)) ≡ label_cmp label other
  decides agreed scanned short = by (label_cmp label other) refl where
    by : (o : Ordering) → label_cmp label other ≡ o → ordering_then (label_cmp label other) (key_cmp (lowered rest) (lowered others)) ≡ label_cmp label other
    by Less e = rw e refl
    by Equal e = absurd (omega (arith, scanned, short, over (exact_bytes (str_to_ascii_lowercase label) (str_to_ascii_lowercase other) e)))
    by Greater e = rw e refl

  -- labels that agree as far as an octet within the first label agree as far as that label alone
  pub ends_within : IsLabel label → IsLabel other → (agreed : ℕ) → agreed ≡ agreeing_prefix (labels_wire (label ∷ rest)) (labels_wire (other ∷ others)) → agreed ≤ length label → agreed ≡ agreeing_prefix (piece label) (piece other)
  ends_within is js agreed scanned short = by (eq_ignore_ascii_case (length label) (length other)) refl where
    by : (s : Bool) → eq_ignore_ascii_case (length label) (length other) ≡ s → agreed ≡ agreeing_prefix (piece label) (piece other)
    by false e = scanned ∙ ap (λ (b : Bool). cond b (1 + agreeing_prefix (label ++ labels_wire rest) (other ++ labels_wire others)) 0) e ∙ sym (ap (λ (b : Bool). cond b (1 + agreeing_prefix label other) 0) e)
    by true e =
        let long : length label ≡ length other = sym (length_small label is) ∙ eqb-true (to_ascii_lowercase (length label)) (to_ascii_lowercase (length other)) e ∙ length_small other js in
        let more : agreeing_prefix (piece label) (piece other) ≡ 1 + agreeing_prefix label other = ap (λ (b : Bool). cond b (1 + agreeing_prefix label other) 0) e in
        let all : agreed ≡ 1 + agreeing_prefix (label ++ labels_wire rest) (other ++ labels_wire others) = scanned ∙ ap (λ (b : Bool). cond b (1 + agreeing_prefix (label ++ labels_wire rest) (other ++ labels_wire others)) 0) e in
        let block = block_agrees (length label) (label ++ labels_wire rest) (other ++ labels_wire others) in
        let parts : agreeing_prefix (take (length label) (label ++ labels_wire rest)) (take (length label) (other ++ labels_wire others)) ≡ agreeing_prefix label other = ap₂ agreeing_prefix (take_at label (labels_wire rest) (length label) refl) (take_at other (labels_wire others) (length label) (sym long)) in
        omega (arith, more, all, block, parts, short)

-- ---- relative names, by their octets

pub relative_octets : (bytes : List ℕ) → relative_name bytes ≡ Some (relative_labels bytes) → bytes ≡ labels_wire (relative_labels bytes)
relative_octets bytes is = (relative_is bytes (relative_labels bytes) is).1

relative_first : (bytes next : List ℕ) (label : List ℕ) → relative_name bytes ≡ Some (relative_labels bytes) → relative_labels bytes ≡ label ∷ relative_labels next → (bytes ≡ labels_wire (label ∷ relative_labels next)) × IsLabel label
relative_first bytes next label is first =
    let t = relative_is bytes (relative_labels bytes) is in
    (t.1 ∙ ap labels_wire first, (subst IsName first t.0).sizes.0)

module _ (bytes octets next last label other : List ℕ) (agreed : ℕ) (is : relative_name bytes ≡ Some (relative_labels bytes)) (js : relative_name octets ≡ Some (relative_labels octets)) (first : relative_labels bytes ≡ label ∷ relative_labels next) (second : relative_labels octets ≡ other ∷ relative_labels last) (scanned : agreed ≡ agreeing_prefix bytes octets) where
  scanned_labels_wire : agreed ≡ agreeing_prefix (labels_wire (label ∷ relative_labels next)) (labels_wire (other ∷ relative_labels last))
  scanned_labels_wire = scanned ∙ ap (λ l. agreeing_prefix l octets) (relative_first bytes next label is first).0 ∙ ap (agreeing_prefix (labels_wire (label ∷ relative_labels next))) (relative_first octets last other js second).0

  orders : key_cmp (lowered (relative_labels bytes)) (lowered (relative_labels octets)) ≡ key_cmp (lowered (label ∷ relative_labels next)) (lowered (other ∷ relative_labels last))
  orders = ap (λ l. key_cmp (lowered l) (lowered (relative_labels octets))) first ∙ ap (λ l. key_cmp (lowered (label ∷ relative_labels next)) (lowered l)) second

  pub relative_ends : agreed ≤ length label → agreed ≡ agreeing_prefix (piece label) (piece other)
  relative_ends short = ends_within label other (relative_labels next) (relative_labels last) (relative_first bytes next label is first).1 (relative_first octets last other js second).1 agreed scanned_labels_wire short

  pub relative_decides : agreed ≤ length label → key_cmp (lowered (relative_labels bytes)) (lowered (relative_labels octets)) ≡ label_cmp label other
  relative_decides short = orders ∙ decides label other (relative_labels next) (relative_labels last) agreed scanned_labels_wire short

  pub relative_passed : length label < agreed → relative_name next ≡ Some (relative_labels next) → relative_name last ≡ Some (relative_labels last) → (key_cmp (lowered (relative_labels bytes)) (lowered (relative_labels octets)) ≡ key_cmp (lowered (relative_labels next)) (lowered (relative_labels last))) × (agreed - (1 + length label) ≡ agreeing_prefix next last)
  relative_passed within ks ls =
      let p = passed label other (relative_labels next) (relative_labels last) (relative_first bytes next label is first).1 (relative_first octets last other js second).1 agreed scanned_labels_wire within in
      let left : agreed - (1 + length label) ≡ agreeing_prefix (labels_wire (relative_labels next)) (labels_wire (relative_labels last)) = omega (arith, p.1) in
      (orders ∙ p.0, left ∙ ap (λ l. agreeing_prefix l (labels_wire (relative_labels last))) (sym (relative_octets next ks)) ∙ ap (agreeing_prefix next) (sym (relative_octets last ls)))
