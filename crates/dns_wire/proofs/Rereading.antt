-- A name that was compressed is read again.
use Rattle.std.proofs.Common.{◌≡◌, ℕ, ◌+◌, ◌*◌, ◌≤◌, List, [], ◌∷◌, ◌++◌, length, drop, Option, Some, None, refl, sym, ap, subst, ◌∙◌, append_assoc, arith, add-zero}
use Rattle.std.specs.Int.{w16, to_be_bytes}
use Rattle.std.specs.List.{AllByRecursion}
use Rattle.std.proofs.lemmas.List.{drop_at, length-append, append-nil, map-append}
use Rattle.std.specs.Str.{str_to_ascii_lowercase}
use Rattle.dns_wire.specs.Compression.{FitsIn, longest_recorded, cut_at, compress, ReadsAlike}
use Rattle.dns_wire.specs.Names.{labels_wire, wire, IsLabel, IsName, lowered}
use Rattle.dns_wire.specs.Pointers.{Segment}
use Rattle.dns_wire.specs.Pointers.Segment.{at_root, at_label, at_pointer}
use Rattle.dns_wire.specs.declared.sizes.TheConstants.{HEADER_SIZE, LAST_PLACE, POINTER_TAG}
use Rattle.dns_wire.proofs.AlikeLabels.{alike_long, lowered_alike}
use Rattle.dns_wire.proofs.Cutting.{octet_at, label_at, cut_is, trailing, sizes_prefix, recorded_low, recorded_before}
use Rattle.dns_wire.proofs.Following.{segment_more, name_more}
use Rattle.dns_wire.proofs.CompressionLemmas.{known_is}
use Rattle.dns_wire.proofs.Walk.{wire_long}

-- labels that are written are read
segment_labels_wire : (contents : List ℕ) (start end : ℕ) (labels others : List (List ℕ)) (tail : List ℕ) (at : ℕ) → AllByRecursion IsLabel labels → drop at contents ≡ labels_wire labels ++ tail → Segment contents start (at + length (labels_wire labels)) others end → Segment contents start at (labels ++ others) end
segment_labels_wire contents start end [] others tail at sizes e read = rw add-zero at read
segment_labels_wire contents start end (label ∷ labels) others tail at sizes e read =
    let l = label_at contents at label (labels_wire labels ++ tail) (e ∙ ap (λ (b : List ℕ). length label ∷ b) (append_assoc label (labels_wire labels) tail)) in
    let place : at + length (labels_wire (label ∷ labels)) ≡ at + 1 + length label + length (labels_wire labels) = omega (arith, length-append label (labels_wire labels)) in
    at_label {others = labels ++ others} (rw l.size sizes.0.0) (rw l.size sizes.0.1) (rw l.size l.room) (rw l.size (ap (λ (o : List ℕ). o ∷ (labels ++ others)) (sym l.body)))
    (rw l.size (segment_labels_wire contents start end labels others tail (at + 1 + length label) sizes.1 l.later (rw place at read)))

-- labels that are read, and are these, ignoring ASCII case
record Written (contents : List ℕ) (start : ℕ) (labels : List (List ℕ)) (end : ℕ) : Type 0 where
  there : List (List ℕ)
  reads : Segment contents start start there end
  alike : lowered there ≡ lowered labels

module _ (contents places : List ℕ) (labels : List (List ℕ)) (is : IsName labels) (fits : FitsIn places contents) where
  written_by : (known : Option (ℕ × ℕ)) → longest_recorded contents places 0 labels ≡ known → Written (contents ++ cut_at (wire labels) known) (length contents) labels (length contents + length (cut_at (wire labels) known))
  written_by None e =
      let all : List ℕ = contents ++ wire labels in
      let o = octet_at all (length contents + length (labels_wire labels)) 0 [] (trailing contents (labels_wire labels) (0 ∷ [])) in
      let root : Segment all (length contents) (length contents + length (labels_wire labels)) [] (length contents + length (wire labels)) = at_root o.within o.is refl (omega (arith, wire_long labels)) in
      record {
        there = labels;
        reads = rw append-nil at (segment_labels_wire all (length contents) (length contents + length (wire labels)) labels [] (0 ∷ []) (length contents) is.sizes (drop_at contents (wire labels) (length contents) refl) root);
        alike = refl;
      }
  written_by (Some (prefix, place)) e =
      let c = known_is contents places labels prefix place e in
      let there : List (List ℕ) = c.reads.there in
      let pointer : List ℕ = to_be_bytes w16 (POINTER_TAG * 256 + HEADER_SIZE + place) in
      let all : List ℕ = contents ++ (labels_wire c.before ++ pointer) in
      let end : ℕ = length contents + length (labels_wire c.before ++ pointer) in
      let at : ℕ = length contents + length (labels_wire c.before) in
      let low : place ≤ LAST_PLACE = recorded_low contents places fits place c.recorded in
      let o = octet_at all at _ _ (trailing contents (labels_wire c.before) pointer) in
      let p = octet_at all (at + 1) _ _ o.later in
      let sizes : AllByRecursion IsLabel c.before = sizes_prefix c.before c.suffix (subst (AllByRecursion IsLabel) c.labels_is is.sizes) in
      let tail : Segment all (length contents) at there end =
      at_pointer {target = place} (rw o.is (omega (arith, low))) (omega (arith, p.within)) (rw (o.is, p.is) (omega (arith, low))) (recorded_before contents places fits place c.recorded) (segment_more contents (labels_wire c.before ++ pointer) c.reads.name.reads) (omega (arith, length-append (labels_wire c.before) pointer)) in
      subst (λ (w : List ℕ). Written (contents ++ w) (length contents) labels (length contents + length w)) (sym (cut_is contents places labels prefix place c)) (record {
        there = c.before ++ there;
        reads = segment_labels_wire all (length contents) end c.before there pointer (length contents) sizes (drop_at contents (labels_wire c.before ++ pointer) (length contents) refl) tail;
        alike =
            map-append str_to_ascii_lowercase c.before there
            ∙ ap (λ (l : List (List ℕ)). lowered c.before ++ l) c.reads.alike
            ∙ sym (ap lowered c.labels_is ∙ map-append str_to_ascii_lowercase c.before c.suffix);
      })

-- whatever is written after it
pub compressed_read : (contents places more : List ℕ) (labels : List (List ℕ)) → IsName labels → FitsIn places contents → ReadsAlike ((contents ++ compress contents places labels) ++ more) labels (length contents) (length contents + length (compress contents places labels))
compressed_read contents places more labels is fits =
    let w = written_by contents places labels is fits (longest_recorded contents places 0 labels) refl in
    let long : length (labels_wire labels) ≡ length (labels_wire w.there) = alike_long labels w.there (lowered_alike labels w.there w.alike) in
    record {
      there = w.there;
      name = name_more (contents ++ compress contents places labels) more (length contents) w.there (length contents + length (compress contents places labels)) (record { reads = w.reads; short = omega (arith, is.size, long, wire_long labels, wire_long w.there) });
      alike = w.alike;
    }
