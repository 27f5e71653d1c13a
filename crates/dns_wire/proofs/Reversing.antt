-- A name from the root on, copied label by label.
use Rattle.std.proofs.Common.{◌≡◌, ℕ, ◌+◌, ◌-◌, ◌<◌, ◌≤◌, List, [], ◌∷◌, ◌++◌, length, take, drop, refl, sym, ap, ◌∙◌, append_assoc, arith}
use Rattle.std.specs.Prelude.{reverse, slice_index}
use Rattle.std.proofs.lemmas.List.{take_at, drop_at, drop_all, length-append, length-take, length-drop, append-nil, reverse-append, reverse-reverse}
use Rattle.dns_wire.specs.Names.{labels_wire, wire}
use Rattle.dns_wire.specs.Reversed.{reversed_wire}
use Rattle.dns_wire.proofs.Cutting.{label_at}

-- the labels before the place are copied, and the others wait
pub record Turning (name forward : List ℕ) (labels : List (List ℕ)) (at end : ℕ) : Type 0 where
  pub done : List (List ℕ)
  pub rest : List (List ℕ)
  pub labels_is : reverse labels ≡ done ++ rest
  pub left : drop at name ≡ labels_wire rest
  pub right : drop end forward ≡ labels_wire (reverse done) ++ 0 ∷ []
  pub end_is : end ≡ length (labels_wire rest)
  pub within : at ≤ length name
  pub long : length forward ≡ length name

-- what comes after a place after a copy to it
after_copy : (octets old new : List ℕ) (at : ℕ) → at ≤ length old → new ≡ take at old ++ (octets ++ drop (at + length octets) old) → drop at new ≡ octets ++ drop (at + length octets) old
after_copy octets old new at within is =
    ap (drop at) is ∙ drop_at (take at old) (octets ++ drop (at + length octets) old) at (omega (arith, length-take at old))

copy_long : (octets old new : List ℕ) (at : ℕ) → at + length octets ≤ length old → new ≡ take at old ++ (octets ++ drop (at + length octets) old) → length new ≡ length old
copy_long octets old new at within is =
    ap length is ∙ omega (arith, length-append (take at old) (octets ++ drop (at + length octets) old), length-append octets (drop (at + length octets) old), length-take at old, length-drop (at + length octets) old)

pub turning_none : (name old new : List ℕ) (labels : List (List ℕ)) → name ≡ reversed_wire labels → length old ≡ length name → new ≡ take (length name - 1) old ++ (0 ∷ [] ++ drop (length name - 1 + 1) old) → Turning name new labels 1 (length name - 1)
turning_none name old new labels is long new_is =
    let some : 0 < length name = omega (arith, ap length is) in
    let nothing : drop (length name - 1 + 1) old ≡ [] = drop_all (length name - 1 + 1) old (omega (arith, long)) in
    record {
      done = [];
      rest = reverse labels;
      labels_is = refl;
      left = ap (drop 1) is;
      right = after_copy (0 ∷ []) old new (length name - 1) (omega (arith, long)) new_is ∙ ap (λ (l : List ℕ). 0 ∷ l) nothing;
      end_is = omega (arith, ap length is);
      within = omega arith;
      long = copy_long (0 ∷ []) old new (length name - 1) (omega (arith, long)) new_is ∙ long;
    }

record Next (name : List ℕ) (at : ℕ) (rest : List (List ℕ)) : Type 0 where
  label : List ℕ
  others : List (List ℕ)
  rest_is : rest ≡ label ∷ others
  size : slice_index name at ≡ length label
  room : at + 1 + length label ≤ length name
  octets : take (1 + length label) (drop at name) ≡ length label ∷ label
  later : drop (at + (1 + length label)) name ≡ labels_wire others

next_of : (name : List ℕ) (at : ℕ) (rest : List (List ℕ)) → at < length name → drop at name ≡ labels_wire rest → Next name at rest
next_of name at [] within left = absurd (omega (arith, length-drop at name, ap length left))
next_of name at (label ∷ others) within left =
    let l = label_at name at label (labels_wire others) left in
    record {
      label = label;
      others = others;
      rest_is = refl;
      size = l.size;
      room = l.room;
      octets = ap (take (1 + length label)) left ∙ take_at (length label ∷ label) (labels_wire others) (1 + length label) (omega arith);
      later = ap (λ (n : ℕ). drop n name) (let e : at + (1 + length label) ≡ at + 1 + length label = omega arith in e) ∙ l.later;
    }

module _ (name forward : List ℕ) (labels : List (List ℕ)) (at end : ℕ) (t : Turning name forward labels at end) where
  pub turning_room : at < length name → (at + (1 + slice_index name at) ≤ length name) × (1 + slice_index name at ≤ end)
  turning_room within =
      let n = next_of name at t.rest within t.left in
      (omega (arith, n.room, n.size), omega (arith, t.end_is, n.size, ap (λ (l : List (List ℕ)). length (labels_wire l)) n.rest_is, length-append n.label (labels_wire n.others)))

  pub turning_next : (size : ℕ) (new : List ℕ) → at < length name → size ≡ 1 + slice_index name at → new ≡ take (end - size) forward ++ (take size (drop at name) ++ drop (end - size + length (take size (drop at name))) forward) → Turning name new labels (at + size) (end - size)
  turning_next size new within size_is new_is =
      let n = next_of name at t.rest within t.left in
      let long : size ≡ 1 + length n.label = omega (arith, n.size) in
      let octets : take size (drop at name) ≡ length n.label ∷ n.label = ap (λ (k : ℕ). take k (drop at name)) long ∙ n.octets in
      let left_over : end - size ≡ length (labels_wire n.others) = omega (arith, t.end_is, long, ap (λ (l : List (List ℕ)). length (labels_wire l)) n.rest_is, length-append n.label (labels_wire n.others)) in
      let enough : size ≤ end = omega (arith, t.end_is, long, ap (λ (l : List (List ℕ)). length (labels_wire l)) n.rest_is, length-append n.label (labels_wire n.others)) in
      let room : at + size ≤ length name = omega (arith, n.room, long) in
      let taken : length (take size (drop at name)) ≡ size = omega (arith, length-take size (drop at name), length-drop at name, room) in
      let back : end - size + length (take size (drop at name)) ≡ end = omega (arith, taken, enough) in
      let bound : end ≤ length forward = omega (arith, length-drop end forward, ap length t.right, length-append (labels_wire (reverse t.done)) (0 ∷ [])) in
      let turned : reverse (t.done ++ n.label ∷ []) ≡ n.label ∷ reverse t.done = reverse-append t.done (n.label ∷ []) in
      record {
        done = t.done ++ n.label ∷ [];
        rest = n.others;
        labels_is = t.labels_is ∙ ap (λ (l : List (List ℕ)). t.done ++ l) n.rest_is ∙ sym (append_assoc t.done (n.label ∷ []) n.others);
        left = ap (λ (k : ℕ). drop (at + k) name) long ∙ n.later;
        right =
            after_copy (take size (drop at name)) forward new (end - size) (omega (arith, bound)) new_is
            ∙ ap (λ (k : ℕ). take size (drop at name) ++ drop k forward) back
            ∙ ap (λ (l : List ℕ). take size (drop at name) ++ l) t.right
            ∙ ap (λ (l : List ℕ). l ++ (labels_wire (reverse t.done) ++ 0 ∷ [])) octets
            ∙ ap (λ (l : List ℕ). length n.label ∷ l) (sym (append_assoc n.label (labels_wire (reverse t.done)) (0 ∷ [])))
            ∙ ap (λ (l : List (List ℕ)). labels_wire l ++ 0 ∷ []) (sym turned);
        end_is = left_over;
        within = room;
        long = copy_long (take size (drop at name)) forward new (end - size) (omega (arith, back, bound)) new_is ∙ t.long;
      }

  pub turning_done : length name ≤ at → forward ≡ wire labels
  turning_done past = by t.rest t.labels_is t.left t.end_is where
    by : (rest : List (List ℕ)) → reverse labels ≡ t.done ++ rest → drop at name ≡ labels_wire rest → end ≡ length (labels_wire rest) → forward ≡ wire labels
    by [] labels_is left end_is =
        let all : labels ≡ reverse t.done = sym (reverse-reverse labels) ∙ ap reverse (labels_is ∙ append-nil t.done) in
        ap (λ (n : ℕ). drop n forward) (sym end_is) ∙ t.right ∙ ap (λ (l : List (List ℕ)). labels_wire l ++ 0 ∷ []) (sym all)
    by (label ∷ rest) labels_is left end_is = absurd (omega (arith, length-drop at name, ap length left))

-- the prefix of a buffer of 255 octets
pub prefix_long : (buffer : List ℕ) (n : ℕ) → length buffer ≡ 255 → n ≤ 255 → n ≡ length (take n buffer)
prefix_long buffer n long within = omega (arith, length-take n buffer)
