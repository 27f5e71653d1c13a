-- Names and places gone over label by label: the first label of a name, whether it is the name at a place, and how many labels
-- are read there.
use Rattle.std.proofs.Common.{◌≡◌, ℕ, zero, suc, pred, ◌+◌, ◌-◌, ◌<◌, ◌≤◌, Bool, true, false, List, [], ◌∷◌, ◌++◌, length, get_or, take, take_all, drop, Option, Some, None, refl, sym, ap, ◌∙◌, arith, add-zero}
use Rattle.std.specs.Prelude.{map, ◌&&◌, not, MatchOption, nat_le, if◌then◌else◌}
use Rattle.std.specs.Option.{is_some}
use Rattle.std.specs.Char.{to_ascii_lowercase}
use Rattle.std.specs.Str.{str_eq_ignore_ascii_case}
use Rattle.std.specs.Cmp.Lexicographic.{bytes_decides}
use Rattle.std.proofs.lemmas.Bool.{le-leb, lt-leb}
use Rattle.std.proofs.lemmas.List.{length-append, length-take, length-drop, get_or-map, take-append-drop}
use Rattle.std.proofs.Math.Seq.{drop-cons}
use Rattle.dns_wire.specs.Reading.{all_of}
use Rattle.dns_wire.specs.declared.name_cursor.LabelType.{LabelType}
use Rattle.dns_wire.specs.declared.name_cursor.LabelType.TheVariants.{Root, Label, Pointer}
use Rattle.std.specs.List.{AllByRecursion}
use Rattle.dns_wire.specs.Names.{labels_wire, IsLabel, plain_name, name_labels}
use Rattle.dns_wire.specs.Pointers.{label_type_at, joined, after_label_type, segment_within, name_at}
use Rattle.dns_wire.specs.Compression.{reads_as, occurs_at}
use Rattle.dns_wire.specs.Searching.{FirstOf, count_more, count_at}
use Rattle.dns_wire.proofs.AlikeLabels.{Found, short_reads}
use Rattle.dns_wire.proofs.Spelled.{FirstLabel, first_label, name_short, name_octets}
use Rattle.dns_wire.proofs.Walk.{wire_long}

-- ---- the first label of a name's octets

pub first_of_name : (name label rest : List ℕ) → all_of (plain_name name) ≡ Some (name_labels name) → 0 < get_or name 0 0 → label ≡ take (get_or name 0 0) (drop 1 name) → rest ≡ drop (get_or name 0 0) (drop 1 name) → FirstOf name label rest
first_of_name name label rest is some label_is rest_is =
    let first : FirstLabel name (get_or name 0 0) = first_label name is some in
    let long : length (take (get_or name 0 0) (drop 1 name)) ≡ get_or name 0 0 = omega (arith, length-take (get_or name 0 0) (drop 1 name), length-drop 1 name, first.room) in
    let label_type : name ≡ get_or name 0 0 ∷ drop 1 name = drop-cons name 0 0 (omega (arith, first.room)) in
    let body : drop 1 name ≡ take (get_or name 0 0) (drop 1 name) ++ drop (get_or name 0 0) (drop 1 name) = sym (take-append-drop (get_or name 0 0) (drop 1 name)) in
    let parts : name ≡ length (take (get_or name 0 0) (drop 1 name)) ∷ (take (get_or name 0 0) (drop 1 name) ++ drop (get_or name 0 0) (drop 1 name)) =
    label_type ∙ ap (λ (l : List ℕ). get_or name 0 0 ∷ l) body ∙ ap (λ (n : ℕ). n ∷ (take (get_or name 0 0) (drop 1 name) ++ drop (get_or name 0 0) (drop 1 name))) (sym long) in
    let sizes : IsLabel (take (get_or name 0 0) (drop 1 name)) = (rw first.labels at (name_octets name (name_labels name) is).0.sizes).0 in
    rw (label_is, rest_is) (record { labels = first.labels; whole = first.whole; parts = parts; is_label = sizes })

-- ---- label by label

-- a step
pub unrolled : (steps : ℕ) (contents : List ℕ) (segment at : ℕ) → 0 < steps → segment_within steps contents segment at ≡ after_label_type (segment_within (pred steps) contents) contents segment at (label_type_at contents segment at)
unfolding segment_within
unrolled zero contents segment at some = absurd (omega arith)
unrolled (suc steps) contents segment at some = refl

pred_less : (n : ℕ) → 0 < n → pred n + 1 ≡ n
pred_less zero some = absurd (omega arith)
pred_less (suc n) some = omega arith

-- whether the labels are at the place is whether the name that is left is at another
pub record Matches (contents : List ℕ) (labels : List (List ℕ)) (place : ℕ) (rest : List ℕ) (segment at : ℕ) : Type 0 where
  pub whole : all_of (plain_name rest) ≡ Some (name_labels rest)
  pub steps : ℕ
  pub room : length rest + segment < steps
  pub same : occurs_at contents labels place ≡ reads_as (name_labels rest) (segment_within steps contents segment at)

pub matches_none : (contents name : List ℕ) (place : ℕ) → all_of (plain_name name) ≡ Some (name_labels name) → Matches contents (name_labels name) place name place place
unfolding occurs_at name_at
matches_none contents name place is =
    let t = name_octets name (name_labels name) is in
    record { whole = is; steps = 256 + place; room = omega (arith, name_short name (name_labels name) is); same = short_reads (name_labels name) (segment_within (256 + place) contents place place) t.0.size }

module _ (contents : List ℕ) (labels : List (List ℕ)) (place : ℕ) (rest : List ℕ) (segment at : ℕ) (m : Matches contents labels place rest segment at) where
  by_label_type : (label_type : Option LabelType) → label_type_at contents segment at ≡ label_type → occurs_at contents labels place ≡ reads_as (name_labels rest) (after_label_type (segment_within (pred m.steps) contents) contents segment at label_type)
  by_label_type label_type is = m.same ∙ ap (reads_as (name_labels rest)) (unrolled m.steps contents segment at (omega (arith, m.room)) ∙ ap (after_label_type (segment_within (pred m.steps) contents) contents segment at) is)

  pub matches_bad : label_type_at contents segment at ≡ None → false ≡ occurs_at contents labels place
  matches_bad is = sym (by_label_type None is)

  pub matches_root : label_type_at contents segment at ≡ Some Root → name_labels rest ≡ [] → true ≡ occurs_at contents labels place
  matches_root is none = sym (by_label_type (Some Root) is ∙ ap (λ (l : List (List ℕ)). reads_as l (Some ([], at + 1))) none)

  pub matches_short : (label next : List ℕ) → label_type_at contents segment at ≡ Some Root → FirstOf rest label next → false ≡ occurs_at contents labels place
  matches_short label next is first = sym (by_label_type (Some Root) is ∙ ap (λ (l : List (List ℕ)). reads_as l (Some ([], at + 1))) first.labels)

  pub matches_long : (size : ℕ) → label_type_at contents segment at ≡ Some (Label size) → name_labels rest ≡ [] → false ≡ occurs_at contents labels place
  matches_long size is none = sym (by_label_type (Some (Label size)) is ∙ ap (λ (l : List (List ℕ)). reads_as l (joined (take size (drop (at + 1) contents) ∷ []) None (segment_within (pred m.steps) contents segment (at + 1 + size)))) none ∙ past (segment_within (pred m.steps) contents segment (at + 1 + size))) where
    past : (read : Found) → reads_as [] (joined (take size (drop (at + 1) contents) ∷ []) None read) ≡ false
    past None = refl
    past (Some found) = refl

  -- the same, by whether there is a first label
  pub matches_ended : {A : Type 0} (label next : A → List ℕ) (first : Option A) (r : Bool) → label_type_at contents segment at ≡ Some Root → MatchOption first (name_labels rest ≡ []) (λ x. FirstOf rest (label x) (next x)) → is_some first ≡ not r → r ≡ occurs_at contents labels place
  matches_ended label next None true is first e = matches_root is first
  matches_ended label next None false is first e = absurd cc
  matches_ended label next (Some x) true is first e = absurd cc
  matches_ended label next (Some x) false is first e = matches_short (label x) (next x) is first

  both : (label other : List ℕ) (others : List (List ℕ)) (read : Found) → reads_as (label ∷ others) (joined (other ∷ []) None read) ≡ (str_eq_ignore_ascii_case label other && reads_as others read)
  both label other others None = no (str_eq_ignore_ascii_case label other) where
    no : (b : Bool) → false ≡ (b && false)
    no true = refl
    no false = refl
  both label other others (Some found) = refl

  pub matches_label : (size : ℕ) (label next : List ℕ) → label_type_at contents segment at ≡ Some (Label size) → FirstOf rest label next → occurs_at contents labels place ≡ (str_eq_ignore_ascii_case label (take size (drop (at + 1) contents)) && reads_as (name_labels next) (segment_within (pred m.steps) contents segment (at + 1 + size)))
  matches_label size label next is first =
      by_label_type (Some (Label size)) is
      ∙ ap (λ (l : List (List ℕ)). reads_as l (joined (take size (drop (at + 1) contents) ∷ []) None (segment_within (pred m.steps) contents segment (at + 1 + size)))) first.labels
      ∙ both label (take size (drop (at + 1) contents)) (name_labels next) (segment_within (pred m.steps) contents segment (at + 1 + size))

  pub matches_next : (size : ℕ) (label next : List ℕ) → label_type_at contents segment at ≡ Some (Label size) → FirstOf rest label next → str_eq_ignore_ascii_case label (take size (drop (at + 1) contents)) ≡ true → Matches contents labels place next segment (at + 1 + size)
  matches_next size label next is first equal =
      record {
        whole = first.whole;
        steps = pred m.steps;
        room = omega (arith, m.room, ap length first.parts, length-append label next, pred_less m.steps (omega (arith, m.room)));
        same = (matches_label size label next is first ∙ ap (λ (b : Bool). b && reads_as (name_labels next) (segment_within (pred m.steps) contents segment (at + 1 + size))) equal);
      }

  pub matches_other : (size : ℕ) (label next : List ℕ) → label_type_at contents segment at ≡ Some (Label size) → FirstOf rest label next → str_eq_ignore_ascii_case label (take size (drop (at + 1) contents)) ≡ false → false ≡ occurs_at contents labels place
  matches_other size label next is first differ =
      sym (matches_label size label next is first ∙ ap (λ (b : Bool). b && reads_as (name_labels next) (segment_within (pred m.steps) contents segment (at + 1 + size))) differ)

  pub matches_pointer : (target : ℕ) → label_type_at contents segment at ≡ Some (Pointer target) → target < segment → Matches contents labels place rest target target
  matches_pointer target is before =
      record {
        whole = m.whole;
        steps = pred m.steps;
        room = omega (arith, m.room, pred_less m.steps (omega (arith, m.room)));
        same = by_label_type (Some (Pointer target)) is ∙ through (segment_within (pred m.steps) contents target target);
      } where
        through : (read : Found) → reads_as (name_labels rest) (joined [] (Some (at + 2)) read) ≡ reads_as (name_labels rest) read
        through None = refl
        through (Some found) = refl

-- that many octets
pub octets_after : (contents : List ℕ) (at size next : ℕ) → next ≡ at + 1 + size → take (next - (next - size)) (drop (next - size) contents) ≡ take size (drop (at + 1) contents)
octets_after contents at size next e =
    let long : next - (next - size) ≡ size = omega arith in
    let prefix : next - size ≡ at + 1 = omega arith in
    rw (long, prefix) refl

-- ---- two labels, octet by octet

abbrev lowercase : List ℕ → List ℕ
lowercase = map to_ascii_lowercase

unequal : (a b : List ℕ) → (lowercase a ≡ lowercase b → ⊥) → str_eq_ignore_ascii_case a b ≡ false
unequal a b differ = by (str_eq_ignore_ascii_case a b) refl where
  by : (t : Bool) → str_eq_ignore_ascii_case a b ≡ t → str_eq_ignore_ascii_case a b ≡ false
  by true e = absurd (differ ((bytes_decides (lowercase a) (lowercase b)).0 e))
  by false e = e

pub other_octet : (a b : List ℕ) (at : ℕ) → length a ≡ length b → at < length a → (to_ascii_lowercase (get_or a at 0) ≡ to_ascii_lowercase (get_or b at 0) → ⊥) → false ≡ str_eq_ignore_ascii_case a b
other_octet a b at long within differ =
    sym (unequal a b (λ e. differ (sym (get_or-map to_ascii_lowercase a at 0 0 within) ∙ ap (λ (l : List ℕ). get_or l at 0) e ∙ get_or-map to_ascii_lowercase b at 0 0 (omega (arith, long)))))

pub all_octets : (a b : List ℕ) (at : ℕ) → length a ≡ length b → length a ≤ at → lowercase (take at a) ≡ lowercase (take at b) → true ≡ str_eq_ignore_ascii_case a b
all_octets a b at long past e =
    sym ((bytes_decides (lowercase a) (lowercase b)).1 (sym (ap lowercase (take_all at a past)) ∙ e ∙ ap lowercase (take_all at b (omega (arith, long, past)))))

-- ---- counting

labels_wire_twice : (labels : List (List ℕ)) → AllByRecursion IsLabel labels → length labels + length labels ≤ length (labels_wire labels)
labels_wire_twice [] sizes = omega arith
labels_wire_twice (label ∷ labels) sizes = omega (arith, labels_wire_twice labels sizes.1, sizes.0.0, length-append label (labels_wire labels))

-- each label takes two octets at least
pub name_few : (bytes : List ℕ) → all_of (plain_name bytes) ≡ Some (name_labels bytes) → length (name_labels bytes) < 128
name_few bytes e = let t = name_octets bytes (name_labels bytes) e in omega (arith, labels_wire_twice (name_labels bytes) t.0.sizes, t.0.size, wire_long (name_labels bytes))

-- as many labels as were seen, and those that are left
pub record Counting (contents : List ℕ) (place most seen segment at : ℕ) : Type 0 where
  pub steps : ℕ
  pub few : seen ≤ most
  pub room : 256 + segment ≤ steps + seen
  pub same : count_at contents place most ≡ count_more seen most (segment_within steps contents segment at)

pub counting_none : (contents : List ℕ) (place most : ℕ) → Counting contents place most 0 place place
unfolding count_at
counting_none contents place most = record { steps = 256 + place; few = omega arith; room = omega arith; same = refl }

module _ (contents : List ℕ) (place most seen segment at : ℕ) (small : most < 128) (m : Counting contents place most seen segment at) where
  count_label_type : (label_type : Option LabelType) → label_type_at contents segment at ≡ label_type → count_at contents place most ≡ count_more seen most (after_label_type (segment_within (pred m.steps) contents) contents segment at label_type)
  count_label_type label_type is = m.same ∙ ap (count_more seen most) (unrolled m.steps contents segment at (omega (arith, m.room, m.few)) ∙ ap (after_label_type (segment_within (pred m.steps) contents) contents segment at) is)

  pub counting_bad : label_type_at contents segment at ≡ None → None ≡ count_at contents place most
  counting_bad is = sym (count_label_type None is)

  pub counting_root : label_type_at contents segment at ≡ Some Root → Some seen ≡ count_at contents place most
  counting_root is =
      let fits : nat_le (seen + 0) most ≡ true = le-leb _ _ (omega (arith, m.few)) in
      sym (count_label_type (Some Root) is ∙ rw (fits, add-zero) refl)

  past : (label : List ℕ) (read : Found) → count_more seen most (joined (label ∷ []) None read) ≡ count_more (seen + 1) most read
  past label None = refl
  past label (Some found) = ap (λ (n : ℕ). if nat_le n most then Some n else None) (omega arith)

  full : seen ≡ most → (read : Found) → None ≡ count_more (seen + 1) most read
  full all None = refl
  full all (Some found) = let over : nat_le (seen + 1 + length found.0) most ≡ false = lt-leb _ _ (omega arith) in sym (rw over refl)

  pub counting_full : (size : ℕ) → label_type_at contents segment at ≡ Some (Label size) → seen ≡ most → None ≡ count_at contents place most
  counting_full size is all = full all (segment_within (pred m.steps) contents segment (at + 1 + size)) ∙ sym (count_label_type (Some (Label size)) is ∙ past (take size (drop (at + 1) contents)) (segment_within (pred m.steps) contents segment (at + 1 + size)))

  pub counting_label : (size : ℕ) → label_type_at contents segment at ≡ Some (Label size) → (seen ≡ most → ⊥) → Counting contents place most (seen + 1) segment (at + 1 + size)
  counting_label size is more =
      record {
        steps = pred m.steps;
        few = omega (arith, m.few);
        room = omega (arith, m.room, pred_less m.steps (omega (arith, m.room, m.few)));
        same = (count_label_type (Some (Label size)) is ∙ past (take size (drop (at + 1) contents)) (segment_within (pred m.steps) contents segment (at + 1 + size)));
      }

  pub counting_pointer : (target : ℕ) → label_type_at contents segment at ≡ Some (Pointer target) → target < segment → Counting contents place most seen target target
  counting_pointer target is before =
      record {
        steps = pred m.steps;
        few = m.few;
        room = omega (arith, m.room, pred_less m.steps (omega (arith, m.room, m.few)));
        same = count_label_type (Some (Pointer target)) is ∙ through (segment_within (pred m.steps) contents target target);
      } where
        through : (read : Found) → count_more seen most (joined [] (Some (at + 2)) read) ≡ count_more seen most read
        through None = refl
        through (Some found) = refl
