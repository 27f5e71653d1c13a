-- The longest suffix that is known, place by place.
use Rattle.std.proofs.Common.{◌≡◌, ℕ, ◌+◌, ◌<◌, ◌≤◌, Bool, true, false, cond, List, [], ◌∷◌, ◌++◌, length, get_or, take, drop, Option, Some, None, refl, sym, ap, ◌∙◌, arith, add-one}
use Rattle.std.specs.Prelude.{find, nat_le, nat_lt, if◌then◌else◌}
use Rattle.std.specs.Option.{option_or}
use Rattle.std.proofs.lemmas.Bool.{le-leb, lt-ltb, le-ltb}
use Rattle.std.proofs.lemmas.Bool.Decides.{nat_tests}
use Rattle.std.proofs.lemmas.List.{length-append, take-append-drop}
use Rattle.std.proofs.Math.Seq.{take-suc}
use Rattle.std.proofs.lemmas.List.Folds.{find-append}
use Rattle.std.proofs.lemmas.Option.{some_pair_parts}
use Rattle.dns_wire.specs.Compression.{labels_alike, reads_as, occurs_at, or_shorter, longest_recorded}
use Rattle.dns_wire.specs.Names.{labels_wire}
use Rattle.dns_wire.specs.Pointers.{segment_within, name_at}
use Rattle.dns_wire.specs.Searching.{count_more, count_at, else_later, suffix_at, before_limit}
use Rattle.dns_wire.proofs.AlikeLabels.{Found, alike_count, short_differs}

-- ---- where suffixes begin

-- from low on, and before high
abbrev Within : ℕ → ℕ → Option ℕ → Type 0
Within low high None = Unit {0}
Within low high (Some prefix) = (low ≤ prefix) × (prefix < high)

abbrev From : ℕ → Option (ℕ × ℕ) → Type 0
From low None = Unit {0}
From low (Some (prefix, place)) = low ≤ prefix

within_wider : (lower low high : ℕ) (o : Option ℕ) → lower ≤ low → Within low high o → Within lower high o
within_wider lower low high None h w = tt
within_wider lower low high (Some prefix) h w = (omega arith, w.1)

from_lower : (lower low : ℕ) (o : Option (ℕ × ℕ)) → lower ≤ low → From low o → From lower o
from_lower lower low None h f = tt
from_lower lower low (Some (prefix, place)) h f = omega arith

pub suffix_within : (contents : List ℕ) (place at high : ℕ) (labels : List (List ℕ)) → at + length (labels_wire labels) ≤ high → Within at high (suffix_at contents place at labels)
unfolding suffix_at
suffix_within contents place at high [] h = tt
suffix_within contents place at high (label ∷ labels) h =
    by (occurs_at contents (label ∷ labels) place) (suffix_at contents place (at + 1 + length label) labels) (suffix_within contents place (at + 1 + length label) high labels (omega (arith, h, length-append label (labels_wire labels)))) where
      by : (occurs : Bool) (later : Option ℕ) → Within (at + 1 + length label) high later → Within at high (else_later at occurs later)
      by true later w = (omega arith, omega (arith, h, length-append label (labels_wire labels)))
      by false later w = within_wider at (at + 1 + length label) high later (omega arith) w

longest_from : (contents places : List ℕ) (at : ℕ) (labels : List (List ℕ)) → From at (longest_recorded contents places at labels)
unfolding longest_recorded
longest_from contents places at [] = tt
longest_from contents places at (label ∷ labels) =
    by (find (occurs_at contents (label ∷ labels)) places) (longest_recorded contents places (at + 1 + length label) labels) (longest_from contents places (at + 1 + length label) labels) where
      by : (recorded : Option ℕ) (later : Option (ℕ × ℕ)) → From (at + 1 + length label) later → From at (or_shorter at recorded later)
      by None later f = from_lower at (at + 1 + length label) later (omega arith) f
      by (Some place) later f = omega arith

-- ---- one more place

-- the better of what is known so far and of what is read at one more place
abbrev pub better : Option (ℕ × ℕ) → ℕ → Option ℕ → Option (ℕ × ℕ)
better best place None = best
better None place (Some prefix) = Some (prefix, place)
better (Some (least, first)) place (Some prefix) = if nat_le least prefix then Some (least, first) else Some (prefix, place)

recorded_first : (at place first high : ℕ) (o : Option ℕ) → Within at high o → better (Some (at, first)) place o ≡ Some (at, first)
recorded_first at place first high None w = refl
recorded_first at place first high (Some prefix) w = let t : nat_le at prefix ≡ true = grind (arith, nat_tests) in rw t refl

found_new : (at place : ℕ) (o : Option (ℕ × ℕ)) → From (at + 1) o → better o place (Some at) ≡ Some (at, place)
found_new at place None f = refl
found_new at place (Some (least, first)) f = let t : nat_le least at ≡ false = grind (arith, nat_tests) in rw t refl

find_more : (p : ℕ → Bool) (places : List ℕ) (place : ℕ) → find p (places ++ place ∷ []) ≡ option_or (find p places) (cond (p place) (Some place) None)
find_more p places place = find-append p places (place ∷ [])

-- one more place
pub longest_more : (contents places : List ℕ) (place at : ℕ) (labels : List (List ℕ)) → longest_recorded contents (places ++ place ∷ []) at labels ≡ better (longest_recorded contents places at labels) place (suffix_at contents place at labels)
unfolding longest_recorded suffix_at
longest_more contents places place at [] = refl
longest_more contents places place at (label ∷ labels) =
    let next : ℕ = at + 1 + length label in
    let occurs : ℕ → Bool = occurs_at contents (label ∷ labels) in
    ap (λ (o : Option ℕ). or_shorter at o (longest_recorded contents (places ++ place ∷ []) next labels)) (find_more occurs places place)
    ∙ ap (or_shorter at (option_or (find occurs places) (cond (occurs place) (Some place) None))) (longest_more contents places place next labels)
    ∙ by (find occurs places) (occurs place) (longest_recorded contents places next labels) (longest_from contents places next labels) (suffix_at contents place next labels) (suffix_within contents place next (next + length (labels_wire labels)) labels (omega arith)) where
      by : (recorded : Option ℕ) (new : Bool) (later : Option (ℕ × ℕ)) → From (at + 1 + length label) later → (other : Option ℕ) → Within (at + 1 + length label) (at + 1 + length label + length (labels_wire labels)) other → or_shorter at (option_or recorded (cond new (Some place) None)) (better later place other) ≡ better (or_shorter at recorded later) place (else_later at new other)
      by (Some first) true later f other w = sym (recorded_first at place first (at + 1) (Some at) (omega arith, omega arith))
      by (Some first) false later f other w = sym (recorded_first at place first (at + 1 + length label + length (labels_wire labels)) other (within_wider at (at + 1 + length label) (at + 1 + length label + length (labels_wire labels)) other (omega arith) w))
      by None true later f other w = sym (found_new at place later (from_lower (at + 1) (at + 1 + length label) later (omega arith) f))
      by None false later f other w = refl

pub longest_none : (contents : List ℕ) (at : ℕ) (labels : List (List ℕ)) → longest_recorded contents [] at labels ≡ None
unfolding longest_recorded
longest_none contents at [] = refl
longest_none contents at (label ∷ labels) = longest_none contents (at + 1 + length label) labels

-- if the whole name is known, later places change nothing
longest_stays : (contents places more : List ℕ) (at first : ℕ) (labels : List (List ℕ)) → longest_recorded contents places at labels ≡ Some (at, first) → longest_recorded contents (places ++ more) at labels ≡ Some (at, first)
unfolding longest_recorded
longest_stays contents places more at first [] e = absurd cc
longest_stays contents places more at first (label ∷ labels) e =
    ap (λ (o : Option ℕ). or_shorter at o (longest_recorded contents (places ++ more) (at + 1 + length label) labels)) (find-append (occurs_at contents (label ∷ labels)) places more)
    ∙ by (find (occurs_at contents (label ∷ labels)) places) (longest_recorded contents places (at + 1 + length label) labels) (longest_from contents places (at + 1 + length label) labels) e where
      by : (recorded : Option ℕ) (later : Option (ℕ × ℕ)) → From (at + 1 + length label) later → or_shorter at recorded later ≡ Some (at, first) → or_shorter at (option_or recorded (find (occurs_at contents (label ∷ labels)) more)) (longest_recorded contents (places ++ more) (at + 1 + length label) labels) ≡ Some (at, first)
      by None None f e = absurd cc
      by None (Some (prefix, place)) f e = absurd (let p = some_pair_parts prefix at place first e in omega (arith, p.0, f))
      by (Some place) later f e = e

pub longest_whole : (contents places : List ℕ) (n first : ℕ) (labels : List (List ℕ)) → longest_recorded contents (take n places) 0 labels ≡ Some (0, first) → longest_recorded contents places 0 labels ≡ Some (0, first)
longest_whole contents places n first labels e =
    ap (λ (k : List ℕ). longest_recorded contents k 0 labels) (sym (take-append-drop n places))
    ∙ longest_stays contents (take n places) (drop n places) 0 first labels e

-- ---- the loop over the places

-- where the best suffix so far begins, or else the end of the name
abbrev pub prefix_of : ℕ → Option (ℕ × ℕ) → ℕ
prefix_of size None = size
prefix_of size (Some (prefix, place)) = prefix

pub limit_before : (limit prefix : ℕ) → prefix < limit → before_limit limit (Some prefix) ≡ Some prefix
limit_before limit prefix before = let t : nat_lt prefix limit ≡ true = lt-ltb prefix limit before in rw t refl

pub limit_reached : (limit prefix : ℕ) (occurs : Bool) → limit ≤ prefix → before_limit limit (else_later prefix occurs None) ≡ None
limit_reached limit prefix true past = let t : nat_lt prefix limit ≡ false = le-ltb prefix limit past in rw t refl
limit_reached limit prefix false past = refl

-- what is found before the best so far is better
pub step_found : (best : Option (ℕ × ℕ)) (size place found : ℕ) (o : Option ℕ) → Some found ≡ before_limit (prefix_of size best) o → Some (found, place) ≡ better best place o
step_found None size place found None e = absurd cc
step_found None size place found (Some prefix) e = by (nat_lt prefix size) e where
  by : (b : Bool) → Some found ≡ cond b (Some prefix) None → ◌≡◌ {A = Option (ℕ × ℕ)} (Some (found, place)) (Some (prefix, place))
  by true e = let same : found ≡ prefix = cc in rw same refl
  by false e = absurd cc
step_found (Some (least, first)) size place found None e = absurd cc
step_found (Some (least, first)) size place found (Some prefix) e = by (nat_lt prefix least) refl e where
  by : (b : Bool) → nat_lt prefix least ≡ b → Some found ≡ cond b (Some prefix) None → ◌≡◌ {A = Option (ℕ × ℕ)} (Some (found, place)) (if nat_le least prefix then Some (least, first) else Some (prefix, place))
  by true t e = let u : nat_le least prefix ≡ false = grind (arith, nat_tests, t) in let same : found ≡ prefix = cc in rw (u, same) refl
  by false t e = absurd cc

-- and else nothing is
pub step_missed : (best : Option (ℕ × ℕ)) (size place : ℕ) (o : Option ℕ) → Within 0 size o → None ≡ before_limit (prefix_of size best) o → best ≡ better best place o
step_missed best size place None w e = refl
step_missed None size place (Some prefix) w e =
    let t : nat_lt prefix size ≡ true = lt-ltb prefix size w.1 in
    absurd (let h : ◌≡◌ {A = Option ℕ} None (Some prefix) = rw t at e in cc)
step_missed (Some (least, first)) size place (Some prefix) w e = by (nat_lt prefix least) refl e where
  by : (b : Bool) → nat_lt prefix least ≡ b → None ≡ cond b (Some prefix) None → ◌≡◌ {A = Option (ℕ × ℕ)} (Some (least, first)) (if nat_le least prefix then Some (least, first) else Some (prefix, place))
  by true t e = absurd cc
  by false t e = let u : nat_le least prefix ≡ true = grind (arith, nat_tests, t) in rw u refl

module _ (contents places : List ℕ) (labels : List (List ℕ)) (size i prefix : ℕ) (best : Option (ℕ × ℕ)) (within : i < length places) (best_is : best ≡ longest_recorded contents (take i places) 0 labels) (prefix_is : prefix ≡ prefix_of size best) where
  one_more : longest_recorded contents (take (i + 1) places) 0 labels ≡ better best (get_or places i 0) (suffix_at contents (get_or places i 0) 0 labels)
  one_more =
      let more : take (i + 1) places ≡ take i places ++ get_or places i 0 ∷ [] = rw add-one (take-suc places i 0 within) in
      ap (λ (k : List ℕ). longest_recorded contents k 0 labels) more
      ∙ longest_more contents (take i places) (get_or places i 0) 0 labels
      ∙ ap (λ (b : Option (ℕ × ℕ)). better b (get_or places i 0) (suffix_at contents (get_or places i 0) 0 labels)) (sym best_is)

  pub more_found : (found : ℕ) → Some found ≡ before_limit prefix (suffix_at contents (get_or places i 0) 0 labels) → Some (found, get_or places i 0) ≡ longest_recorded contents (take (i + 1) places) 0 labels
  more_found found e =
      step_found best size (get_or places i 0) found (suffix_at contents (get_or places i 0) 0 labels) (rw prefix_is at e) ∙ sym one_more

  pub more_missed : length (labels_wire labels) ≤ size → None ≡ before_limit prefix (suffix_at contents (get_or places i 0) 0 labels) → best ≡ longest_recorded contents (take (i + 1) places) 0 labels
  more_missed room e =
      step_missed best size (get_or places i 0) (suffix_at contents (get_or places i 0) 0 labels) (suffix_within contents (get_or places i 0) 0 size labels (omega arith)) (rw prefix_is at e) ∙ sym one_more

-- ---- the one suffix that may be the name at a place

-- as many labels are read at the place
pub record Counts (contents : List ℕ) (place size : ℕ) : Type 0 where
  pub found : List (List ℕ)
  pub end : ℕ
  pub read : segment_within (256 + place) contents place place ≡ Some (found, end)
  pub long : length found ≡ size

pub counts_of : (contents : List ℕ) (place most size : ℕ) → Some size ≡ count_at contents place most → Counts contents place size
unfolding count_at
counts_of contents place most size e = by (segment_within (256 + place) contents place place) refl e where
  by : (read : Found) → segment_within (256 + place) contents place place ≡ read → Some size ≡ count_more 0 most read → Counts contents place size
  by None is e = absurd cc
  by (Some (found, end)) is e = inner (nat_le (0 + length found) most) e where
    inner : (b : Bool) → Some size ≡ cond b (Some (0 + length found)) None → Counts contents place size
    inner true e = record { found = found; end = end; read = is; long = let same : size ≡ 0 + length found = cc in omega arith }
    inner false e = absurd cc

wrong_count : (contents : List ℕ) (place size : ℕ) (labels : List (List ℕ)) → Counts contents place size → (length labels ≡ size → ⊥) → occurs_at contents labels place ≡ false
unfolding occurs_at name_at
wrong_count contents place size labels c other = short_differs labels (segment_within (256 + place) contents place place) (ap (reads_as labels) c.read ∙ by (labels_alike labels c.found) refl) where
  by : (b : Bool) → labels_alike labels c.found ≡ b → labels_alike labels c.found ≡ false
  by true e = absurd (other (alike_count labels c.found e ∙ c.long))
  by false e = e

module _ (contents : List ℕ) (place size : ℕ) (c : Counts contents place size) where
  -- shorter suffixes
  pub suffix_past : (at : ℕ) (labels : List (List ℕ)) → length labels < size → suffix_at contents place at labels ≡ None
  unfolding suffix_at
  suffix_past at [] less = refl
  suffix_past at (label ∷ labels) less =
      ap (λ (b : Bool). else_later at b (suffix_at contents place (at + 1 + length label) labels)) (wrong_count contents place size (label ∷ labels) c (λ e. omega arith))
      ∙ suffix_past (at + 1 + length label) labels (omega arith)

  -- longer ones
  pub suffix_later : (at : ℕ) (label : List ℕ) (labels all : List (List ℕ)) → all ≡ label ∷ labels → size < length all → suffix_at contents place at all ≡ suffix_at contents place (at + (1 + length label)) labels
  unfolding suffix_at
  suffix_later at label labels all is more =
      let place_is : at + 1 + length label ≡ at + (1 + length label) = omega arith in
      ap (suffix_at contents place at) is
      ∙ ap (λ (b : Bool). else_later at b (suffix_at contents place (at + 1 + length label) labels)) (wrong_count contents place size (label ∷ labels) c (λ e. omega (arith, ap length is)))
      ∙ ap (λ (n : ℕ). suffix_at contents place n labels) place_is

  -- the one that is as long
  pub suffix_only : (at : ℕ) (labels : List (List ℕ)) → length labels ≡ size → 0 < size → suffix_at contents place at labels ≡ else_later at (occurs_at contents labels place) None
  unfolding suffix_at
  suffix_only at [] long some = absurd (omega arith)
  suffix_only at (label ∷ labels) long some = ap (else_later at (occurs_at contents (label ∷ labels) place)) (suffix_past (at + 1 + length label) labels (omega arith))

-- ---- if as many labels are not read

uncounted : (contents : List ℕ) (place most : ℕ) (all : List (List ℕ)) → None ≡ count_at contents place most → length all ≤ most → occurs_at contents all place ≡ false
unfolding occurs_at name_at count_at
uncounted contents place most all e few = short_differs all (segment_within (256 + place) contents place place) (by (segment_within (256 + place) contents place place) e) where
  by : (read : Found) → None ≡ count_more 0 most read → reads_as all read ≡ false
  by None e = refl
  by (Some (found, end)) e = inner (labels_alike all found) refl where
    inner : (b : Bool) → labels_alike all found ≡ b → labels_alike all found ≡ false
    inner true s =
        let fits : nat_le (0 + length found) most ≡ true = le-leb _ _ (omega (arith, alike_count all found s)) in
        absurd (let h : ◌≡◌ {A = Option ℕ} None (Some (0 + length found)) = rw fits at e in cc)
    inner false s = s

pub suffix_uncounted : (contents : List ℕ) (place most at : ℕ) (labels : List (List ℕ)) → None ≡ count_at contents place most → length labels ≤ most → suffix_at contents place at labels ≡ None
unfolding suffix_at
suffix_uncounted contents place most at [] e few = refl
suffix_uncounted contents place most at (label ∷ labels) e few =
    ap (λ (b : Bool). else_later at b (suffix_at contents place (at + 1 + length label) labels)) (uncounted contents place most (label ∷ labels) e few)
    ∙ suffix_uncounted contents place most (at + 1 + length label) labels e (omega arith)

-- a name at the place that has no labels is no suffix
pub suffix_empty : (contents : List ℕ) (place at size : ℕ) (labels : List (List ℕ)) → Counts contents place size → size ≡ 0 → suffix_at contents place at labels ≡ None
unfolding suffix_at
suffix_empty contents place at size [] c none = refl
suffix_empty contents place at size (label ∷ labels) c none =
    ap (λ (b : Bool). else_later at b (suffix_at contents place (at + 1 + length label) labels)) (wrong_count contents place size (label ∷ labels) c (λ e. omega arith))
    ∙ suffix_empty contents place (at + 1 + length label) size labels c none
