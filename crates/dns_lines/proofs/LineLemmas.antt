-- The lines of a text, and of a text that is read in pieces.
use Rattle.std.proofs.Common.{min, if◌then◌else◌, is_ok, OnOk, Result, Ok, Err, ◌≡◌, ◌≢◌, ℕ, ◌+◌, ◌-◌, ◌<◌, ◌≤◌, Bool, true, false, List, [], ◌∷◌, ◌++◌, length, length-take, take, take_all, flat_map, refl, sym, ap, subst, ◌∙◌, inl, inr, append_assoc, append-nil, arith, ◌==◌}
use Rattle.std.specs.List.{AllByRecursion}
use Rattle.std.proofs.lemmas.Bool.{cases_eq, cases_lt, eq-eqb, eqb-true}
use Rattle.std.proofs.lemmas.List.{take-append-le}
use Rattle.std.proofs.Math.Seq.{take-append-add}
use Rattle.std.proofs.lemmas.List.Concat.{flat_map-cons, flat_map-append}
use Rattle.dns_lines.specs.Lines.{HasLines, IsLine, Parted, ended, with_last}

-- what holds of the parts of a list holds of the list
pub all_append : {A : Type 0} (P : A → Type 0) (xs ys : List A) → AllByRecursion P xs → AllByRecursion P ys → AllByRecursion P (xs ++ ys)
all_append P [] ys all others = others
all_append P (x ∷ xs) ys (one, all) others = (one, all_append P xs ys all others)

-- ---- each text has lines

-- an octet before a text that is parted
before_parted : (b : ℕ) (text : List ℕ) (lines : List (List ℕ)) (rest : List ℕ) → b ≢ 10 → Parted text lines rest → (more : List (List ℕ)) × (last : List ℕ) × Parted (b ∷ text) more last
before_parted b text [] rest other parted = ([], b ∷ rest, record { text_is = ap (λ (l : List ℕ). b ∷ l) parted.text_is; are_lines = tt; is_line = (other, parted.is_line) })
before_parted b text (line ∷ lines) rest other parted = (
  (b ∷ line) ∷ lines,
  rest,
  record {
    text_is = ap (λ (l : List ℕ). b ∷ l) (parted.text_is ∙ ap (λ (l : List ℕ). l ++ rest) (flat_map-cons ended line lines)) ∙ ap (λ (l : List ℕ). l ++ rest) (sym (flat_map-cons ended (b ∷ line) lines));
    are_lines = ((other, parted.are_lines.0), parted.are_lines.1);
    is_line = parted.is_line;
  },
)

-- LF before a text that is parted
feed_parted : (b : ℕ) (text : List ℕ) (lines : List (List ℕ)) (rest : List ℕ) → b ≡ 10 → Parted text lines rest → Parted (b ∷ text) ([] ∷ lines) rest
feed_parted b text lines rest is parted = record {
  text_is = (λ k. is k ∷ parted.text_is k) ∙ ap (λ (l : List ℕ). l ++ rest) (sym (flat_map-cons ended [] lines));
  are_lines = (tt, parted.are_lines);
  is_line = parted.is_line;
}

pub some_parts : (text : List ℕ) → (lines : List (List ℕ)) × (rest : List ℕ) × Parted text lines rest
some_parts [] = ([], [], record { text_is = refl; are_lines = tt; is_line = tt })
some_parts (b ∷ text) =
    let more = some_parts text in
    elim (cases_eq b 10) [
      | inl is ↦ ([] ∷ more.0, more.1, feed_parted b text more.0 more.1 is more.2)
      | inr other ↦ before_parted b text more.0 more.1 other more.2
    ]

pub some_lines : (text : List ℕ) → (lines : List (List ℕ)) × HasLines text lines
some_lines text = let parts = some_parts text in (with_last parts.0 parts.1, record { before = parts.0; rest = parts.1; parted = parts.2; lines_are = refl })

-- ---- and no others

-- a line before LF is the only one there
one_line : (l m t u : List ℕ) → IsLine l → IsLine m → l ++ 10 ∷ t ≡ m ++ 10 ∷ u → (l ≡ m) × (t ≡ u)
one_line [] [] t u line other e = (refl, cc)
one_line [] (b ∷ m) t u line other e = absurd (other.0 (sym cc))
one_line (a ∷ l) [] t u line other e = absurd (line.0 cc)
one_line (a ∷ l) (b ∷ m) t u line other e =
    let tail : l ++ 10 ∷ t ≡ m ++ 10 ∷ u = cc in
    let head : a ≡ b = cc in
    let more = one_line l m t u line.1 other.1 tail in
    ((λ k. head k ∷ more.0 k), more.1)

-- no LF comes where none is
no_feed : (l t m : List ℕ) → IsLine m → l ++ 10 ∷ t ≡ m → ⊥
no_feed [] t [] other e = absurd cc
no_feed [] t (b ∷ m) other e = other.0 (sym cc)
no_feed (a ∷ l) t [] other e = absurd cc
no_feed (a ∷ l) t (b ∷ m) other e = let tail : l ++ 10 ∷ t ≡ m = cc in no_feed l t m other.1 tail

-- the first of some lines, and the text after it
first_line : (line : List ℕ) (lines : List (List ℕ)) (rest : List ℕ) → flat_map ended (line ∷ lines) ++ rest ≡ line ++ 10 ∷ (flat_map ended lines ++ rest)
first_line line lines rest = ap (λ (l : List ℕ). l ++ rest) (flat_map-cons ended line lines ∙ append_assoc line (10 ∷ []) (flat_map ended lines)) ∙ append_assoc line (10 ∷ flat_map ended lines) rest

pub one_parts : (lines others : List (List ℕ)) (rest last : List ℕ) → AllByRecursion IsLine lines → AllByRecursion IsLine others → IsLine rest → IsLine last
    → flat_map ended lines ++ rest ≡ flat_map ended others ++ last → (lines ≡ others) × (rest ≡ last)
one_parts [] [] rest last are also is other e = (refl, e)
one_parts [] (m ∷ others) rest last are also is other e = absurd (no_feed m (flat_map ended others ++ last) rest is (sym (first_line m others last) ∙ sym e))
one_parts (l ∷ lines) [] rest last are also is other e = absurd (no_feed l (flat_map ended lines ++ rest) last other (sym (first_line l lines rest) ∙ e))
one_parts (l ∷ lines) (m ∷ others) rest last are also is other e =
    let same = one_line l m (flat_map ended lines ++ rest) (flat_map ended others ++ last) are.0 also.0 (sym (first_line l lines rest) ∙ e ∙ first_line m others last) in
    let more = one_parts lines others rest last are.1 also.1 is other same.1 in
    ((λ k. same.0 k ∷ more.0 k), more.1)

pub one_lines : (text : List ℕ) (lines others : List (List ℕ)) → HasLines text lines → HasLines text others → lines ≡ others
one_lines text lines others has also =
    let p = has.parted in
    let q = also.parted in
    let same = one_parts has.before also.before has.rest also.rest p.are_lines q.are_lines p.is_line q.is_line (sym p.text_is ∙ q.text_is) in
    has.lines_are ∙ (λ k. with_last (same.0 k) (same.1 k)) ∙ sym also.lines_are

-- ---- a text after another

-- lines before a text that is parted
pub lines_before : (lines : List (List ℕ)) (text : List ℕ) (others : List (List ℕ)) (rest : List ℕ) → AllByRecursion IsLine lines → Parted text others rest
    → Parted (flat_map ended lines ++ text) (lines ++ others) rest
lines_before lines text others rest are parted = record {
  text_is = ap (λ (l : List ℕ). flat_map ended lines ++ l) parted.text_is ∙ sym (append_assoc (flat_map ended lines) (flat_map ended others) rest)
      ∙ ap (λ (l : List ℕ). l ++ rest) (sym (flat_map-append ended lines others));
  are_lines = all_append IsLine lines others are parted.are_lines;
  is_line = parted.is_line;
}

with_last-append : (lines others : List (List ℕ)) (rest : List ℕ) → lines ++ with_last others rest ≡ with_last (lines ++ others) rest
with_last-append lines others [] = refl
with_last-append lines others (b ∷ rest) = sym (append_assoc lines others ((b ∷ rest) ∷ []))

-- lines before a text that has lines
pub lines_on : (lines : List (List ℕ)) (text : List ℕ) (others : List (List ℕ)) → AllByRecursion IsLine lines → HasLines text others → HasLines (flat_map ended lines ++ text) (lines ++ others)
lines_on lines text others are has = record {
  before = lines ++ has.before;
  rest = has.rest;
  parted = lines_before lines text has.before has.rest are has.parted;
  lines_are = ap (λ (l : List (List ℕ)). lines ++ l) has.lines_are ∙ with_last-append lines has.before has.rest;
}

-- a text that ends in LF is lines alone
pub ended_lines : (t : List ℕ) (lines : List (List ℕ)) → HasLines (ended t) lines → AllByRecursion IsLine lines × (ended t ≡ flat_map ended lines)
ended_lines t lines has = on_rest has.rest has.parted has.lines_are where
  last_feed : (s l : List ℕ) (b : ℕ) (rest : List ℕ) → IsLine (b ∷ rest) → ended s ≡ l ++ b ∷ rest → ⊥
  last_feed [] [] b [] is e = is.0 (sym cc)
  last_feed [] [] b (c ∷ rest) is e = absurd cc
  last_feed [] (a ∷ []) b rest is e = absurd cc
  last_feed [] (a ∷ c ∷ l) b rest is e = absurd cc
  last_feed (x ∷ []) [] b [] is e = absurd cc
  last_feed (x ∷ y ∷ s) [] b [] is e = absurd cc
  last_feed (x ∷ s) [] b (c ∷ rest) is e = let tail : ended s ≡ c ∷ rest = cc in last_feed s [] c rest is.1 tail
  last_feed (x ∷ s) (a ∷ l) b rest is e = let tail : ended s ≡ l ++ b ∷ rest = cc in last_feed s l b rest is tail

  on_rest : (rest : List ℕ) → Parted (ended t) has.before rest → lines ≡ with_last has.before rest → AllByRecursion IsLine lines × (ended t ≡ flat_map ended lines)
  on_rest [] parted are =
      (subst (AllByRecursion IsLine) (sym are) parted.are_lines, parted.text_is ∙ append-nil (flat_map ended has.before) ∙ ap (flat_map ended) (sym are))
  on_rest (b ∷ rest) parted are = absurd (last_feed t (flat_map ended has.before) b rest parted.is_line parted.text_is)

-- ---- what is kept of a line

-- octets after those that are kept
pub kept_more : (k : ℕ) (line piece : List ℕ) → take k (take k line ++ piece) ≡ take k (line ++ piece)
kept_more k line piece = elim (cases_lt k (length line)) [
  | inl long ↦ take-append-le k (take k line) piece (omega (arith, long, length-take k line)) ∙ take_all k (take k line) (omega (arith, length-take k line)) ∙ sym (take-append-le k line piece (omega (arith, long)))
  | inr short ↦ ap (λ (l : List ℕ). take k (l ++ piece)) (take_all k line short)
]

-- as many octets of a piece as there is room for
pub kept_room : {E : Type 0} (k n size : ℕ) (line piece taken new : List ℕ) (result : Result (Unit {0}) E) → length line ≤ k → size ≡ length line → n ≡ min (length piece) (k - size) → taken ≡ take n piece
    → new ≡ (if is_ok result then line ++ taken else line) → OnOk result (new ≡ take k (line ++ piece))
kept_room k n size line piece taken new (Err e) fits size-is n-is taken-is is = tt
kept_room k n size line piece taken new (Ok done) fits size-is n-is taken-is is =
    let whole : k ≡ length line + (k - length line) = omega (arith, fits) in
    is ∙ ap (λ (l : List ℕ). line ++ l) (taken-is ∙ taken_all) ∙ sym (take-append-add line piece (k - length line)) ∙ ap (λ (m : ℕ). take m (line ++ piece)) (sym whole)
  where
    taken_all : take n piece ≡ take (k - length line) piece
    taken_all = elim (cases_lt (k - length line) (length piece)) [
      | inl long ↦ ap (λ (m : ℕ). take m piece) (omega (arith, n-is, size-is, long))
      | inr short ↦ take_all n piece (omega (arith, n-is, size-is, short)) ∙ sym (take_all (k - length line) piece short)
    ]

-- octets without LF one after another
pub line_more : (line piece : List ℕ) → IsLine line → IsLine piece → IsLine (line ++ piece)
line_more line piece is also = all_append (λ b. b ≢ 10) line piece is also

-- what follows from a result that is no error
pub ok_then : {A E : Type 0} {P Q : Type 0} (result : Result A E) → (P → Q) → OnOk result P → OnOk result Q
ok_then (Ok done) f holds = f holds
ok_then (Err e) f holds = tt

-- a list of length 0, and one of another length
pub none_there : (xs : List ℕ) (b : Bool) → b ≡ (length xs == 0) → b ≡ true → [] ≡ xs
none_there xs b is holds = by xs (eqb-true (length xs) 0 (sym is ∙ holds)) where
  by : (ys : List ℕ) → length ys ≡ 0 → [] ≡ ys
  by [] e = refl
  by (y ∷ ys) e = absurd (omega (arith, e))

pub some_there : (xs : List ℕ) (b : Bool) → b ≡ (length xs == 0) → b ≡ false → xs ≡ [] → ⊥
some_there xs b is fails none = (let clash = sym fails ∙ is ∙ eq-eqb (length xs) 0 (ap length none) in absurd cc)

pub not_none : (n : ℕ) → (n ≡ 0 → ⊥) → 0 < n
not_none n some = elim (cases_lt 0 n) [ inl above ↦ above | inr none ↦ absurd (some (omega (arith, none))) ]
