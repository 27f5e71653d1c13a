-- The order of octets that come one after another.
use Rattle.std.proofs.Common.{◌≡◌, ℕ, ◌+◌, ◌*◌, ◌/◌, ◌%◌, ◌^◌, ◌<◌, ◌≤◌, ◌⊎◌, inl, inr, List, [], ◌∷◌, ◌++◌, length, refl, sym, ap, ◌∙◌, append_assoc, append-nil, arith, nat_cmp, Bool, true, false, cond}
use Rattle.std.specs.Prelude.{map}
use Rattle.std.specs.Int.{Width, w16, w32, to_be_bytes}
use Rattle.std.specs.Ordering.{ordering_then, is_ne}
use Rattle.std.specs.Cmp.Lexicographic.{slice_cmp}
use Rattle.std.specs.List.{AllByRecursion}
use Rattle.std.specs.declared.cmp.Ordering.{Ordering}
use Rattle.std.specs.declared.cmp.Ordering.TheVariants.{Less, Equal, Greater}
use Rattle.std.proofs.lemmas.Bool.{cases_lt}
use Rattle.std.proofs.lemmas.Bool.Decides.{nat_tests}
use Rattle.dns_wire.specs.Names.{labels_wire, wire, IsLabel, IsName, lowered}
use Rattle.dns_wire.proofs.Lowered.{name_lowered}
use Rattle.dns_record.specs.Fields.{Field, field_octets, fields_octets, lowercased_field}
use Rattle.dns_record.specs.Fields.FieldOf.{CompressibleName, UncompressedName, CharacterString, CountedOctets, CharacterStrings, OtherOctets, Byte, Number}

pub then_assoc : (a b c : Ordering) → ordering_then (ordering_then a b) c ≡ ordering_then a (ordering_then b c)
then_assoc Less b c = refl
then_assoc Equal b c = refl
then_assoc Greater b c = refl

less : (a b : ℕ) → a < b → nat_cmp a b ≡ Less
less a b h = grind (arith, nat_tests)

more : (a b : ℕ) → b < a → nat_cmp a b ≡ Greater
more a b h = grind (arith, nat_tests)

same : (a b : ℕ) → a ≡ b → nat_cmp a b ≡ Equal
same a b h = grind (arith, nat_tests)

-- numbers by their digits
digits : (a b p q u v : ℕ) → a ≡ p * 256 + q → q < 256 → b ≡ u * 256 + v → v < 256 → nat_cmp a b ≡ ordering_then (nat_cmp p u) (nat_cmp q v)
digits a b p q u v a-is q-low b-is v-low =
    elim (cases_lt p u) [
      | inl h ↦ less a b (omega arith) ∙ sym (ap (λ (o : Ordering). ordering_then o (nat_cmp q v)) (less p u h))
      | inr k ↦ elim (cases_lt u p) [
        | inl h ↦ more a b (omega arith) ∙ sym (ap (λ (o : Ordering). ordering_then o (nat_cmp q v)) (more p u h))
        | inr l ↦ by (cases_lt q v) (cases_lt v q) (omega arith) ∙ sym (ap (λ (o : Ordering). ordering_then o (nat_cmp q v)) (same p u (omega arith)))
      ]
    ] where
      by : (q < v) ⊎ (v ≤ q) → (v < q) ⊎ (q ≤ v) → p ≡ u → nat_cmp a b ≡ nat_cmp q v
      by (inl h) k e = less a b (omega arith) ∙ sym (less q v h)
      by (inr h) (inl k) e = more a b (omega arith) ∙ sym (more q v k)
      by (inr h) (inr k) e = same a b (omega arith) ∙ sym (same q v (omega arith))

pub cmp_2 : (a b : ℕ) (x y : List ℕ) → a < 2 ^ 16 → b < 2 ^ 16 → slice_cmp nat_cmp (to_be_bytes w16 a ++ x) (to_be_bytes w16 b ++ y) ≡ ordering_then (nat_cmp a b) (slice_cmp nat_cmp x y)
cmp_2 a b x y p q =
    let d : nat_cmp a b ≡ ordering_then (nat_cmp (a / 256 % 256) (b / 256 % 256)) (nat_cmp (a % 256) (b % 256)) = digits a b (a / 256 % 256) (a % 256) (b / 256 % 256) (b % 256) (omega arith) (omega arith) (omega arith) (omega arith) in
    sym (rw d (simp then_assoc))

pub cmp_4 : (a b : ℕ) (x y : List ℕ) → a < 2 ^ 32 → b < 2 ^ 32 → slice_cmp nat_cmp (to_be_bytes w32 a ++ x) (to_be_bytes w32 b ++ y) ≡ ordering_then (nat_cmp a b) (slice_cmp nat_cmp x y)
cmp_4 a b x y p q =
    let d1 : nat_cmp a b ≡ ordering_then (nat_cmp (a / 256) (b / 256)) (nat_cmp (a % 256) (b % 256)) = digits a b (a / 256) (a % 256) (b / 256) (b % 256) (omega arith) (omega arith) (omega arith) (omega arith) in
    let d2 : nat_cmp (a / 256) (b / 256) ≡ ordering_then (nat_cmp (a / 65536) (b / 65536)) (nat_cmp (a / 256 % 256) (b / 256 % 256)) = digits (a / 256) (b / 256) (a / 65536) (a / 256 % 256) (b / 65536) (b / 256 % 256) (omega arith) (omega arith) (omega arith) (omega arith) in
    let d3 : nat_cmp (a / 65536) (b / 65536) ≡ ordering_then (nat_cmp (a / 16777216 % 256) (b / 16777216 % 256)) (nat_cmp (a / 65536 % 256) (b / 65536 % 256)) = digits (a / 65536) (b / 65536) (a / 16777216 % 256) (a / 65536 % 256) (b / 16777216 % 256) (b / 65536 % 256) (omega arith) (omega arith) (omega arith) (omega arith) in
    sym (rw (d1, d2, d3) (simp then_assoc))

pub cmp_append : {A : Type 0} (R : A → A → Ordering) (us vs p q : List A) → length us ≡ length vs → slice_cmp R (us ++ p) (vs ++ q) ≡ ordering_then (slice_cmp R us vs) (slice_cmp R p q)
cmp_append R [] [] p q e = refl
cmp_append R [] (v ∷ vs) p q e = absurd (omega arith)
cmp_append R (u ∷ us) [] p q e = absurd (omega arith)
cmp_append R (u ∷ us) (v ∷ vs) p q e = ap (ordering_then (R u v)) (cmp_append R us vs p q (omega arith)) ∙ sym (then_assoc (R u v) (slice_cmp R us vs) (slice_cmp R p q))

wire_first : (l : List ℕ) (ls : List (List ℕ)) (x : List ℕ) → l ++ labels_wire ls ++ 0 ∷ [] ++ x ≡ l ++ (wire ls ++ x)
wire_first l ls x = simp append_assoc

alike : (l k : List ℕ) (ls ks : List (List ℕ)) (x y : List ℕ) → slice_cmp nat_cmp (wire ls ++ x) (wire ks ++ y) ≡ ordering_then (slice_cmp nat_cmp (wire ls) (wire ks)) (slice_cmp nat_cmp x y) → length l ≡ length k → slice_cmp nat_cmp (wire (l ∷ ls) ++ x) (wire (k ∷ ks) ++ y) ≡ ordering_then (slice_cmp nat_cmp (wire (l ∷ ls)) (wire (k ∷ ks))) (slice_cmp nat_cmp x y)
alike l k ls ks x y again e =
    rw (same (length l) (length k) e, wire_first l ls x, wire_first k ks y, append_assoc l (labels_wire ls) (0 ∷ []), append_assoc k (labels_wire ks) (0 ∷ []), cmp_append nat_cmp l k (wire ls ++ x) (wire ks ++ y) e, cmp_append nat_cmp l k (wire ls) (wire ks) e, again)
    (sym (then_assoc (slice_cmp nat_cmp l k) (slice_cmp nat_cmp (wire ls) (wire ks)) (slice_cmp nat_cmp x y)))

-- names are followed by other octets: none begins another
pub cmp_names : (n m : List (List ℕ)) (x y : List ℕ) → AllByRecursion IsLabel n → AllByRecursion IsLabel m → slice_cmp nat_cmp (wire n ++ x) (wire m ++ y) ≡ ordering_then (slice_cmp nat_cmp (wire n) (wire m)) (slice_cmp nat_cmp x y)
cmp_names [] [] x y p q = refl
cmp_names [] (k ∷ ks) x y p q = rw (less 0 (length k) q.0.0) refl
cmp_names (l ∷ ls) [] x y p q = rw (more (length l) 0 p.0.0) refl
cmp_names (l ∷ ls) (k ∷ ks) x y p q = elim (cases_lt (length l) (length k)) [
  | inl h ↦ rw (less (length l) (length k) h) refl
  | inr g ↦ elim (cases_lt (length k) (length l)) [
    | inl h ↦ rw (more (length l) (length k) h) refl
    | inr h ↦ alike l k ls ks x y (cmp_names ls ks x y p.1 q.1) (omega arith)
  ]
]

-- a name in lowercase and what follows it
pub cmp_lowercased : (n m : List (List ℕ)) (x y : List ℕ) → IsName n → IsName m → slice_cmp nat_cmp (wire (lowered n) ++ x) (wire (lowered m) ++ y) ≡ ordering_then (slice_cmp nat_cmp (wire (lowered n)) (wire (lowered m))) (slice_cmp nat_cmp x y)
cmp_lowercased n m x y p q = cmp_names (lowered n) (lowered m) x y (name_lowered n p).sizes (name_lowered m q).sizes

pub then_equal : (a : Ordering) → ordering_then a Equal ≡ a
then_equal Less = refl
then_equal Equal = refl
then_equal Greater = refl

-- ---- fields

abbrev pub lowercased_where : Bool → Field → Field
lowercased_where lowercase field = cond lowercase (lowercased_field field) field

-- the order of two fields of one kind
abbrev pub field_cmp : Bool → Field → Field → Ordering
field_cmp lowercase (CompressibleName n) (CompressibleName m) = slice_cmp nat_cmp (wire (cond lowercase (lowered n) n)) (wire (cond lowercase (lowered m) m))
field_cmp lowercase (UncompressedName n) (UncompressedName m) = slice_cmp nat_cmp (wire (cond lowercase (lowered n) n)) (wire (cond lowercase (lowered m) m))
field_cmp lowercase (CharacterString o) (CharacterString p) = ordering_then (nat_cmp (length o) (length p)) (slice_cmp nat_cmp o p)
field_cmp lowercase (CountedOctets o) (CountedOctets p) = ordering_then (nat_cmp (length o) (length p)) (slice_cmp nat_cmp o p)
field_cmp lowercase (CharacterStrings o) (CharacterStrings p) = slice_cmp nat_cmp o p
field_cmp lowercase (OtherOctets o) (OtherOctets p) = slice_cmp nat_cmp o p
field_cmp lowercase (Byte a) (Byte b) = nat_cmp a b
field_cmp lowercase (Number w a) (Number v b) = nat_cmp a b
field_cmp lowercase f g = Equal

abbrev pub fields_cmp : Bool → List Field → List Field → Ordering
fields_cmp lowercase (f ∷ []) (g ∷ []) = field_cmp lowercase f g
fields_cmp lowercase (f ∷ fs) (g ∷ gs) = ordering_then (field_cmp lowercase f g) (fields_cmp lowercase fs gs)
fields_cmp lowercase fs gs = Equal

abbrev pub NumbersMeet : Width → Width → ℕ → ℕ → Type 0
NumbersMeet w16 w16 a b = (a < 2 ^ 16) × (b < 2 ^ 16)
NumbersMeet w32 w32 a b = (a < 2 ^ 32) × (b < 2 ^ 32)
NumbersMeet w v a b = ⊥

-- two fields of one kind, neither of which begins the other
abbrev pub FieldsMeet : Field → Field → Type 0
FieldsMeet (CompressibleName n) (CompressibleName m) = IsName n × IsName m
FieldsMeet (UncompressedName n) (UncompressedName m) = IsName n × IsName m
FieldsMeet (CharacterString o) (CharacterString p) = Unit {0}
FieldsMeet (CountedOctets o) (CountedOctets p) = Unit {0}
FieldsMeet (CharacterStrings o) (CharacterStrings p) = length o ≡ length p
FieldsMeet (OtherOctets o) (OtherOctets p) = length o ≡ length p
FieldsMeet (Byte a) (Byte b) = Unit {0}
FieldsMeet (Number w a) (Number v b) = NumbersMeet w v a b
FieldsMeet f g = ⊥

abbrev pub LastMeet : Field → Field → Type 0
LastMeet (CharacterStrings o) (CharacterStrings p) = Unit {0}
LastMeet (OtherOctets o) (OtherOctets p) = Unit {0}
LastMeet f g = FieldsMeet f g

-- fields of one RDATA format
abbrev pub AllMeet : List Field → List Field → Type 0
AllMeet (f ∷ []) (g ∷ []) = LastMeet f g
AllMeet (f ∷ (f2 ∷ fs)) (g ∷ (g2 ∷ gs)) = FieldsMeet f g × AllMeet (f2 ∷ fs) (g2 ∷ gs)
AllMeet fs gs = ⊥

name_compared : (lowercase : Bool) (n m : List (List ℕ)) (x y : List ℕ) → IsName n → IsName m → slice_cmp nat_cmp (field_octets (lowercased_where lowercase (CompressibleName n)) ++ x) (field_octets (lowercased_where lowercase (CompressibleName m)) ++ y) ≡ ordering_then (field_cmp lowercase (CompressibleName n) (CompressibleName m)) (slice_cmp nat_cmp x y)
name_compared true n m x y p q = cmp_lowercased n m x y p q
name_compared false n m x y p q = cmp_names n m x y p.sizes q.sizes

uncompressed_compared : (lowercase : Bool) (n m : List (List ℕ)) (x y : List ℕ) → IsName n → IsName m → slice_cmp nat_cmp (field_octets (lowercased_where lowercase (UncompressedName n)) ++ x) (field_octets (lowercased_where lowercase (UncompressedName m)) ++ y) ≡ ordering_then (field_cmp lowercase (UncompressedName n) (UncompressedName m)) (slice_cmp nat_cmp x y)
uncompressed_compared true n m x y p q = cmp_lowercased n m x y p q
uncompressed_compared false n m x y p q = cmp_names n m x y p.sizes q.sizes

same_first : (lowercase : Bool) (f : Field) → lowercased_field f ≡ f → lowercased_where lowercase f ≡ f
same_first true f e = e
same_first false f e = refl

plain_compared : (lowercase : Bool) (f g : Field) (x y : List ℕ) (o : Ordering) → lowercased_field f ≡ f → lowercased_field g ≡ g → slice_cmp nat_cmp (field_octets f ++ x) (field_octets g ++ y) ≡ o → slice_cmp nat_cmp (field_octets (lowercased_where lowercase f) ++ x) (field_octets (lowercased_where lowercase g) ++ y) ≡ o
plain_compared true f g x y o p q e = rw (p, q) e
plain_compared false f g x y o p q e = e

numbers_compared : (lowercase : Bool) (w v : Width) (a b : ℕ) (x y : List ℕ) → NumbersMeet w v a b → slice_cmp nat_cmp (to_be_bytes w a ++ x) (to_be_bytes v b ++ y) ≡ ordering_then (nat_cmp a b) (slice_cmp nat_cmp x y)
numbers_compared lowercase w16 w16 a b x y m = cmp_2 a b x y m.0 m.1
numbers_compared lowercase w32 w32 a b x y m = cmp_4 a b x y m.0 m.1
numbers_compared lowercase w v a b x y m = absurd m

sized_compared : (o p x y : List ℕ) → slice_cmp nat_cmp (length o ∷ (o ++ x)) (length p ∷ (p ++ y)) ≡ ordering_then (ordering_then (nat_cmp (length o) (length p)) (slice_cmp nat_cmp o p)) (slice_cmp nat_cmp x y)
sized_compared o p x y = elim (cases_lt (length o) (length p)) [
  | inl h ↦ rw (less (length o) (length p) h) refl
  | inr g ↦ elim (cases_lt (length p) (length o)) [
    | inl h ↦ rw (more (length o) (length p) h) refl
    | inr h ↦ rw (same (length o) (length p) (omega arith)) (cmp_append nat_cmp o p x y (omega arith))
  ]
]

pub field_compared : (lowercase : Bool) (f g : Field) (x y : List ℕ) → FieldsMeet f g → slice_cmp nat_cmp (field_octets (lowercased_where lowercase f) ++ x) (field_octets (lowercased_where lowercase g) ++ y) ≡ ordering_then (field_cmp lowercase f g) (slice_cmp nat_cmp x y)
field_compared lowercase (CompressibleName n) (CompressibleName m) x y is = name_compared lowercase n m x y is.0 is.1
field_compared lowercase (UncompressedName n) (UncompressedName m) x y is = uncompressed_compared lowercase n m x y is.0 is.1
field_compared lowercase (CharacterString o) (CharacterString p) x y is = plain_compared lowercase (CharacterString o) (CharacterString p) x y _ refl refl (sized_compared o p x y)
field_compared lowercase (CountedOctets o) (CountedOctets p) x y is = plain_compared lowercase (CountedOctets o) (CountedOctets p) x y _ refl refl (sized_compared o p x y)
field_compared lowercase (CharacterStrings o) (CharacterStrings p) x y is = plain_compared lowercase (CharacterStrings o) (CharacterStrings p) x y _ refl refl (cmp_append nat_cmp o p x y is)
field_compared lowercase (OtherOctets o) (OtherOctets p) x y is = plain_compared lowercase (OtherOctets o) (OtherOctets p) x y _ refl refl (cmp_append nat_cmp o p x y is)
field_compared lowercase (Byte a) (Byte b) x y is = plain_compared lowercase (Byte a) (Byte b) x y _ refl refl refl
field_compared lowercase (Number w a) (Number v b) x y is = plain_compared lowercase (Number w a) (Number v b) x y _ refl refl (numbers_compared lowercase w v a b x y is)
field_compared lowercase f g x y is = absurd is

nothing_more : (lowercase : Bool) (f g : Field) → FieldsMeet f g → slice_cmp nat_cmp (field_octets (lowercased_where lowercase f) ++ []) (field_octets (lowercased_where lowercase g) ++ []) ≡ field_cmp lowercase f g
nothing_more lowercase f g is = field_compared lowercase f g [] [] is ∙ then_equal (field_cmp lowercase f g)

last_compared : (lowercase : Bool) (f g : Field) → LastMeet f g → slice_cmp nat_cmp (field_octets (lowercased_where lowercase f) ++ []) (field_octets (lowercased_where lowercase g) ++ []) ≡ field_cmp lowercase f g
last_compared lowercase (CharacterStrings o) (CharacterStrings p) is = plain_compared lowercase (CharacterStrings o) (CharacterStrings p) [] [] _ refl refl (rw (append-nil o, append-nil p) refl)
last_compared lowercase (OtherOctets o) (OtherOctets p) is = plain_compared lowercase (OtherOctets o) (OtherOctets p) [] [] _ refl refl (rw (append-nil o, append-nil p) refl)
last_compared lowercase (CharacterStrings o) g is = nothing_more lowercase (CharacterStrings o) g is
last_compared lowercase (OtherOctets o) g is = nothing_more lowercase (OtherOctets o) g is
last_compared lowercase f g is = nothing_more lowercase f g is

-- the order of the octets of fields of one RDATA format
pub fields_compared : (lowercase : Bool) (fs gs : List Field) → AllMeet fs gs → slice_cmp nat_cmp (fields_octets (map (lowercased_where lowercase) fs)) (fields_octets (map (lowercased_where lowercase) gs)) ≡ fields_cmp lowercase fs gs
fields_compared lowercase (f ∷ []) (g ∷ []) is = last_compared lowercase f g is
fields_compared lowercase (f ∷ (f2 ∷ fs)) (g ∷ (g2 ∷ gs)) is =
    field_compared lowercase f g (fields_octets (map (lowercased_where lowercase) (f2 ∷ fs))) (fields_octets (map (lowercased_where lowercase) (g2 ∷ gs))) is.0
    ∙ ap (ordering_then (field_cmp lowercase f g)) (fields_compared lowercase (f2 ∷ fs) (g2 ∷ gs) is.1)
fields_compared lowercase fs gs is = absurd is

-- ---- field by field

-- the first order decides, if it is not Equal
pub decided : (first later : Ordering) → is_ne first ≡ true → first ≡ ordering_then first later
decided Less later e = refl
decided Equal later e = absurd cc
decided Greater later e = refl

-- and if it is Equal, the later one does
pub undecided : (first later : Ordering) → is_ne first ≡ false → later ≡ ordering_then first later
undecided Less later e = absurd cc
undecided Equal later e = refl
undecided Greater later e = absurd cc

-- if the first fields are alike, the others decide
pub first_ties : (lowercase : Bool) (f g : Field) (fs gs : List Field) (r : Ordering) → FieldsMeet f g → field_cmp lowercase f g ≡ Equal → r ≡ slice_cmp nat_cmp (fields_octets (map (lowercased_where lowercase) fs)) (fields_octets (map (lowercased_where lowercase) gs)) → r ≡ slice_cmp nat_cmp (fields_octets (map (lowercased_where lowercase) (f ∷ fs))) (fields_octets (map (lowercased_where lowercase) (g ∷ gs)))
first_ties lowercase f g fs gs r is e later =
    let rest : Ordering = slice_cmp nat_cmp (fields_octets (map (lowercased_where lowercase) fs)) (fields_octets (map (lowercased_where lowercase) gs)) in
    later ∙ sym (field_compared lowercase f g (fields_octets (map (lowercased_where lowercase) fs)) (fields_octets (map (lowercased_where lowercase) gs)) is ∙ ap (λ o. ordering_then o rest) e)

unequal : (o rest : Ordering) → (o ≡ Equal → ⊥) → ordering_then o rest ≡ o
unequal Less rest n = refl
unequal Equal rest n = absurd (n refl)
unequal Greater rest n = refl

-- and if they are not, they do
pub first_decides : (lowercase : Bool) (f g : Field) (fs gs : List Field) (o : Ordering) → FieldsMeet f g → o ≡ field_cmp lowercase f g → (o ≡ Equal → ⊥) → o ≡ slice_cmp nat_cmp (fields_octets (map (lowercased_where lowercase) (f ∷ fs))) (fields_octets (map (lowercased_where lowercase) (g ∷ gs)))
first_decides lowercase f g fs gs o is e n =
    let rest : Ordering = slice_cmp nat_cmp (fields_octets (map (lowercased_where lowercase) fs)) (fields_octets (map (lowercased_where lowercase) gs)) in
    sym (field_compared lowercase f g (fields_octets (map (lowercased_where lowercase) fs)) (fields_octets (map (lowercased_where lowercase) gs)) is ∙ ap (λ p. ordering_then p rest) (sym e) ∙ unequal o rest n)

-- the last fields decide by themselves
pub last_decides : (lowercase : Bool) (f g : Field) (o : Ordering) → LastMeet f g → o ≡ field_cmp lowercase f g → o ≡ slice_cmp nat_cmp (fields_octets (map (lowercased_where lowercase) (f ∷ []))) (fields_octets (map (lowercased_where lowercase) (g ∷ [])))
last_decides lowercase f g o is e = e ∙ sym (last_compared lowercase f g is)
