-- The ten octets before the data of a record, and the data, are its parts.
use Rattle.std.proofs.Common.{◌≡◌, ℕ, zero, suc, ◌+◌, ◌-◌, ◌<◌, ◌≤◌, ◌^◌, Bool, true, false, cond, ltb, List, [], ◌∷◌, ◌++◌, length, take, drop, get_or, Option, Some, None, refl, sym, ap, subst, ◌∙◌, arith}
use Rattle.std.specs.Prelude.{slice_index}
use Rattle.std.specs.Int.{Width, w16, w32, byte_len, from_be_bytes, to_be_bytes}
use Rattle.std.proofs.lemmas.Bool.{le-ltb, lt-ltb, ltb-false, ltb-true}
use Rattle.std.proofs.lemmas.List.{length-append, length-drop, length-take, drop-append-le}
use Rattle.std.proofs.lemmas.Nat.{be_bytes_2, be_bytes_4}
use Rattle.std.proofs.lemmas.Option.{some_pair_parts}
use Rattle.dns_wire.specs.Reading.{AreOctets, octets, number}
use Rattle.dns_wire.specs.ReadingLemmas.{then_some}
use Rattle.dns_record.specs.Records.{Parts, octets_of_parts, parts_at}
use Rattle.dns_record.proofs.PartsLemmas.{from_size}
use Rattle.dns_record.proofs.Places.{octets_read, octets_spelled}

-- the numbers in them
abbrev pub type_of : List ℕ → ℕ
type_of bytes = from_be_bytes w16 (slice_index bytes 0 ∷ slice_index bytes 1 ∷ [])

abbrev pub class_of : List ℕ → ℕ
class_of bytes = from_be_bytes w16 (slice_index bytes 2 ∷ slice_index bytes 3 ∷ [])

abbrev pub ttl_of : List ℕ → ℕ
ttl_of bytes = from_be_bytes w32 (slice_index bytes 4 ∷ slice_index bytes 5 ∷ slice_index bytes 6 ∷ slice_index bytes 7 ∷ [])

abbrev pub size_of : List ℕ → ℕ
size_of bytes = from_be_bytes w16 (slice_index bytes 8 ∷ slice_index bytes 9 ∷ [])

-- ten octets, and those after them
record Ten (bytes : List ℕ) : Type 0 where
  a : ℕ
  b : ℕ
  c : ℕ
  d : ℕ
  e : ℕ
  f : ℕ
  g : ℕ
  h : ℕ
  i : ℕ
  j : ℕ
  more : List ℕ
  is : bytes ≡ a ∷ b ∷ c ∷ d ∷ e ∷ f ∷ g ∷ h ∷ i ∷ j ∷ more

ten_of : (bytes : List ℕ) → 10 ≤ length bytes → Ten bytes
ten_of (a ∷ b ∷ c ∷ d ∷ e ∷ f ∷ g ∷ h ∷ i ∷ j ∷ more) long = record { a = a; b = b; c = c; d = d; e = e; f = f; g = g; h = h; i = i; j = j; more = more; is = refl }
ten_of (a ∷ b ∷ c ∷ d ∷ e ∷ f ∷ g ∷ h ∷ i ∷ []) long = absurd (omega (arith, long))
ten_of (a ∷ b ∷ c ∷ d ∷ e ∷ f ∷ g ∷ h ∷ []) long = absurd (omega (arith, long))
ten_of (a ∷ b ∷ c ∷ d ∷ e ∷ f ∷ g ∷ []) long = absurd (omega (arith, long))
ten_of (a ∷ b ∷ c ∷ d ∷ e ∷ f ∷ []) long = absurd (omega (arith, long))
ten_of (a ∷ b ∷ c ∷ d ∷ e ∷ []) long = absurd (omega (arith, long))
ten_of (a ∷ b ∷ c ∷ d ∷ []) long = absurd (omega (arith, long))
ten_of (a ∷ b ∷ c ∷ []) long = absurd (omega (arith, long))
ten_of (a ∷ b ∷ []) long = absurd (omega (arith, long))
ten_of (a ∷ []) long = absurd (omega (arith, long))
ten_of [] long = absurd (omega (arith, long))

two_first : (x y : ℕ) (rest : List ℕ) → number w16 (x ∷ y ∷ rest) ≡ Some (from_be_bytes w16 (x ∷ y ∷ []), rest)
two_first x y rest =
    let fits : ltb (length (x ∷ y ∷ rest)) 2 ≡ false = le-ltb _ _ (omega arith) in
    rw fits refl

four_first : (x y z v : ℕ) (rest : List ℕ) → number w32 (x ∷ y ∷ z ∷ v ∷ rest) ≡ Some (from_be_bytes w32 (x ∷ y ∷ z ∷ v ∷ []), rest)
four_first x y z v rest =
    let fits : ltb (length (x ∷ y ∷ z ∷ v ∷ rest)) 4 ≡ false = le-ltb _ _ (omega arith) in
    rw fits refl

ten_read : (a b c d e f g h i j : ℕ) (more : List ℕ)
    → parts_at (a ∷ b ∷ c ∷ d ∷ e ∷ f ∷ g ∷ h ∷ i ∷ j ∷ more) ≡ from_size (from_be_bytes w16 (a ∷ b ∷ [])) (from_be_bytes w16 (c ∷ d ∷ [])) (from_be_bytes w32 (e ∷ f ∷ g ∷ h ∷ [])) (from_be_bytes w16 (i ∷ j ∷ [])) more
unfolding parts_at
ten_read a b c d e f g h i j more =
    rw (two_first a b (c ∷ d ∷ e ∷ f ∷ g ∷ h ∷ i ∷ j ∷ more), two_first c d (e ∷ f ∷ g ∷ h ∷ i ∷ j ∷ more), four_first e f g h (i ∷ j ∷ more), two_first i j more) refl

fixed_read : (bytes : List ℕ) → 10 ≤ length bytes → parts_at bytes ≡ from_size (type_of bytes) (class_of bytes) (ttl_of bytes) (size_of bytes) (drop 10 bytes)
fixed_read bytes long =
    let t = ten_of bytes long in
    subst (λ (l : List ℕ). parts_at l ≡ from_size (type_of l) (class_of l) (ttl_of l) (size_of l) (drop 10 l)) (sym t.is) (ten_read t.a t.b t.c t.d t.e t.f t.g t.h t.i t.j t.more)

-- ---- what is read

-- the octets of a part after ten
later_octets : (bytes found rest : List ℕ) (size : ℕ) → octets (10 + size) bytes ≡ Some (found, rest) → octets size (drop 10 bytes) ≡ Some (drop 10 found, rest)
later_octets bytes found rest size e =
    let spelled = octets_spelled (10 + size) bytes found rest e in
    let long : length (drop 10 found) ≡ size = omega (arith, length-drop 10 found, spelled.0) in
    ap (λ (l : List ℕ). octets size (drop 10 l)) spelled.1 ∙ ap (octets size) (drop-append-le 10 found rest (omega (arith, spelled.0))) ∙ octets_read size (drop 10 found) rest long

later_none : (bytes : List ℕ) (size : ℕ) → octets (10 + size) bytes ≡ None → 10 ≤ length bytes → octets size (drop 10 bytes) ≡ None
later_none bytes size e long = by (ltb (length bytes) (10 + size)) refl e where
  by : (b : Bool) → ltb (length bytes) (10 + size) ≡ b → cond {A = Option (List ℕ × List ℕ)} b None (Some (take (10 + size) bytes, drop (10 + size) bytes)) ≡ None → octets size (drop 10 bytes) ≡ None
  by false is e = absurd cc
  by true is e =
      let fewer : ltb (length (drop 10 bytes)) size ≡ true = lt-ltb _ _ (omega (arith, ltb-true _ _ is, length-drop 10 bytes, long)) in
      rw fewer refl

pub parts_read : (bytes found rest : List ℕ) → octets (10 + size_of bytes) bytes ≡ Some (found, rest)
    → parts_at bytes ≡ Some (record { rtype = type_of bytes; class = class_of bytes; ttl = ttl_of bytes; content = drop 10 found }, rest)
parts_read bytes found rest e =
    let spelled = octets_spelled (10 + size_of bytes) bytes found rest e in
    let long : 10 ≤ length bytes = omega (arith, spelled.0, ap length spelled.1, length-append found rest) in
    fixed_read bytes long ∙ rw (later_octets bytes found rest (size_of bytes) e) refl

pub no_data_no_parts : (bytes : List ℕ) → octets (10 + size_of bytes) bytes ≡ None → 10 ≤ length bytes → parts_at bytes ≡ None
no_data_no_parts bytes e long = fixed_read bytes long ∙ rw (later_none bytes (size_of bytes) e long) refl

pub short_data : (bytes found rest : List ℕ) → octets (10 + size_of bytes) bytes ≡ Some (found, rest) → size_of bytes < 2 ^ 16 → length (take (length found - 10) (drop 10 found)) < 2 ^ 16
short_data bytes found rest e fits =
    omega (arith, (octets_spelled (10 + size_of bytes) bytes found rest e).0, length-drop 10 found, length-take (length found - 10) (drop 10 found), fits)

-- ---- fewer octets than ten

taken : (w : Width) (bytes : List ℕ) (n : ℕ) (rest : List ℕ) → number w bytes ≡ Some (n, rest) → length bytes ≡ byte_len w + length rest
taken w bytes n rest e = by (ltb (length bytes) (byte_len w)) refl e where
  by : (b : Bool) → ltb (length bytes) (byte_len w) ≡ b → cond {A = Option (ℕ × List ℕ)} b None (Some (from_be_bytes w (take (byte_len w) bytes), drop (byte_len w) bytes)) ≡ Some (n, rest) → length bytes ≡ byte_len w + length rest
  by true is e = absurd cc
  by false is e = omega (arith, ltb-false _ _ is, ap length (some_pair_parts (from_be_bytes w (take (byte_len w) bytes)) n (drop (byte_len w) bytes) rest e).1, length-drop (byte_len w) bytes)

parts_long : (bytes : List ℕ) (p : Parts) (rest : List ℕ) → parts_at bytes ≡ Some (p, rest) → 10 ≤ length bytes
unfolding parts_at
parts_long bytes p rest e =
    let t = then_some (number w16 bytes) _ _ e in
    let c = then_some (number w16 t.0.1) _ _ t.2 in
    let l = then_some (number w32 c.0.1) _ _ c.2 in
    let s = then_some (number w16 l.0.1) _ _ l.2 in
    omega (arith, taken w16 bytes t.0.0 t.0.1 t.1, taken w16 t.0.1 c.0.0 c.0.1 c.1, taken w32 c.0.1 l.0.0 l.0.1 l.1, taken w16 l.0.1 s.0.0 s.0.1 s.1)

pub few_no_parts : (bytes : List ℕ) → length bytes < 10 → parts_at bytes ≡ None
few_no_parts bytes short = by (parts_at bytes) refl where
  by : (read : Option (Parts × List ℕ)) → parts_at bytes ≡ read → read ≡ None
  by None is = refl
  by (Some (p, rest)) is = absurd (omega (arith, short, parts_long bytes p rest is))

-- ---- what is written

two_written : (x y : ℕ) → x < 256 → y < 256 → (n : ℕ) → n ≡ from_be_bytes w16 (x ∷ y ∷ []) → to_be_bytes w16 n ≡ x ∷ y ∷ []
two_written x y fx fy n is = be_bytes_2 (x ∷ y ∷ []) n refl each is where
  each : (i : ℕ) → get_or (x ∷ y ∷ []) i 0 < 256
  each zero = fx
  each (suc zero) = fy
  each (suc (suc i)) = omega arith

four_written : (x y z v : ℕ) → x < 256 → y < 256 → z < 256 → v < 256 → to_be_bytes w32 (from_be_bytes w32 (x ∷ y ∷ z ∷ v ∷ [])) ≡ x ∷ y ∷ z ∷ v ∷ []
four_written x y z v fx fy fz fv = be_bytes_4 (x ∷ y ∷ z ∷ v ∷ []) _ refl each refl where
  each : (i : ℕ) → get_or (x ∷ y ∷ z ∷ v ∷ []) i 0 < 256
  each zero = fx
  each (suc zero) = fy
  each (suc (suc zero)) = fz
  each (suc (suc (suc zero))) = fv
  each (suc (suc (suc (suc i)))) = omega arith

abbrev AreParts : List ℕ → List ℕ → Type 0
AreParts bytes found = found ≡ octets_of_parts [] (type_of bytes) (class_of bytes) (ttl_of bytes) (drop 10 found)

ten_written : (a b c d e f g h i j : ℕ) (more rest : List ℕ) → AreOctets (a ∷ b ∷ c ∷ d ∷ e ∷ f ∷ g ∷ h ∷ i ∷ j ∷ (more ++ rest)) → length more ≡ from_be_bytes w16 (i ∷ j ∷ [])
    → AreParts (a ∷ b ∷ c ∷ d ∷ e ∷ f ∷ g ∷ h ∷ i ∷ j ∷ (more ++ rest)) (a ∷ b ∷ c ∷ d ∷ e ∷ f ∷ g ∷ h ∷ i ∷ j ∷ more)
ten_written a b c d e f g h i j more rest are size =
    let rtype = two_written a b (are 0) (are 1) _ refl in
    let class = two_written c d (are 2) (are 3) _ refl in
    let ttl = four_written e f g h (are 4) (are 5) (are 6) (are 7) in
    let long = two_written i j (are 8) (are 9) (length more) size in
    λ k. sym rtype k ++ (sym class k ++ (sym ttl k ++ (sym long k ++ more)))

pub parts_written : (bytes found rest : List ℕ) → AreOctets bytes → octets (10 + size_of bytes) bytes ≡ Some (found, rest) → AreParts bytes found
parts_written bytes found rest are e =
    let spelled = octets_spelled (10 + size_of bytes) bytes found rest e in
    let t = ten_of found (omega (arith, spelled.0)) in
    let there : bytes ≡ t.a ∷ t.b ∷ t.c ∷ t.d ∷ t.e ∷ t.f ∷ t.g ∷ t.h ∷ t.i ∷ t.j ∷ (t.more ++ rest) = spelled.1 ∙ ap (λ (l : List ℕ). l ++ rest) t.is in
    let size : length t.more ≡ from_be_bytes w16 (t.i ∷ t.j ∷ []) = omega (arith, spelled.0, ap length t.is, ap size_of there) in
    subst (λ (l : List ℕ). AreParts l found) (sym there)
    (subst (λ (l : List ℕ). AreParts (t.a ∷ t.b ∷ t.c ∷ t.d ∷ t.e ∷ t.f ∷ t.g ∷ t.h ∷ t.i ∷ t.j ∷ (t.more ++ rest)) l) (sym t.is)
    (ten_written t.a t.b t.c t.d t.e t.f t.g t.h t.i t.j t.more rest (subst AreOctets there are) size))
