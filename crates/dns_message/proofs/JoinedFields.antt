-- Fields of fixed size are read at once as they are read one after another.
use Rattle.std.proofs.Common.{◌≡◌, ℕ, ◌+◌, ◌-◌, ◌<◌, ◌≤◌, Bool, true, false, cond, ltb, List, [], ◌∷◌, ◌++◌, length, take, drop, map, Option, Some, None, refl, sym, ap, subst, ◌∙◌, arith, append_assoc}
use Rattle.std.specs.Prelude.{◌&&◌, ◌==◌, ◌||◌, not, ⊤}
use Rattle.std.specs.Int.{Width, w8, w16, w32, w64, w128, byte_len, from_be_bytes, to_be_bytes}
use Rattle.std.proofs.lemmas.Bool.{ltb-false, ltb-true}
use Rattle.std.proofs.lemmas.List.{drop-drop, get_or-drop, length-drop, length-take}
use Rattle.std.proofs.lemmas.Nat.{be_bytes_2, be_bytes_4}
use Rattle.std.proofs.Math.Seq.{take-add}
use Rattle.dns_wire.proofs.AtPlaces.{all_from}
use Rattle.dns_wire.proofs.NamesLemmas.{plain_name_leaves}
use Rattle.dns_wire.specs.Names.{plain_name}
use Rattle.dns_wire.specs.Octets.{Octets}
use Rattle.dns_wire.specs.Pointers.{name_at}
use Rattle.dns_wire.specs.Reading.{AreOctets, all_at, all_of, octet, with_end}
use Rattle.dns_wire.specs.Steps.{◌>>=◌, first_to}
use Rattle.dns_num.proofs.CountedData.{octets_prefix}
use Rattle.dns_record.specs.Data.{data_as, data_in}
use Rattle.dns_record.specs.DataLemmas.{fields_leave}
use Rattle.dns_record.specs.Fields.{Field, field_octets, fields_octets, lowercased_field}
use Rattle.dns_record.specs.Fields.FieldOf.{OtherOctets, Byte, Number}
use Rattle.dns_record.specs.Formats.{rdata_format}
use Rattle.dns_record.specs.Kinds.{Kind, field_in, fields_in, fields_of}
use Rattle.dns_record.specs.Types.{is_lowercased}
use Rattle.dns_record.proofs.EachFormat.{of_each_format}
use Rattle.dns_record.proofs.UncompressedNames.{all_placed, is_uncompressed_format}
use Rattle.dns_rdata.proofs.UncompressedData.{compressible_placed, compressible_read, uncompressed_unless_compressible}
use Rattle.dns_rdata.specs.Plain.{is_uncompressed_type}
use Rattle.dns_record.specs.FieldKinds.{kind_of, row_of, with_fixed}
use Rattle.dns_message.specs.LowercaseFields.{PutsFields}
use Rattle.dns_message.specs.PlainFields.{AreFields}
use Rattle.dns_record.specs.declared.field_kind.FieldKind.{FieldKind}
use Rattle.dns_record.specs.declared.field_kind.FieldKind.TheVariants.{Fixed, CompressibleName, UncompressedName, CharacterString, CountedOctets, CharacterStrings, Options, TypeBitMaps, NonEmptyTypeBitMaps, Rest}
use Rattle.dns_message.proofs.KeptOctets.{is_usual}
use Rattle.dns_message.proofs.LowercasedFields.{cased_uncompressed}

-- ---- a field of that many octets

abbrev FixedAt : Octets → ℕ → ℕ → Option (Field × ℕ) → Type 0
FixedAt c at n None = length c < at + n
FixedAt c at n (Some (f, end)) = (at + n ≤ length c) × (end ≡ at + n) × (field_octets f ≡ take n (drop at c)) × (lowercased_field f ≡ f)

many_at : (n : ℕ) (c : Octets) (at : ℕ) → FixedAt c at n (field_in name_at (Kind.FixedOctets n) c at)
many_at n c at = by (ltb (length c) at) refl (ltb (length (drop at c)) n) refl where
  by : (b : Bool) → ltb (length c) at ≡ b → (d : Bool) → ltb (length (drop at c)) n ≡ d → FixedAt c at n (first_to OtherOctets (cond b None (with_end c (cond d None (Some (take n (drop at c), drop n (drop at c)))))))
  by true out d short = omega (arith, ltb-true (length c) at out)
  by false within true short = omega (arith, ltb-false (length c) at within, ltb-true (length (drop at c)) n short, length-drop at c)
  by false within false long =
      let here = ltb-false (length c) at within in
      let fits = ltb-false (length (drop at c)) n long in
      (omega (arith, here, fits, length-drop at c), omega (arith, here, fits, length-drop at c, length-drop n (drop at c)), refl, refl)

number_at : (w : Width) → ((bs : List ℕ) (m : ℕ) → length bs ≡ byte_len w → AreOctets bs → m ≡ from_be_bytes w bs → to_be_bytes w m ≡ bs) → (c : Octets) (at : ℕ) → AreOctets c → FixedAt c at (byte_len w) (field_in name_at (Kind.Number w) c at)
number_at w back c at are = by (ltb (length c) at) refl (ltb (length (drop at c)) (byte_len w)) refl where
  by : (b : Bool) → ltb (length c) at ≡ b → (d : Bool) → ltb (length (drop at c)) (byte_len w) ≡ d
      → FixedAt c at (byte_len w) (first_to (Number w) (cond b None (with_end c (cond d None (Some (from_be_bytes w (take (byte_len w) (drop at c)), drop (byte_len w) (drop at c)))))))
  by true out d short = omega (arith, ltb-true (length c) at out)
  by false within true short = omega (arith, ltb-false (length c) at within, ltb-true (length (drop at c)) (byte_len w) short, length-drop at c)
  by false within false long =
      let here = ltb-false (length c) at within in
      let fits = ltb-false (length (drop at c)) (byte_len w) long in
      let all : length (take (byte_len w) (drop at c)) ≡ byte_len w = omega (arith, fits, length-take (byte_len w) (drop at c)) in
      let some : AreOctets (drop at c) = λ i. rw (get_or-drop at c i 0) (are (at + i)) in (
        omega (arith, here, fits, length-drop at c),
        omega (arith, here, fits, length-drop at c, length-drop (byte_len w) (drop at c)),
        back (take (byte_len w) (drop at c)) (from_be_bytes w (take (byte_len w) (drop at c))) all (octets_prefix (drop at c) (byte_len w) some) refl,
        refl,
      )

byte_at : (c : Octets) (at : ℕ) → FixedAt c at 1 (field_in name_at Kind.Byte c at)
byte_at c at = by (ltb (length c) at) refl (drop at c) refl where
  by : (b : Bool) → ltb (length c) at ≡ b → (rest : Octets) → drop at c ≡ rest → FixedAt c at 1 (first_to Byte (cond b None (with_end c (octet rest))))
  by true out rest is = omega (arith, ltb-true (length c) at out)
  by false within [] is = omega (arith, ltb-false (length c) at within, ap length is, length-drop at c)
  by false within (b ∷ rest) is =
      let here = ltb-false (length c) at within in
      let long : length c - at ≡ length rest + 1 = sym (length-drop at c) ∙ ap length is ∙ omega arith in
      (omega (arith, here, long), omega (arith, here, long), ap (take 1) (sym is), refl)

-- ---- fields with the same octets

abbrev SameRead : Option (List Field × ℕ) → Option (List Field × ℕ) → Type 0
SameRead None None = ⊤
SameRead (Some (fs, end)) (Some (gs, stop)) = (end ≡ stop) × (fields_octets fs ≡ fields_octets gs) × (fields_octets (map lowercased_field fs) ≡ fields_octets (map lowercased_field gs))
SameRead read other = ⊥

abbrev put_first : Field → Option (List Field × ℕ) → Option (List Field × ℕ)
put_first f read = ◌>>=◌ {A = List Field × ℕ} {B = List Field × ℕ} read (λ others. Some (f ∷ others.0, others.1))

abbrev then_rest : (ℕ → Option (List Field × ℕ)) → Option (Field × ℕ) → Option (List Field × ℕ)
then_rest more read = ◌>>=◌ {A = Field × ℕ} {B = List Field × ℕ} read (λ field. put_first field.0 (more field.1))

same_put : (f g : Field) (read other : Option (List Field × ℕ)) → field_octets f ≡ field_octets g → field_octets (lowercased_field f) ≡ field_octets (lowercased_field g) → SameRead read other → SameRead (put_first f read) (put_first g other)
same_put f g None None whole low same = tt
same_put f g None (Some (gs, stop)) whole low same = absurd same
same_put f g (Some (fs, end)) None whole low same = absurd same
same_put f g (Some (fs, end)) (Some (gs, stop)) whole low same = (same.0, λ i. whole i ++ same.1 i, λ i. low i ++ same.2 i)

same_first : (more others : ℕ → Option (List Field × ℕ)) (read : Option (Field × ℕ)) → ((end : ℕ) → SameRead (more end) (others end)) → SameRead (then_rest more read) (then_rest others read)
same_first more others None each = tt
same_first more others (Some (f, end)) each = same_put f f (more end) (others end) refl refl (each end)

-- a field of another kind with the same octets
fixed_alone : (c : Octets) (at n : ℕ) (x y : Option (Field × ℕ)) → FixedAt c at n x → FixedAt c at n y → (more others : ℕ → Option (List Field × ℕ)) → ((end : ℕ) → SameRead (more end) (others end)) → SameRead (then_rest more x) (then_rest others y)
fixed_alone c at n None None x y more others each = tt
fixed_alone c at n None (Some (g, stop)) x y more others each = absurd (omega (arith, x, y.0))
fixed_alone c at n (Some (f, end)) None x y more others each = absurd (omega (arith, x.0, y))
fixed_alone c at n (Some (f, end)) (Some (g, stop)) x y more others each =
    same_put f g (more end) (others stop) (x.2 ∙ sym y.2) (ap field_octets x.3 ∙ x.2 ∙ sym y.2 ∙ ap field_octets (sym y.3))
    (subst (λ (n : ℕ). SameRead (more end) (others n)) (x.1 ∙ sym y.1) (each end))

-- a field with the octets of two
none_put : (f : Field) (read : Option (List Field × ℕ)) → SameRead None read → SameRead None (put_first f read)
none_put f None same = tt
none_put f (Some (fs, end)) same = absurd same

put_joined : (f g h : Field) (read other : Option (List Field × ℕ)) → field_octets g ≡ field_octets f ++ field_octets h → field_octets (lowercased_field g) ≡ field_octets (lowercased_field f) ++ field_octets (lowercased_field h)
    → SameRead (put_first h read) other → SameRead (put_first g read) (put_first f other)
put_joined f g h None None whole low same = tt
put_joined f g h None (Some (gs, stop)) whole low same = absurd same
put_joined f g h (Some (fs, end)) None whole low same = absurd same
put_joined f g h (Some (fs, end)) (Some (gs, stop)) whole low same = (
  same.0,
  ap (λ (l : List ℕ). l ++ fields_octets fs) whole ∙ append_assoc (field_octets f) (field_octets h) (fields_octets fs) ∙ ap (λ (l : List ℕ). field_octets f ++ l) same.1,
  ap (λ (l : List ℕ). l ++ fields_octets (map lowercased_field fs)) low
      ∙ append_assoc (field_octets (lowercased_field f)) (field_octets (lowercased_field h)) (fields_octets (map lowercased_field fs))
      ∙ ap (λ (l : List ℕ). field_octets (lowercased_field f) ++ l) same.2,
)

fixed_joined : (c : Octets) (at m n : ℕ) (x y z : Option (Field × ℕ)) → FixedAt c at (m + n) x → FixedAt c at m y → FixedAt c (at + m) n z → (more others : ℕ → Option (List Field × ℕ)) → SameRead (then_rest more z) (others (at + m))
    → SameRead (then_rest more x) (then_rest others y)
fixed_joined c at m n None None z x y z-is more others later = tt
fixed_joined c at m n None (Some (f, stop)) None x y z-is more others later = none_put f (others stop) (subst (λ (n : ℕ). SameRead None (others n)) (sym y.1) later)
fixed_joined c at m n None (Some (f, stop)) (Some (h, last)) x y z-is more others later = absurd (omega (arith, x, z-is.0))
fixed_joined c at m n (Some (g, end)) None z x y z-is more others later = absurd (omega (arith, x.0, y))
fixed_joined c at m n (Some (g, end)) (Some (f, stop)) None x y z-is more others later = absurd (omega (arith, x.0, z-is))
fixed_joined c at m n (Some (g, end)) (Some (f, stop)) (Some (h, last)) x y z-is more others later =
    let whole : field_octets g ≡ field_octets f ++ field_octets h =
    x.2 ∙ take-add m n (drop at c) ∙ (λ i. sym y.2 i ++ (ap (take n) (drop-drop m at c) ∙ sym z-is.2) i) in
    let low : field_octets (lowercased_field g) ≡ field_octets (lowercased_field f) ++ field_octets (lowercased_field h) =
    ap field_octets x.3 ∙ whole ∙ (λ i. field_octets (sym y.3 i) ++ field_octets (sym z-is.3 i)) in
    let ends : last ≡ end = omega (arith, x.1, z-is.1) in
    put_joined f g h (more end) (others stop) whole low
    (subst (λ (n : ℕ). SameRead (put_first h (more n)) (others stop)) ends (subst (λ (n : ℕ). SameRead (put_first h (more last)) (others n)) (sym y.1) later))

-- ---- kinds one after another

with_more : (c : Octets) (n : ℕ) (kind : Kind) (kinds : List Kind) (row : List FieldKind) → ((at : ℕ) → FixedAt c at n (field_in name_at kind c at))
    → ((at : ℕ) → SameRead (fields_in name_at (map kind_of row) c at) (fields_in name_at kinds c at)) → (at : ℕ) → SameRead (fields_in name_at (map kind_of (with_fixed n row)) c at) (fields_in name_at (kind ∷ kinds) c at)
with_more c n kind kinds [] here again at = fixed_alone c at n _ _ (many_at n c at) (here at) (fields_in name_at [] c) (fields_in name_at kinds c) again
with_more c n kind kinds (Fixed m ∷ row) here again at =
    fixed_joined c at n m _ _ _ (many_at (n + m) c at) (here at) (many_at m c (at + n)) (fields_in name_at (map kind_of row) c) (fields_in name_at kinds c) (again (at + n))
with_more c n kind kinds (CompressibleName ∷ row) here again at = fixed_alone c at n _ _ (many_at n c at) (here at) (fields_in name_at (map kind_of (CompressibleName ∷ row)) c) (fields_in name_at kinds c) again
with_more c n kind kinds (UncompressedName ∷ row) here again at = fixed_alone c at n _ _ (many_at n c at) (here at) (fields_in name_at (map kind_of (UncompressedName ∷ row)) c) (fields_in name_at kinds c) again
with_more c n kind kinds (CharacterString ∷ row) here again at = fixed_alone c at n _ _ (many_at n c at) (here at) (fields_in name_at (map kind_of (CharacterString ∷ row)) c) (fields_in name_at kinds c) again
with_more c n kind kinds (CountedOctets ∷ row) here again at = fixed_alone c at n _ _ (many_at n c at) (here at) (fields_in name_at (map kind_of (CountedOctets ∷ row)) c) (fields_in name_at kinds c) again
with_more c n kind kinds (CharacterStrings ∷ row) here again at = fixed_alone c at n _ _ (many_at n c at) (here at) (fields_in name_at (map kind_of (CharacterStrings ∷ row)) c) (fields_in name_at kinds c) again
with_more c n kind kinds (Options ∷ row) here again at = fixed_alone c at n _ _ (many_at n c at) (here at) (fields_in name_at (map kind_of (Options ∷ row)) c) (fields_in name_at kinds c) again
with_more c n kind kinds (TypeBitMaps ∷ row) here again at = fixed_alone c at n _ _ (many_at n c at) (here at) (fields_in name_at (map kind_of (TypeBitMaps ∷ row)) c) (fields_in name_at kinds c) again
with_more c n kind kinds (NonEmptyTypeBitMaps ∷ row) here again at = fixed_alone c at n _ _ (many_at n c at) (here at) (fields_in name_at (map kind_of (NonEmptyTypeBitMaps ∷ row)) c) (fields_in name_at kinds c) again
with_more c n kind kinds (Rest ∷ row) here again at = fixed_alone c at n _ _ (many_at n c at) (here at) (fields_in name_at (map kind_of (Rest ∷ row)) c) (fields_in name_at kinds c) again

abbrev pub all_usual : List Kind → Bool
all_usual [] = true
all_usual (kind ∷ kinds) = is_usual kind && all_usual kinds

joined : (kinds : List Kind) (c : Octets) → all_usual kinds ≡ true → AreOctets c → (at : ℕ) → SameRead (fields_in name_at (map kind_of (row_of kinds)) c at) (fields_in name_at kinds c at)
joined [] c usual are at = (refl, refl, refl)
joined (Kind.Byte ∷ kinds) c usual are at = with_more c 1 Kind.Byte kinds (row_of kinds) (byte_at c) (joined kinds c usual are) at
joined (Kind.Number w16 ∷ kinds) c usual are at = with_more c 2 (Kind.Number w16) kinds (row_of kinds) (λ at. number_at w16 be_bytes_2 c at are) (joined kinds c usual are) at
joined (Kind.Number w32 ∷ kinds) c usual are at = with_more c 4 (Kind.Number w32) kinds (row_of kinds) (λ at. number_at w32 be_bytes_4 c at are) (joined kinds c usual are) at
joined (Kind.Number w8 ∷ kinds) c usual are at = absurd cc
joined (Kind.Number w64 ∷ kinds) c usual are at = absurd cc
joined (Kind.Number w128 ∷ kinds) c usual are at = absurd cc
joined (Kind.FixedOctets n ∷ kinds) c usual are at = with_more c n (Kind.FixedOctets n) kinds (row_of kinds) (many_at n c) (joined kinds c usual are) at
joined (Kind.CompressibleName ∷ kinds) c usual are at = same_first (fields_in name_at (map kind_of (row_of kinds)) c) (fields_in name_at kinds c) (field_in name_at Kind.CompressibleName c at) (joined kinds c usual are)
joined (Kind.UncompressedName ∷ kinds) c usual are at = same_first (fields_in name_at (map kind_of (row_of kinds)) c) (fields_in name_at kinds c) (field_in name_at Kind.UncompressedName c at) (joined kinds c usual are)
joined (Kind.CharacterString ∷ kinds) c usual are at = same_first (fields_in name_at (map kind_of (row_of kinds)) c) (fields_in name_at kinds c) (field_in name_at Kind.CharacterString c at) (joined kinds c usual are)
joined (Kind.CountedOctets ∷ kinds) c usual are at = same_first (fields_in name_at (map kind_of (row_of kinds)) c) (fields_in name_at kinds c) (field_in name_at Kind.CountedOctets c at) (joined kinds c usual are)
joined (Kind.CharacterStrings ∷ kinds) c usual are at = same_first (fields_in name_at (map kind_of (row_of kinds)) c) (fields_in name_at kinds c) (field_in name_at Kind.CharacterStrings c at) (joined kinds c usual are)
joined (Kind.Options ∷ kinds) c usual are at = same_first (fields_in name_at (map kind_of (row_of kinds)) c) (fields_in name_at kinds c) (field_in name_at Kind.Options c at) (joined kinds c usual are)
joined (Kind.TypeBitMaps ∷ kinds) c usual are at = same_first (fields_in name_at (map kind_of (row_of kinds)) c) (fields_in name_at kinds c) (field_in name_at Kind.TypeBitMaps c at) (joined kinds c usual are)
joined (Kind.NonEmptyTypeBitMaps ∷ kinds) c usual are at = same_first (fields_in name_at (map kind_of (row_of kinds)) c) (fields_in name_at kinds c) (field_in name_at Kind.NonEmptyTypeBitMaps c at) (joined kinds c usual are)
joined (Kind.Rest ∷ kinds) c usual are at = same_first (fields_in name_at (map kind_of (row_of kinds)) c) (fields_in name_at kinds c) (field_in name_at Kind.Rest c at) (joined kinds c usual are)

-- ---- data

puts_same : (c : Octets) (read other : Option (List Field × ℕ)) (old : Octets) (b : Bool) (new : Octets) → SameRead read other → PutsFields (all_at c read) old b new → PutsFields (all_at c other) old b new
puts_same c None None old b new same put = put
puts_same c None (Some (gs, stop)) old b new same put = absurd same
puts_same c (Some (fs, end)) None old b new same put = absurd same
puts_same c (Some (fs, end)) (Some (gs, stop)) old b new same put = by b (end == length c) (ap (λ (n : ℕ). n == length c) (sym same.0)) put where
  by : (b d : Bool) → (stop == length c) ≡ d → PutsFields (cond {A = Option (List Field)} d (Some fs) None) old b new → PutsFields (cond {A = Option (List Field)} (stop == length c) (Some gs) None) old b new
  by false true is put = absurd cc
  by false false is put = rw is refl
  by true true is put =
      let found : fs ≡ put.0 = cc in
      (gs, rw is refl, put.2 ∙ ap (λ (l : List Field). old ++ fields_octets (map lowercased_field l)) (sym found) ∙ ap (λ (l : Octets). old ++ l) same.2)
  by true false is put = let no : None ≡ Some put.0 = put.1 in absurd cc

-- what is put in the kinds of code is what the kinds put
pub joined_kinds : (kinds : List Kind) (row : List FieldKind) (c : Octets) (at : ℕ) (old : Octets) (b : Bool) (new : Octets) → all_usual kinds ≡ true → row ≡ row_of kinds → AreOctets c → PutsFields (all_at c (fields_in name_at (map kind_of row) c at)) old b new
    → PutsFields (all_at c (fields_in name_at kinds c at)) old b new
joined_kinds kinds row c at old b new usual is are put =
    puts_same c (fields_in name_at (map kind_of (row_of kinds)) c at) (fields_in name_at kinds c at) old b new (joined kinds c usual are at) (rw is at put)

-- and the RDATA format of a type
pub joined_puts : (rtype : ℕ) (row : List FieldKind) (c : Octets) (at : ℕ) (old : Octets) (b : Bool) (new : Octets) → row ≡ row_of (rdata_format rtype) → AreOctets c → PutsFields (all_at c (fields_in name_at (map kind_of row) c at)) old b new
    → PutsFields (data_in name_at rtype c at) old b new
joined_puts rtype row c at old b new is are put =
    rw (compressible_placed name_at rtype c at) (joined_kinds (rdata_format rtype) row c at old b new (of_each_format all_usual refl rtype) is are put)

are_same : (c : Octets) (read other : Option (List Field × ℕ)) (b : Bool) → SameRead read other → AreFields (all_at c read) b → AreFields (all_at c other) b
are_same c None None b same put = put
are_same c None (Some (gs, stop)) b same put = absurd same
are_same c (Some (fs, end)) None b same put = absurd same
are_same c (Some (fs, end)) (Some (gs, stop)) b same put = by b (end == length c) (ap (λ (n : ℕ). n == length c) (sym same.0)) put where
  by : (b d : Bool) → (stop == length c) ≡ d → AreFields (cond {A = Option (List Field)} d (Some fs) None) b → AreFields (cond {A = Option (List Field)} (stop == length c) (Some gs) None) b
  by false true is put = absurd cc
  by false false is put = rw is refl
  by true true is put = (gs, rw is refl)
  by true false is put = let no : None ≡ Some put.0 = put.1 in absurd cc

abbrev stays_uncompressed : List Kind → Bool
stays_uncompressed kinds = not (is_uncompressed_format kinds) || is_uncompressed_format (map kind_of (row_of kinds))

-- all the octets, as if they were the contents
from_start : (kinds : List Kind) (bytes : Octets) → is_uncompressed_format kinds ≡ true → all_of (fields_of plain_name kinds bytes) ≡ all_at bytes (fields_in name_at kinds bytes 0)
from_start kinds bytes uncompressed =
    sym (all_placed name_at plain_name plain_name_leaves kinds bytes 0 uncompressed ∙ all_from (fields_of plain_name kinds) bytes 0 (fields_leave plain_name plain_name_leaves kinds) (omega arith))

-- what is found in the kinds of code is found by the RDATA format
pub joined_are : (rtype : ℕ) (row : List FieldKind) (bytes : Octets) (b : Bool) → row ≡ row_of (rdata_format rtype) → is_lowercased rtype ≡ false → AreOctets bytes → AreFields (all_of (fields_of plain_name (map kind_of row) bytes)) b → AreFields (data_as plain_name rtype bytes) b
unfolding is_uncompressed_type
joined_are rtype row bytes b is cased are found =
    let uncompressed : is_uncompressed_format (rdata_format rtype) ≡ true = uncompressed_unless_compressible rtype (cased_uncompressed rtype cased) in
    let also : is_uncompressed_format (map kind_of (row_of (rdata_format rtype))) ≡ true = implied (is_uncompressed_format (rdata_format rtype)) _ uncompressed (of_each_format stays_uncompressed refl rtype) in
    rw (compressible_read plain_name rtype bytes, from_start (rdata_format rtype) bytes uncompressed) (
    are_same bytes (fields_in name_at (map kind_of (row_of (rdata_format rtype))) bytes 0) (fields_in name_at (rdata_format rtype) bytes 0) b
    (joined (rdata_format rtype) bytes (of_each_format all_usual refl rtype) are 0) (rw (is, from_start (map kind_of (row_of (rdata_format rtype))) bytes also) at found)
    )
  where
    implied : (a b : Bool) → a ≡ true → (not a || b) ≡ true → b ≡ true
    implied true b is e = e
    implied false b is e = absurd cc
