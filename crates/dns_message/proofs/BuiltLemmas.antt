-- Records that were built in a message are read again.
use Rattle.std.proofs.Common.{◌≡◌, ℕ, ◌+◌, ◌-◌, ◌*◌, ◌<◌, ◌≤◌, ◌^◌, Bool, true, false, cond, List, [], ◌∷◌, ◌++◌, length, take, drop, Option, Some, None, refl, sym, ap, subst, ◌∙◌, append_assoc, arith}
use Rattle.std.specs.Prelude.{map, unwrap_or, ◌==◌, ◌&&◌, ◌||◌, not}
use Rattle.std.specs.Cmp.{first_so, second_so}
use Rattle.std.specs.Int.{Width, w16, w32, byte_len, to_be_bytes}
use Rattle.std.specs.List.{AllByRecursion}
use Rattle.std.proofs.lemmas.Bool.Decides.{nat_tests}
use Rattle.std.proofs.lemmas.List.{drop_at, take_at, drop_all, length-append, length-take, append-nil}
use Rattle.dns_wire.specs.Compression.{FitsIn, ReadsAlike, longest_recorded, cut_at, compress, recorded}
use Rattle.dns_wire.specs.Names.{IsName, plain_name, labels_wire, wire, lowered}
use Rattle.dns_wire.specs.Layout.{LayoutPart, part_writes, list_writes, laid}
use Rattle.dns_wire.specs.Layout.LayoutPart.{NamePart}
use Rattle.dns_message.specs.LayoutRead.{IsLayoutPart, LayoutAt}
use Rattle.dns_wire.specs.Pointers.{name_at}
use Rattle.dns_wire.specs.Reading.{number, plain_at, all_at}
use Rattle.dns_wire.specs.declared.sizes.TheConstants.{HEADER_SIZE, POINTER_TAG}
use Rattle.dns_wire.proofs.Following.{name_at_finds}
use Rattle.dns_message.proofs.Laid.{part_fits}
use Rattle.dns_wire.proofs.NamesLemmas.{plain_name_leaves}
use Rattle.dns_wire.proofs.Rereading.{compressed_read}
use Rattle.dns_wire.proofs.RunLemmas.{fits_more}
use Rattle.dns_wire.proofs.CompressionLemmas.{known_is}
use Rattle.dns_wire.proofs.Walk.{wire_long, labels_wire-append}
use Rattle.dns_num.specs.InMessage.{zeros}
use Rattle.dns_message.proofs.SizedRead.{sized_laid_read}
use Rattle.dns_record.specs.Data.{data_in}
use Rattle.dns_record.specs.Fields.{Field, field_octets, fields_octets, lowercased_field, canonical_fields}
use Rattle.dns_record.specs.Fields.FieldOf.{CompressibleName, UncompressedName, CharacterString, CountedOctets, CharacterStrings, OtherOctets, Byte, Number}
use Rattle.dns_record.specs.InMessage.{fixed_header}
use Rattle.dns_record.specs.InPlace.{OctetsAt}
use Rattle.dns_record.specs.Kinds.{Kind, field_of, field_in, fields_in}
use Rattle.dns_record.specs.Questions.{question_in}
use Rattle.dns_record.specs.Records.{Parts, parts_at, record_in}
use Rattle.dns_record.specs.Formats.{rdata_format, rdata_formats, format_under, format_unknown}
use Rattle.dns_record.specs.Types.{is_lowercased}
use Rattle.dns_record.proofs.UncompressedNames.{is_uncompressed, all_uncompressed, field_placed}
use Rattle.dns_record.proofs.PartsLemmas.{parts_found_at}
use Rattle.dns_record.proofs.Places.{in_prefix, number_at, read_placed, read_at}
use Rattle.dns_message.specs.Built.{field_part, ReadAgain, QuestionAgain}
use Rattle.dns_message.specs.Messages.{RecordValue}
use Rattle.dns_message.specs.WellFormed.{WellFormed}
use Rattle.dns_message.proofs.KindLemmas.{FitsWidth, Suits, AllSuit, is_last, is_none, is_format, format_parts, format_is_format, number_back, field_back}
use Rattle.dns_message.proofs.Whole.{content_suits}

-- ---- fields

-- the fields that are read again: the same, except for ASCII case in names that were compressed
record Again (kinds : List Kind) (c : List ℕ) (at : ℕ) (fs : List Field) : Type 0 where
  fields : List Field
  read : fields_in name_at kinds c at ≡ Some (fields, length c)
  alike : map lowercased_field fields ≡ map lowercased_field fs
  same : all_uncompressed kinds ≡ true → fields ≡ fs

nothing_after : (kinds : List Kind) (fs : List Field) (c : List ℕ) (at : ℕ) → is_none kinds ≡ true → AllSuit kinds fs → LayoutAt c at (map field_part fs) (length c) → at ≡ length c
nothing_after [] [] c at none suits p = p
nothing_after [] (f ∷ fs) c at none suits p = absurd suits
nothing_after (kind ∷ kinds) fs c at none suits p = absurd cc

chosen_last : (b d : Bool) → (not b || d) ≡ true → b ≡ true → d ≡ true
chosen_last true d e h = e
chosen_last false d e h = absurd cc

-- a field that is no name with pointers
uncompressed_read : (kind : Kind) (f : Field) (c : List ℕ) (at end : ℕ) → is_uncompressed kind ≡ true → Suits kind f → OctetsAt c at (field_octets f) end → (is_last kind ≡ true → end ≡ length c) → field_in name_at kind c at ≡ Some (f, end)
uncompressed_read kind f c at end uncompressed suits o last =
    let i = in_prefix c at (field_octets f) end o in
    let nothing : is_last kind ≡ true → drop end c ≡ [] = λ e. drop_all end c (omega (arith, last e)) in
    field_placed name_at plain_name plain_name_leaves kind c at uncompressed
    ∙ read_placed (field_of plain_name kind) c at f end (record {
      within = i.within;
      rest = drop end c;
      read = ap (field_of plain_name kind) i.is ∙ field_back kind f (drop end c) suits nothing;
      end_is = i.end_is;
    })

uncompressed_again : (kind : Kind) (f : Field) (kinds : List Kind) (fs : List Field) (c : List ℕ) (at : ℕ) → is_uncompressed kind ≡ true → is_format (kind ∷ kinds) ≡ true → Suits kind f → AllSuit kinds fs
    → (at + length (field_octets f) ≤ length c) × (take (length (field_octets f)) (drop at c) ≡ field_octets f) × LayoutAt c (at + length (field_octets f)) (map field_part fs) (length c)
    → Again kinds c (at + length (field_octets f)) fs → Again (kind ∷ kinds) c at (f ∷ fs)
uncompressed_again kind f kinds fs c at uncompressed rdata_format suits others p later =
    let end : ℕ = at + length (field_octets f) in
    let parts = format_parts kind kinds rdata_format in
    let first : field_in name_at kind c at ≡ Some (f, end) = uncompressed_read kind f c at end uncompressed suits (record { end_is = refl; within = p.0; occur = sym p.1 }) (λ h. nothing_after kinds fs c end (chosen_last (is_last kind) (is_none kinds) parts.last h) others p.2) in
    record {
      fields = f ∷ later.fields;
      read = rw (first, later.read) refl;
      alike = ap (λ (l : List Field). lowercased_field f ∷ l) later.alike;
      same = λ h. ap (λ (l : List Field). f ∷ l) (later.same (rw uncompressed at h));
    }

again : (kinds : List Kind) (fs : List Field) (c : List ℕ) (at : ℕ) → is_format kinds ≡ true → AllSuit kinds fs → LayoutAt c at (map field_part fs) (length c) → Again kinds c at fs
again [] [] c at rdata_format suits p = record { fields = []; read = ap (λ (n : ℕ). Some ([], n)) p; alike = refl; same = λ e. refl }
again [] (f ∷ fs) c at rdata_format suits p = absurd suits
again (kind ∷ kinds) [] c at rdata_format suits p = absurd suits
again (Kind.CompressibleName ∷ kinds) (CompressibleName labels ∷ fs) c at rdata_format suits p =
    let later = again kinds fs c p.0 (format_parts Kind.CompressibleName kinds rdata_format).others suits.1 p.2 in
    record {
      fields = CompressibleName p.1.there ∷ later.fields;
      read = rw (name_at_finds c at p.1.there p.0 p.1.name, later.read) refl;
      alike = ap (λ (l : List (List ℕ)). CompressibleName l ∷ map lowercased_field later.fields) p.1.alike ∙ ap (λ (l : List Field). CompressibleName (lowered labels) ∷ l) later.alike;
      same = λ e. absurd cc;
    }
again (Kind.Byte ∷ kinds) (Byte b ∷ fs) c at rdata_format suits p = uncompressed_again Kind.Byte (Byte b) kinds fs c at refl rdata_format suits.0 suits.1 p (again kinds fs c (at + length (field_octets (Byte b))) (format_parts Kind.Byte kinds rdata_format).others suits.1 p.2)
again (Kind.Number w ∷ kinds) (Number v n ∷ fs) c at rdata_format suits p = uncompressed_again (Kind.Number w) (Number v n) kinds fs c at refl rdata_format suits.0 suits.1 p (again kinds fs c (at + length (field_octets (Number v n))) (format_parts (Kind.Number w) kinds rdata_format).others suits.1 p.2)
again (Kind.FixedOctets n ∷ kinds) (OtherOctets o ∷ fs) c at rdata_format suits p = uncompressed_again (Kind.FixedOctets n) (OtherOctets o) kinds fs c at refl rdata_format suits.0 suits.1 p (again kinds fs c (at + length o) (format_parts (Kind.FixedOctets n) kinds rdata_format).others suits.1 p.2)
again (Kind.UncompressedName ∷ kinds) (UncompressedName labels ∷ fs) c at rdata_format suits p = uncompressed_again Kind.UncompressedName (UncompressedName labels) kinds fs c at refl rdata_format suits.0 suits.1 p (again kinds fs c (at + length (wire labels)) (format_parts Kind.UncompressedName kinds rdata_format).others suits.1 p.2)
again (Kind.CharacterString ∷ kinds) (CharacterString o ∷ fs) c at rdata_format suits p = uncompressed_again Kind.CharacterString (CharacterString o) kinds fs c at refl rdata_format suits.0 suits.1 p (again kinds fs c (at + length (length o ∷ o)) (format_parts Kind.CharacterString kinds rdata_format).others suits.1 p.2)
again (Kind.CountedOctets ∷ kinds) (CountedOctets o ∷ fs) c at rdata_format suits p = uncompressed_again Kind.CountedOctets (CountedOctets o) kinds fs c at refl rdata_format suits.0 suits.1 p (again kinds fs c (at + length (length o ∷ o)) (format_parts Kind.CountedOctets kinds rdata_format).others suits.1 p.2)
again (Kind.CharacterStrings ∷ kinds) (CharacterStrings o ∷ fs) c at rdata_format suits p = uncompressed_again Kind.CharacterStrings (CharacterStrings o) kinds fs c at refl rdata_format suits.0 suits.1 p (again kinds fs c (at + length o) (format_parts Kind.CharacterStrings kinds rdata_format).others suits.1 p.2)
again (Kind.Options ∷ kinds) (OtherOctets o ∷ fs) c at rdata_format suits p = uncompressed_again Kind.Options (OtherOctets o) kinds fs c at refl rdata_format suits.0 suits.1 p (again kinds fs c (at + length o) (format_parts Kind.Options kinds rdata_format).others suits.1 p.2)
again (Kind.TypeBitMaps ∷ kinds) (OtherOctets o ∷ fs) c at rdata_format suits p = uncompressed_again Kind.TypeBitMaps (OtherOctets o) kinds fs c at refl rdata_format suits.0 suits.1 p (again kinds fs c (at + length o) (format_parts Kind.TypeBitMaps kinds rdata_format).others suits.1 p.2)
again (Kind.NonEmptyTypeBitMaps ∷ kinds) (OtherOctets o ∷ fs) c at rdata_format suits p = uncompressed_again Kind.NonEmptyTypeBitMaps (OtherOctets o) kinds fs c at refl rdata_format suits.0 suits.1 p (again kinds fs c (at + length o) (format_parts Kind.NonEmptyTypeBitMaps kinds rdata_format).others suits.1 p.2)
again (Kind.Rest ∷ kinds) (OtherOctets o ∷ fs) c at rdata_format suits p = uncompressed_again Kind.Rest (OtherOctets o) kinds fs c at refl rdata_format suits.0 suits.1 p (again kinds fs c (at + length o) (format_parts Kind.Rest kinds rdata_format).others suits.1 p.2)
again (kind ∷ kinds) (f ∷ fs) c at rdata_format suits p = absurd suits.0

-- what is compressed of these fields are names
pub parts_are : (kinds : List Kind) (fs : List Field) → AllSuit kinds fs → AllByRecursion IsLayoutPart (map field_part fs)
parts_are [] [] suits = tt
parts_are [] (f ∷ fs) suits = absurd suits
parts_are (kind ∷ kinds) [] suits = absurd suits
parts_are (kind ∷ kinds) (f ∷ fs) suits = (part_is kind f suits.0, parts_are kinds fs suits.1) where
  part_is : (kind : Kind) (f : Field) → Suits kind f → IsLayoutPart (field_part f)
  part_is Kind.CompressibleName (CompressibleName labels) is = is
  part_is kind (UncompressedName labels) is = tt
  part_is kind (CharacterString o) is = tt
  part_is kind (CountedOctets o) is = tt
  part_is kind (CharacterStrings o) is = tt
  part_is kind (OtherOctets o) is = tt
  part_is kind (Byte b) is = tt
  part_is kind (Number w n) is = tt
  part_is kind f is = absurd is

-- ---- what is compressed is no longer

compress_short : (contents places : List ℕ) (labels : List (List ℕ)) → length (compress contents places labels) ≤ length (wire labels)
compress_short contents places labels = by (longest_recorded contents places 0 labels) refl where
  by : (known : Option (ℕ × ℕ)) → longest_recorded contents places 0 labels ≡ known → length (cut_at (wire labels) known) ≤ length (wire labels)
  by None e = omega arith
  by (Some (prefix, place)) e =
      let k = known_is contents places labels prefix place e in
      let long : length (labels_wire labels) ≡ length (labels_wire k.before) + length (labels_wire k.suffix) = ap (λ (l : List (List ℕ)). length (labels_wire l)) k.labels_is ∙ ap length (labels_wire-append k.before k.suffix) ∙ length-append (labels_wire k.before) (labels_wire k.suffix) in
      let two : length (to_be_bytes w16 (POINTER_TAG * 256 + HEADER_SIZE + place)) ≡ 2 = refl in
      omega (arith, length-append (take prefix (wire labels)) (to_be_bytes w16 (POINTER_TAG * 256 + HEADER_SIZE + place)), two, length-take prefix (wire labels), k.prefix_is, long, wire_long labels, suffix_long k.suffix k.some) where
        suffix_long : (suffix : List (List ℕ)) → 0 < length suffix → 1 ≤ length (labels_wire suffix)
        suffix_long [] some = absurd (omega arith)
        suffix_long (label ∷ labels) some = omega arith

laid_short : (fs : List Field) (contents places : List ℕ) → length (laid (map field_part fs) contents places).0 ≤ length (fields_octets fs)
unfolding list_writes
laid_short [] contents places = omega arith
laid_short (f ∷ fs) contents places =
    let first = part_writes (field_part f) contents places in
    let rest = laid (map field_part fs) (contents ++ first.0) first.1 in
    omega (arith, field_short f, laid_short fs (contents ++ first.0) first.1, length-append first.0 rest.0, length-append (field_octets f) (fields_octets fs)) where
      field_short : (f : Field) → length (part_writes (field_part f) contents places).0 ≤ length (field_octets f)
      field_short (CompressibleName labels) = compress_short contents places labels
      field_short (UncompressedName labels) = omega arith
      field_short (CharacterString o) = omega arith
      field_short (CountedOctets o) = omega arith
      field_short (CharacterStrings o) = omega arith
      field_short (OtherOctets o) = omega arith
      field_short (Byte b) = omega arith
      field_short (Number w n) = omega arith

-- ---- if names may be compressed, case counts for nothing

-- a type with such names is one of the nine
abbrev formats_lowercase : List (ℕ × List Kind) → Bool
formats_lowercase [] = true
formats_lowercase (first ∷ others) = (is_lowercased first.0 || all_uncompressed first.1) && formats_lowercase others

either_holds : (b d : Bool) → (b || d) ≡ true → b ≡ false → d ≡ true
either_holds true d e h = absurd cc
either_holds false d e h = e

lowercases_found : (table : List (ℕ × List Kind)) (rtype : ℕ) → formats_lowercase table ≡ true → is_lowercased rtype ≡ false → all_uncompressed (unwrap_or (format_under table rtype) format_unknown) ≡ true
lowercases_found [] rtype e h = refl
lowercases_found (first ∷ others) rtype e h = by (rtype == first.0) refl (lowercases_found others rtype (second_so _ _ e) h) where
  by : (b : Bool) → (rtype == first.0) ≡ b → all_uncompressed (unwrap_or (format_under others rtype) format_unknown) ≡ true → all_uncompressed (unwrap_or (cond b (Some first.1) (format_under others rtype)) format_unknown) ≡ true
  by true is later =
      let same : rtype ≡ first.0 = grind (arith, nat_tests) in
      either_holds (is_lowercased first.0) (all_uncompressed first.1) (first_so _ _ e) (ap is_lowercased (sym same) ∙ h)
  by false is later = later

uncompressed_unless_lowercased : (rtype : ℕ) → is_lowercased rtype ≡ false → all_uncompressed (rdata_format rtype) ≡ true
uncompressed_unless_lowercased rtype h = lowercases_found rdata_formats rtype refl h

content_lowercases : (rtype : ℕ) (fields fs : List Field) → map lowercased_field fields ≡ map lowercased_field fs → (all_uncompressed (rdata_format rtype) ≡ true → fields ≡ fs) → canonical_fields rtype fields ≡ canonical_fields rtype fs
content_lowercases rtype fields fs alike same = by (is_lowercased rtype) refl where
  by : (b : Bool) → is_lowercased rtype ≡ b → cond b (map lowercased_field fields) fields ≡ cond b (map lowercased_field fs) fs
  by true e = alike
  by false e = same (uncompressed_unless_lowercased rtype e)

-- ---- a record

-- octets between others
octets_between : (c prefix octets back : List ℕ) (at : ℕ) → c ≡ prefix ++ (octets ++ back) → at ≡ length prefix → OctetsAt c at octets (at + length octets)
octets_between c prefix octets back at is place =
    let later : drop at c ≡ octets ++ back = ap (drop at) is ∙ drop_at prefix (octets ++ back) at (sym place) in
    record {
      end_is = refl;
      within = omega (arith, ap length is, length-append prefix (octets ++ back), length-append octets back);
      occur = sym (ap (take (length octets)) later ∙ take_at octets back (length octets) refl);
    }

number_between : (w : Width) (c prefix back : List ℕ) (at n : ℕ) → FitsWidth w n → length (to_be_bytes w n) ≡ byte_len w → c ≡ prefix ++ (to_be_bytes w n ++ back) → at ≡ length prefix → plain_at (number w) c at ≡ Some (n, at + byte_len w)
number_between w c prefix back at n few long is place =
    subst (λ (k : ℕ). plain_at (number w) c at ≡ Some (n, at + k)) long
    (read_at (number w) (to_be_bytes w) c at n (at + length (to_be_bytes w n)) (λ rest. number_back w n rest few) (octets_between c prefix (to_be_bytes w n) back at is place))

module _ (r : RecordValue) (c places more : List ℕ) (is : WellFormed r) (fits : FitsIn places c) where
  abbrev p : List ℕ
  p = compress c places r.owner

  abbrev known : List ℕ
  known = recorded places (c ++ p) (length c)

  abbrev numbers : List ℕ
  numbers = fixed_header r.rtype r.class r.ttl

  abbrev prefix : List ℕ
  prefix = (c ++ p) ++ numbers

  abbrev layout : List LayoutPart
  layout = map field_part r.content

  abbrev inner : List ℕ
  inner = (laid layout (prefix ++ zeros w16) known).0

  abbrev size : List ℕ
  size = to_be_bytes w16 (length inner)

  abbrev o : List ℕ
  o = p ++ (numbers ++ (size ++ inner))

  abbrev d : List ℕ
  d = (c ++ o) ++ more

  abbrev middle : ℕ
  middle = length c + length p

  suits : AllSuit (rdata_format r.rtype) r.content
  suits = content_suits r is

  middle_is : middle ≡ length (c ++ p)
  middle_is = sym (length-append c p)

  whole : c ++ o ≡ prefix ++ (size ++ inner)
  whole = sym (append_assoc c p (numbers ++ (size ++ inner))) ∙ sym (append_assoc (c ++ p) numbers (size ++ inner))

  owner_read : ReadsAlike d r.owner (length c) middle
  owner_read =
      let x = numbers ++ (size ++ inner) in
      subst (λ (l : List ℕ). ReadsAlike l r.owner (length c) middle) (sym (ap (λ (l : List ℕ). l ++ more) (sym (append_assoc c p x)) ∙ append_assoc (c ++ p) x more))
      (compressed_read c places (x ++ more) r.owner is.owner fits)

  -- ---- the numbers

  abbrev a : List ℕ
  a = to_be_bytes w16 r.rtype

  abbrev b : List ℕ
  b = to_be_bytes w16 r.class

  abbrev t : List ℕ
  t = to_be_bytes w32 r.ttl

  abbrev z : List ℕ
  z = size ++ (inner ++ more)

  flat : d ≡ (c ++ p) ++ (a ++ (b ++ (t ++ z)))
  flat =
      ap (λ (l : List ℕ). l ++ more) whole
      ∙ append_assoc prefix (size ++ inner) more
      ∙ ap (λ (l : List ℕ). prefix ++ l) (append_assoc size inner more)
      ∙ append_assoc (c ++ p) (a ++ (b ++ t)) z
      ∙ ap (λ (l : List ℕ). (c ++ p) ++ l) (append_assoc a (b ++ t) z ∙ ap (λ (l : List ℕ). a ++ l) (append_assoc b t z))

  second : d ≡ ((c ++ p) ++ a) ++ (b ++ (t ++ z))
  second = flat ∙ sym (append_assoc (c ++ p) a (b ++ (t ++ z)))

  third : d ≡ (((c ++ p) ++ a) ++ b) ++ (t ++ z)
  third = second ∙ sym (append_assoc ((c ++ p) ++ a) b (t ++ z))

  fourth : d ≡ ((((c ++ p) ++ a) ++ b) ++ t) ++ z
  fourth = third ∙ sym (append_assoc (((c ++ p) ++ a) ++ b) t z)

  rtype_read : plain_at (number w16) d middle ≡ Some (r.rtype, middle + 2)
  rtype_read = number_between w16 d (c ++ p) (b ++ (t ++ z)) middle r.rtype is.rtype refl flat middle_is

  class_read : plain_at (number w16) d (middle + 2) ≡ Some (r.class, middle + 2 + 2)
  class_read = number_between w16 d ((c ++ p) ++ a) (t ++ z) (middle + 2) r.class is.class refl second (omega (arith, length-append (c ++ p) a, middle_is))

  ttl_read : plain_at (number w32) d (middle + 2 + 2) ≡ Some (r.ttl, middle + 2 + 2 + 4)
  ttl_read = number_between w32 d (((c ++ p) ++ a) ++ b) z (middle + 2 + 2) r.ttl is.ttl refl third (omega (arith, length-append ((c ++ p) ++ a) b, length-append (c ++ p) a, middle_is))

  -- ---- the data

  abbrev at : ℕ
  at = middle + 2 + 2 + 4 + 2

  abbrev end : ℕ
  end = at + length inner

  short : length inner < 2 ^ 16
  short = omega (arith, is.size, laid_short r.content (prefix ++ zeros w16) known)

  size_read : plain_at (number w16) d (middle + 2 + 2 + 4) ≡ Some (length inner, at)
  size_read = number_between w16 d ((((c ++ p) ++ a) ++ b) ++ t) (inner ++ more) (middle + 2 + 2 + 4) (length inner) short refl fourth (omega (arith, length-append (((c ++ p) ++ a) ++ b) t, length-append ((c ++ p) ++ a) b, length-append (c ++ p) a, middle_is))

  prefix_long : length prefix ≡ middle + 2 + 2 + 4
  prefix_long = omega (arith, length-append (c ++ p) (a ++ (b ++ t)), length-append a (b ++ t), length-append b t, middle_is)

  at_is : length prefix + length size ≡ at
  at_is = omega (arith, prefix_long)

  end_is : end ≡ length (c ++ o)
  end_is = omega (arith, ap length whole, length-append prefix (size ++ inner), length-append size inner, prefix_long)

  upto : take end d ≡ c ++ o
  upto = take_at (c ++ o) more end (sym end_is)

  data_layout : LayoutAt (c ++ o) at layout (length (c ++ o))
  data_layout =
      let read = sized_laid_read w16 layout prefix known [] (fits_more (c ++ p) numbers known (part_fits c places fits (NamePart r.owner) is.owner)) (parts_are (rdata_format r.rtype) r.content suits) in
      let last : length prefix + length (size ++ inner) ≡ length (c ++ o) = omega (arith, ap length whole, length-append prefix (size ++ inner)) in
      subst (λ (n : ℕ). LayoutAt (c ++ o) at layout n) last
      (subst (λ (n : ℕ). LayoutAt (c ++ o) n layout (length prefix + length (size ++ inner))) at_is
      (subst (λ (l : List ℕ). LayoutAt l (length prefix + length size) layout (length prefix + length (size ++ inner))) (append-nil (prefix ++ (size ++ inner)) ∙ sym whole) read.2))

  fields_again : Again (rdata_format r.rtype) (c ++ o) at r.content
  fields_again = again (rdata_format r.rtype) r.content (c ++ o) at (format_is_format r.rtype) suits data_layout

  data_read : data_in name_at r.rtype (take end d) at ≡ Some fields_again.fields
  unfolding data_in
  data_read = rw (upto, fields_again.read) (whole_at (c ++ o) fields_again.fields) where
    whole_at : (l : List ℕ) (fs : List Field) → all_at l (Some (fs, length l)) ≡ Some fs
    whole_at l fs = let same : (length l == length l) ≡ true = grind (arith, nat_tests) in rw same refl

  fifth : d ≡ (((((c ++ p) ++ a) ++ b) ++ t) ++ size) ++ (inner ++ more)
  fifth = fourth ∙ sym (append_assoc ((((c ++ p) ++ a) ++ b) ++ t) size (inner ++ more))

  at_long : length (((((c ++ p) ++ a) ++ b) ++ t) ++ size) ≡ at
  at_long = omega (arith, length-append ((((c ++ p) ++ a) ++ b) ++ t) size, length-append (((c ++ p) ++ a) ++ b) t, length-append ((c ++ p) ++ a) b, length-append (c ++ p) a, middle_is)

  inner_at : OctetsAt d at inner end
  inner_at = record {
    end_is = refl;
    within = omega (arith, end_is, length-append (c ++ o) more);
    occur = sym (ap (take (length inner)) (ap (drop at) fifth ∙ drop_at (((((c ++ p) ++ a) ++ b) ++ t) ++ size) (inner ++ more) at at_long) ∙ take_at inner more (length inner) refl);
  }

  abbrev parts : Parts
  parts = record { rtype = r.rtype; class = r.class; ttl = r.ttl; content = inner }

  parts_read : plain_at parts_at d middle ≡ Some (parts, end)
  parts_read = parts_found_at d middle parts end (record {
    type_end = middle + 2;
    class_end = middle + 2 + 2;
    ttl_end = middle + 2 + 2 + 4;
    size_end = at;
    rtype = number_at w16 d middle r.rtype (middle + 2) rtype_read;
    class = number_at w16 d (middle + 2) r.class (middle + 2 + 2) class_read;
    ttl = number_at w32 d (middle + 2 + 2) r.ttl (middle + 2 + 2 + 4) ttl_read;
    size = number_at w16 d (middle + 2 + 2 + 4) (length inner) at size_read;
    content = inner_at;
  })

  data_begin : end - length inner ≡ at
  data_begin = omega arith

  content_read : data_in name_at r.rtype (take end d) (end - length inner) ≡ Some fields_again.fields
  content_read = ap (data_in name_at r.rtype (take end d)) data_begin ∙ data_read

  record_again : ReadAgain d (length c) r end
  unfolding record_in
  record_again = record {
    there = record { owner = owner_read.there; rtype = r.rtype; class = r.class; ttl = r.ttl; content = fields_again.fields };
    read = rw (name_at_finds d (length c) owner_read.there middle owner_read.name, parts_read, content_read) refl;
    alike = λ i. record { owner = owner_read.alike i; rtype = r.rtype; class = r.class; ttl = r.ttl; content = content_lowercases r.rtype fields_again.fields r.content fields_again.alike fields_again.same i };
  }

  pub record_read_again : ReadAgain d (length c) r (length c + length o)
  record_read_again = subst (λ (n : ℕ). ReadAgain d (length c) r n) (end_is ∙ length-append c o) record_again

-- ---- a question

module _ (labels : List (List ℕ)) (qtype class : ℕ) (c places more : List ℕ) (is : IsName labels) (few : qtype < 2 ^ 16) (small : class < 2 ^ 16) (fits : FitsIn places c) where
  abbrev asked : List ℕ
  asked = compress c places labels

  abbrev written : List ℕ
  written = (c ++ (asked ++ (to_be_bytes w16 qtype ++ to_be_bytes w16 class))) ++ more

  abbrev name_end : ℕ
  name_end = length c + length asked

  name_read : ReadsAlike written labels (length c) name_end
  name_read =
      let x = to_be_bytes w16 qtype ++ to_be_bytes w16 class in
      subst (λ (l : List ℕ). ReadsAlike l labels (length c) name_end) (sym (ap (λ (l : List ℕ). l ++ more) (sym (append_assoc c asked x)) ∙ append_assoc (c ++ asked) x more))
      (compressed_read c places (x ++ more) labels is fits)

  first_flat : written ≡ (c ++ asked) ++ (to_be_bytes w16 qtype ++ (to_be_bytes w16 class ++ more))
  first_flat =
      ap (λ (l : List ℕ). l ++ more) (sym (append_assoc c asked (to_be_bytes w16 qtype ++ to_be_bytes w16 class)))
      ∙ append_assoc (c ++ asked) (to_be_bytes w16 qtype ++ to_be_bytes w16 class) more
      ∙ ap (λ (l : List ℕ). (c ++ asked) ++ l) (append_assoc (to_be_bytes w16 qtype) (to_be_bytes w16 class) more)

  second_flat : written ≡ ((c ++ asked) ++ to_be_bytes w16 qtype) ++ (to_be_bytes w16 class ++ more)
  second_flat = first_flat ∙ sym (append_assoc (c ++ asked) (to_be_bytes w16 qtype) (to_be_bytes w16 class ++ more))

  qtype_read : plain_at (number w16) written name_end ≡ Some (qtype, name_end + 2)
  qtype_read = number_between w16 written (c ++ asked) (to_be_bytes w16 class ++ more) name_end qtype few refl first_flat (sym (length-append c asked))

  qclass_read : plain_at (number w16) written (name_end + 2) ≡ Some (class, name_end + 2 + 2)
  qclass_read = number_between w16 written ((c ++ asked) ++ to_be_bytes w16 qtype) more (name_end + 2) class small refl second_flat (omega (arith, length-append (c ++ asked) (to_be_bytes w16 qtype), length-append c asked))

  question_again : QuestionAgain written (length c) labels qtype class (name_end + 2 + 2)
  unfolding question_in
  question_again = record {
    there = name_read.there;
    read = rw (name_at_finds written (length c) name_read.there name_end name_read.name, qtype_read, qclass_read) refl;
    alike = name_read.alike;
  }

  pub question_read_again : QuestionAgain written (length c) labels qtype class (length c + length (asked ++ (to_be_bytes w16 qtype ++ to_be_bytes w16 class)))
  question_read_again = subst (λ (n : ℕ). QuestionAgain written (length c) labels qtype class n) (omega (arith, length-append asked (to_be_bytes w16 qtype ++ to_be_bytes w16 class), length-append (to_be_bytes w16 qtype) (to_be_bytes w16 class))) question_again
