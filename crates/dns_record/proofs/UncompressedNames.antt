-- If no name with pointers is among the kinds, a place in a message is read as the octets from there on.
use Rattle.std.proofs.Common.{◌≡◌, ℕ, ◌-◌, ◌≤◌, Bool, true, false, cond, ltb, List, [], ◌∷◌, length, drop, Option, Some, None, refl, sym, ap, ◌∙◌, arith}
use Rattle.std.specs.Prelude.{◌&&◌}
use Rattle.std.specs.Cmp.{first_so, second_so}
use Rattle.std.proofs.lemmas.Bool.{le-ltb, ltb-false}
use Rattle.std.proofs.lemmas.List.{length-drop}
use Rattle.dns_wire.specs.ReadingLemmas.{follows_both}
use Rattle.dns_wire.specs.Reading.{Follows, LeavesRest, octet, octets, number, plain_at, all_at, with_end}
use Rattle.dns_record.specs.DataLemmas.{field_leaves}
use Rattle.dns_wire.specs.Names.{plain_name}
use Rattle.dns_wire.specs.Steps.{◌>>=◌, first_to}
use Rattle.dns_record.specs.Fields.{FieldOf}
use Rattle.dns_record.specs.Fields.FieldOf.{UncompressedName, CharacterString, CountedOctets, CharacterStrings, OtherOctets, Byte, Number}
use Rattle.dns_record.specs.Kinds.{Kind, field_of, fields_of, field_in, fields_in}
use Rattle.dns_record.specs.Options.{options}
use Rattle.dns_record.specs.CharacterStrings.{character_string, character_strings}
use Rattle.dns_record.specs.TypeBitMaps.{bitmap, some_bitmap}

abbrev pub is_uncompressed : Kind → Bool
is_uncompressed Kind.CompressibleName = false
is_uncompressed kind = true

-- no name with pointers among the kinds
abbrev pub all_uncompressed : List Kind → Bool
all_uncompressed [] = true
all_uncompressed (kind ∷ kinds) = is_uncompressed kind && all_uncompressed kinds

-- the same of an RDATA format, which has a kind
abbrev pub is_uncompressed_format : List Kind → Bool
is_uncompressed_format [] = false
is_uncompressed_format (kind ∷ kinds) = is_uncompressed kind && all_uncompressed kinds

-- ---- kinds at a place

abbrev put_first : {N S : Type 0} → FieldOf N → Option (List (FieldOf N) × S) → Option (List (FieldOf N) × S)
put_first {N} {S} f read = ◌>>=◌ {A = List (FieldOf N) × S} {B = List (FieldOf N) × S} read (λ others. Some (f ∷ others.0, others.1))

abbrev then_rest : {N S : Type 0} → (S → Option (List (FieldOf N) × S)) → Option (FieldOf N × S) → Option (List (FieldOf N) × S)
then_rest {N} {S} more read = ◌>>=◌ {A = FieldOf N × S} {B = List (FieldOf N) × S} read (λ field. put_first field.0 (more field.1))

first_at : {A B : Type 0} (to : A → B) (c : List ℕ) (b : Bool) (read : Option (A × List ℕ)) → first_to to (cond b None (with_end c read)) ≡ cond b None (with_end c (first_to to read))
first_at to c true read = refl
first_at to c false None = refl
first_at to c false (Some (x, rest)) = refl

plain_first : {A B : Type 0} (g : List ℕ → Option (A × List ℕ)) (to : A → B) (c : List ℕ) (at : ℕ) → first_to to (plain_at g c at) ≡ plain_at (λ bytes. first_to to (g bytes)) c at
plain_first g to c at = first_at to c (ltb (length c) at) (g (drop at c))

module _ {N : Type 0} (place : List ℕ → ℕ → Option (N × ℕ)) (name : List ℕ → Option (N × List ℕ)) (leaves : LeavesRest name) where
  pub field_placed : (kind : Kind) (c : List ℕ) (at : ℕ) → is_uncompressed kind ≡ true → field_in place kind c at ≡ plain_at (field_of name kind) c at
  field_placed Kind.Byte c at uncompressed = plain_first octet Byte c at
  field_placed (Kind.Number w) c at uncompressed = plain_first (number w) (Number w) c at
  field_placed (Kind.FixedOctets n) c at uncompressed = plain_first (octets n) OtherOctets c at
  field_placed Kind.CompressibleName c at uncompressed = absurd cc
  field_placed Kind.UncompressedName c at uncompressed = plain_first plain_name UncompressedName c at
  field_placed Kind.CharacterString c at uncompressed = plain_first character_string CharacterString c at
  field_placed Kind.CountedOctets c at uncompressed = plain_first character_string CountedOctets c at
  field_placed Kind.CharacterStrings c at uncompressed = plain_first character_strings CharacterStrings c at
  field_placed Kind.Options c at uncompressed = plain_first options OtherOctets c at
  field_placed Kind.TypeBitMaps c at uncompressed = plain_first bitmap OtherOctets c at
  field_placed Kind.NonEmptyTypeBitMaps c at uncompressed = plain_first some_bitmap OtherOctets c at
  field_placed Kind.Rest c at uncompressed = plain_first (λ bytes. Some (bytes, [])) OtherOctets c at

  in_prefix : (f : FieldOf N) (c : List ℕ) (read : Option (List (FieldOf N) × List ℕ)) → put_first f (with_end c read) ≡ with_end c (put_first f read)
  in_prefix f c None = refl
  in_prefix f c (Some (others, rest)) = refl

  -- the kinds after the first, if the first has been read
  after_first : (kinds : List Kind) (c bytes : List ℕ) (read : Option (FieldOf N × List ℕ)) → ((f : FieldOf N) (rest : List ℕ) → read ≡ Some (f, rest) → Follows rest c) → ((later : ℕ) → later ≤ length c → fields_in place kinds c later ≡ plain_at (fields_of name kinds) c later) → then_rest (fields_in place kinds c) (with_end c read) ≡ with_end c (then_rest (fields_of name kinds) read)
  after_first kinds c bytes None ends again = refl
  after_first kinds c bytes (Some (f, rest)) ends again =
      let b = ends f rest refl in
      let there : length c - length rest ≡ b.count = omega (arith, b.within, ap length b.rest_is, length-drop b.count c) in
      let fits : ltb (length c) (length c - length rest) ≡ false = le-ltb _ _ (omega (arith, b.within, there)) in
      let same : drop (length c - length rest) c ≡ rest = ap (λ n. drop n c) there ∙ sym b.rest_is in
      let found : fields_in place kinds c (length c - length rest) ≡ with_end c (fields_of name kinds rest) = again (length c - length rest) (omega arith) ∙ rw (fits, same) refl in
      ap (put_first f) found ∙ in_prefix f c (fields_of name kinds rest)

  from_place : (kind : Kind) (kinds : List Kind) (c : List ℕ) (at : ℕ) (b : Bool) → ltb (length c) at ≡ b → is_uncompressed kind ≡ true → ((later : ℕ) → later ≤ length c → fields_in place kinds c later ≡ plain_at (fields_of name kinds) c later) → fields_in place (kind ∷ kinds) c at ≡ cond b None (with_end c (fields_of name (kind ∷ kinds) (drop at c)))
  from_place kind kinds c at true is uncompressed again = rw (field_placed kind c at uncompressed, is) refl
  from_place kind kinds c at false is uncompressed again =
      let here : Follows (drop at c) c = record { count = at; within = ltb-false _ _ is; rest_is = refl } in
      rw (field_placed kind c at uncompressed, is) (after_first kinds c (drop at c) (field_of name kind (drop at c)) (λ f rest e. follows_both c (drop at c) rest here (field_leaves name leaves kind (drop at c) f rest e)) again)

  fields_placed_within : (kinds : List Kind) (c : List ℕ) (at : ℕ) → all_uncompressed kinds ≡ true → at ≤ length c → fields_in place kinds c at ≡ plain_at (fields_of name kinds) c at
  fields_placed_within [] c at uncompressed within =
      let fits : ltb (length c) at ≡ false = le-ltb _ _ within in
      let there : length c - length (drop at c) ≡ at = omega (arith, within, length-drop at c) in
      rw (fits, there) refl
  fields_placed_within (kind ∷ kinds) c at uncompressed within = from_place kind kinds c at (ltb (length c) at) refl (first_so _ _ uncompressed) (λ later h. fields_placed_within kinds c later (second_so _ _ uncompressed) h)

  pub fields_placed : (kinds : List Kind) (c : List ℕ) (at : ℕ) → is_uncompressed_format kinds ≡ true → fields_in place kinds c at ≡ plain_at (fields_of name kinds) c at
  fields_placed [] c at uncompressed = absurd cc
  fields_placed (kind ∷ kinds) c at uncompressed = from_place kind kinds c at (ltb (length c) at) refl (first_so _ _ uncompressed) (λ later h. fields_placed_within kinds c later (second_so _ _ uncompressed) h)

  -- what is read up to the end of the contents
  pub all_placed : (kinds : List Kind) (c : List ℕ) (at : ℕ) → is_uncompressed_format kinds ≡ true → all_at c (fields_in place kinds c at) ≡ all_at c (plain_at (fields_of name kinds) c at)
  all_placed kinds c at uncompressed = ap (all_at c) (fields_placed kinds c at uncompressed)
