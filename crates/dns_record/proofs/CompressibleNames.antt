-- Fields whose names one grammar reads as they are seen, and another by their labels.
use Rattle.std.proofs.Common.{◌≡◌, ℕ, Bool, true, false, cond, List, [], ◌∷◌, length, Option, Some, None, refl, sym, ap, ◌∙◌}
use Rattle.std.specs.Prelude.{◌==◌, map}
use Rattle.std.specs.Cmp.{first_so, second_so}
use Rattle.std.specs.Int.{Width}
use Rattle.std.proofs.lemmas.Option.{some_pair_parts}
use Rattle.dns_wire.specs.ReadingLemmas.{then_some, put_some}
use Rattle.dns_wire.specs.Names.{plain_name}
use Rattle.dns_wire.specs.Pointers.{name_at}
use Rattle.dns_wire.specs.Reading.{octet, octets, number, plain_at, all_of, all_at}
use Rattle.dns_wire.specs.Steps.{◌>>=◌, first_to}
use Rattle.dns_record.specs.Data.{data_as, data_in}
use Rattle.dns_record.specs.Fields.{FieldOf, named_by}
use Rattle.dns_record.specs.Fields.FieldOf.{CompressibleName, UncompressedName, CharacterString, CountedOctets, CharacterStrings, OtherOctets, Byte, Number}
use Rattle.dns_record.specs.Kinds.{Kind, field_of, fields_of, field_in, fields_in, no_name}
use Rattle.dns_record.specs.Formats.{rdata_format}
use Rattle.dns_record.specs.Options.{options}
use Rattle.dns_record.specs.CharacterStrings.{character_string, character_strings}
use Rattle.dns_record.specs.TypeBitMaps.{bitmap, some_bitmap}
use Rattle.dns_record.proofs.UncompressedNames.{is_uncompressed, all_uncompressed, is_uncompressed_format, all_placed}

module _ {V S L : Type 0} (seen : V → S) (name : V → L) where
  -- ---- fields that are no names with pointers

  same_uncompressed : (labels : List (List ℕ)) (f : FieldOf V) → UncompressedName labels ≡ named_by seen f → UncompressedName labels ≡ named_by name f
  same_uncompressed labels (UncompressedName l) e = cc
  same_uncompressed labels f e = absurd cc

  same_string : (octets : List ℕ) (f : FieldOf V) → CharacterString octets ≡ named_by seen f → CharacterString octets ≡ named_by name f
  same_string octets (CharacterString l) e = cc
  same_string octets f e = absurd cc

  same_counted : (octets : List ℕ) (f : FieldOf V) → CountedOctets octets ≡ named_by seen f → CountedOctets octets ≡ named_by name f
  same_counted octets (CountedOctets l) e = cc
  same_counted octets f e = absurd cc

  same_strings : (octets : List ℕ) (f : FieldOf V) → CharacterStrings octets ≡ named_by seen f → CharacterStrings octets ≡ named_by name f
  same_strings octets (CharacterStrings l) e = cc
  same_strings octets f e = absurd cc

  same_other : (octets : List ℕ) (f : FieldOf V) → OtherOctets octets ≡ named_by seen f → OtherOctets octets ≡ named_by name f
  same_other octets (OtherOctets l) e = cc
  same_other octets f e = absurd cc

  same_byte : (b : ℕ) (f : FieldOf V) → Byte b ≡ named_by seen f → Byte b ≡ named_by name f
  same_byte b (Byte l) e = cc
  same_byte b f e = absurd cc

  same_number : (w : Width) (n : ℕ) (f : FieldOf V) → Number w n ≡ named_by seen f → Number w n ≡ named_by name f
  same_number w n (Number v l) e = cc
  same_number w n f e = absurd cc

  again : {X P : Type 0} (C : X → FieldOf S) (D : X → FieldOf L) → ((x : X) (f : FieldOf V) → C x ≡ named_by seen f → D x ≡ named_by name f) → (read : Option (X × P)) (f : FieldOf V) (rest : P) → first_to C read ≡ Some (named_by seen f, rest) → first_to D read ≡ Some (named_by name f, rest)
  again C D same read f rest e =
      let p = put_some C read (named_by seen f) rest e in
      ap (first_to D) p.1 ∙ ap (λ g. Some (g, rest)) (same p.0 f p.2)

  -- ---- names

  compressible_again : {P : Type 0} (read : Option (S × P)) (labels : Option (L × P)) → ((v : V) (rest : P) → read ≡ Some (seen v, rest) → labels ≡ Some (name v, rest)) → (f : FieldOf V) (rest : P) → first_to CompressibleName read ≡ Some (named_by seen f, rest) → first_to CompressibleName labels ≡ Some (named_by name f, rest)
  compressible_again read labels agree (CompressibleName v) rest e =
      let p = put_some CompressibleName read (CompressibleName (seen v)) rest e in
      let same : p.0 ≡ seen v = cc in
      ap (first_to CompressibleName) (agree v rest (p.1 ∙ ap (λ s. Some (s, rest)) same))
  compressible_again read labels agree f rest e = let p = put_some CompressibleName read (named_by seen f) rest e in absurd cc

  -- ---- one after another

  module _ (reads : List ℕ → Option (S × List ℕ)) (plain : List ℕ → Option (L × List ℕ)) (agree : (v : V) (bytes rest : List ℕ) → reads bytes ≡ Some (seen v, rest) → plain bytes ≡ Some (name v, rest)) where
    field_again : (kind : Kind) (bytes : List ℕ) (f : FieldOf V) (rest : List ℕ) → field_of reads kind bytes ≡ Some (named_by seen f, rest) → field_of plain kind bytes ≡ Some (named_by name f, rest)
    field_again Kind.Byte bytes f rest e = again Byte Byte same_byte (octet bytes) f rest e
    field_again (Kind.Number w) bytes f rest e = again (Number w) (Number w) (same_number w) (number w bytes) f rest e
    field_again (Kind.FixedOctets n) bytes f rest e = again OtherOctets OtherOctets same_other (octets n bytes) f rest e
    field_again Kind.CompressibleName bytes f rest e = compressible_again (reads bytes) (plain bytes) (λ v later h. agree v bytes later h) f rest e
    field_again Kind.UncompressedName bytes f rest e = again UncompressedName UncompressedName same_uncompressed (plain_name bytes) f rest e
    field_again Kind.CharacterString bytes f rest e = again CharacterString CharacterString same_string (character_string bytes) f rest e
    field_again Kind.CountedOctets bytes f rest e = again CountedOctets CountedOctets same_counted (character_string bytes) f rest e
    field_again Kind.CharacterStrings bytes f rest e = again CharacterStrings CharacterStrings same_strings (character_strings bytes) f rest e
    field_again Kind.Options bytes f rest e = again OtherOctets OtherOctets same_other (options bytes) f rest e
    field_again Kind.TypeBitMaps bytes f rest e = again OtherOctets OtherOctets same_other (bitmap bytes) f rest e
    field_again Kind.NonEmptyTypeBitMaps bytes f rest e = again OtherOctets OtherOctets same_other (some_bitmap bytes) f rest e
    field_again Kind.Rest bytes f rest e = again OtherOctets OtherOctets same_other (Some (bytes, [])) f rest e

    fields_again : (kinds : List Kind) (bytes : List ℕ) (fields : List (FieldOf V)) (rest : List ℕ) → fields_of reads kinds bytes ≡ Some (map (named_by seen) fields, rest) → fields_of plain kinds bytes ≡ Some (map (named_by name) fields, rest)
    fields_again [] bytes [] rest e = ap (λ l. Some ([], l)) (some_pair_parts [] [] bytes rest e).1
    fields_again [] bytes (f ∷ fields) rest e = let h = (some_pair_parts [] (map (named_by seen) (f ∷ fields)) bytes rest e).0 in absurd cc
    fields_again (kind ∷ kinds) bytes fields rest e =
        let first = then_some (field_of reads kind bytes) _ _ e in
        let later = then_some (fields_of reads kinds first.0.1) _ _ first.2 in
        let same = some_pair_parts (first.0.0 ∷ later.0.0) (map (named_by seen) fields) later.0.1 rest later.2 in
        by fields first.0.0 first.0.1 first.1 later.0.0 later.0.1 later.1 same.0 same.1 (λ fs h. fields_again kinds first.0.1 fs rest h)
      where
        by : (fields : List (FieldOf V)) (f : FieldOf S) (trailing : List ℕ) → field_of reads kind bytes ≡ Some (f, trailing) → (fs : List (FieldOf S)) (left : List ℕ) → fields_of reads kinds trailing ≡ Some (fs, left) → f ∷ fs ≡ map (named_by seen) fields → left ≡ rest
            → ((fs : List (FieldOf V)) → fields_of reads kinds trailing ≡ Some (map (named_by seen) fs, rest) → fields_of plain kinds trailing ≡ Some (map (named_by name) fs, rest))
            → fields_of plain (kind ∷ kinds) bytes ≡ Some (map (named_by name) fields, rest)
        by [] f trailing e fs left h same end more = absurd cc
        by (g ∷ gs) f trailing e fs left h same end more =
            let prefix : f ≡ named_by seen g = cc in
            let back : fs ≡ map (named_by seen) gs = cc in
            let a = field_again kind bytes g trailing (e ∙ ap (λ x. Some (x, trailing)) prefix) in
            let b = more gs (h ∙ ap (λ x. Some (x, left)) back ∙ ap (λ l. Some (map (named_by seen) gs, l)) end) in
            rw (a, b) refl

  -- ---- at places in a message

  module _ (reads : List ℕ → ℕ → Option (S × ℕ)) (placed : List ℕ → ℕ → Option (L × ℕ)) (agree : (v : V) (contents : List ℕ) (at end : ℕ) → reads contents at ≡ Some (seen v, end) → placed contents at ≡ Some (name v, end)) where
    field_again_in : (kind : Kind) (contents : List ℕ) (at : ℕ) (f : FieldOf V) (end : ℕ) → field_in reads kind contents at ≡ Some (named_by seen f, end) → field_in placed kind contents at ≡ Some (named_by name f, end)
    field_again_in Kind.Byte c at f end e = again Byte Byte same_byte (plain_at octet c at) f end e
    field_again_in (Kind.Number w) c at f end e = again (Number w) (Number w) (same_number w) (plain_at (number w) c at) f end e
    field_again_in (Kind.FixedOctets n) c at f end e = again OtherOctets OtherOctets same_other (plain_at (octets n) c at) f end e
    field_again_in Kind.CompressibleName c at f end e = compressible_again (reads c at) (placed c at) (λ v later h. agree v c at later h) f end e
    field_again_in Kind.UncompressedName c at f end e = again UncompressedName UncompressedName same_uncompressed (plain_at plain_name c at) f end e
    field_again_in Kind.CharacterString c at f end e = again CharacterString CharacterString same_string (plain_at character_string c at) f end e
    field_again_in Kind.CountedOctets c at f end e = again CountedOctets CountedOctets same_counted (plain_at character_string c at) f end e
    field_again_in Kind.CharacterStrings c at f end e = again CharacterStrings CharacterStrings same_strings (plain_at character_strings c at) f end e
    field_again_in Kind.Options c at f end e = again OtherOctets OtherOctets same_other (plain_at options c at) f end e
    field_again_in Kind.TypeBitMaps c at f end e = again OtherOctets OtherOctets same_other (plain_at bitmap c at) f end e
    field_again_in Kind.NonEmptyTypeBitMaps c at f end e = again OtherOctets OtherOctets same_other (plain_at some_bitmap c at) f end e
    field_again_in Kind.Rest c at f end e = again OtherOctets OtherOctets same_other (plain_at (λ bytes. Some (bytes, [])) c at) f end e

    fields_again_in : (kinds : List Kind) (contents : List ℕ) (at : ℕ) (fields : List (FieldOf V)) (end : ℕ) → fields_in reads kinds contents at ≡ Some (map (named_by seen) fields, end) → fields_in placed kinds contents at ≡ Some (map (named_by name) fields, end)
    fields_again_in [] c at [] end e = ap (λ n. Some ([], n)) (some_pair_parts [] [] at end e).1
    fields_again_in [] c at (f ∷ fields) end e = let h = (some_pair_parts [] (map (named_by seen) (f ∷ fields)) at end e).0 in absurd cc
    fields_again_in (kind ∷ kinds) c at fields end e =
        let first = then_some (field_in reads kind c at) _ _ e in
        let later = then_some (fields_in reads kinds c first.0.1) _ _ first.2 in
        let same = some_pair_parts (first.0.0 ∷ later.0.0) (map (named_by seen) fields) later.0.1 end later.2 in
        by fields first.0.0 first.0.1 first.1 later.0.0 later.0.1 later.1 same.0 same.1 (λ fs h. fields_again_in kinds c first.0.1 fs end h)
      where
        by : (fields : List (FieldOf V)) (f : FieldOf S) (trailing : ℕ) → field_in reads kind c at ≡ Some (f, trailing) → (fs : List (FieldOf S)) (left : ℕ) → fields_in reads kinds c trailing ≡ Some (fs, left) → f ∷ fs ≡ map (named_by seen) fields → left ≡ end
            → ((fs : List (FieldOf V)) → fields_in reads kinds c trailing ≡ Some (map (named_by seen) fs, end) → fields_in placed kinds c trailing ≡ Some (map (named_by name) fs, end))
            → fields_in placed (kind ∷ kinds) c at ≡ Some (map (named_by name) fields, end)
        by [] f trailing e fs left h same last more = absurd cc
        by (g ∷ gs) f trailing e fs left h same last more =
            let prefix : f ≡ named_by seen g = cc in
            let back : fs ≡ map (named_by seen) gs = cc in
            let a = field_again_in kind c at g trailing (e ∙ ap (λ x. Some (x, trailing)) prefix) in
            let b = more gs (h ∙ ap (λ x. Some (x, left)) back ∙ ap (λ n. Some (map (named_by seen) gs, n)) last) in
            rw (a, b) refl

-- ---- to the end

all_again : {A B : Type 0} (read : Option (A × List ℕ)) (other : Option (B × List ℕ)) (a : A) (b : B) → ((rest : List ℕ) → read ≡ Some (a, rest) → other ≡ Some (b, rest)) → all_of read ≡ Some a → all_of other ≡ Some b
all_again None other a b agree e = absurd cc
all_again (Some (x, [])) other a b agree e =
    let same : x ≡ a = cc in
    ap all_of (agree [] (ap (λ y. Some (y, [])) same))
all_again (Some (x, y ∷ rest)) other a b agree e = absurd cc

all_again_in : {A B : Type 0} (c : List ℕ) (read : Option (A × ℕ)) (other : Option (B × ℕ)) (a : A) (b : B) → ((end : ℕ) → read ≡ Some (a, end) → other ≡ Some (b, end)) → all_at c read ≡ Some a → all_at c other ≡ Some b
all_again_in c None other a b agree e = absurd cc
all_again_in {A} {B} c (Some (x, end)) other a b agree e = by (end == length c) refl e where
  by : (ends : Bool) → (end == length c) ≡ ends → cond {A = Option A} ends (Some x) None ≡ Some a → all_at c other ≡ Some b
  by true is h =
      let same : x ≡ a = cc in
      ap (all_at c) (agree end (ap (λ y. Some (y, end)) same)) ∙ ap (λ t. cond {A = Option B} t (Some b) None) is
  by false is h = absurd cc

-- what the data of a type are with the names as they are seen, they are with the names' labels
pub data_again : {V S L : Type 0} (seen : V → S) (name : V → L) (reads : List ℕ → Option (S × List ℕ)) (plain : List ℕ → Option (L × List ℕ)) → ((v : V) (bytes rest : List ℕ) → reads bytes ≡ Some (seen v, rest) → plain bytes ≡ Some (name v, rest)) → (rtype : ℕ) (bytes : List ℕ) (fields : List (FieldOf V)) → data_as reads rtype bytes ≡ Some (map (named_by seen) fields) → data_as plain rtype bytes ≡ Some (map (named_by name) fields)
unfolding data_as
data_again seen name reads plain agree rtype bytes fields e =
    all_again (fields_of reads (rdata_format rtype) bytes) (fields_of plain (rdata_format rtype) bytes) (map (named_by seen) fields) (map (named_by name) fields) (λ rest h. fields_again seen name reads plain agree (rdata_format rtype) bytes fields rest h) e

pub data_again_in : {V S L : Type 0} (seen : V → S) (name : V → L) (reads : List ℕ → ℕ → Option (S × ℕ)) (placed : List ℕ → ℕ → Option (L × ℕ)) → ((v : V) (contents : List ℕ) (at end : ℕ) → reads contents at ≡ Some (seen v, end) → placed contents at ≡ Some (name v, end)) → (rtype : ℕ) (contents : List ℕ) (at : ℕ) (fields : List (FieldOf V)) → data_in reads rtype contents at ≡ Some (map (named_by seen) fields) → data_in placed rtype contents at ≡ Some (map (named_by name) fields)
unfolding data_in
data_again_in seen name reads placed agree rtype c at fields e =
    all_again_in c (fields_in reads (rdata_format rtype) c at) (fields_in placed (rdata_format rtype) c at) (map (named_by seen) fields) (map (named_by name) fields) (λ end h. fields_again_in seen name reads placed agree (rdata_format rtype) c at fields end h) e

-- ---- if no name with pointers is among the kinds, the grammar of names is never asked

field_same : {N : Type 0} (name other : List ℕ → Option (N × List ℕ)) (kind : Kind) (bytes : List ℕ) → is_uncompressed kind ≡ true → field_of name kind bytes ≡ field_of other kind bytes
field_same name other Kind.CompressibleName bytes uncompressed = absurd cc
field_same name other kind bytes uncompressed = refl

pub fields_same : {N : Type 0} (name other : List ℕ → Option (N × List ℕ)) (kinds : List Kind) (bytes : List ℕ) → all_uncompressed kinds ≡ true → fields_of name kinds bytes ≡ fields_of other kinds bytes
fields_same name other [] bytes uncompressed = refl
fields_same {N} name other (kind ∷ kinds) bytes uncompressed = rw (field_same name other kind bytes (first_so _ _ uncompressed)) (by (field_of other kind bytes) (λ later. fields_same name other kinds later (second_so _ _ uncompressed))) where
  by : (read : Option (FieldOf N × List ℕ)) → ((later : List ℕ) → fields_of name kinds later ≡ fields_of other kinds later) → ◌>>=◌ {A = FieldOf N × List ℕ} {B = List (FieldOf N) × List ℕ} read (λ field. ◌>>=◌ {A = List (FieldOf N) × List ℕ} {B = List (FieldOf N) × List ℕ} (fields_of name kinds field.1) (λ others. Some (field.0 ∷ others.0, others.1))) ≡ ◌>>=◌ {A = FieldOf N × List ℕ} {B = List (FieldOf N) × List ℕ} read (λ field. ◌>>=◌ {A = List (FieldOf N) × List ℕ} {B = List (FieldOf N) × List ℕ} (fields_of other kinds field.1) (λ others. Some (field.0 ∷ others.0, others.1)))
  by None same = refl
  by (Some (field, later)) same = rw (same later) refl

-- data without such names, as the table has them, whatever names are
pub uncompressed_data : (rtype : ℕ) → all_uncompressed (rdata_format rtype) ≡ true → (bytes : List ℕ) → all_of (fields_of no_name (rdata_format rtype) bytes) ≡ data_as plain_name rtype bytes
unfolding data_as
uncompressed_data rtype uncompressed bytes = ap all_of (fields_same no_name plain_name (rdata_format rtype) bytes uncompressed)

pub uncompressed_data_in : (rtype : ℕ) → is_uncompressed_format (rdata_format rtype) ≡ true → (contents : List ℕ) (at : ℕ) → all_at contents (plain_at (fields_of no_name (rdata_format rtype)) contents at) ≡ data_in name_at rtype contents at
unfolding data_in
uncompressed_data_in rtype uncompressed contents at = sym (all_placed name_at no_name (λ bytes labels rest e. absurd cc) (rdata_format rtype) contents at uncompressed)
