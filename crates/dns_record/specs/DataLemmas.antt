-- What the readings of data leave over, and where what they read ends.
use Rattle.std.proofs.Common.{◌≡◌, ℕ, ◌-◌, ◌≤◌, ltb, List, [], ◌∷◌, length, take, Option, Some, refl, sym, subst, arith}
use Rattle.std.specs.Int.{w16, w32}
use Rattle.std.proofs.lemmas.Option.{some_pair_parts}
use Rattle.dns_wire.specs.ReadingLemmas.{then_some, put_leaves, put_ends, follows_both, counted_leaves, tested_leaves, octet_leaves, octets_leave, number_leaves, whole_leaves, plain_ends}
use Rattle.dns_wire.specs.Names.{plain_name}
use Rattle.dns_wire.proofs.NamesLemmas.{plain_name_leaves}
use Rattle.dns_wire.specs.Reading.{Follows, LeavesRest, EndsWithin, octet, octets, number, plain_at}
use Rattle.dns_record.specs.Fields.{FieldOf}
use Rattle.dns_record.specs.Fields.FieldOf.{CompressibleName, UncompressedName, CharacterString, CountedOctets, CharacterStrings, OtherOctets, Byte, Number}
use Rattle.dns_record.specs.Kinds.{Kind, field_of, fields_of, field_in, fields_in, no_name}
use Rattle.dns_record.specs.Options.{options, is_option_data}
use Rattle.dns_record.specs.Questions.{question_at, question_in}
use Rattle.dns_record.specs.Records.{record_of, parts_at, record_at, record_in}
use Rattle.dns_record.specs.CharacterStrings.{character_string, character_strings, is_txt_data}
use Rattle.dns_record.specs.TypeBitMaps.{bitmap, some_bitmap, is_bitmap}

-- ---- strings and bitmaps

pub character_string_leaves : LeavesRest character_string
character_string_leaves [] octets rest e = absurd cc
character_string_leaves (size ∷ bytes) octets rest e =
    follows_both (size ∷ bytes) bytes rest (record { count = 1; within = omega arith; rest_is = refl }) (counted_leaves (ltb (length bytes) size) size bytes (take size bytes) octets rest refl e)

pub character_strings_leave : LeavesRest character_strings
character_strings_leave bytes octets rest e = tested_leaves (is_txt_data bytes) bytes octets rest e

pub options_leave : LeavesRest options
options_leave bytes octets rest e = tested_leaves (is_option_data bytes) bytes octets rest e

pub bitmap_leaves : LeavesRest bitmap
bitmap_leaves bytes octets rest e = tested_leaves (is_bitmap bytes) bytes octets rest e

pub some_bitmap_leaves : LeavesRest some_bitmap
some_bitmap_leaves [] octets rest e = absurd cc
some_bitmap_leaves (number ∷ bytes) octets rest e = bitmap_leaves (number ∷ bytes) octets rest e

-- ---- fields

pub field_leaves : {N : Type 0} (name : List ℕ → Option (N × List ℕ)) → LeavesRest name → (kind : Kind) → LeavesRest (field_of name kind)
field_leaves name leaves Kind.Byte = put_leaves Byte octet octet_leaves
field_leaves name leaves (Kind.Number w) = put_leaves (Number w) (number w) (number_leaves w)
field_leaves name leaves (Kind.FixedOctets n) = put_leaves OtherOctets (octets n) (octets_leave n)
field_leaves name leaves Kind.CompressibleName = put_leaves CompressibleName name leaves
field_leaves name leaves Kind.UncompressedName = put_leaves UncompressedName plain_name plain_name_leaves
field_leaves name leaves Kind.CharacterString = put_leaves CharacterString character_string character_string_leaves
field_leaves name leaves Kind.CountedOctets = put_leaves CountedOctets character_string character_string_leaves
field_leaves name leaves Kind.CharacterStrings = put_leaves CharacterStrings character_strings character_strings_leave
field_leaves name leaves Kind.Options = put_leaves OtherOctets options options_leave
field_leaves name leaves Kind.TypeBitMaps = put_leaves OtherOctets bitmap bitmap_leaves
field_leaves name leaves Kind.NonEmptyTypeBitMaps = put_leaves OtherOctets some_bitmap some_bitmap_leaves
field_leaves name leaves Kind.Rest = put_leaves OtherOctets (λ bytes. Some (bytes, [])) whole_leaves

pub fields_leave : {N : Type 0} (name : List ℕ → Option (N × List ℕ)) → LeavesRest name → (kinds : List Kind) → LeavesRest (fields_of name kinds)
fields_leave name leaves [] bytes fields rest e = record { count = 0; within = omega arith; rest_is = sym (some_pair_parts [] fields bytes rest e).1 }
fields_leave name leaves (kind ∷ kinds) bytes fields rest e =
    let first = then_some (field_of name kind bytes) _ _ e in
    let later = then_some (fields_of name kinds first.0.1) _ _ first.2 in
    let same = some_pair_parts (first.0.0 ∷ later.0.0) fields later.0.1 rest later.2 in
    let prefix = field_leaves name leaves kind bytes first.0.0 first.0.1 first.1 in
    let trailing = fields_leave name leaves kinds first.0.1 later.0.0 later.0.1 later.1 in
    follows_both bytes first.0.1 rest prefix (subst (λ (l : List ℕ). Follows l first.0.1) same.1 trailing)

pub field_ends : {N : Type 0} (name : List ℕ → ℕ → Option (N × ℕ)) → EndsWithin name → (kind : Kind) → EndsWithin (field_in name kind)
field_ends name ends Kind.Byte = put_ends Byte (plain_at octet) (plain_ends octet octet_leaves)
field_ends name ends (Kind.Number w) = put_ends (Number w) (plain_at (number w)) (plain_ends (number w) (number_leaves w))
field_ends name ends (Kind.FixedOctets n) = put_ends OtherOctets (plain_at (octets n)) (plain_ends (octets n) (octets_leave n))
field_ends name ends Kind.CompressibleName = put_ends CompressibleName name ends
field_ends name ends Kind.UncompressedName = put_ends UncompressedName (plain_at plain_name) (plain_ends plain_name plain_name_leaves)
field_ends name ends Kind.CharacterString = put_ends CharacterString (plain_at character_string) (plain_ends character_string character_string_leaves)
field_ends name ends Kind.CountedOctets = put_ends CountedOctets (plain_at character_string) (plain_ends character_string character_string_leaves)
field_ends name ends Kind.CharacterStrings = put_ends CharacterStrings (plain_at character_strings) (plain_ends character_strings character_strings_leave)
field_ends name ends Kind.Options = put_ends OtherOctets (plain_at options) (plain_ends options options_leave)
field_ends name ends Kind.TypeBitMaps = put_ends OtherOctets (plain_at bitmap) (plain_ends bitmap bitmap_leaves)
field_ends name ends Kind.NonEmptyTypeBitMaps = put_ends OtherOctets (plain_at some_bitmap) (plain_ends some_bitmap some_bitmap_leaves)
field_ends name ends Kind.Rest = put_ends OtherOctets (plain_at (λ bytes. Some (bytes, []))) (plain_ends (λ bytes. Some (bytes, [])) whole_leaves)

pub fields_end_from : {N : Type 0} (name : List ℕ → ℕ → Option (N × ℕ)) → EndsWithin name → (kinds : List Kind) (contents : List ℕ) (at : ℕ) (fields : List (FieldOf N)) (end : ℕ) → at ≤ length contents → fields_in name kinds contents at ≡ Some (fields, end) → (at ≤ end) × (end ≤ length contents)
fields_end_from name ends [] contents at fields end within e = let same = some_pair_parts [] fields at end e in (omega (arith, same.1), omega (arith, within, same.1))
fields_end_from name ends (kind ∷ kinds) contents at fields end within e =
    let first = then_some (field_in name kind contents at) _ _ e in
    let later = then_some (fields_in name kinds contents first.0.1) _ _ first.2 in
    let same = some_pair_parts (first.0.0 ∷ later.0.0) fields later.0.1 end later.2 in
    let prefix = field_ends name ends kind contents at first.0.0 first.0.1 first.1 in
    let trailing = fields_end_from name ends kinds contents first.0.1 later.0.0 later.0.1 prefix.1 later.1 in
    (omega (arith, prefix.0, trailing.0, same.1), omega (arith, trailing.1, same.1))

-- fields of one kind or more
pub fields_end : {N : Type 0} (name : List ℕ → ℕ → Option (N × ℕ)) → EndsWithin name → (kind : Kind) (kinds : List Kind) → EndsWithin (fields_in name (kind ∷ kinds))
fields_end name ends kind kinds contents at fields end e =
    let first = then_some (field_in name kind contents at) _ _ e in
    let later = then_some (fields_in name kinds contents first.0.1) _ _ first.2 in
    let same = some_pair_parts (first.0.0 ∷ later.0.0) fields later.0.1 end later.2 in
    let prefix = field_ends name ends kind contents at first.0.0 first.0.1 first.1 in
    let trailing = fields_end_from name ends kinds contents first.0.1 later.0.0 later.0.1 prefix.1 later.1 in
    (omega (arith, prefix.0, trailing.0, same.1), omega (arith, trailing.1, same.1))

-- data in which no name may have pointers
no_name_leaves : LeavesRest no_name
no_name_leaves bytes labels rest e = absurd cc

pub uncompressed_leave : (kinds : List Kind) → LeavesRest (fields_of no_name kinds)
uncompressed_leave kinds = fields_leave no_name no_name_leaves kinds

pub uncompressed_end : (kinds : List Kind) → EndsWithin (plain_at (fields_of no_name kinds))
uncompressed_end kinds = plain_ends (fields_of no_name kinds) (uncompressed_leave kinds)

-- ---- questions

pub question_leaves : {N : Type 0} (name : List ℕ → Option (N × List ℕ)) → LeavesRest name → LeavesRest (question_at name)
unfolding question_at
question_leaves name leaves bytes question rest e =
    let a = then_some (name bytes) _ _ e in
    let b = then_some (number w16 a.0.1) _ _ a.2 in
    let c = then_some (number w16 b.0.1) _ _ b.2 in
    let same = some_pair_parts (record { name = a.0.0; qtype = b.0.0; class = c.0.0 }) question c.0.1 rest c.2 in
    let trailing = follows_both a.0.1 b.0.1 c.0.1 (number_leaves w16 a.0.1 b.0.0 b.0.1 b.1) (number_leaves w16 b.0.1 c.0.0 c.0.1 c.1) in
    subst (λ (l : List ℕ). Follows l bytes) same.1 (follows_both bytes a.0.1 c.0.1 (leaves bytes a.0.0 a.0.1 a.1) trailing)

pub question_ends : {N : Type 0} (name : List ℕ → ℕ → Option (N × ℕ)) → EndsWithin name → EndsWithin (question_in name)
unfolding question_in
question_ends name ends contents at question end e =
    let a = then_some (name contents at) _ _ e in
    let b = then_some (plain_at (number w16) contents a.0.1) _ _ a.2 in
    let c = then_some (plain_at (number w16) contents b.0.1) _ _ b.2 in
    let same = some_pair_parts (record { name = a.0.0; qtype = b.0.0; class = c.0.0 }) question c.0.1 end c.2 in
    let p = ends contents at a.0.0 a.0.1 a.1 in
    let q = plain_ends (number w16) (number_leaves w16) contents a.0.1 b.0.0 b.0.1 b.1 in
    let r = plain_ends (number w16) (number_leaves w16) contents b.0.1 c.0.0 c.0.1 c.1 in
    (omega (arith, p.0, q.0, r.0, same.1), omega (arith, r.1, same.1))

-- ---- records

pub parts_leave : LeavesRest parts_at
unfolding parts_at
parts_leave bytes parts rest e =
    let b = then_some (number w16 bytes) _ _ e in
    let c = then_some (number w16 b.0.1) _ _ b.2 in
    let d = then_some (number w32 c.0.1) _ _ c.2 in
    let s = then_some (number w16 d.0.1) _ _ d.2 in
    let o = then_some (octets s.0.0 s.0.1) _ _ s.2 in
    let same = some_pair_parts (record { rtype = b.0.0; class = c.0.0; ttl = d.0.0; content = o.0.0 }) parts o.0.1 rest o.2 in
    let fixed = follows_both bytes c.0.1 d.0.1 (follows_both bytes b.0.1 c.0.1 (number_leaves w16 bytes b.0.0 b.0.1 b.1) (number_leaves w16 b.0.1 c.0.0 c.0.1 c.1)) (number_leaves w32 c.0.1 d.0.0 d.0.1 d.1) in
    let body = follows_both d.0.1 s.0.1 o.0.1 (number_leaves w16 d.0.1 s.0.0 s.0.1 s.1) (octets_leave s.0.0 s.0.1 o.0.0 o.0.1 o.1) in
    subst (λ (l : List ℕ). Follows l bytes) same.1 (follows_both bytes d.0.1 o.0.1 fixed body)

pub parts_end : EndsWithin (plain_at parts_at)
parts_end = plain_ends parts_at parts_leave

pub record_leaves : {N D : Type 0} (name : List ℕ → Option (N × List ℕ)) (content : ℕ → List ℕ → Option D) → LeavesRest name → LeavesRest (record_at name content)
unfolding record_at
record_leaves name content leaves bytes found rest e =
    let a = then_some (name bytes) _ _ e in
    let p = then_some (parts_at a.0.1) _ _ a.2 in
    let v = then_some (content p.0.0.rtype p.0.0.content) _ _ p.2 in
    let same = some_pair_parts (record_of a.0.0 p.0.0 v.0) found p.0.1 rest v.2 in
    subst (λ (l : List ℕ). Follows l bytes) same.1 (follows_both bytes a.0.1 p.0.1 (leaves bytes a.0.0 a.0.1 a.1) (parts_leave a.0.1 p.0.0 p.0.1 p.1))

pub record_ends : {N D : Type 0} (name : List ℕ → ℕ → Option (N × ℕ)) (content : ℕ → List ℕ → ℕ → Option D) → EndsWithin name → EndsWithin (record_in name content)
unfolding record_in
record_ends name content ends contents at found end e =
    let a = then_some (name contents at) _ _ e in
    let p = then_some (plain_at parts_at contents a.0.1) _ _ a.2 in
    let v = then_some (content p.0.0.rtype (take p.0.1 contents) (p.0.1 - length p.0.0.content)) _ _ p.2 in
    let same = some_pair_parts (record_of a.0.0 p.0.0 v.0) found p.0.1 end v.2 in
    let n = ends contents at a.0.0 a.0.1 a.1 in
    let q = parts_end contents a.0.1 p.0.0 p.0.1 p.1 in
    (omega (arith, n.0, q.0, same.1), omega (arith, q.1, same.1))
