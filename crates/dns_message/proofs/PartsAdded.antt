-- The forms of records whose canonical parts are known.
use Rattle.std.proofs.Common.{◌≡◌, ℕ, ◌+◌, ◌<◌, ◌≤◌, ◌^◌, Bool, true, false, cond, List, [], ◌∷◌, ◌++◌, drop, length, map, take, Some, None, append-nil, append_assoc, refl, sym, ap, subst, ◌∙◌, arith}
use Rattle.std.specs.Prelude.{nat_lt, not, option_map, Option, None, ◌==◌}
use Rattle.std.proofs.lemmas.Bool.{le-ltb, lt-ltb}
use Rattle.std.specs.Int.{w16, w32, to_be_bytes}
use Rattle.dns_wire.specs.Octets.{Labels}
use Rattle.dns_wire.specs.Names.{IsName, lowered, plain_name, wire}
use Rattle.dns_wire.specs.Pointers.{name_at}
use Rattle.dns_wire.specs.Reading.{AreOctets, all_at}
use Rattle.dns_record.specs.Data.{data_as, data_in}
use Rattle.dns_record.specs.Fields.{Field, canonical_fields, fields_octets, lowercased_field}
use Rattle.dns_record.specs.Fields.FieldOf.{OtherOctets}
use Rattle.dns_record.specs.Formats.{rdata_format}
use Rattle.dns_record.specs.Kinds.{Kind, fields_in}
use Rattle.dns_record.specs.Records.{Parts, octets_of_parts, record_of}
use Rattle.dns_record.specs.Types.{is_lowercased, opt_number}
use Rattle.dns_record.proofs.Sizes.{data_short, lowercased_long}
use Rattle.dns_rdata.proofs.FormatLemmas.{data_spelled}
use Rattle.dns_rdata.proofs.UncompressedData.{uncompressed_unless_compressible}
use Rattle.dns_name.specs.Order.{key}
use Rattle.dns_message.specs.Canonical.{canonical_wire, is_not_opt}
use Rattle.dns_message.specs.Forms.{AreForms, forms_in}
use Rattle.dns_message.specs.OwnerKeys.{owner_key}
use Rattle.dns_message.specs.declared.form_span.FormSpan.{FormSpan}
use Rattle.dns_message.proofs.CanonBuilt.{parts_long}
use Rattle.dns_message.proofs.FormLemmas.{record_put}
use Rattle.dns_record.specs.FieldKinds.{kind_of, row_of}
use Rattle.dns_message.specs.LowercaseFields.{PutsFields}
use Rattle.dns_record.specs.declared.field_kind.FieldKind.{FieldKind}
use Rattle.dns_record.specs.FurtherFormats.{data_or, if_short, kinds_or, lowercased_or}
use Rattle.dns_message.proofs.FurtherFormatLemmas.{Allowed}
use Rattle.dns_message.proofs.JoinedFields.{joined_kinds, joined_puts}
use Rattle.dns_message.specs.FormsRead.{AddsData, forms_of}
use Rattle.dns_message.specs.Messages.{RecordValue}
use Rattle.dns_message.specs.Order.{SortKey, sort_key}
use Rattle.dns_message.specs.UnparsedRecords.{DataAreAt, data_start}
use Rattle.dns_message.proofs.LowercasedFields.{cased_uncompressed, lowercased_not_opt}
use Rattle.dns_message.proofs.Octets.{octets_from, octets_up_to}
use Rattle.dns_message.proofs.UnparsedRecords.{uncompressed_in_place}

-- what a record with this data's canonical octets is compared by
abbrev pub part_key : Labels → Parts → List ℕ → SortKey
part_key owner p octets = record { owner = key owner; class = p.class; rtype = p.rtype; octets = octets; ttl = p.ttl }

key_added : (r : RecordValue) (old new : List SortKey) → is_not_opt r ≡ true → new ≡ old ++ sort_key r ∷ [] → new ≡ old ++ forms_of (r ∷ [])
key_added r old new is-not added = rw is-not added

-- octets as data of whatever type
pub other_octets : (rtype : ℕ) (octets : List ℕ) → fields_octets (canonical_fields rtype (OtherOctets octets ∷ [])) ≡ octets
other_octets rtype octets = by (is_lowercased rtype) where
  by : (b : Bool) → fields_octets (cond b (map lowercased_field (OtherOctets octets ∷ [])) (OtherOctets octets ∷ [])) ≡ octets
  by true = append-nil octets
  by false = append-nil octets

pub lowercase_added : (owner : Labels) (p : Parts) (contents : List ℕ) (start : ℕ) (body : List ℕ) (old new : List SortKey) → is_lowercased p.rtype ≡ true → PutsFields (data_in name_at p.rtype contents start) [] true body
    → new ≡ old ++ part_key owner p body ∷ [] → AddsData old owner p (data_in name_at p.rtype contents start) (Some new)
lowercase_added owner p contents start body old new is put added =
    let lowered : canonical_fields p.rtype put.0 ≡ map lowercased_field put.0 = rw is refl in
    let octets : body ≡ fields_octets (canonical_fields p.rtype put.0) = put.2 ∙ ap fields_octets (sym lowered) in
    let other : not (p.rtype == opt_number) ≡ true = ap not (lowercased_not_opt p.rtype is) in
    (put.0, put.1, key_added (record_of owner p put.0) old new other (added ∙ ap (λ (l : List ℕ). old ++ part_key owner p l ∷ []) octets))

-- no more octets than a size can say
pub lowercase_short : (rtype : ℕ) (contents : List ℕ) (start : ℕ) (body : List ℕ) → length contents < start + 2 ^ 16 → PutsFields (data_in name_at rtype contents start) [] true body → length body < 2 ^ 16
lowercase_short rtype contents start body few put = omega (arith, ap length put.2, lowercased_long put.0, data_short rtype contents start put.0 few put.1)

-- ---- data in which the case of letters counts

-- they are the same in their place, and octets
pub placed_octets : (contents octets : List ℕ) (end : ℕ) → AreOctets contents → DataAreAt contents octets end → AreOctets octets
placed_octets contents octets end are there = subst AreOctets (sym there.1) (octets_from (data_start end octets) (take end contents) (octets_up_to end contents are))

pub cased_in_place : (contents octets : List ℕ) (rtype end : ℕ) → is_lowercased rtype ≡ false → end ≤ length contents → DataAreAt contents octets end
    → data_in name_at rtype (take end contents) (data_start end octets) ≡ data_as plain_name rtype octets
cased_in_place contents octets rtype end cased within there = uncompressed_in_place contents octets rtype end (uncompressed_unless_compressible rtype (cased_uncompressed rtype cased)) within there

-- data without such names, whose canonical octets are these
pub plain_added : (owner : Labels) (p : Parts) (content : List Field) (body : List ℕ) (old new : List SortKey) → data_as plain_name p.rtype p.content ≡ Some content → (p.rtype == opt_number) ≡ false
    → body ≡ fields_octets (canonical_fields p.rtype content) → new ≡ old ++ part_key owner p body ∷ [] → AddsData old owner p (data_as plain_name p.rtype p.content) (Some new)
plain_added owner p content body old new read other octets added =
    (content, read, key_added (record_of owner p content) old new (ap not other) (added ∙ ap (λ (l : List ℕ). old ++ part_key owner p l ∷ []) octets))

-- the data's own octets, if the case of letters counts
pub cased_octets : (rtype : ℕ) (octets : List ℕ) (content : List Field) → AreOctets octets → data_as plain_name rtype octets ≡ Some content → is_lowercased rtype ≡ false → octets ≡ fields_octets (canonical_fields rtype content)
cased_octets rtype octets content are read cased = sym (data_spelled rtype octets content are read) ∙ sym (rw cased refl)

-- nothing for a record of type OPT
pub opt_added : (owner : Labels) (p : Parts) (content : List Field) (old : List SortKey) → data_as plain_name p.rtype p.content ≡ Some content → (p.rtype == opt_number) ≡ true → AddsData old owner p (data_as plain_name p.rtype p.content) (Some old)
opt_added owner p content old read is = (content, read, sym (rw is (append-nil old)))

-- ---- the same by the format of a further type, if it has one

module _ (rtype : ℕ) (row : List FieldKind) (contents : List ℕ) (start : ℕ) (body : List ℕ) (are : AreOctets contents) where
  abbrev Found : Bool → Type 0
  Found read = PutsFields (all_at contents (fields_in name_at (map kind_of row) contents start)) [] read body

  pub refused_by : (further : Option (List Kind)) → Allowed further rtype → row ≡ row_of (kinds_or further rtype) → Found false → data_or further rtype contents start ≡ None
  refused_by None allowed is none = joined_puts rtype row contents start [] false body is are none
  refused_by (Some kinds) allowed is none = ap (λ (read : Option (List Field)). if_short (option_map (map lowercased_field) read)) (joined_kinds kinds row contents start [] false body allowed.2 is are none)

  -- too many octets for their number; those of a type with a usual format never are
  pub long_by : (further : Option (List Kind)) → Allowed further rtype → length contents < start + 2 ^ 16 → row ≡ row_of (kinds_or further rtype) → 65535 < length body → Found true → data_or further rtype contents start ≡ None
  long_by None allowed few is long put = absurd (omega (arith, long, lowercase_short rtype contents start body few (joined_puts rtype row contents start [] true body is are put)))
  long_by (Some kinds) allowed few is long put =
      let found = joined_kinds kinds row contents start [] true body allowed.2 is are put in
      let many : nat_lt 65535 (length (fields_octets (map lowercased_field found.0))) ≡ true = lt-ltb _ _ (omega (arith, long, ap length found.2)) in
      ap (λ (read : Option (List Field)). if_short (option_map (map lowercased_field) read)) found.1 ∙ rw many refl

pub added_by : (owner : Labels) (p : Parts) (row : List FieldKind) (contents : List ℕ) (start : ℕ) (body : List ℕ) (old new : List SortKey) → AreOctets contents → (further : Option (List Kind)) → Allowed further p.rtype → lowercased_or further p.rtype ≡ true
    → row ≡ row_of (kinds_or further p.rtype) → PutsFields (all_at contents (fields_in name_at (map kind_of row) contents start)) [] true body → length body ≤ 65535 → new ≡ old ++ part_key owner p body ∷ [] → AddsData old owner p (data_or further p.rtype contents start) (Some new)
added_by owner p row contents start body old new are None allowed low is put few added = lowercase_added owner p contents start body old new low (joined_puts p.rtype row contents start [] true body is are put) added
added_by owner p row contents start body old new are (Some kinds) allowed low is put few added =
    let found = joined_kinds kinds row contents start [] true body allowed.2 is are put in
    let content = map lowercased_field found.0 in
    let stays : canonical_fields p.rtype content ≡ content = rw allowed.0 refl in
    let short : nat_lt 65535 (length (fields_octets content)) ≡ false = le-ltb _ _ (omega (arith, few, ap length found.2)) in
    let octets : body ≡ fields_octets (canonical_fields p.rtype content) = found.2 ∙ ap fields_octets (sym stays) in
    (content, ap (λ (read : Option (List Field)). if_short (option_map (map lowercased_field) read)) found.1 ∙ rw short refl, key_added (record_of owner p content) old new (ap not allowed.1) (added ∙ ap (λ (l : List ℕ). old ++ part_key owner p l ∷ []) octets))

-- a further type has names in lowercase
pub cased_usual : (further : Option (List Kind)) (rtype : ℕ) → lowercased_or further rtype ≡ false → (kinds_or further rtype ≡ rdata_format rtype) × (is_lowercased rtype ≡ false)
cased_usual None rtype cased = (refl, cased)
cased_usual (Some kinds) rtype cased = absurd cc

pub cased_in_place_by : (further : Option (List Kind)) (contents octets : List ℕ) (rtype end : ℕ) → lowercased_or further rtype ≡ false → end ≤ length contents → DataAreAt contents octets end
    → data_or further rtype (take end contents) (data_start end octets) ≡ data_as plain_name rtype octets
cased_in_place_by None contents octets rtype end cased within there = cased_in_place contents octets rtype end cased within there
cased_in_place_by (Some kinds) contents octets rtype end cased within there = absurd cc

-- ---- canonical parts one after another

-- what follows an owner ends with the data
pub parts_after : (rtype class ttl : ℕ) (rest body : List ℕ) → rest ≡ octets_of_parts [] rtype class ttl body → (rest ≡ octets_of_parts [] rtype class ttl (drop 10 rest)) × (drop 10 rest ≡ body)
parts_after rtype class ttl rest body is =
    let same : drop 10 rest ≡ body = ap (drop 10) is in
    (is ∙ ap (octets_of_parts [] rtype class ttl) (sym same), same)

-- the numbers before the data
pub numbers_before : (numbers : List ℕ) (rtype class ttl size : ℕ) (body : List ℕ) → numbers ≡ to_be_bytes w16 rtype ++ (to_be_bytes w16 class ++ (to_be_bytes w32 ttl ++ to_be_bytes w16 size)) → size ≡ length body → numbers ++ body ≡ octets_of_parts [] rtype class ttl body
numbers_before numbers rtype class ttl size body is long =
    ap (λ (l : List ℕ). l ++ body) is ∙ ap (λ n. (to_be_bytes w16 rtype ++ (to_be_bytes w16 class ++ (to_be_bytes w32 ttl ++ to_be_bytes w16 n))) ++ body) long

-- what was put after others for the parts of a record
pub parts_put : (owner : List (List ℕ)) (rtype class ttl : ℕ) (rest keys octets : List ℕ) (spans : List FormSpan) (more_keys more_octets : List ℕ) (more_spans : List FormSpan) (s : FormSpan)
    → AreForms (forms_in spans octets) keys octets spans → IsName owner → lowered owner ≡ owner → rest ≡ octets_of_parts [] rtype class ttl (drop 10 rest) → length rest < 10 + 2 ^ 16
    → more_keys ≡ keys ++ owner_key owner → more_octets ≡ (octets ++ wire owner) ++ rest
    → more_spans ≡ spans ++ s ∷ [] → s.owner_size ≡ length (wire owner) → s.size ≡ length (wire owner) + length rest → s.class ≡ class → s.rtype ≡ rtype → s.ttl ≡ ttl
    → (forms_in more_spans more_octets ≡ forms_in spans octets ++ record { owner = key owner; class = class; rtype = rtype; octets = drop 10 rest; ttl = ttl } ∷ []) × AreForms (forms_in more_spans more_octets) more_keys more_octets more_spans
parts_put owner rtype class ttl rest keys octets spans more_keys more_octets more_spans s so name low rest-is short keys-are octets-are spans-are owner_size-is size-is class-is rtype-is ttl-is =
    let body : List ℕ = drop 10 rest in
    let rest_long : length rest ≡ 10 + length body = omega (arith, ap length rest-is) in
    let r : RecordValue = record { owner = owner; rtype = rtype; class = class; ttl = ttl; content = OtherOctets body ∷ [] } in
    let same = other_octets rtype body in
    let whole : octets_of_parts (wire owner) rtype class ttl body ≡ canonical_wire r = λ i. octets_of_parts (wire (sym low i)) rtype class ttl (sym same i) in
    let long : length (canonical_wire r) ≡ length (wire owner) + (10 + length body) = ap length (sym whole) ∙ ap (λ (l : List (List ℕ)). length (octets_of_parts (wire l) rtype class ttl body)) (sym low) ∙ parts_long owner rtype class ttl body in
    let put = record_put r keys octets spans more_keys more_octets more_spans s so name (omega (arith, long, short, rest_long, name.size)) (omega (arith, ap length same, short, rest_long)) keys-are
    (octets-are ∙ append_assoc octets (wire owner) rest ∙ ap (λ (l : List ℕ). octets ++ (wire owner ++ l)) rest-is ∙ ap (λ (l : List ℕ). octets ++ l) whole)
    spans-are owner_size-is (omega (arith, size-is, long, rest_long)) class-is rtype-is ttl-is in
    (put.0 ∙ ap (λ (l : List ℕ). forms_in spans octets ++ record { owner = key owner; class = class; rtype = rtype; octets = l; ttl = ttl } ∷ []) same, put.1)
