-- Records that begin as EDNS records do.
use Rattle.std.proofs.Common.{◌≡◌, ◌⊎◌, inl, inr, ℕ, ◌+◌, ◌/◌, ◌%◌, ◌^◌, Bool, true, false, cond, List, [], ◌∷◌, ◌++◌, drop, get_or, Some, None, refl, sym, ap, ◌∙◌, subst, arith}
use Rattle.std.specs.Prelude.{slice_index, ◌==◌, ◌&&◌}
use Rattle.dns_record.specs.Options.{is_option_data}
use Rattle.std.proofs.lemmas.Bool.Decides.{nat_tests}
use Rattle.std.proofs.lemmas.List.{take-append-drop, drop-drop, get_or-drop}
use Rattle.dns_wire.specs.Pointers.{Segment}
use Rattle.dns_wire.specs.Pointers.Segment.{at_root, at_label, at_pointer}
use Rattle.dns_record.specs.Fields.{Field}
use Rattle.dns_record.specs.Fields.FieldOf.{OtherOctets}
use Rattle.dns_record.specs.Formats.{has_rdata_format}
use Rattle.dns_record.specs.declared.record.Record.{Record}
use Rattle.dns_record.specs.declared.rtype.RType.{RType}
use Rattle.dns_rdata.specs.declared.unknown.UnknownRecordData.{UnknownRecordData}
use Rattle.dns_rdata.specs.Data.{type_number, IsDataOf}
use Rattle.dns_rdata.specs.Edns.{EdnsOf}
use Rattle.dns_rdata.specs.EdnsForms.{edns_ttl, edns_fields, octets_of_options, edns_in}
use Rattle.dns_rdata.specs.declared.record_data.RecordData.{RecordData}
use Rattle.dns_rdata.specs.declared.record_data.RecordData.TheVariants.{Opt, Unknown}
use Rattle.dns_message.specs.Messages.{RecordValue, item_at}
use Rattle.dns_message.specs.Messages.Item.{RecordItem}
use Rattle.dns_message.specs.Seen.{data_seen, record_value, edns_value, BeginsEdns}
use Rattle.dns_wire.specs.Pointers.{name_at}
use Rattle.dns_record.specs.Data.{data_in}
use Rattle.dns_record.specs.Records.{record_in}
use Rattle.dns_record.proofs.Worded.{record_is}
use Rattle.dns_message.proofs.ItemLemmas.{record_occurs}

-- a name that begins with the root is the root
segment_root : {contents : List ℕ} {start at end : ℕ} {labels : List (List ℕ)} → Segment contents start at labels end → slice_index contents at ≡ 0 → (labels ≡ []) × (end ≡ at + 1)
segment_root (at_root within is labels_is end_is) zero = (labels_is, end_is)
segment_root (at_label some small room labels_is later) zero = absurd (omega (arith, some, zero))
segment_root (at_pointer high room is before later end_is) zero = absurd (omega (arith, high, zero))

-- a record that is read is an item of the last section
pub last_item : (contents : List ℕ) (at : ℕ) (r : RecordValue) (end : ℕ) → record_in name_at (data_in name_at) contents at ≡ Some (r, end) → item_at 3 contents at ≡ Some (RecordItem r, end)
last_item contents at r end e = (record_occurs 3 contents at r end (omega arith)).1 (record_is contents at r end e)

-- a record that begins so has the root as its owner, and is of type OPT
pub headed : (contents : List ℕ) (at : ℕ) (r : RecordValue) (end : ℕ) → item_at 3 contents at ≡ Some (RecordItem r, end) → BeginsEdns (drop at contents) → (r.owner ≡ []) × (r.rtype ≡ 41)
headed contents at r end e begins =
    let occurs = (record_occurs 3 contents at r end (omega arith)).0 e in
    let bytes : drop at contents ≡ 0 ∷ 0 ∷ 41 ∷ drop 3 (drop at contents) =
    sym (take-append-drop 3 (drop at contents)) ∙ ap (λ (l : List ℕ). l ++ drop 3 (drop at contents)) begins in
    let zero : slice_index contents at ≡ 0 = ap (λ (k : ℕ). get_or contents k 0) (omega arith) ∙ sym (get_or-drop at contents 0 0) ∙ ap (λ (l : List ℕ). get_or l 0 0) bytes in
    let root = segment_root occurs.owner.reads zero in
    let trailing : drop occurs.owner_end contents ≡ 0 ∷ 41 ∷ drop 3 (drop at contents) =
    ap (λ (k : ℕ). drop k contents) root.1 ∙ sym (drop-drop 1 at contents) ∙ ap (drop 1) bytes in
    (root.0, occurs.rtype.is ∙ rw trailing refl)

-- no proper octets of an unknown type have the number of OPT
opt_is_known : (n : ℕ) → 41 ≡ n → has_rdata_format n ≡ false → ⊥
opt_is_known n is none = let there : true ≡ false = subst (λ (k : ℕ). has_rdata_format k ≡ false) (sym is) none in cc

other_number : (n : ℕ) → (41 == n) ≡ false → 41 ≡ n → ⊥
other_number n differs is = grind (arith, nat_tests, differs, is)

-- data with the number of OPT are options, or of an unknown type
abbrev Options : RecordData (List (List ℕ)) → Type 0
Options v = (octets : List ℕ) × (octets_of_options v ≡ Some octets)

abbrev IsUnknown : RecordData (List (List ℕ)) → Type 0
IsUnknown v = (rtype : RType) × (u : UnknownRecordData) × (v ≡ Unknown rtype u)

options_or_unknown : (v : RecordData (List (List ℕ))) → 41 ≡ type_number v → Options v ⊎ IsUnknown v
options_or_unknown (Opt v) is = inl (v.slice.now, refl)
options_or_unknown (Unknown rtype v) is = inr (rtype, v, refl)
options_or_unknown v is = absurd (other_number (type_number v) refl is)

known_options : (v : RecordData (List (List ℕ))) → IsDataOf v 41 → Options v ⊎ IsUnknown v → Options v
known_options v is (inl there) = there
known_options v is (inr (rtype, u, same)) =
    let of_type : IsDataOf {N = List (List ℕ)} (Unknown rtype u) 41 = subst (λ (w : RecordData (List (List ℕ))). IsDataOf w 41) same is in
    absurd (opt_is_known rtype.code.value of_type.0 of_type.1)

-- data of type OPT have options
options_there : (v : RecordData (List (List ℕ))) → IsDataOf v 41 → Options v
options_there v is = known_options v is (options_or_unknown v is.0)

-- and are seen as these
abbrev single : Field → List Field
single field = field ∷ []

options_seen : (v : RecordData (List (List ℕ))) (octets : List ℕ) → octets_of_options v ≡ Some octets → data_seen v ≡ OtherOctets octets ∷ []
options_seen (Opt v) octets e = let same : v.slice.now ≡ octets = cc in ap (λ (l : List ℕ). single (OtherOctets l)) same
options_seen (Unknown rtype v) octets e = by ((rtype.code.value == 41) && is_option_data v.octets.now) e where
  by : (b : Bool) → cond b (Some v.octets.now) None ≡ Some octets → ◌≡◌ {A = List Field} (OtherOctets v.octets.now ∷ []) (OtherOctets octets ∷ [])
  by true h = let same : v.octets.now ≡ octets = cc in ap (λ (l : List ℕ). single (OtherOctets l)) same
  by false h = absurd cc
options_seen v octets e = absurd cc

-- the four octets of a time to live are its parts
parts_whole : (t : ℕ) → edns_ttl (t / 2 ^ 24) ((t / 2 ^ 16) % 2 ^ 8) (t % 2 ^ 16) ≡ t
parts_whole t = omega arith

-- such a record is an EDNS record, which is seen as that record
pub edns_there : (form : Record (List (List ℕ)) (RecordData (List (List ℕ)))) → form.rname ≡ [] → form.rtype.code.value ≡ 41 → IsDataOf form.rdata form.rtype.code.value → (e : EdnsOf (List ℕ)) × (edns_in form ≡ Some e) × (edns_value e ≡ record_value form)
edns_there form owner rtype is =
    let (octets, there) = options_there form.rdata (subst (IsDataOf form.rdata) rtype is) in
    let seen = options_seen form.rdata octets there in
    (edns_fields form.rclass.code.value form.ttl.value.value octets, rw (owner, rtype, there) refl, rw (owner, rtype, seen, parts_whole form.ttl.value.value) refl)
