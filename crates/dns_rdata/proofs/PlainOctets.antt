-- Data without names that pointers may lead through are written alike wherever they are written.
use Rattle.std.proofs.Common.{◌≡◌, Bool, true, false, cond, List, [], ◌∷◌, ◌++◌, ℕ, take, Result, Ok, Err, refl, sym, ap, subst, ◌∙◌}
use Rattle.std.specs.Prelude.{map, ⊤}
use Rattle.dns_wire.proofs.Parts.{builds_whole}
use Rattle.dns_wire.specs.Building.{Builds}
use Rattle.dns_wire.specs.Compression.{CompressedWrite, FitsIn}
use Rattle.dns_wire.specs.InMessage.{BuildsIn}
use Rattle.dns_record.specs.Fields.{Field, FieldOf, named_by, field_octets, fields_octets, lowercased_field, canonical_octets}
use Rattle.dns_record.specs.Fields.FieldOf.{CompressibleName, UncompressedName, CharacterString, CountedOctets, CharacterStrings, OtherOctets, Byte, Number}
use Rattle.dns_record.specs.InMessage.{fields_write, fields_fit}
use Rattle.dns_record.specs.Types.{is_lowercased}
use Rattle.dns_edns.specs.Types.{opt_fields}
use Rattle.dns_nsec.specs.Types.{nsec_fields, nsec3_fields, nsec3param_fields}
use Rattle.dns_plain.specs.Types.{a_fields, hinfo_fields, txt_fields, srv_fields, aaaa_fields, dname_fields}
use Rattle.dns_sec.specs.Types.{ds_fields, cds_fields, rrsig_fields, dnskey_fields, cdnskey_fields, zonemd_fields}
use Rattle.dns_rdata.specs.Data.{as_uncompressed, data_fields, type_number, written_field, written_fields, NamesFit, is_plain, plain_octets}
use Rattle.dns_rdata.specs.declared.record_data.RecordData.{RecordData}
use Rattle.dns_rdata.specs.declared.record_data.RecordData.TheVariants.{A, Ns, CName, Soa, Ptr, HInfo, Mx, Txt, Rp, Srv, Aaaa, DName, Opt, Ds, Rrsig, Nsec, DNSKey, Nsec3, Nsec3Param, Cds, CDNSKey, ZoneMD, Unknown}
use Rattle.dns_rdata.proofs.CompressedData.{plain_built}

-- their fields, in which no name may have pointers, and no name that has to fit
record IsPlain {N : Type 0} (v : RecordData N) : Type 1 where
  pub fields : List Field
  pub same : data_fields v ≡ map as_uncompressed fields
  pub fit : (fits : N → Type 0) → NamesFit fits v

plain_fields : {N : Type 0} (v : RecordData N) → is_plain v ≡ true → IsPlain v
plain_fields (A v) plain = record { fields = a_fields v; same = refl; fit = λ fits. tt }
plain_fields (Ns v) plain = absurd cc
plain_fields (CName v) plain = absurd cc
plain_fields (Soa v) plain = absurd cc
plain_fields (Ptr v) plain = absurd cc
plain_fields (HInfo v) plain = record { fields = hinfo_fields v; same = refl; fit = λ fits. tt }
plain_fields (Mx v) plain = absurd cc
plain_fields (Txt v) plain = record { fields = txt_fields v.slice.now; same = refl; fit = λ fits. tt }
plain_fields (Rp v) plain = absurd cc
plain_fields (Srv v) plain = record { fields = srv_fields v; same = refl; fit = λ fits. tt }
plain_fields (Aaaa v) plain = record { fields = aaaa_fields v; same = refl; fit = λ fits. tt }
plain_fields (DName v) plain = record { fields = dname_fields v; same = refl; fit = λ fits. tt }
plain_fields (Opt v) plain = record { fields = opt_fields v.slice.now; same = refl; fit = λ fits. tt }
plain_fields (Ds v) plain = record { fields = ds_fields v; same = refl; fit = λ fits. tt }
plain_fields (Rrsig v) plain = record { fields = rrsig_fields v; same = refl; fit = λ fits. tt }
plain_fields (Nsec v) plain = record { fields = nsec_fields v; same = refl; fit = λ fits. tt }
plain_fields (DNSKey v) plain = record { fields = dnskey_fields v; same = refl; fit = λ fits. tt }
plain_fields (Nsec3 v) plain = record { fields = nsec3_fields v; same = refl; fit = λ fits. tt }
plain_fields (Nsec3Param v) plain = record { fields = nsec3param_fields v; same = refl; fit = λ fits. tt }
plain_fields (Cds v) plain = record { fields = cds_fields v; same = refl; fit = λ fits. tt }
plain_fields (CDNSKey v) plain = record { fields = cdnskey_fields v; same = refl; fit = λ fits. tt }
plain_fields (ZoneMD v) plain = record { fields = zonemd_fields (λ digest. digest.now) v; same = refl; fit = λ fits. tt }
plain_fields (Unknown n v) plain = record { fields = OtherOctets v.octets.now ∷ []; same = refl; fit = λ fits. tt }

field_written : {N : Type 0} (octets : N → List ℕ) (field : Field) → written_field octets (as_uncompressed field) ≡ field_octets field
field_written octets (CompressibleName labels) = refl
field_written octets (UncompressedName labels) = refl
field_written octets (CharacterString bytes) = refl
field_written octets (CountedOctets bytes) = refl
field_written octets (CharacterStrings bytes) = refl
field_written octets (OtherOctets bytes) = refl
field_written octets (Byte b) = refl
field_written octets (Number w n) = refl

-- the octets of such fields
plain_written : {N : Type 0} (octets : N → List ℕ) (fields : List Field) → written_fields octets (map as_uncompressed fields) ≡ fields_octets fields
plain_written octets [] = refl
plain_written octets (field ∷ fields) =
    ap (λ (l : List ℕ). l ++ written_fields octets (map as_uncompressed fields)) (field_written octets field)
    ∙ ap (λ (l : List ℕ). field_octets field ++ l) (plain_written octets fields)

octets_alike : {N : Type 0} (octets others : N → List ℕ) (v : RecordData N) → is_plain v ≡ true → written_fields octets (data_fields v) ≡ written_fields others (data_fields v)
octets_alike octets others v plain =
    let p = plain_fields v plain in
    rw p.same (plain_written octets p.fields ∙ sym (plain_written others p.fields))

-- the same, if what is prefixed fits in other words
fits_so : {E F G : Type 0} {octets old new : List ℕ} {start : ℕ} {result : Result ℕ E} → (F → G) → (G → F) → Builds F octets old start new result → Builds G octets old start new result
fits_so {result = Ok end} there back b = record { ok = (there b.ok.0, b.ok.1); err = tt }
fits_so {result = Err e} there back b = record { ok = tt; err = (b.err.0, b.err.1, λ g. b.err.2 (back g)) }

-- in a buffer
pub written_plain : {N E : Type 0} {old new : List ℕ} {start : ℕ} {result : Result ℕ E} (fits : N → Type 0) (octets : N → List ℕ) (v : RecordData N) → is_plain v ≡ true
    → Builds ⊤ (plain_octets v) old start new result → Builds (NamesFit fits v) (written_fields octets (data_fields v)) old start new result
written_plain {old = old} {new} {start} {result} fits octets v plain b =
    let fit = (plain_fields v plain).fit fits in
    subst (λ (o : List ℕ). Builds (NamesFit fits v) o old start new result) (octets_alike (λ name. []) octets v plain) (fits_so (λ _. fit) (λ _. tt) b)

-- in a message
pub written_plain_in : {N E : Type 0} {old new places : List ℕ} {start : ℕ} {result : Result ℕ E} (fits : N → List ℕ → List ℕ → Type 0) (writes : N → CompressedWrite) (v : RecordData N) → is_plain v ≡ true → FitsIn places (take start old)
    → Builds ⊤ (plain_octets v) old start new result → BuildsIn (fields_fit fits writes (data_fields v) (take start old) places) (fields_write writes (data_fields v) (take start old) places) old start places new places result
written_plain_in {N} {old = old} {new} {places} {start} {result} fits writes v plain known b =
    let p = plain_fields v plain in
    let same : plain_octets v ≡ fields_octets p.fields = ap (written_fields (λ name. [])) p.same ∙ plain_written (λ name. []) p.fields in
    subst (λ (fs : List (FieldOf N)). BuildsIn (fields_fit fits writes fs (take start old) places) (fields_write writes fs (take start old) places) old start places new places result) (sym p.same)
    (plain_built fits writes p.fields same (builds_whole known b))

-- and in canonical form, but for SRV, DNAME and RRSIG
abbrev is_whole : {N : Type 0} → RecordData N → Bool
is_whole (Srv v) = false
is_whole (DName v) = false
is_whole (Rrsig v) = false
is_whole v = is_plain v

pub canonical_plain : {N : Type 0} (name : N → List (List ℕ)) (v : RecordData N) → is_whole v ≡ true → plain_octets v ≡ canonical_octets (type_number v) (map (named_by name) (data_fields v))
canonical_plain name (A v) whole = refl
canonical_plain name (Ns v) whole = absurd cc
canonical_plain name (CName v) whole = absurd cc
canonical_plain name (Soa v) whole = absurd cc
canonical_plain name (Ptr v) whole = absurd cc
canonical_plain name (HInfo v) whole = refl
canonical_plain name (Mx v) whole = absurd cc
canonical_plain name (Txt v) whole = refl
canonical_plain name (Rp v) whole = absurd cc
canonical_plain name (Srv v) whole = absurd cc
canonical_plain name (Aaaa v) whole = refl
canonical_plain name (DName v) whole = absurd cc
canonical_plain name (Opt v) whole = refl
canonical_plain name (Ds v) whole = refl
canonical_plain name (Rrsig v) whole = absurd cc
canonical_plain name (Nsec v) whole = refl
canonical_plain name (DNSKey v) whole = refl
canonical_plain name (Nsec3 v) whole = refl
canonical_plain name (Nsec3Param v) whole = refl
canonical_plain name (Cds v) whole = refl
canonical_plain name (CDNSKey v) whole = refl
canonical_plain name (ZoneMD v) whole = refl
canonical_plain name (Unknown n v) whole = by (is_lowercased n.code.value) where
  by : (b : Bool) → v.octets.now ++ [] ≡ fields_octets (cond b (map lowercased_field (OtherOctets v.octets.now ∷ [])) (OtherOctets v.octets.now ∷ []))
  by true = refl
  by false = refl
