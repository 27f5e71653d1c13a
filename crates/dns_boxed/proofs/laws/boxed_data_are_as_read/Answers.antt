use Rattle.std.proofs.Common.{ℕ, List, Option, refl, sym, ap, ◌∙◌}
use Rattle.std.specs.Prelude.{[], map, unwrap_or}
use Rattle.dns_wire.specs.Compression.{compressed_name_writes}
use Rattle.dns_wire.specs.Names.{name_labels}
use Rattle.dns_name.specs.Hashing.{name_writes}
use Rattle.dns_name.specs.declared.name.Name.{Name}
use Rattle.dns_record.specs.Fields.{Field, named_by, canonical_octets}
use Rattle.dns_record.specs.InMessage.{fields_write}
use Rattle.dns_rdata.specs.Alike.{Content, content_of, same_name, same_content, content_writes}
use Rattle.dns_boxed.specs.Boxed.{spelled_content}
use Rattle.dns_rdata.specs.Data.{data_fields}
use Rattle.dns_boxed.proofs.AlikeContent.{content_named, content_spelled, same_named, fed_named}
use Rattle.dns_rdata.proofs.CompressedData.{compressible_writes}
use Rattle.dns_boxed.proofs.laws.boxed_data_are_as_read.Goals as goal

abbrev labels : Name → List (List ℕ)
labels name = name_labels name.slice.now

pub returns : goal.returns
returns c = record {
  canonical = λ boxed read is.
      ap (canonical_octets boxed.rtype.code.value) (ap (λ (found : Option (List Field)). unwrap_or found []) is.0)
      ∙ ap (λ (n : ℕ). canonical_octets n (map (named_by labels) (data_fields read))) is.1.0;
  rank = λ boxed read is. is.1.0;
  equal = λ boxed other read also is so.
      sym (c.data_of_any_type_are_equal_by_fields.ensures read also
      ∙ same_named labels (λ (a b : Name). same_name (labels a) (labels b)) (λ a b. refl) (content_of read) (content_of also)
      ∙ ap (λ (k : Content (List (List ℕ))). same_content same_name k (content_named labels (content_of also))) (content_spelled labels read boxed.rtype.code.value boxed.octets.items is.0 is.1)
      ∙ ap (λ (k : Content (List (List ℕ))). same_content same_name (spelled_content boxed.rtype.code.value boxed.octets.items) k) (content_spelled labels also other.rtype.code.value other.octets.items so.0 so.1));
  built = λ boxed read contents places is.
      ap (λ (found : Option (List Field)). fields_write compressed_name_writes (unwrap_or found []) contents places) is.0
      ∙ compressible_writes labels compressed_name_writes (data_fields read) contents places;
  fed = λ boxed read is.
      sym (c.data_of_any_type_are_hashed_by_fields.ensures read
      ∙ fed_named labels (λ (name : Name). name_writes (labels name)) (λ name. refl) (content_of read)
      ∙ ap (content_writes name_writes) (content_spelled labels read boxed.rtype.code.value boxed.octets.items is.0 is.1));
}
