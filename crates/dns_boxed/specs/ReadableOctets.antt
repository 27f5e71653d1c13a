-- Readable octets spell the fields that are read of them, whose canonical octets are as many.
use Rattle.std.proofs.Common.{◌≡◌, ℕ, true, List, length, Option, Some, None, refl, ap, ◌∙◌}
use Rattle.std.specs.Prelude.{is_some}
use Rattle.dns_wire.specs.Names.{plain_name}
use Rattle.dns_wire.specs.Reading.{AreOctets}
use Rattle.dns_record.specs.Data.{data_as}
use Rattle.dns_record.specs.Fields.{Field, canonical_octets}
use Rattle.dns_record.proofs.Sizes.{canonical_long}
use Rattle.dns_rdata.proofs.FormatLemmas.{data_spelled}
use Rattle.dns_boxed.specs.Boxed.{is_readable, spelled_fields}

-- the fields that readable octets spell
pub spelled_is : (rtype : ℕ) (bytes : List ℕ) → is_readable rtype bytes ≡ true → data_as plain_name rtype bytes ≡ Some (spelled_fields rtype bytes)
spelled_is rtype bytes e = by (data_as plain_name rtype bytes) refl e where
  by : (read : Option (List Field)) → data_as plain_name rtype bytes ≡ read → is_some read ≡ true → data_as plain_name rtype bytes ≡ Some (spelled_fields rtype bytes)
  by None is h = absurd cc
  by (Some fields) is h = rw is refl

-- the canonical octets are as many as those that are kept
pub spelled_long : (rtype : ℕ) (bytes : List ℕ) → AreOctets bytes → is_readable rtype bytes ≡ true → length (canonical_octets rtype (spelled_fields rtype bytes)) ≡ length bytes
spelled_long rtype bytes are e = canonical_long rtype (spelled_fields rtype bytes) ∙ ap length (data_spelled rtype bytes (spelled_fields rtype bytes) are (spelled_is rtype bytes e))
