-- The data of records as they are, before they are read.
use Rattle.std.proofs.Common.{◌≡◌, ℕ, ◌+◌, ◌-◌, ◌≤◌, true, List, length, take, drop, Some, sym, ap, ◌∙◌, arith}
use Rattle.std.proofs.lemmas.List.{drop-take, length-take}
use Rattle.dns_wire.specs.Names.{plain_name}
use Rattle.dns_wire.specs.Pointers.{name_at}
use Rattle.dns_wire.specs.Reading.{plain_at}
use Rattle.dns_record.specs.Data.{data_as, data_in}
use Rattle.dns_record.specs.Records.{Parts, parts_at}
use Rattle.dns_record.proofs.PartsLemmas.{parts_are_at}
use Rattle.dns_rdata.specs.Plain.{is_uncompressed_type}
use Rattle.dns_rdata.proofs.UncompressedData.{seen_placed}
use Rattle.dns_message.specs.UnparsedRecords.{data_start, DataAreAt}

-- ---- data as they are

-- where the data begin is known by their end
pub data_are_at : (contents : List ℕ) (at : ℕ) (p : Parts) (end : ℕ) → plain_at parts_at contents at ≡ Some (p, end) → DataAreAt contents p.content end
data_are_at contents at p end e =
    let o = (parts_are_at contents at p end e).content in
    let long : length p.content ≤ end = omega (arith, o.end_is) in
    let begin : end - length p.content + length p.content ≡ end = omega (arith, long) in
    let place : end - length p.content ≡ (parts_are_at contents at p end e).size_end = omega (arith, o.end_is) in (
      long,
      o.occur ∙ ap (λ (n : ℕ). take (length p.content) (drop n contents)) (sym place)
          ∙ sym (drop-take (end - length p.content) (length p.content) contents) ∙ ap (λ (n : ℕ). drop (end - length p.content) (take n contents)) begin,
    )

-- ---- data without names that pointers may lead through

pub uncompressed_in_place : (contents octets : List ℕ) (rtype end : ℕ) → is_uncompressed_type rtype ≡ true → end ≤ length contents → DataAreAt contents octets end
    → data_in name_at rtype (take end contents) (data_start end octets) ≡ data_as plain_name rtype octets
uncompressed_in_place contents octets rtype end plain within there =
    seen_placed name_at plain_name rtype (take end contents) (data_start end octets) plain (omega (arith, length-take end contents, within, there.0))
    ∙ ap (data_as plain_name rtype) (sym there.1)
