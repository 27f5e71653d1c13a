use Rattle.std.proofs.Common.{◌≡◌, Some, map, refl, sym, ◌∙◌, rules}
use Rattle.dns_wire.specs.Names.{plain_name, name_labels, wire}
use Rattle.dns_name.specs.declared.name.Name.{Name}
use Rattle.dns_record.specs.Data.{data_as}
use Rattle.dns_record.specs.Fields.{named_by}
use Rattle.dns_rdata.specs.Data.{data_fields}
use Rattle.dns_rdata.proofs.FormatLemmas.{data_spelled}
use Rattle.dns_rdata.specs.CanonicalSizes.{fields_written}
use Rattle.dns_boxed.proofs.boxed_record_data.BoxedRecordData.get.Goals as goal

pub returns-clause-written : goal.returns-clause-written
returns-clause-written c =
    let read : data_as plain_name c.args.self.now.rtype.code.value c.args.self.now.octets.items ≡ Some (map (named_by (λ (name : Name). name_labels name.slice.now)) (data_fields c.unwrap.result)) = search rules in
    sym (fields_written (λ (name : Name). name_labels name.slice.now) (λ (name : Name). wire (name_labels name.slice.now)) (λ name. refl) (data_fields c.unwrap.result))
    ∙ data_spelled c.args.self.now.rtype.code.value c.args.self.now.octets.items _ c.args.self.now.octal read
