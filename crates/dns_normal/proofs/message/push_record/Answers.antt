use Rattle.std.proofs.Common.{sym, ◌∙◌}
use Rattle.dns_wire.specs.Names.{name_labels}
use Rattle.dns_message.specs.Canonical.{lowercase_names}
use Rattle.dns_message.proofs.Whole.{well_formed_lowercased}
use Rattle.dns_normal.proofs.PushedRecords.{push_leaves, read_is, read_ok}
use Rattle.dns_normal.proofs.message.push_record.Goals as goal

pub unwrap-requires : goal.unwrap-requires
unwrap-requires c =
    let held = c.requires in
    read_ok (λ v. name_labels v.slice.now) held.0 _ held.1 (held.2 ∙ sym c.octets.ensures.octets) c.split_bytes.result c.split_bytes.ensures.exact

pub returns : goal.returns
returns c = λ most rs r has well is.
    let seen = read_is (λ v. name_labels v.slice.now) r _ well (is ∙ sym c.octets.ensures.octets) c.split_bytes.result c.unwrap.result c.unwrap.ensures c.split_bytes.ensures.exact in
    push_leaves (λ v. name_labels v.slice.now) most rs (lowercase_names r) c.unwrap.result.0 c.args.builder.now c.push_answer.new.self c.push_answer.result has (well_formed_lowercased r well) seen c.push_answer.ensures.result_is c.push_answer.ensures.pushed
