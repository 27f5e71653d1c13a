use Rattle.std.proofs.Common.{◌≡◌, sym, ◌∙◌, ap, subst, refl, arith}
use Rattle.std.specs.Prelude.{Ok, IsOk}
use Rattle.dns_name.specs.Text.{parsed_name}
use Rattle.dns_canon.specs.Generated.{generated_server}
use Rattle.dns_canon.proofs.GeneratedRecords.{ns_plain_name, ns_short}
use Rattle.dns_canon.proofs.PlainNames.{plain_parsed}
use Rattle.dns_canon.proofs.make.server_of.Goals as goal

pub unwrap-requires : goal.unwrap-requires
unwrap-requires c =
    let read : c.parse.result ≡ Ok (generated_server c.args.index) = c.parse.ensures.value ∙ ap parsed_name (c.deref.ensures ∙ rw c.clear.ensures.bytes at c.in_ok-write.ensures.bytes) ∙ plain_parsed (generated_server c.args.index) (ns_plain_name c.args.index) (omega (arith, ns_short c.args.index)) in
    subst IsOk (sym read) refl

pub returns : goal.returns
returns c =
    let read : c.parse.result ≡ Ok (generated_server c.args.index) = c.parse.ensures.value ∙ ap parsed_name (c.deref.ensures ∙ rw c.clear.ensures.bytes at c.in_ok-write.ensures.bytes) ∙ plain_parsed (generated_server c.args.index) (ns_plain_name c.args.index) (omega (arith, ns_short c.args.index)) in
    let same = sym c.unwrap.ensures ∙ read in
    let name : c.unwrap.result ≡ generated_server c.args.index = cc in
    name
