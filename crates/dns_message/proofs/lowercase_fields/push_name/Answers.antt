use Rattle.std.proofs.Common.{◌++◌, List, ℕ, ap, refl, ◌∙◌}
use Rattle.dns_record.specs.Fields.FieldOf.{CompressibleName, UncompressedName}
use Rattle.dns_wire.specs.Steps.{first_to}
use Rattle.dns_message.proofs.KeptOctets.{other_name}
use Rattle.dns_message.proofs.lowercase_fields.push_name.Goals as goal

pub returns-in_ok-extend_from_slice-in-CompressibleName-clause-put : goal.returns-in_ok-extend_from_slice-in-CompressibleName-clause-put
returns-in_ok-extend_from_slice-in-CompressibleName-clause-put c =
    let name = rw c.in-Some.is at c.in_ok-span-in-CompressibleName.ensures.read in (
      CompressibleName name.0,
      rw (c.in-CompressibleName.is, name.1) refl,
      c.in_ok-extend_from_slice-in-CompressibleName.ensures.items ∙ ap (λ (l : List ℕ). c.args.rdata.now.items ++ l) name.4,
    )

pub returns-in_ok-extend_from_slice-in_default-clause-put : goal.returns-in_ok-extend_from_slice-in_default-clause-put
returns-in_ok-extend_from_slice-in_default-clause-put c =
    let name = c.in-Some-read_uncompressed_name.ensures.read in
    let is = other_name c.args.kind c.requires.named c.in_default.not-CompressibleName in (
      UncompressedName name.0,
      rw is (ap (first_to UncompressedName) (rw c.contents.ensures.value at name.1)),
      c.in_ok-extend_from_slice-in_default.ensures.items ∙ ap (λ (l : List ℕ). c.args.rdata.now.items ++ l) name.3,
    )
