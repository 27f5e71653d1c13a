use Rattle.std.proofs.Common.{ℕ, List, refl, ap, ◌∙◌}
use Rattle.std.specs.List.{fold}
use Rattle.dns_wire.specs.Names.{name_labels}
use Rattle.dns_name.specs.Hashing.{name_writes}
use Rattle.dns_name.specs.declared.name.Name.{Name}
use Rattle.dns_rdata.specs.Alike.{content_of, content_writes}
use Rattle.dns_boxed.proofs.AlikeContent.{content_spelled, fed_named}
use Rattle.dns_boxed.proofs.boxed_record_data.BoxedRecordDataHash.hash.Goals as goal

abbrev labels : Name → List (List ℕ)
labels name = name_labels name.slice.now

pub returns : goal.returns
returns g c =
    c.hash.ensures
    ∙ ap (λ (l : List (List ℕ)). fold g.H.Hasher.write c.args.state.now l)
    (c.data_of_any_type_are_hashed_by_fields.ensures c.get.result
    ∙ fed_named labels (λ (name : Name). name_writes (labels name)) (λ name. refl) (content_of c.get.result)
    ∙ ap (content_writes name_writes) (content_spelled labels c.get.result c.args.self.now.rtype.code.value c.args.self.now.octets.items c.get.ensures.read c.get.ensures.typed))
