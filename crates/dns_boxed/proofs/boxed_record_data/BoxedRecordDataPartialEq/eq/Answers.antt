use Rattle.std.proofs.Common.{ℕ, List, refl, ap, ◌∙◌}
use Rattle.dns_wire.specs.Names.{name_labels}
use Rattle.dns_name.specs.declared.name.Name.{Name}
use Rattle.dns_rdata.specs.Alike.{Content, content_of, same_name, same_content}
use Rattle.dns_boxed.specs.Boxed.{spelled_content}
use Rattle.dns_boxed.proofs.AlikeContent.{content_named, content_spelled, same_named}
use Rattle.dns_boxed.proofs.boxed_record_data.BoxedRecordDataPartialEq.eq.Goals as goal

abbrev labels : Name → List (List ℕ)
labels name = name_labels name.slice.now

pub returns : goal.returns
returns c =
    c.eq.ensures ∙ c.data_of_any_type_are_equal_by_fields.ensures c.get.result c.get-2.result
    ∙ same_named labels (λ (a b : Name). same_name (labels a) (labels b)) (λ a b. refl) (content_of c.get.result) (content_of c.get-2.result)
    ∙ ap (λ (k : Content (List (List ℕ))). same_content same_name k (content_named labels (content_of c.get-2.result)))
    (content_spelled labels c.get.result c.args.self.now.rtype.code.value c.args.self.now.octets.items c.get.ensures.read c.get.ensures.typed)
    ∙ ap (λ (k : Content (List (List ℕ))). same_content same_name (spelled_content c.args.self.now.rtype.code.value c.args.self.now.octets.items) k)
    (content_spelled labels c.get-2.result c.args.other.now.rtype.code.value c.args.other.now.octets.items c.get-2.ensures.read c.get-2.ensures.typed)
