use Rattle.std.proofs.Common.{◌≡◌, ℕ, List, [], ◌∷◌, Option, ap, subst, ◌∙◌}
use Rattle.std.specs.Prelude.{map}
use Rattle.dns_wire.specs.Compression.{CompressedWrite, compressed_name_writes}
use Rattle.dns_wire.specs.Layout.{LayoutPart, part_writes, laid, LayoutMatches}
use Rattle.dns_wire.specs.Layout.LayoutPart.{NamePart}
use Rattle.dns_wire.specs.LayoutLemmas.{list_writes-one}
use Rattle.dns_record.specs.InMessage.{fixed_header, record_writes}
use Rattle.dns_message.specs.Built.{field_part}
use Rattle.dns_message.proofs.read_again.records_with_layouts_are_built.Goals as goal

pub returns : goal.returns
returns g c = λ owner content r named layout_matches.
    let first : (k p : List ℕ) → g.N.BuildInMessage.writes owner k p ≡ laid (NamePart r.owner ∷ []) k p = subst (λ (t : Option (List LayoutPart)). LayoutMatches t (g.N.BuildInMessage.writes owner)) named (g.met.N.BuildInMessage.layout_matches owner) in
    let second : (k p : List ℕ) → g.D.BuildInMessage.writes content k p ≡ laid (map field_part r.content) k p = subst (λ (t : Option (List LayoutPart)). LayoutMatches t (g.D.BuildInMessage.writes content)) layout_matches (g.met.D.BuildInMessage.layout_matches content) in
    let one : g.N.BuildInMessage.writes owner ≡ compressed_name_writes r.owner = λ i k p. (first k p ∙ list_writes-one part_writes (NamePart r.owner) k p) i in
    let two : g.D.BuildInMessage.writes content ≡ laid (map field_part r.content) = λ i k p. second k p i in
    ap (λ (o : CompressedWrite). record_writes o (fixed_header r.rtype r.class r.ttl) (g.D.BuildInMessage.writes content)) one
    ∙ ap (λ (d : CompressedWrite). record_writes (compressed_name_writes r.owner) (fixed_header r.rtype r.class r.ttl) d) two
