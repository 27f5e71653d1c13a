use Rattle.std.proofs.Common.{sym, ap, ◌∙◌}
use Rattle.std.specs.Ordering.{ordering_then}
use Rattle.std.specs.Cmp.Lexicographic.{slice_cmp}
use Rattle.std.specs.declared.cmp.Ordering.{Ordering}
use Rattle.std.proofs.Common.{nat_cmp}
use Rattle.dns_wire.proofs.Spelled.{name_octets}
use Rattle.dns_record.proofs.ComparedOctets.{decided, undecided}
use Rattle.dns_sec.proofs.Ordered.{IsWell, signed_cmp, signatures_compared}
use Rattle.dns_sec.proofs.rrsig.RrsigCanonicalRecordData.cmp_canonical.Goals as goal

pub returns-then-is_ne : goal.returns-then-is_ne
returns-then-is_ne c =
    let f = c.fixed_fields.ensures.fit in
    let p : IsWell c.args.self.now = record { rtype = f.0; ttl = f.1; expiration = f.2; inception = f.3; keytag = f.4; signer = (name_octets _ _ c.args.self.now.signer.is_name).0 } in
    let g = c.fixed_fields-2.ensures.fit in
    let q : IsWell c.args.other.now = record { rtype = g.0; ttl = g.1; expiration = g.2; inception = g.3; keytag = g.4; signer = (name_octets _ _ c.args.other.now.signer.is_name).0 } in
    let fixed = rw (c.fixed_fields.ensures.fields, c.fixed_fields-2.ensures.fields) at c.cmp-order.ensures in
    let signed = signed_cmp c.args.self.now c.args.other.now in
    let all = ap (λ (o : Ordering). ordering_then o signed) fixed ∙ signatures_compared c.args.self.now c.args.other.now p q in
    decided c.cmp-order.result signed (sym c.is_ne.ensures ∙ c.if-is_ne.true) ∙ all

pub returns-then-is_ne-2 : goal.returns-then-is_ne-2
returns-then-is_ne-2 c =
    let f = c.fixed_fields.ensures.fit in
    let p : IsWell c.args.self.now = record { rtype = f.0; ttl = f.1; expiration = f.2; inception = f.3; keytag = f.4; signer = (name_octets _ _ c.args.self.now.signer.is_name).0 } in
    let g = c.fixed_fields-2.ensures.fit in
    let q : IsWell c.args.other.now = record { rtype = g.0; ttl = g.1; expiration = g.2; inception = g.3; keytag = g.4; signer = (name_octets _ _ c.args.other.now.signer.is_name).0 } in
    let fixed = rw (c.fixed_fields.ensures.fields, c.fixed_fields-2.ensures.fields) at c.cmp-order.ensures in
    let signed = signed_cmp c.args.self.now c.args.other.now in
    let all = ap (λ (o : Ordering). ordering_then o signed) fixed ∙ signatures_compared c.args.self.now c.args.other.now p q in
    let signature = slice_cmp nat_cmp c.args.self.now.signature.now c.args.other.now.signature.now in
    decided c.cmp_lowercase_composed-order.result signature (sym c.is_ne-2.ensures ∙ c.if-is_ne-2.true)
    ∙ ap (λ (o : Ordering). ordering_then o signature) c.cmp_lowercase_composed-order.ensures.order
    ∙ undecided c.cmp-order.result signed (sym c.is_ne.ensures ∙ c.if-is_ne.false) ∙ all

pub returns : goal.returns
returns c =
    let f = c.fixed_fields.ensures.fit in
    let p : IsWell c.args.self.now = record { rtype = f.0; ttl = f.1; expiration = f.2; inception = f.3; keytag = f.4; signer = (name_octets _ _ c.args.self.now.signer.is_name).0 } in
    let g = c.fixed_fields-2.ensures.fit in
    let q : IsWell c.args.other.now = record { rtype = g.0; ttl = g.1; expiration = g.2; inception = g.3; keytag = g.4; signer = (name_octets _ _ c.args.other.now.signer.is_name).0 } in
    let fixed = rw (c.fixed_fields.ensures.fields, c.fixed_fields-2.ensures.fields) at c.cmp-order.ensures in
    let signed = signed_cmp c.args.self.now c.args.other.now in
    let all = ap (λ (o : Ordering). ordering_then o signed) fixed ∙ signatures_compared c.args.self.now c.args.other.now p q in
    let signature = slice_cmp nat_cmp c.args.self.now.signature.now c.args.other.now.signature.now in
    c.cmp.ensures
    ∙ undecided c.cmp_lowercase_composed-order.result signature (sym c.is_ne-2.ensures ∙ c.if-is_ne-2.false)
    ∙ ap (λ (o : Ordering). ordering_then o signature) c.cmp_lowercase_composed-order.ensures.order
    ∙ undecided c.cmp-order.result signed (sym c.is_ne.ensures ∙ c.if-is_ne.false) ∙ all
