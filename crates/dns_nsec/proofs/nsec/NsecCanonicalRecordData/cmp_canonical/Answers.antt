use Rattle.std.proofs.Common.{sym, ap, ◌∙◌, false, nat_cmp}
use Rattle.std.specs.Ordering.{ordering_then}
use Rattle.std.specs.Cmp.Lexicographic.{slice_cmp}
use Rattle.std.specs.declared.cmp.Ordering.{Ordering}
use Rattle.dns_record.proofs.ComparedOctets.{fields_compared, decided, undecided}
use Rattle.dns_nsec.specs.Types.{nsec_fields}
use Rattle.dns_nsec.proofs.nsec.NsecCanonicalRecordData.cmp_canonical.Goals as goal

pub returns-then-is_ne : goal.returns-then-is_ne
returns-then-is_ne c =
    let types = slice_cmp nat_cmp c.args.self.now.types.slice.now c.args.other.now.types.slice.now in
    decided c.cmp_composed-order.result types (sym c.is_ne.ensures ∙ c.if-is_ne.true)
    ∙ ap (λ (o : Ordering). ordering_then o types) c.cmp_composed-order.ensures.order
    ∙ sym (fields_compared false (nsec_fields c.args.self.now) (nsec_fields c.args.other.now) (c.cmp_composed-order.ensures.names, tt))

pub returns : goal.returns
returns c =
    let types = slice_cmp nat_cmp c.args.self.now.types.slice.now c.args.other.now.types.slice.now in
    c.cmp.ensures
    ∙ undecided c.cmp_composed-order.result types (sym c.is_ne.ensures ∙ c.if-is_ne.false)
    ∙ ap (λ (o : Ordering). ordering_then o types) c.cmp_composed-order.ensures.order
    ∙ sym (fields_compared false (nsec_fields c.args.self.now) (nsec_fields c.args.other.now) (c.cmp_composed-order.ensures.names, tt))
