use Rattle.std.proofs.Common.{inl, inr, ◌∙◌, sym, ap₂, nat_cmp}
use Rattle.dns_wire.proofs.Agreeing.{decided, undecided}
use Rattle.dns_wire.proofs.lowercase.compare_agreed.Goals as goal
use Rattle.dns_wire.proofs.lowercase.compare_agreed.Goals.{else-agreed-a-via-then-agreed-a+else-agreed-b, else-agreed-a-via-else-agreed-a}

pub returns-then-agreed-b : goal.returns-then-agreed-b
returns-then-agreed-b c =
    c.cmp.ensures ∙ ap₂ nat_cmp c.to_ascii_lowercase-first.ensures.value c.to_ascii_lowercase.ensures.value
    ∙ sym (decided c.args.a.now c.args.b.now c.args.agreed c.requires c.if-agreed-a.true c.if-agreed-b.true)

pub returns : goal.returns
returns c =
    c.cmp-2.ensures ∙ sym (undecided c.args.a.now c.args.b.now c.args.agreed c.requires
    (elim c.else-agreed-a.branch [ else-agreed-a-via-then-agreed-a+else-agreed-b w ↦ inr w.if-agreed-b.false | else-agreed-a-via-else-agreed-a w ↦ inl w.if-agreed-a.false ]))
