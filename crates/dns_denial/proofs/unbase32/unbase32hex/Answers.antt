use Rattle.std.proofs.Common.{◌∙◌, List, ap, false, sym, true, ℕ}
use Rattle.std.specs.Str.{bytes_eq}
use Rattle.dns_denial.proofs.Ungroups.{hash_if, hash_short}
use Rattle.dns_denial.proofs.unbase32.unbase32hex.Goals as goal

pub returns-then-text-ne32 : goal.returns-then-text-ne32
returns-then-text-ne32 c = sym (hash_short c.args.text.now c.if-text-ne32.true)

pub returns-then-eq : goal.returns-then-eq
returns-then-eq c =
    let written = ap (λ (l : List ℕ). bytes_eq l c.args.text.now) (sym (c.as_slice.ensures ∙ c.base32hex.ensures)) in
    sym (hash_if c.args.text.now c.groups_read-octets.result true c.if-text-ne32.false c.groups_read-octets.ensures (written ∙ sym c.if-eq.ensures))

pub returns-else-eq : goal.returns-else-eq
returns-else-eq c =
    let written = ap (λ (l : List ℕ). bytes_eq l c.args.text.now) (sym (c.as_slice.ensures ∙ c.base32hex.ensures)) in
    sym (hash_if c.args.text.now c.groups_read-octets.result false c.if-text-ne32.false c.groups_read-octets.ensures (written ∙ sym c.if-eq.ensures))
