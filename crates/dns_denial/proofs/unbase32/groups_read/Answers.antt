use Rattle.std.proofs.Common.{◌≡◌, ◌*◌, ◌∙◌, ℕ, ap, arith, refl, rules, sym}
use Rattle.std.proofs.lemmas.List.{take_all}
use Rattle.std.proofs.lemmas.Slice.{overwrites}
use Rattle.dns_denial.specs.Unbase32.{groups_read}
use Rattle.dns_denial.proofs.Ungroups.{group_read}
use Rattle.dns_denial.proofs.unbase32.groups_read.Goals as goal

pub loop-i-init : goal.loop-i-init
unfolding groups_read
loop-i-init c = record { long = refl; read = refl }

pub loop-i-preserved : goal.loop-i-preserved
loop-i-preserved c = record {
  long = search (rules, overwrites);
  read = group_read c.args.text.now c.loop-i.octets c.copy_from_slice.new.self c.loop-i.i _ _ c.loop-i.invariant.long c.loop-i-test.true (omega arith) (omega arith)
      (c.copy_from_slice.ensures.after ∙ c.group_octets.ensures) c.loop-i.invariant.read;
}

pub returns : goal.returns
returns c =
    let four : c.loop-i.i ≡ 4 = omega arith in
    sym (take_all (5 * c.loop-i.i) c.loop-i.octets (omega arith)) ∙ c.loop-i.invariant.read ∙ ap (λ (n : ℕ). groups_read n c.args.text.now) four
