use Rattle.std.proofs.Common.{◌-◌, ◌/◌, ◌%◌, ◌^◌, ℕ, ap, sym, ◌∙◌}
use Rattle.std.specs.Prelude.{◌==◌}
use Rattle.dns_nsec.proofs.WindowBits.{bit_of, any_default, none_after}
use Rattle.dns_nsec.proofs.window.Window.is_set.Goals as goal

pub returns-in-Some : goal.returns-in-Some
returns-in-Some c = rw (bit_of c.args.self.now.bits.now c.args.place) (ap (λ (o : ℕ). o / 2 ^ (7 - c.args.place % 8) % 2 == 1) (c.in-Some.ensures.lookup.1 ∙ any_default c.args.self.now.bits.now (c.args.place / 8) c.in-Some.octet.now (sym c.in-Some.ensures.lookup.0)))

pub returns-in-None : goal.returns-in-None
returns-in-None c = sym (none_after c.args.self.now.bits.now c.args.place (sym c.in-None.ensures.lookup.0))
