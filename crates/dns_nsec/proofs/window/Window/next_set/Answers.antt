use Rattle.std.proofs.Common.{arith, ◌*◌, ◌∙◌, sym}
use Rattle.std.proofs.lemmas.Bool.Decides.{nat_tests}
use Rattle.dns_nsec.specs.Bitmaps.{bits_of}
use Rattle.dns_nsec.proofs.WindowBits.{bits_count, step_set, step_clear, none_left}
use Rattle.dns_nsec.proofs.window.Window.next_set.Goals as goal

pub returns-then-is_set : goal.returns-then-is_set
returns-then-is_set c = (grind (arith, nat_tests, c.requires), c.loop-place.invariant ∙ step_set (256 * c.args.self.now.number) c.loop-place.place (bits_of c.args.self.now.bits.now) (grind (arith, nat_tests, bits_count c.args.self.now.bits.now)) (sym c.is_set.ensures ∙ c.if-is_set.true))

pub loop-place-preserved : goal.loop-place-preserved
loop-place-preserved c = c.loop-place.invariant ∙ step_clear (256 * c.args.self.now.number) c.loop-place.place (bits_of c.args.self.now.bits.now) (grind (arith, nat_tests, bits_count c.args.self.now.bits.now)) (sym c.is_set.ensures ∙ c.if-is_set.false)

pub returns : goal.returns
returns c = c.loop-place.invariant ∙ none_left (256 * c.args.self.now.number) c.loop-place.place (bits_of c.args.self.now.bits.now) (grind (arith, nat_tests, bits_count c.args.self.now.bits.now))
