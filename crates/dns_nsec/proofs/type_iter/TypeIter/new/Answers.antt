use Rattle.std.proofs.Common.{arith, ◌*◌, ◌++◌, ℕ, List, length, ap}
use Rattle.dns_nsec.specs.Bitmaps.{bits_of, types_in}
use Rattle.dns_nsec.proofs.WindowBits.{bits_count, none_left}
use Rattle.dns_nsec.proofs.type_iter.TypeIter.new.Goals as goal

pub returns : goal.returns
returns c = ap (λ (l : List ℕ). l ++ types_in c.args.types.slice.now) (none_left (256 * c.empty.result.number) 0 (bits_of c.empty.result.bits.now) (omega (arith, bits_count c.empty.result.bits.now, ap length c.empty.ensures)))
