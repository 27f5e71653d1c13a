use Rattle.std.proofs.Common.{arith}
use Rattle.dns_wire.proofs.Several.{no_longer}
use Rattle.dns_wire.proofs.builders.size_of_all.Goals as goal

pub built_bytes_size-size-requires : goal.built_bytes_size-size-requires
built_bytes_size-size-requires g c =
    omega (arith, no_longer c.args.values.now c.loop-value.value-index c.value-item.result c.loop-value-test.true c.value-item.is g.T.BuildBytes.octets)

pub overflow_add-size : goal.overflow_add-size
overflow_add-size g c = record {
  fits = omega (arith, no_longer c.args.values.now c.loop-value.value-index c.value-item.result c.loop-value-test.true c.value-item.is g.T.BuildBytes.octets);
}
