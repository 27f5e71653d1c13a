use Rattle.std.proofs.Common.{refl, arith}
use Rattle.dns_rdata.specs.Edns.{edns_after_rcode}
use Rattle.dns_rdata.proofs.edns_record.read_after_rcode.Goals as goal

pub returns-in-Err : goal.returns-in-Err
unfolding edns_after_rcode
returns-in-Err g c = record { exact = rw (c.in_ok-version.ensures.exact, c.in_ok-flags.ensures.exact, c.in-Err.ensures.exact) refl; within = tt }

pub returns : goal.returns
unfolding edns_after_rcode
returns g c = record {
  exact = rw (c.in_ok-version.ensures.exact, c.in_ok-flags.ensures.exact, c.in-Ok.ensures.exact) refl;
  within = omega (arith, c.in_ok-version.ensures.within, c.in_ok-flags.ensures.within, c.in-Ok.ensures.within);
}
