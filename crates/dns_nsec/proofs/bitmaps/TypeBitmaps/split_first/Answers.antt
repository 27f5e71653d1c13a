use Rattle.std.proofs.Common.{List, ℕ, Option, subst}
use Rattle.dns_record.specs.TypeBitMaps.{Window}
use Rattle.dns_nsec.proofs.Parted.{FirstOf, first_window, windows_rise}
use Rattle.dns_nsec.proofs.bitmaps.TypeBitmaps.split_first.Goals as goal

pub invariant_of-result : goal.invariant_of-result
invariant_of-result c = record { is_bitmap = (subst (λ (r : Option (Window × List ℕ)). FirstOf c.args.self.now.slice.now r) c.in-Ok.ensures.exact (first_window _ c.args.self.now.is_bitmap)).1 }

pub returns-in-Ok-clause-windows : goal.returns-in-Ok-clause-windows
returns-in-Ok-clause-windows c = (subst (λ (r : Option (Window × List ℕ)). FirstOf c.args.self.now.slice.now r) c.in-Ok.ensures.exact (first_window _ c.args.self.now.is_bitmap)).0

pub returns-in-Ok-clause-rise : goal.returns-in-Ok-clause-rise
returns-in-Ok-clause-rise c = windows_rise _ c.args.self.now.is_bitmap

pub returns-in-Err-clause-windows : goal.returns-in-Err-clause-windows
returns-in-Err-clause-windows c = subst (λ (r : Option (Window × List ℕ)). FirstOf c.args.self.now.slice.now r) c.in-Err.ensures.exact (first_window _ c.args.self.now.is_bitmap)

pub returns-in-Err-clause-rise : goal.returns-in-Err-clause-rise
returns-in-Err-clause-rise c = windows_rise _ c.args.self.now.is_bitmap
