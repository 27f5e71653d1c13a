use Rattle.dns_edns.specs.Suiting.{items_in}
use Rattle.dns_edns.proofs.MatchingOptions.{BothLeft}
use Rattle.dns_edns.proofs.opt.Opt.eq_options.Given as goal

abbrev pub invariant-loop-option : goal.invariant-loop-option
invariant-loop-option l = BothLeft (items_in l.self.slice.now) l.left l.that l.option-index
