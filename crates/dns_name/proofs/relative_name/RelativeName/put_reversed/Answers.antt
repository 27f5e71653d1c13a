use Rattle.std.proofs.Common.{refl}
use Rattle.dns_name.proofs.Turned.{turned_none, turned_more, turned_all}
use Rattle.dns_name.proofs.relative_name.RelativeName.put_reversed.Goals as goal

pub loop-at-init : goal.loop-at-init
loop-at-init c = turned_none _ _ _ c.args.self.now.are_labels c.requires.room c.requires.within

pub slice_bounds-copy_before-end : goal.slice_bounds-copy_before-end
slice_bounds-copy_before-end c = (turned_more _ _ _ c.args.self.now.are_labels c.requires.room c.requires.within _ _ _ c.loop-at.invariant c.loop-at-test.true refl).fits

pub loop-at-preserved : goal.loop-at-preserved
loop-at-preserved c = (turned_more _ _ _ c.args.self.now.are_labels c.requires.room c.requires.within _ _ _ c.loop-at.invariant c.loop-at-test.true refl).more _ c.copy_before.ensures

pub returns : goal.returns
returns c = turned_all _ _ _ c.args.self.now.are_labels c.requires.room c.requires.within _ _ c.loop-at.invariant c.loop-at-test.false
