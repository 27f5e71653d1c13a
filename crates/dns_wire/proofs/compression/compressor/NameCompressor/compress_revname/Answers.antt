use Rattle.std.proofs.Common.{◌≡◌, ◌∙◌, sym, ap, refl}
use Rattle.dns_wire.specs.Compression.{longest_recorded}
use Rattle.dns_wire.specs.Names.{name_labels}
use Rattle.dns_wire.specs.Reversed.{reversed_name_labels}
use Rattle.dns_wire.proofs.Backward.{reversed_size}
use Rattle.dns_wire.proofs.Spelled.{labels_of_wire}
use Rattle.dns_wire.proofs.Reversing.{prefix_long}
use Rattle.dns_wire.proofs.compression.compressor.NameCompressor.compress_revname.Goals as goal
use Rattle.dns_wire.proofs.compression.compressor.NameCompressor.compress_revname.Goals.{After-reverse_name}

pub slice_bounds-buffer-end : goal.slice_bounds-buffer-end
slice_bounds-buffer-end c = (reversed_size _ _ c.requires).short

pub slice_bounds-forward-end : goal.slice_bounds-forward-end
slice_bounds-forward-end c = prefix_long _ _ refl (reversed_size _ _ c.requires).short

pub reverse_name-requires-clause-size : goal.reverse_name-requires-clause-size
reverse_name-requires-clause-size c = sym (prefix_long _ _ refl (reversed_size _ _ c.requires).short)

-- the labels of the copy are the name's
same : (c : After-reverse_name) → name_labels c.reverse_name.new.forward ≡ reversed_name_labels c.args.name.now
same c = ap name_labels c.reverse_name.ensures ∙ (labels_of_wire _ (reversed_size _ _ c.requires).name).1

pub compress_name-requires : goal.compress_name-requires
compress_name-requires c =
    rw (c.reverse_name.ensures, (labels_of_wire _ (reversed_size _ _ c.requires).name).1) (labels_of_wire _ (reversed_size _ _ c.requires).name).0

pub returns-clause-exact : goal.returns-clause-exact
returns-clause-exact c = c.compress_name.ensures.exact ∙ ap (longest_recorded c.args.contents.now c.args.self.now 0) (same (goal.at.returns-clause-exact c).After-reverse_name)

pub returns-clause-longest : goal.returns-clause-longest
returns-clause-longest c = rw (same (goal.at.returns-clause-longest c).After-reverse_name) at c.compress_name.ensures.longest

pub returns-clause-none : goal.returns-clause-none
returns-clause-none c = rw (same (goal.at.returns-clause-none c).After-reverse_name) at c.compress_name.ensures.none
