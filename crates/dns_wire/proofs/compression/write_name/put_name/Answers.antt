use Rattle.std.proofs.Common.{◌≡◌, ap, ◌∙◌, sym, take, ℕ, List}
use Rattle.std.proofs.lemmas.Result.{err_from_is_err_and}
use Rattle.dns_wire.specs.Compression.{cut_at, compress}
use Rattle.dns_wire.specs.Names.{name_labels, wire}
use Rattle.dns_wire.proofs.Cutting.{cut_fits, name_recorded_run, name_built, name_refused}
use Rattle.dns_wire.proofs.Spelled.{name_octets}
use Rattle.dns_wire.proofs.compression.write_name.put_name.Goals as goal
use Rattle.dns_wire.proofs.compression.write_name.put_name.Goals.{After-compress_name-known}

-- what is written is what the name writes with compression
octets : (c : After-compress_name-known) → cut_at c.args.name.now c.compress_name-known.result ≡ compress (take c.args.start c.args.contents.now) c.args.compressor.now (name_labels c.args.name.now)
octets c =
    ap (λ (n : List ℕ). cut_at n c.compress_name-known.result) (name_octets _ _ c.requires.name).1
    ∙ ap (cut_at (wire (name_labels c.args.name.now))) c.compress_name-known.ensures.exact

pub put_cut-requires-clause-known : goal.put_cut-requires-clause-known
put_cut-requires-clause-known c =
    let n = name_octets _ _ c.requires.name in
    rw n.1 (cut_fits _ _ _ n.0 c.requires.known _ (sym c.compress_name-known.ensures.exact))

pub returns-in_err-end : goal.returns-in_err-end
returns-in_err-end c =
    let p = err_from_is_err_and c.from_residual.result c.from_residual.ensures.1 in
    rw p.1 (name_refused _ _ _ _ _ _ _ _ (octets (goal.at.returns-in_err-end c).After-compress_name-known) c.in_err-end.ensures)

pub note-requires-clause-run : goal.note-requires-clause-run
note-requires-clause-run c =
    let w = goal.at.note-requires-clause-run c in
    let s = rw (octets w.After-compress_name-known) at c.in_ok-end.ensures.ok.1 in
    name_recorded_run _ _ _ _ _ _ (name_octets _ _ c.requires.name).0 c.requires.room c.requires.known s

pub returns : goal.returns
returns c =
    let w = goal.at.returns c in
    let s = rw (octets w.After-compress_name-known) at c.in_ok-end.ensures.ok.1 in
    name_built _ _ _ _ _ _ (name_octets _ _ c.requires.name).0 c.requires.room c.requires.known s _ c.note.ensures.exact c.note.ensures.grows c.note.ensures.fits
