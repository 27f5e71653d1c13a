use Rattle.std.proofs.Common.{◌≡◌, sym, ◌∙◌, ap, subst, refl}
use Rattle.std.specs.Prelude.{Ok, IsOk}
use Rattle.dns_record.specs.CharStrTexts.{charstr_of}
use Rattle.dns_canon.specs.Generated.{generated_string}
use Rattle.dns_canon.proofs.GeneratedRecords.{string_read}
use Rattle.dns_canon.proofs.make.string_of.Goals as goal

pub unwrap-requires : goal.unwrap-requires
unwrap-requires c =
    let read : c.parse.result ≡ Ok (generated_string c.args.index) = c.parse.ensures.value ∙ ap charstr_of (c.deref.ensures ∙ rw c.clear.ensures.bytes at c.in_ok-write.ensures.bytes) ∙ string_read c.args.index c.ranges.index.fits in
    subst IsOk (sym read) refl

pub returns : goal.returns
returns c =
    let read : c.parse.result ≡ Ok (generated_string c.args.index) = c.parse.ensures.value ∙ ap charstr_of (c.deref.ensures ∙ rw c.clear.ensures.bytes at c.in_ok-write.ensures.bytes) ∙ string_read c.args.index c.ranges.index.fits in
    let same = sym c.unwrap.ensures ∙ read in
    let string : c.unwrap.result ≡ generated_string c.args.index = cc in
    string
