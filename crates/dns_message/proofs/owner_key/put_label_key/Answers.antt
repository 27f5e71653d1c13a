use Rattle.std.proofs.Common.{◌∙◌, ap, arith, slice_index_or, sym}
use Rattle.std.proofs.lemmas.List.{get_or-map, length-set, take_more_set}
use Rattle.std.specs.Char.{to_ascii_lowercase}
use Rattle.dns_message.proofs.owner_key.put_label_key.Goals as goal

pub loop-at-init : goal.loop-at-init
loop-at-init c = record { long = omega (arith, c.requires.room, length-set c.args.key.now 0 0); put = take_more_set c.args.key.now 0 0 (omega (arith, c.requires.room)) }

pub lowercase_key_octet-requires : goal.lowercase_key_octet-requires
lowercase_key_octet-requires c =
    sym (get_or-map to_ascii_lowercase c.args.label.now c.loop-at.at 0 0 (omega (arith, c.loop-at-test.true))) ∙ ap (λ l. slice_index_or l c.loop-at.at 0) c.requires.lowercase
