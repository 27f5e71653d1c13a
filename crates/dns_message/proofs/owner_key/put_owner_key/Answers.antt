use Rattle.std.proofs.Common.{◌≡◌, ◌≤◌, ◌∙◌, ◌+◌, ◌-◌, ◌++◌, ap, arith, drop, length, refl, sym, take}
use Rattle.std.proofs.lemmas.List.{drop-drop, drop-map, take-map, length-append, length-drop, length-map, length-take}
use Rattle.std.specs.Char.{to_ascii_lowercase}
use Rattle.dns_message.specs.OwnerKeys.{key_octet, label_key}
use Rattle.dns_message.proofs.OwnerKeyLemmas.{keyed_more, keyed_none, keyed_whole, left_within, next_of}
use Rattle.dns_message.proofs.owner_key.put_owner_key.Goals as goal

pub loop-at-init : goal.loop-at-init
loop-at-init c = record { long = refl; keyed = keyed_none c.args.owner.now c.args.key.now c.requires.name }

pub overflow_sub-begin-in-loop-at : goal.overflow_sub-begin-in-loop-at
overflow_sub-begin-in-loop-at c =
    let next = next_of _ _ _ _ c.loop-at.invariant.keyed c.loop-at-test.true in
    omega (arith, next.end_is, next.size, c.from.ensures)

pub slice_bounds-put_label_key-end : goal.slice_bounds-put_label_key-end
slice_bounds-put_label_key-end c =
    let next = next_of _ _ _ _ c.loop-at.invariant.keyed c.loop-at-test.true in
    omega (arith, next.room, next.size, c.from.ensures)

pub returns-clause-key : goal.returns-clause-key
returns-clause-key c = keyed_whole c.args.owner.now _ _ c.loop-at.key c.loop-at.invariant.keyed c.loop-at-test.false (omega (arith, c.requires.room, c.loop-at.invariant.long))

pub loop-at-preserved : goal.loop-at-preserved
loop-at-preserved c =
    let owner = c.args.owner.now in
    let key = c.loop-at.key in
    let at = c.loop-at.at in
    let end = c.loop-at.end in
    let so = c.loop-at.invariant.keyed in
    let next = next_of owner at end key so c.loop-at-test.true in
    let within = left_within owner at end key so in
    let place = at + 1 + c.from.result in
    let begin = end - (place - at) in
    let size : c.from.result ≡ length next.label = c.from.ensures ∙ next.size in
    let room : length owner ≤ length key = omega (arith, c.requires.room, c.loop-at.invariant.long) in
    let count : place - (at + 1) ≡ length next.label = omega (arith, size) in
    let whole : begin + (1 + length next.label) ≡ end = omega (arith, size, next.end_is) in
    let later : begin + (end - begin) ≡ end = omega arith in
    let label = c.put_label_key.ensures ∙ ap label_key (ap (λ n. take n (drop (at + 1) owner)) count ∙ next.body) in
    record {
      long = omega (
        arith,
        c.loop-at.invariant.long,
        room,
        within.2,
        whole,
        length-append (take begin key) (c.put_label_key.new.key ++ drop (end - begin) (drop begin key)),
        length-append c.put_label_key.new.key (drop (end - begin) (drop begin key)),
        length-take begin key,
        length-drop (end - begin) (drop begin key),
        length-drop begin key,
        ap length label,
        length-map next.label key_octet,
      );
      keyed = keyed_more owner at end key so next place begin _ (omega (arith, size)) whole room
          (λ i. take begin key ++ (label i ++ (drop-drop (end - begin) begin key ∙ ap (λ n. drop n key) later) i));
    }

pub put_label_key-requires-clause-lowercase : goal.put_label_key-requires-clause-lowercase
put_label_key-requires-clause-lowercase c =
    let from = c.loop-at.at + 1 in
    let count = from + c.from.result - from in
    sym (take-map to_ascii_lowercase count (drop from c.args.owner.now)) ∙ ap (take count) (sym (drop-map to_ascii_lowercase from c.args.owner.now) ∙ ap (drop from) c.requires.lowercase)
