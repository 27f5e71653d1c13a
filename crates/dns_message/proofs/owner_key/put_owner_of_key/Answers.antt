use Rattle.std.proofs.Common.{◌≡◌, ◌∙◌, ◌+◌, ◌-◌, ◌++◌, ap, arith, drop, length, refl, take}
use Rattle.std.proofs.lemmas.List.{drop-drop, length-append, length-drop, length-map, length-set, length-take}
use Rattle.dns_message.specs.OwnerKeys.{lowercase_octet}
use Rattle.dns_message.proofs.OwnerOfKeyLemmas.{read_more, read_none, read_whole}
use Rattle.dns_message.proofs.owner_key.put_owner_of_key.Goals as goal

pub loop-at-init : goal.loop-at-init
loop-at-init c =
    let key = c.args.key.now in
    let owner = c.args.owner.now in
    record {
      some = omega arith;
      within = omega (arith, c.requires.some);
      long = length-set owner (length key - 1) 0 ∙ c.requires.room;
      read = λ labels is. read_none labels key owner is c.requires.some c.requires.room;
    }

pub loop-at-preserved : goal.loop-at-preserved
loop-at-preserved c =
    let key = c.args.key.now in
    let owner = c.loop-at.owner in
    let at = c.loop-at.at in
    let next = c.label_end-next.result in
    let ends = c.label_end-next.ensures in
    let begin = length key - next in
    let end = length key - at in
    let octets = take (next - (at + 1)) (drop (at + 1) key) in
    let written = c.put_label_of_key.new.label in
    let after : begin + (end - begin) ≡ end = omega (arith, ends.after, ends.within) in
    let rest : drop (end - begin) (drop begin owner) ≡ drop end owner = drop-drop (end - begin) begin owner ∙ ap (λ n. drop n owner) after in
    let whole = ap (λ l. take begin owner ++ (written ++ l)) rest in
    record {
      some = omega (arith, ends.after);
      within = ends.within;
      long = omega (
        arith,
        c.loop-at.invariant.long,
        c.loop-at.invariant.within,
        ends.after,
        ends.within,
        ap length whole,
        length-append (take begin owner) (written ++ drop end owner),
        length-append written (drop end owner),
        length-take begin owner,
        length-drop end owner,
        ap length c.put_label_of_key.ensures,
        length-map octets lowercase_octet,
        length-take (next - (at + 1)) (drop (at + 1) key),
        length-drop (at + 1) key,
      );
      read = λ labels is.
          read_more labels key at next owner octets written _
          (c.loop-at.invariant.read labels is) c.loop-at.invariant.long (omega (arith, ends.after)) ends.within ends.octets ends.ended refl c.put_label_of_key.ensures whole;
    }

pub returns : goal.returns
returns c labels is = read_whole labels c.args.key.now c.loop-at.at c.loop-at.owner (c.loop-at.invariant.read labels is) c.loop-at-test.false
