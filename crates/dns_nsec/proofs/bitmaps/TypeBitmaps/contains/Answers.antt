use Rattle.std.proofs.Common.{◌≡◌, ◌∙◌, ℕ, false, sym, ap}
use Rattle.dns_nsec.specs.Bitmaps.{types_in}
use Rattle.dns_nsec.specs.Seen.{window_seen}
use Rattle.dns_nsec.proofs.Marked.{marked_so}
use Rattle.dns_nsec.proofs.NamedTypes.{is_in, contains_so, type_hit, type_miss, type_nowhere}
use Rattle.dns_nsec.proofs.bitmaps.TypeBitmaps.contains.Goals as goal

pub returns-then-window-code : goal.returns-then-window-code
returns-then-window-code c =
    let types = types_in c.args.self.now.slice.now in
    let layout_matches : is_in c.args.rtype.code.value types ≡ is_in c.get-code.result types = ap (λ (t : ℕ). is_in t types) (sym c.get-code.ensures) in
    let so : is_in c.args.rtype.code.value types ≡ c.is_set.result =
    layout_matches ∙ sym c.loop-window.invariant ∙ type_hit c.get-code.result c.loop-window.rest.slice.now c.in-Some.later.slice.now (window_seen c.in-Some.window) c.in-Some.ensures.rise c.in-Some.ensures.windows c.if-window-code.true ∙ sym c.is_set.ensures in
    record {
      among = contains_so c.args.rtype.code.value types c.is_set.result so;
      marked = marked_so c.args.self.now.slice.now c.args.rtype.code.value c.is_set.result c.args.self.now.is_bitmap so;
    }

pub loop-window-preserved : goal.loop-window-preserved
loop-window-preserved c =
    sym (type_miss c.get-code.result c.loop-window.rest.slice.now c.in-Some.later.slice.now (window_seen c.in-Some.window) c.in-Some.ensures.windows c.in-Some.ensures.few c.if-window-code.false) ∙ c.loop-window.invariant

pub returns : goal.returns
returns c =
    let types = types_in c.args.self.now.slice.now in
    let layout_matches : is_in c.args.rtype.code.value types ≡ is_in c.get-code.result types = ap (λ (t : ℕ). is_in t types) (sym c.get-code.ensures) in
    let so : is_in c.args.rtype.code.value types ≡ false =
    layout_matches ∙ sym c.loop-window.invariant ∙ type_nowhere c.get-code.result c.loop-window.rest.slice.now c.in_default.ensures.windows in
    record {
      among = contains_so c.args.rtype.code.value types false so;
      marked = marked_so c.args.self.now.slice.now c.args.rtype.code.value false c.args.self.now.is_bitmap so;
    }
