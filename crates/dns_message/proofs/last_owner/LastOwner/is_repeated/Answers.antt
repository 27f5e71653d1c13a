use Rattle.std.proofs.Common.{◌≡◌, ◌∙◌, ◌-◌, ◌+◌, ◌<◌, ◌≤◌, List, ℕ, ap, arith, drop, length, sym, take}
use Rattle.std.specs.Prelude.{slice_range}
use Rattle.std.proofs.lemmas.List.{length-drop, length-take, take_all}
use Rattle.std.proofs.lemmas.Slice.Eq.{bytes_eq-Decides}
use Rattle.dns_message.proofs.last_owner.LastOwner.is_repeated.Goals as goal

pub returns-clause-repeated : goal.returns-clause-repeated
returns-clause-repeated c = λ found.
    let o = c.args.self.now in
    let some : o.start < o.end = omega (arith, c.if-self.false) in
    let octets : List ℕ = slice_range c.args.contents.now o.start o.end in
    let within = c.requires some in
    let long : length octets ≡ o.end - o.start = omega (arith, within, length-take (o.end - o.start) (drop o.start c.args.contents.now), length-drop o.start c.args.contents.now) in
    let after : List ℕ = drop c.args.start c.args.contents.now in
    let rest : List ℕ = take (length c.args.contents.now - c.args.start) after in
    let same = (bytes_eq-Decides octets (take (length octets) rest)).0 (sym c.starts_with.ensures.value ∙ found) in
    let all : rest ≡ after = take_all (length c.args.contents.now - c.args.start) after (omega (arith, length-drop c.args.start c.args.contents.now)) in
    let inside : c.args.start + (o.end - o.start) ≤ length c.args.contents.now = omega (arith, c.if-self.false, long, ap length same, length-take (length octets) rest, ap length all, length-drop c.args.start c.args.contents.now) in
    (some, omega (arith, c.if-self.false), inside, ap (λ (n : ℕ). take n after) (sym long) ∙ sym (same ∙ ap (take (length octets)) all))

pub returns-clause-other : goal.returns-clause-other
returns-clause-other c = λ is.
    let o = c.args.self.now in
    let octets : List ℕ = slice_range c.args.contents.now o.start o.end in
    let within = c.requires is.0 in
    let long : length octets ≡ o.end - o.start = omega (arith, within, length-take (o.end - o.start) (drop o.start c.args.contents.now), length-drop o.start c.args.contents.now) in
    let after : List ℕ = drop c.args.start c.args.contents.now in
    let rest : List ℕ = take (length c.args.contents.now - c.args.start) after in
    let all : rest ≡ after = take_all (length c.args.contents.now - c.args.start) after (omega (arith, length-drop c.args.start c.args.contents.now)) in
    c.starts_with.ensures.value
    ∙ (bytes_eq-Decides octets (take (length octets) rest)).1 (sym is.3 ∙ ap (λ (n : ℕ). take n after) (sym long) ∙ sym (ap (take (length octets)) all))
