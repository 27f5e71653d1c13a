-- Octets that are written one after another.
use Rattle.std.proofs.Common.{◌≡◌, ℕ, ◌≤◌, List, ◌++◌, length, take, drop, sym, ap, ◌∙◌, append_assoc, arith, Result, Ok, Err}
use Rattle.std.specs.Prelude.{⊤}
use Rattle.std.proofs.lemmas.List.{take_at, drop_at, length-append, length-take, length-drop, drop-drop, take-append-le, take-take}
use Rattle.dns_wire.specs.Building.{Occurs, Builds}

-- what is written before a place, and after it
module _ {a old new : List ℕ} {start end : ℕ} (s : Occurs a old start new end) where
  prefix_long : length (take start old ++ a) ≡ end
  prefix_long = omega (arith, length-append (take start old) a, length-take start old, s.end_is, s.within)

  regrouped : new ≡ (take start old ++ a) ++ drop end old
  regrouped = s.new_is ∙ sym (append_assoc (take start old) a (drop end old))

  pub occurs_long : length new ≡ length old
  occurs_long = ap length regrouped ∙ length-append (take start old ++ a) (drop end old) ∙ omega (arith, prefix_long, length-drop end old, s.within)

  pub occurs_prefix : take end new ≡ take start old ++ a
  occurs_prefix = ap (take end) regrouped ∙ take_at (take start old ++ a) (drop end old) end prefix_long

  pub occurs_back : drop end new ≡ drop end old
  occurs_back = ap (drop end) regrouped ∙ drop_at (take start old ++ a) (drop end old) end prefix_long

pub occurs_then : {a b first second third : List ℕ} {start middle end : ℕ} → Occurs a first start second middle → Occurs b second middle third end → Occurs (a ++ b) first start third end
occurs_then {a} {b} {first} {second} {third} {start} {middle} {end} s t =
    let later : drop end second ≡ drop end first =
    ap (λ (n : ℕ). drop n second) t.end_is
    ∙ sym (drop-drop (length b) middle second)
    ∙ ap (drop (length b)) (occurs_back s)
    ∙ drop-drop (length b) middle first
    ∙ ap (λ (n : ℕ). drop n first) (sym t.end_is) in
    record {
      end_is = omega (arith, s.end_is, t.end_is, length-append a b);
      within = omega (arith, t.within, occurs_long s);
      new_is = t.new_is ∙ ap (λ (f : List ℕ). f ++ (b ++ drop end second)) (occurs_prefix s) ∙ append_assoc (take start first) a (b ++ drop end second) ∙ ap (λ (r : List ℕ). take start first ++ r) (sym (append_assoc a b (drop end second)) ∙ ap (λ (r : List ℕ). (a ++ b) ++ r) later);
    }

pub prefix_unchanged : (first second third a : List ℕ) (start middle : ℕ) → Occurs a first start second middle → take middle third ≡ take middle second → take start third ≡ take start first
prefix_unchanged first second third a start middle s unchanged =
    let before : start ≤ middle = omega (arith, s.end_is) in
    sym (take-take start middle third before) ∙ ap (take start) (unchanged ∙ occurs_prefix s) ∙ take-append-le start (take start first) a (omega (arith, length-take start first, s.end_is, s.within)) ∙ take-take start start first (omega arith)

-- a second part is written after the first
pub builds_after : {E : Type 0} {a b first second third : List ℕ} {start middle : ℕ} {result : Result ℕ E} → Occurs a first start second middle → Builds ⊤ b second middle third result → Builds ⊤ (a ++ b) first start third result
builds_after {result = Ok end} s t = record { ok = (tt, occurs_then s t.ok.1); err = tt }
builds_after {a = a} {b} {first} {second} {third} {start} {middle} {result = Err e} s t =
    record { ok = tt; err = (prefix_unchanged first second third a start middle s t.err.0, t.err.1 ∙ occurs_long s, λ g. omega (arith, t.err.2 tt, s.end_is, occurs_long s, length-append a b)) }

-- the same if prefixed data have to fit
pub builds_then : {E F G : Type 0} {a b first second third : List ℕ} {start middle : ℕ} {result : Result ℕ E} → F → Occurs a first start second middle → Builds G b second middle third result → Builds (F × G) (a ++ b) first start third result
builds_then {result = Ok end} f s t = record { ok = ((f, t.ok.0), occurs_then s t.ok.1); err = tt }
builds_then {a = a} {b} {first} {second} {third} {start} {middle} {result = Err e} f s t =
    record { ok = tt; err = (prefix_unchanged first second third a start middle s t.err.0, t.err.1 ∙ occurs_long s, λ g. omega (arith, t.err.2 g.1, s.end_is, occurs_long s, length-append a b)) }
