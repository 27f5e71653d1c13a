-- Lines that are held one after another.
use Rattle.std.proofs.Common.{◌≡◌, Bool, Some, None, IfSome, subst, take-append-drop, take_all, ℕ, ◌+◌, ◌*◌, ◌<◌, ◌≤◌, List, [], ◌∷◌, ◌++◌, length, map, take, drop, Result, sym, ap, ◌∙◌, arith, get_or, flat_map, append_assoc, append-nil}
use Rattle.std.specs.Prelude.{IsSome}
use Rattle.std.specs.declared.option.Option.{Option}
use Rattle.std.proofs.KnownBytes.{Appends-trans}
use Rattle.dns_text.specs.Outside.{WritesPrefix, Puts}
use Rattle.dns_text.specs.declared.io.traits.Failed.{Failed}
use Rattle.dns_text.proofs.Transfers.{prefix_after, prefix_longer, puts_after}
use Rattle.std.specs.Io.KnownBytes.{Appends}
use Rattle.std.proofs.lemmas.Grind.{flat_map-append}
use Rattle.std.proofs.lemmas.List.{length-append, length-take-le, map-append, take_at, take_more}
use Rattle.std.proofs.lemmas.List.Concat.{flat_map-cons}
use Rattle.dns_text.specs.Hexadecimal.{shown, line, lines}
use Rattle.dns_text.proofs.Encoding.{shown_long}

-- ---- a line after others

pub line_long : (octets : List ℕ) → length (line octets) ≡ 2 * length octets + 1
line_long octets = length-append (flat_map shown octets) (10 ∷ []) ∙ omega (arith, shown_long octets)

-- a line that is written over as many octets, after those before a place
pub line_written : (text octets put rest : List ℕ) (start end : ℕ) → start ≤ length text → end ≡ start + 2 * length octets + 1 → put ≡ line octets → take end (take start text ++ (put ++ rest)) ≡ take start text ++ line octets
line_written text octets put rest start end within end-is put-is =
    let long : length (take start text ++ put) ≡ end = omega (arith, length-append (take start text) put, length-take-le start text within, ap length put-is, line_long octets, end-is) in
    ap (take end) (sym (append_assoc (take start text) put rest)) ∙ take_at (take start text ++ put) rest end long ∙ ap (λ (l : List ℕ). take start text ++ l) put-is

-- ---- lines one after another

pub lines_more : {X : Type 0} (vs : List X) (f : X → List ℕ) (i : ℕ) (v : X) → i < length vs → v ≡ get_or vs i v → lines (map f (take (i + 1) vs)) ≡ lines (map f (take i vs)) ++ line (f v)
lines_more {X = X} vs f i v within is =
    let grown : map f (take (i + 1) vs) ≡ map f (take i vs) ++ f v ∷ [] =
    ap (map f) (take_more vs i v within ∙ ap (λ (x : X). take i vs ++ x ∷ []) (sym is)) ∙ map-append f (take i vs) (v ∷ []) in
    ap lines grown ∙ flat_map-append line (map f (take i vs)) (f v ∷ [])
    ∙ ap (λ (l : List ℕ). lines (map f (take i vs)) ++ l) (flat_map-cons line (f v) [] ∙ append-nil (line (f v)))

module _ {X : Type 0} (vs : List X) (f : X → List ℕ) (a : Option (List ℕ)) where
  -- what is written and what is held are the lines so far; one more line is held
  pub holds_more : (b : Option (List ℕ)) (sent held next : List ℕ) (i : ℕ) (v : X) → i < length vs → v ≡ get_or vs i v → Appends a b sent → sent ++ held ≡ lines (map f (take i vs)) → next ≡ held ++ line (f v)
      → (x : List ℕ) × Appends a b x × (x ++ next ≡ lines (map f (take (i + 1) vs)))
  holds_more b sent held next i v within v-is h so next-is =
      (sent, h, ap (λ (l : List ℕ). sent ++ l) next-is ∙ sym (append_assoc sent held (line (f v))) ∙ ap (λ (l : List ℕ). l ++ line (f v)) so ∙ sym (lines_more vs f i v within v-is))

  -- what was held is written, and one more line is held
  pub holds_one : (b c : Option (List ℕ)) (sent held next : List ℕ) (i : ℕ) (v : X) → i < length vs → v ≡ get_or vs i v → Appends a b sent → sent ++ held ≡ lines (map f (take i vs)) → Appends b c held → next ≡ line (f v)
      → (x : List ℕ) × Appends a c x × (x ++ next ≡ lines (map f (take (i + 1) vs)))
  holds_one b c sent held next i v within v-is h so written next-is =
      holds_more c (sent ++ held) [] next i v within v-is (Appends-trans a b c sent held h written) (append-nil (sent ++ held) ∙ so) next-is

  -- a write of what is held that fails
  pub lines_prefix : (b c : Option (List ℕ)) (sent held : List ℕ) (i : ℕ) → Appends a b sent → sent ++ held ≡ lines (map f (take i vs)) → WritesPrefix b c held → WritesPrefix a c (lines (map f vs))
  lines_prefix b c sent held i h so failed =
      let whole : (sent ++ held) ++ lines (map f (drop i vs)) ≡ lines (map f vs) =
      ap (λ (l : List ℕ). l ++ lines (map f (drop i vs))) so ∙ sym (flat_map-append line (map f (take i vs)) (map f (drop i vs))) ∙ ap lines (sym (map-append f (take i vs) (drop i vs))) ∙ ap (λ l. lines (map f l)) (take-append-drop i vs) in
      subst (WritesPrefix a c) whole (prefix_longer a c (sent ++ held) (lines (map f (drop i vs))) (prefix_after a b c sent held h failed))

  -- the last write
  pub lines_put : (b c : Option (List ℕ)) (sent held : List ℕ) (i : ℕ) (r : Result (Unit {0}) Failed) → length vs ≤ i → Appends a b sent → sent ++ held ≡ lines (map f (take i vs)) → Puts b c held r → Puts a c (lines (map f vs)) r
  lines_put b c sent held i r over h so put =
      subst (λ (l : List ℕ). Puts a c l r) (so ∙ ap (λ l. lines (map f l)) (take_all i vs over)) (puts_after a b c sent held r h put)

-- a flag that is known is known still
pub still_known : (a b c : Option Bool) → IfSome a (λ _. IsSome b) → IfSome b (λ _. IsSome c) → IfSome a (λ _. IsSome c)
still_known None b c p q = tt
still_known (Some x) None c p q = cc
still_known (Some x) (Some y) c p q = q
