-- The line of a note, in the parts in which it is written.
use Rattle.std.proofs.Common.{◌≡◌, ℕ, ◌<◌, ◌≤◌, suc, List, [], ◌∷◌, ◌++◌, length, get_or, take, drop, flat_map, Result, sym, ap, subst, ◌∙◌, take-append-drop, append_assoc, drop-cons, take_all}
use Rattle.std.specs.declared.option.Option.{Option}
use Rattle.std.proofs.lemmas.List.Concat.{flat_map-cons}
use Rattle.std.proofs.lemmas.Grind.{flat_map-append}
use Rattle.std.specs.Io.KnownBytes.{Appends}
use Rattle.dns_text.specs.Outside.{WritesPrefix, Puts}
use Rattle.dns_text.specs.declared.io.traits.Failed.{Failed}
use Rattle.dns_text.proofs.Transfers.{prefix_after, prefix_longer, puts_after}
use Rattle.dns_command.specs.Notes.{spaced, note_line}

-- the numbers, around the one at i
numbers_around : (nums : List ℕ) (i : ℕ) → i < length nums
    → flat_map spaced nums ≡ flat_map spaced (take i nums) ++ (spaced (get_or nums i 0) ++ flat_map spaced (drop (suc i) nums))
numbers_around nums i lt =
    ap (flat_map spaced) (sym (take-append-drop i nums)) ∙ flat_map-append spaced (take i nums) (drop i nums)
    ∙ ap (λ (l : List ℕ). flat_map spaced (take i nums) ++ l) (ap (flat_map spaced) (drop-cons nums i 0 lt) ∙ flat_map-cons spaced (get_or nums i 0) (drop (suc i) nums))

-- a line that stops at a number
pub prefix_line : (a b c : Option (List ℕ)) (word nums : List ℕ) (i : ℕ) → i < length nums → Appends a b (word ++ flat_map spaced (take i nums))
    → WritesPrefix b c (spaced (get_or nums i 0)) → WritesPrefix a c (note_line word nums)
prefix_line a b c word nums i lt h j =
    let rest = flat_map spaced (drop (suc i) nums) ++ 10 ∷ [] in
    let whole : (word ++ flat_map spaced (take i nums)) ++ (spaced (get_or nums i 0) ++ rest) ≡ note_line word nums =
    simp (append_assoc, numbers_around nums i lt) in
    subst (WritesPrefix a c) whole (prefix_after a b c _ _ h (prefix_longer b c (spaced (get_or nums i 0)) rest j))

-- a line to its end
pub puts_line : (a b c : Option (List ℕ)) (word nums : List ℕ) (i : ℕ) (r : Result (Unit {0}) Failed) → length nums ≤ i → Appends a b (word ++ flat_map spaced (take i nums))
    → Puts b c (10 ∷ []) r → Puts a c (note_line word nums) r
puts_line a b c word nums i r le h j =
    let whole : (word ++ flat_map spaced (take i nums)) ++ 10 ∷ [] ≡ note_line word nums =
    ap (λ (l : List ℕ). (word ++ flat_map spaced l) ++ 10 ∷ []) (take_all i nums le) ∙ append_assoc word (flat_map spaced nums) (10 ∷ []) in
    subst (λ (l : List ℕ). Puts a c l r) whole (puts_after a b c _ _ r h j)
