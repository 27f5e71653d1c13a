-- Octets that are written one after another to the start of a buffer.
use Rattle.std.proofs.Common.{◌≡◌, ◌+◌, ◌≤◌, ℕ, List, ◌++◌, length, take, drop, Result, Ok, Err, refl, sym, ap, ◌∙◌, append_assoc, arith}
use Rattle.std.specs.Prelude.{⊤, IsOk}
use Rattle.std.proofs.lemmas.List.{take_at, drop_at, drop-drop, length-append}
use Rattle.dns_wire.specs.Building.{Builds, Occurs}
use Rattle.nelgvasti.specs.Buffers.{Fills}

-- after the octets so far some more
pub written_more : (so_far octets old initial new : List ℕ) (start end : ℕ) → start ≡ length so_far → old ≡ so_far ++ drop start initial → Occurs octets old start new end
    → (end ≡ length (so_far ++ octets)) × (new ≡ (so_far ++ octets) ++ drop end initial)
written_more so_far octets old initial new start end start-is old-is put =
    let front : take start old ≡ so_far = ap (take start) old-is ∙ take_at so_far (drop start initial) start (sym start-is) in
    let rest : drop start old ≡ drop start initial = ap (drop start) old-is ∙ drop_at so_far (drop start initial) start (sym start-is) in
    let ends : end ≡ start + length octets = put.end_is in
    let back : drop end old ≡ drop end initial =
    ap (λ (n : ℕ). drop n old) ends ∙ sym (drop-drop (length octets) start old) ∙ ap (drop (length octets)) rest ∙ drop-drop (length octets) start initial ∙ ap (λ (n : ℕ). drop n initial) (sym ends) in (
      omega (arith, put.end_is, start-is, length-append so_far octets),
      put.new_is ∙ ap (λ (l : List ℕ). l ++ (octets ++ drop end old)) front ∙ ap (λ (l : List ℕ). so_far ++ (octets ++ l)) back ∙ sym (append_assoc so_far octets (drop end initial)),
    )

-- octets that have room are written to the start
pub filled : {E : Type 0} (octets old new : List ℕ) (result : Result ℕ E) → length octets ≤ length old → Builds ⊤ octets old 0 new result → IsOk result × Fills octets old new
filled octets old new (Ok end) room built =
    let put = built.ok.1 in
    let ends : end ≡ length octets = omega (arith, put.end_is) in
    (refl, put.new_is ∙ ap (λ (n : ℕ). octets ++ drop n old) ends)
filled octets old new (Err e) room built = absurd (omega (arith, built.err.2 tt, room))
