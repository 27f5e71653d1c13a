-- Messages that are built: their counts are in the header alone, and what a push writes is what it leaves.
use Rattle.std.proofs.Common.{◌≡◌, ◌≤◌, ◌+◌, ◌*◌, ℕ, Bool, true, false, List, [], ◌∷◌, ◌++◌, length, take, drop, refl, sym, ap, ap₂, ◌∙◌, arith, append_assoc, length-take-le}
use Rattle.std.specs.Prelude.{Result, Ok, Err, ◌==◌, if◌then◌else◌}
use Rattle.std.proofs.lemmas.List.{get_or_append_left, length-append, take_at}
use Rattle.dns_wire.specs.Building.{Occurs}
use Rattle.dns_wire.specs.Compression.{CompressedWrite}
use Rattle.dns_message.specs.Building.{Draft, count_in, has_later, next_count, with_count, pushed}
use Rattle.dns_message.specs.Headers.{number_in}
use Rattle.dns_message.specs.Messages.{counts_of}
use Rattle.dns_message.specs.declared.build_error.MessageBuildError.{MessageBuildError}
use Rattle.dns_message.specs.declared.build_error.MessageBuildError.TheVariants.{Misplaced, TooMany}

number_in_prefix : (header contents : List ℕ) (at : ℕ) → at + 2 ≤ length header → number_in (header ++ contents) at ≡ number_in header at
number_in_prefix header contents at within =
    ap₂ (λ (a b : ℕ). a * 256 + b) (get_or_append_left header contents 0 at (omega (arith, within))) (get_or_append_left header contents 0 (at + 1) (omega (arith, within)))

pub counts_in_prefix : (header contents : List ℕ) → 12 ≤ length header → counts_of (header ++ contents) ≡ counts_of header
counts_in_prefix header contents long =
    ap₂ (λ (a : ℕ) (l : List ℕ). a ∷ l) (number_in_prefix header contents 4 (omega (arith, long)))
    (ap₂ (λ (a : ℕ) (l : List ℕ). a ∷ l) (number_in_prefix header contents 6 (omega (arith, long)))
    (ap₂ (λ (a : ℕ) (l : List ℕ). a ∷ l) (number_in_prefix header contents 8 (omega (arith, long)))
    (ap (λ (a : ℕ). a ∷ []) (number_in_prefix header contents 10 (omega (arith, long))))))

-- ---- pushes

count_of : (later full : Bool) (n count : ℕ) → ◌≡◌ {A = Result ℕ MessageBuildError} (if later then Err Misplaced else if full then Err TooMany else Ok n) (Ok count) → n ≡ count
count_of true full n count e = absurd cc
count_of false true n count e = absurd cc
count_of false false n count e = cc

next_is : (section : ℕ) (header : List ℕ) (count : ℕ) → next_count section header ≡ Ok count → count_in section header + 1 ≡ count
next_is section header count e = count_of (has_later section header) (count_in section header == 65535) (count_in section header + 1) count e

-- octets that are there end what comes before
occurs_take : {octets old new : List ℕ} {start end : ℕ} → Occurs octets old start new end → take end new ≡ take start old ++ octets
occurs_take {octets} {old} {new} {start} {end} h =
    ap (take end) (h.new_is ∙ sym (append_assoc (take start old) octets (drop end old)))
    ∙ take_at (take start old ++ octets) (drop end old) end (length-append (take start old) octets ∙ omega (arith, h.end_is, h.within, length-take-le start old (omega (arith, h.end_is, h.within))))

-- a buffer in which an item was written, and then its count, shows what the push leaves
pub pushed_is : (section count : ℕ) (writes : CompressedWrite) (before between after : List ℕ) (size end : ℕ) (places recorded : List ℕ) → next_count section (take 12 before) ≡ Ok count → take 12 between ≡ take 12 before → take 12 after ≡ with_count section count (take 12 between) → drop 12 after ≡ drop 12 between → length after ≡ length before → Occurs (writes (take size (drop 12 before)) places).0 (drop 12 before) size (drop 12 between) end → recorded ≡ (writes (take size (drop 12 before)) places).1 → ◌≡◌ {A = Draft} (record { header = take 12 after; contents = take end (drop 12 after); size = length after; places = recorded }) (pushed section writes (record { header = take 12 before; contents = take size (drop 12 before); size = length before; places = places }))
pushed_is section count writes before between after size end places recorded next prefix written trailing long occurs after_is =
    let header_is : take 12 after ≡ with_count section (count_in section (take 12 before) + 1) (take 12 before) =
    written ∙ ap (with_count section count) prefix ∙ ap (λ n. with_count section n (take 12 before)) (sym (next_is section (take 12 before) count next)) in
    let contents_is : take end (drop 12 after) ≡ take size (drop 12 before) ++ (writes (take size (drop 12 before)) places).0 = ap (take end) trailing ∙ occurs_take occurs in
    rw (header_is, contents_is, long, after_is) refl
