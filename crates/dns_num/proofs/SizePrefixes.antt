-- Data after the number of their octets.
use Rattle.std.proofs.Common.{◌≡◌, ℕ, zero, suc, ◌+◌, ◌<◌, ◌≤◌, ◌^◌, inl, inr, List, [], ◌∷◌, length, take, drop, Option, Some, None, Err, refl, sym, ap, ◌∙◌, arith}
use Rattle.std.specs.Int.{Width, byte_len, to_be_bytes, bytes_high_first}
use Rattle.std.proofs.lemmas.Bool.{lt-ltb, le-ltb, cases_lt}
use Rattle.std.proofs.lemmas.List.{length-append, length-drop, take-take}
use Rattle.dns_wire.specs.Reading.{number, all_of}
use Rattle.dns_wire.specs.Building.{Builds}
use Rattle.dns_wire.specs.Steps.{◌>>=◌}
use Rattle.dns_num.specs.Prefixed.{sized, prefixed}

-- ---- reading

left_over : {Y : Type 0} (value : Option Y) (rest : List ℕ) → 0 < length rest → all_of (value >>= λ v. Some (v, rest)) ≡ None
left_over None rest some = refl
left_over (Some value) [] some = absurd (omega arith)
left_over (Some value) (x ∷ rest) some = refl

-- fewer or more octets than the number counts are not the whole
pub not_whole : {Y : Type 0} (w : Width) (grammar : List ℕ → Option (Y × List ℕ)) (bytes : List ℕ) (size : ℕ) (content : List ℕ) → number w bytes ≡ Some (size, content) → ¬ (length content ≡ size) → all_of (prefixed w grammar bytes) ≡ None
unfolding prefixed
not_whole w grammar bytes size content read differs =
    elim (cases_lt (length content) size) [
      | inl short ↦ rw (read, lt-ltb _ _ short) refl
      | inr long ↦ rw (read, le-ltb _ _ long) (left_over _ (drop size content) (omega (arith, length-drop size content)))
    ]

-- ---- building

length-bytes_high_first : (k n : ℕ) → length (bytes_high_first k n) ≡ k
length-bytes_high_first zero n = refl
length-bytes_high_first (suc k) n = ap suc (length-bytes_high_first k n)

pub number_long : (w : Width) (n : ℕ) → length (to_be_bytes w n) ≡ byte_len w
number_long w n = length-bytes_high_first (byte_len w) n

pub length-sized : (w : Width) (content : List ℕ) → length (sized w content) ≡ byte_len w + length content
length-sized w content = omega (arith, length-append (to_be_bytes w (length content)) content, number_long w (length content))

-- data that are refused after the room for their number
pub refused_inside : {E D F : Type 0} {content first third : List ℕ} {start body : ℕ} {e : E} {d : D} → (w : Width) → body ≡ start + byte_len w → Builds F content first body third (Err e) → Builds ((length content < 256 ^ byte_len w) × F) (sized w content) first start third (Err d)
refused_inside {content = content} {first} {third} {start} {body} w at t =
    let before : start ≤ body = omega arith in
    record {
      ok = tt;
      err = (sym (take-take start body third before) ∙ ap (take start) t.err.0 ∙ take-take start body first before, t.err.1, λ f. omega (arith, t.err.2 f.1, length-sized w content));
    }
