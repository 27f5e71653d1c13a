-- Prefixed data are read exactly if they are there in the form in which they are written.
use Rattle.std.proofs.Common.{◌≡◌, ℕ, ◌%◌, ◌<◌, ◌≤◌, ◌^◌, ◌⊎◌, inl, inr, ltb, false, List, [], ◌∷◌, ◌++◌, length, take, drop, get_or, Option, Some, None, refl, sym, ap, subst, ◌∙◌, append_assoc, arith, rules}
use Rattle.std.specs.Int.{Width, w8, w16, byte_len, from_be_bytes, to_be_bytes}
use Rattle.std.proofs.lemmas.Bool.{le-ltb, ltb-false, cases_lt}
use Rattle.std.proofs.lemmas.List.{length-append, length-take, take_at, drop_at, take-append-drop, get_or-take, get_or_past}
use Rattle.std.proofs.lemmas.Nat.{be_bytes_2}
use Rattle.std.proofs.lemmas.Option.{some_pair_parts}
use Rattle.dns_wire.specs.Reading.{AreOctets, number, octets, all_of}
use Rattle.dns_wire.specs.Steps.{◌>>=◌}
use Rattle.dns_wire.proofs.Spelled.{chosen}
use Rattle.dns_wire.specs.Steps.{◌>>=◌}
use Rattle.dns_num.specs.Prefixed.{sized, prefixed}

-- one octet, or two
abbrev pub Narrow : Width → Type 0
Narrow w = (w ≡ w8) ⊎ (w ≡ w16)

-- ---- what is written is read

one_back : (n : ℕ) (rest : List ℕ) → n < 256 ^ byte_len w8 → number w8 (to_be_bytes w8 n ++ rest) ≡ Some (n, rest)
one_back n rest fits = search rules

two_back : (n : ℕ) (rest : List ℕ) → n < 256 ^ byte_len w16 → number w16 (to_be_bytes w16 n ++ rest) ≡ Some (n, rest)
two_back n rest fits = search rules

pub number_back : (w : Width) → Narrow w → (n : ℕ) (rest : List ℕ) → n < 256 ^ byte_len w → number w (to_be_bytes w n ++ rest) ≡ Some (n, rest)
number_back w (inl e) n rest = subst (λ (v : Width). n < 256 ^ byte_len v → number v (to_be_bytes v n ++ rest) ≡ Some (n, rest)) (sym e) (one_back n rest)
number_back w (inr e) n rest = subst (λ (v : Width). n < 256 ^ byte_len v → number v (to_be_bytes v n ++ rest) ≡ Some (n, rest)) (sym e) (two_back n rest)

pub read_back : {Y : Type 0} (w : Width) → Narrow w → (grammar : List ℕ → Option (Y × List ℕ)) (content rest : List ℕ) (value : Y) → length content < 256 ^ byte_len w → all_of (grammar content) ≡ Some value → prefixed w grammar (sized w content ++ rest) ≡ Some (value, rest)
unfolding prefixed
read_back w narrow grammar content rest value fits is =
    let long : ltb (length (content ++ rest)) (length content) ≡ false = le-ltb _ _ (omega (arith, length-append content rest)) in
    rw (append_assoc (to_be_bytes w (length content)) content rest, number_back w narrow (length content) (content ++ rest) fits, long, take_at content rest (length content) refl, drop_at content rest (length content) refl, is) refl

-- ---- what is read has this form

-- the two steps of a reading
then_some : {A B : Type 0} (read : Option A) (next : A → Option B) (b : B) → (read >>= next) ≡ Some b → (a : A) × (read ≡ Some a) × (next a ≡ Some b)
then_some None next b e = absurd cc
then_some (Some a) next b e = (a, refl, e)

pub octets_prefix : (bytes : List ℕ) (k : ℕ) → AreOctets bytes → (i : ℕ) → get_or (take k bytes) i 0 < 256
octets_prefix bytes k are i =
    elim (cases_lt i k) [
      | inl before ↦ rw (get_or-take k bytes i 0 before) (are i)
      | inr past ↦ rw (get_or_past (take k bytes) i 0 (omega (arith, length-take k bytes))) (omega arith)
    ]

one_octet : (bytes : List ℕ) (n : ℕ) → length bytes ≡ 1 → ((i : ℕ) → get_or bytes i 0 < 256) → n ≡ from_be_bytes w8 bytes → to_be_bytes w8 n ≡ bytes
one_octet [] n long are is = absurd (omega arith)
one_octet (x ∷ []) n long are is =
    let fits : x < 256 = are 0 in
    let same : n % 256 ≡ x = omega arith in
    rw same refl
one_octet (x ∷ y ∷ bytes) n long are is = absurd (omega arith)

pub spelled : (w : Width) → Narrow w → (bytes : List ℕ) (n : ℕ) → length bytes ≡ byte_len w → ((i : ℕ) → get_or bytes i 0 < 256) → n ≡ from_be_bytes w bytes → to_be_bytes w n ≡ bytes
spelled w (inl e) bytes n = subst (λ (v : Width). length bytes ≡ byte_len v → ((i : ℕ) → get_or bytes i 0 < 256) → n ≡ from_be_bytes v bytes → to_be_bytes v n ≡ bytes) (sym e) (one_octet bytes n)
spelled w (inr e) bytes n = subst (λ (v : Width). length bytes ≡ byte_len v → ((i : ℕ) → get_or bytes i 0 < 256) → n ≡ from_be_bytes v bytes → to_be_bytes v n ≡ bytes) (sym e) (be_bytes_2 bytes n)

one_small : (bytes : List ℕ) → ((i : ℕ) → get_or bytes i 0 < 256) → from_be_bytes w8 bytes < 256 ^ byte_len w8
one_small bytes are = let fits : get_or bytes 0 0 < 256 = are 0 in omega arith

two_small : (bytes : List ℕ) → ((i : ℕ) → get_or bytes i 0 < 256) → from_be_bytes w16 bytes < 256 ^ byte_len w16
two_small bytes are =
    let high : get_or bytes 0 0 < 256 = are 0 in
    let low : get_or bytes 1 0 < 256 = are 1 in
    omega arith

pub small : (w : Width) → Narrow w → (bytes : List ℕ) → ((i : ℕ) → get_or bytes i 0 < 256) → from_be_bytes w bytes < 256 ^ byte_len w
small w (inl e) bytes = subst (λ (v : Width). ((i : ℕ) → get_or bytes i 0 < 256) → from_be_bytes v bytes < 256 ^ byte_len v) (sym e) (one_small bytes)
small w (inr e) bytes = subst (λ (v : Width). ((i : ℕ) → get_or bytes i 0 < 256) → from_be_bytes v bytes < 256 ^ byte_len v) (sym e) (two_small bytes)

-- a number that is read comes before, and is no more than that many octets can say
number_occurs : (w : Width) → Narrow w → (bytes : List ℕ) (n : ℕ) (rest : List ℕ) → AreOctets bytes → number w bytes ≡ Some (n, rest) → (n < 256 ^ byte_len w) × (bytes ≡ to_be_bytes w n ++ rest)
number_occurs w narrow bytes n rest are e =
    elim (chosen (ltb (length bytes) (byte_len w)) _ _ _ e) [
      | inl short ↦ absurd (let h = short.1 in cc)
      | inr long ↦
          let same = some_pair_parts (from_be_bytes w (take (byte_len w) bytes)) n (drop (byte_len w) bytes) rest long.1 in
          let enough : byte_len w ≤ length bytes = ltb-false _ _ long.0 in
          let are_so = octets_prefix bytes (byte_len w) are in
          let prefix : to_be_bytes w n ≡ take (byte_len w) bytes = spelled w narrow (take (byte_len w) bytes) n (omega (arith, length-take (byte_len w) bytes)) are_so (sym same.0) in
          (rw same.0 at (small w narrow (take (byte_len w) bytes) are_so), rw (prefix, ← same.1) (sym (take-append-drop (byte_len w) bytes)))
    ]

octets_stand : (n : ℕ) (bytes content rest : List ℕ) → octets n bytes ≡ Some (content, rest) → (length content ≡ n) × (bytes ≡ content ++ rest)
octets_stand n bytes content rest e =
    elim (chosen (ltb (length bytes) n) _ _ _ e) [
      | inl short ↦ absurd (let h = short.1 in cc)
      | inr long ↦
          let same = some_pair_parts (take n bytes) content (drop n bytes) rest long.1 in
          let enough : n ≤ length bytes = ltb-false _ _ long.0 in
          (ap length (sym same.0) ∙ omega (arith, length-take n bytes), rw (← same.0, ← same.1) (sym (take-append-drop n bytes)))
    ]

pub occurs_so : {Y : Type 0} (w : Width) → Narrow w → (grammar : List ℕ → Option (Y × List ℕ)) (bytes rest : List ℕ) (value : Y) → AreOctets bytes → prefixed w grammar bytes ≡ Some (value, rest) → (content : List ℕ) × (length content < 256 ^ byte_len w) × (bytes ≡ sized w content ++ rest) × (all_of (grammar content) ≡ Some value)
unfolding prefixed
occurs_so w narrow grammar bytes rest value are is =
    let size = then_some (number w bytes) _ _ is in
    let content = then_some (octets size.0.0 size.0.1) _ _ size.2 in
    let read = then_some (all_of (grammar content.0.0)) _ _ content.2 in
    let same = some_pair_parts read.0 value content.0.1 rest read.2 in
    let prefix = number_occurs w narrow bytes size.0.0 size.0.1 are size.1 in
    let trailing = octets_stand size.0.0 size.0.1 content.0.0 content.0.1 content.1 in
    let joined : size.0.1 ≡ content.0.0 ++ rest = trailing.1 ∙ ap (λ (l : List ℕ). content.0.0 ++ l) same.1 in
    let parts : bytes ≡ sized w content.0.0 ++ rest =
    prefix.1
    ∙ ap (λ (l : List ℕ). to_be_bytes w size.0.0 ++ l) joined
    ∙ sym (append_assoc (to_be_bytes w size.0.0) content.0.0 rest)
    ∙ ap (λ (n : ℕ). (to_be_bytes w n ++ content.0.0) ++ rest) (sym trailing.0) in
    (content.0.0, rw trailing.0 prefix.0, parts, read.1 ∙ ap Some same.0)
