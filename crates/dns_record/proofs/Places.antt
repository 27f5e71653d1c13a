-- What is read at a place, in words: octets that are there.
use Rattle.std.proofs.Common.{◌≡◌, ℕ, ◌+◌, ◌-◌, ◌≤◌, Bool, true, false, cond, ltb, List, [], ◌∷◌, ◌++◌, length, take, drop, Option, Some, None, refl, sym, ap, ◌∙◌, arith}
use Rattle.std.specs.Int.{Width, byte_len, from_be_bytes}
use Rattle.std.proofs.lemmas.Bool.{le-ltb, ltb-false}
use Rattle.std.proofs.lemmas.List.{take_at, drop_at, take-append-drop, length-append, length-take, length-drop, drop-drop}
use Rattle.std.proofs.lemmas.Option.{some_pair_parts}
use Rattle.dns_wire.specs.Reading.{octet, octets, number, plain_at, with_end}
use Rattle.dns_record.specs.InPlace.{OctetsAt, NumberAt}
use Rattle.dns_record.specs.CharacterStrings.{character_string}

-- ---- at a place, and at the start

-- what a grammar reads from a place on, and where that ends
pub record Placed {Y : Type 0} (grammar : List ℕ → Option (Y × List ℕ)) (contents : List ℕ) (at : ℕ) (y : Y) (end : ℕ) : Type 0 where
  pub within : at ≤ length contents
  pub rest : List ℕ
  pub read : grammar (drop at contents) ≡ Some (y, rest)
  pub end_is : end ≡ length contents - length rest

pub placed : {Y : Type 0} (grammar : List ℕ → Option (Y × List ℕ)) (contents : List ℕ) (at : ℕ) (y : Y) (end : ℕ) → plain_at grammar contents at ≡ Some (y, end) → Placed grammar contents at y end
placed {Y} grammar contents at y end e = by (ltb (length contents) at) (grammar (drop at contents)) refl refl e where
  by : (b : Bool) (read : Option (Y × List ℕ)) → ltb (length contents) at ≡ b → grammar (drop at contents) ≡ read → cond b None (with_end contents read) ≡ Some (y, end) → Placed grammar contents at y end
  by true read le is h = absurd cc
  by false None le is h = absurd cc
  by false (Some (x, rest)) le is h =
      let same = some_pair_parts x y (length contents - length rest) end h in
      record { within = ltb-false _ _ le; rest = rest; read = is ∙ ap (λ (z : Y). Some (z, rest)) same.0; end_is = sym same.1 }

pub read_placed : {Y : Type 0} (grammar : List ℕ → Option (Y × List ℕ)) (contents : List ℕ) (at : ℕ) (y : Y) (end : ℕ) → Placed grammar contents at y end → plain_at grammar contents at ≡ Some (y, end)
read_placed {Y} grammar contents at y end p =
    let fits : ltb (length contents) at ≡ false = le-ltb _ _ p.within in
    let read : with_end contents (grammar (drop at contents)) ≡ Some (y, length contents - length p.rest) = ap (with_end contents) p.read in
    rw fits (read ∙ ap (λ (n : ℕ). Some (y, n)) (sym p.end_is))

-- ---- octets

-- octets at the start from a place on
pub octets_stand : (contents : List ℕ) (at : ℕ) (found rest : List ℕ) (end : ℕ) → at ≤ length contents → drop at contents ≡ found ++ rest → end ≡ length contents - length rest → OctetsAt contents at found end
octets_stand contents at found rest end within is end_is =
    let long : length contents - at ≡ length found + length rest = sym (length-drop at contents) ∙ ap length is ∙ length-append found rest in
    record {
      end_is = omega (arith, long, within, end_is);
      within = omega (arith, long, within, end_is);
      occur = sym (ap (take (length found)) is ∙ take_at found rest (length found) refl);
    }

pub record InPrefix (contents : List ℕ) (at : ℕ) (found : List ℕ) (end : ℕ) : Type 0 where
  pub within : at ≤ length contents
  pub is : drop at contents ≡ found ++ drop end contents
  pub end_is : end ≡ length contents - length (drop end contents)

pub in_prefix : (contents : List ℕ) (at : ℕ) (found : List ℕ) (end : ℕ) → OctetsAt contents at found end → InPrefix contents at found end
in_prefix contents at found end o = record {
  within = omega (arith, o.end_is, o.within);
  is = sym (take-append-drop (length found) (drop at contents)) ∙ ap (λ (l : List ℕ). l ++ drop (length found) (drop at contents)) (sym o.occur)
      ∙ ap (λ (l : List ℕ). found ++ l) (drop-drop (length found) at contents ∙ ap (λ (n : ℕ). drop n contents) (sym o.end_is));
  end_is = omega (arith, o.within, length-drop end contents);
}

-- what a grammar reads that represents its octets
pub occurs_at : {Y : Type 0} (grammar : List ℕ → Option (Y × List ℕ)) (write : Y → List ℕ) (contents : List ℕ) (at : ℕ) (y : Y) (end : ℕ)
    → ((rest : List ℕ) → grammar (drop at contents) ≡ Some (y, rest) → drop at contents ≡ write y ++ rest)
    → plain_at grammar contents at ≡ Some (y, end) → OctetsAt contents at (write y) end
occurs_at grammar write contents at y end spelled e =
    let p = placed grammar contents at y end e in
    octets_stand contents at (write y) p.rest end p.within (spelled p.rest p.read) p.end_is

pub read_at : {Y : Type 0} (grammar : List ℕ → Option (Y × List ℕ)) (write : Y → List ℕ) (contents : List ℕ) (at : ℕ) (y : Y) (end : ℕ)
    → ((rest : List ℕ) → grammar (write y ++ rest) ≡ Some (y, rest))
    → OctetsAt contents at (write y) end → plain_at grammar contents at ≡ Some (y, end)
read_at grammar write contents at y end reads o =
    let f = in_prefix contents at (write y) end o in
    read_placed grammar contents at y end (record { within = f.within; rest = drop end contents; read = ap grammar f.is ∙ reads (drop end contents); end_is = f.end_is })

-- ---- the grammars of kinds

pub octet_spelled : (bytes : List ℕ) (b : ℕ) (rest : List ℕ) → octet bytes ≡ Some (b, rest) → bytes ≡ (b ∷ []) ++ rest
octet_spelled [] b rest e = absurd cc
octet_spelled (x ∷ more) b rest e = let same = some_pair_parts x b more rest e in ap (λ (y : ℕ). y ∷ more) same.0 ∙ ap (λ (l : List ℕ). b ∷ l) same.1

pub octets_spelled : (n : ℕ) (bytes found rest : List ℕ) → octets n bytes ≡ Some (found, rest) → (length found ≡ n) × (bytes ≡ found ++ rest)
octets_spelled n bytes found rest e = by (ltb (length bytes) n) refl e where
  by : (b : Bool) → ltb (length bytes) n ≡ b → cond {A = Option (List ℕ × List ℕ)} b None (Some (take n bytes, drop n bytes)) ≡ Some (found, rest) → (length found ≡ n) × (bytes ≡ found ++ rest)
  by true le h = absurd cc
  by false le h =
      let same = some_pair_parts (take n bytes) found (drop n bytes) rest h in (
        ap length (sym same.0) ∙ omega (arith, length-take n bytes, ltb-false (length bytes) n le),
        sym (take-append-drop n bytes) ∙ ap (λ (l : List ℕ). l ++ drop n bytes) same.0 ∙ ap (λ (l : List ℕ). found ++ l) same.1,
      )

pub octets_read : (n : ℕ) (found rest : List ℕ) → length found ≡ n → octets n (found ++ rest) ≡ Some (found, rest)
octets_read n found rest long =
    let fits : ltb (length (found ++ rest)) n ≡ false = le-ltb _ _ (omega (arith, length-append found rest, long)) in
    rw (fits, take_at found rest n long, drop_at found rest n long) refl

pub text_spelled : (bytes found rest : List ℕ) → character_string bytes ≡ Some (found, rest) → bytes ≡ (length found ∷ found) ++ rest
text_spelled [] found rest e = absurd cc
text_spelled (size ∷ more) found rest e = by (ltb (length more) size) refl e where
  by : (b : Bool) → ltb (length more) size ≡ b → cond {A = Option (List ℕ × List ℕ)} b None (Some (take size more, drop size more)) ≡ Some (found, rest) → size ∷ more ≡ (length found ∷ found) ++ rest
  by true le h = absurd cc
  by false le h =
      let same = some_pair_parts (take size more) found (drop size more) rest h in
      let long : length found ≡ size = ap length (sym same.0) ∙ omega (arith, length-take size more, ltb-false (length more) size le) in
      ap (λ (l : List ℕ). size ∷ l) (sym (take-append-drop size more) ∙ ap (λ (l : List ℕ). l ++ drop size more) same.0 ∙ ap (λ (l : List ℕ). found ++ l) same.1)
      ∙ ap (λ (n : ℕ). n ∷ (found ++ rest)) (sym long)

pub text_read : (found rest : List ℕ) → character_string ((length found ∷ found) ++ rest) ≡ Some (found, rest)
text_read found rest =
    let fits : ltb (length (found ++ rest)) (length found) ≡ false = le-ltb _ _ (omega (arith, length-append found rest)) in
    rw (fits, take_at found rest (length found) refl, drop_at found rest (length found) refl) refl

-- ---- numbers

pub number_at : (w : Width) (contents : List ℕ) (at n end : ℕ) → plain_at (number w) contents at ≡ Some (n, end) → NumberAt contents at w n end
number_at w contents at n end e =
    let p = placed (number w) contents at n end e in
    by (ltb (length (drop at contents)) (byte_len w)) refl p.rest p.within p.end_is p.read where
      by : (b : Bool) → ltb (length (drop at contents)) (byte_len w) ≡ b → (rest : List ℕ) → at ≤ length contents → end ≡ length contents - length rest
          → cond {A = Option (ℕ × List ℕ)} b None (Some (from_be_bytes w (take (byte_len w) (drop at contents)), drop (byte_len w) (drop at contents))) ≡ Some (n, rest) → NumberAt contents at w n end
      by true le rest within end_is h = absurd cc
      by false le rest within end_is h =
          let same = some_pair_parts (from_be_bytes w (take (byte_len w) (drop at contents))) n (drop (byte_len w) (drop at contents)) rest h in
          let long : length rest ≡ length (drop at contents) - byte_len w = ap length (sym same.1) ∙ length-drop (byte_len w) (drop at contents) in
          let room : byte_len w ≤ length (drop at contents) = ltb-false (length (drop at contents)) (byte_len w) le in
          record { end_is = omega (arith, long, room, within, end_is, length-drop at contents); within = omega (arith, end_is); is = sym same.0 }

pub read_number : (w : Width) (contents : List ℕ) (at n end : ℕ) → NumberAt contents at w n end → plain_at (number w) contents at ≡ Some (n, end)
read_number w contents at n end o =
    let room : byte_len w ≤ length (drop at contents) = omega (arith, o.end_is, o.within, length-drop at contents) in
    let fits : ltb (length (drop at contents)) (byte_len w) ≡ false = le-ltb _ _ room in
    let read : number w (drop at contents) ≡ Some (n, drop (byte_len w) (drop at contents)) = rw fits (ap (λ (k : ℕ). Some (k, drop (byte_len w) (drop at contents))) (sym o.is)) in
    read_placed (number w) contents at n end (record {
      within = omega (arith, o.end_is, o.within);
      rest = drop (byte_len w) (drop at contents);
      read = read;
      end_is = omega (arith, o.end_is, o.within, room, length-drop at contents, length-drop (byte_len w) (drop at contents));
    })
