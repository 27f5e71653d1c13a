-- Records by their canonical octets, one by one.
use Rattle.std.proofs.Common.{◌≡◌, ℕ, ◌+◌, ◌<◌, ◌≤◌, List, [], ◌∷◌, ◌++◌, length, map, take, take_all, drop, get_or, sym, ap, ◌∙◌, take-append-drop, arith}
use Rattle.std.proofs.lemmas.List.{get_or-map, length-map, map-append, take_more}
use Rattle.std.proofs.lemmas.List.Elements.{All-from_recursion}
use Rattle.dns_message.specs.Canonical.{canonical_wire, lowercase_names}
use Rattle.dns_message.specs.Messages.{RecordValue}
use Rattle.dns_message.specs.WellFormed.{WellFormed}
use Rattle.dns_normal.specs.Answers.{AreRecordsOf}
use Rattle.dns_normal.specs.Normal.{answers_message}
use Rattle.dns_normal.proofs.AnswersLemmas.{message_grows}

-- a record of a list, those before it and those after it
pub record RecordIn (rs : List RecordValue) (i : ℕ) (octets : List ℕ) : Type 0 where
  pub found : RecordValue
  pub well : WellFormed found
  pub octets_is : canonical_wire found ≡ octets
  pub more : map lowercase_names (take (i + 1) rs) ≡ map lowercase_names (take i rs) ++ lowercase_names found ∷ []
  pub all : map lowercase_names rs ≡ (map lowercase_names (take i rs) ++ lowercase_names found ∷ []) ++ map lowercase_names (drop (i + 1) rs)

nothing : RecordValue
nothing = record { owner = []; rtype = 0; class = 0; ttl = 0; content = [] }

module _ {X : Type 0} (vs : List X) (f : X → List ℕ) (rs : List RecordValue) (are : AreRecordsOf (map f vs) rs) where
  pub as_many : length rs ≡ length vs
  as_many = sym (length-map rs canonical_wire) ∙ ap length are.1 ∙ length-map vs f

  pub record_in : (i : ℕ) (v : X) → i < length vs → v ≡ get_or vs i v → RecordIn rs i (f v)
  record_in i v within is =
      let inside : i < length rs = omega (arith, within, as_many) in
      let found = get_or rs i nothing in
      let more : map lowercase_names (take (i + 1) rs) ≡ map lowercase_names (take i rs) ++ lowercase_names found ∷ [] =
      ap (map lowercase_names) (take_more rs i nothing inside) ∙ map-append lowercase_names (take i rs) (found ∷ []) in
      record {
        found = found;
        well = All-from_recursion WellFormed rs are.0 i nothing inside;
        octets_is = sym (get_or-map canonical_wire rs i nothing [] inside) ∙ ap (λ (l : List (List ℕ)). get_or l i []) are.1 ∙ get_or-map f vs i v [] within ∙ ap f (sym is);
        more = more;
        all = ap (map lowercase_names) (sym (take-append-drop (i + 1) rs)) ∙ map-append lowercase_names (take (i + 1) rs) (drop (i + 1) rs)
            ∙ ap (λ (l : List RecordValue). l ++ map lowercase_names (drop (i + 1) rs)) more;
      }

  -- all of them
  pub all_taken : (i : ℕ) → length vs ≤ i → map lowercase_names (take i rs) ≡ map lowercase_names rs
  all_taken i past = ap (map lowercase_names) (take_all i rs (omega (arith, past, as_many)))

-- records that are too many octets are so with others after them
pub too_many : (most : ℕ) (rs : List RecordValue) (i : ℕ) (octets : List ℕ) (at : RecordIn rs i octets) → most < length (answers_message (map lowercase_names (take i rs) ++ lowercase_names at.found ∷ [])) → most < length (answers_message (map lowercase_names rs))
too_many most rs i octets at over =
    let before = map lowercase_names (take i rs) ++ lowercase_names at.found ∷ [] in
    let later = map lowercase_names (drop (i + 1) rs) in
    omega (arith, over, message_grows before later, ap (λ (l : List RecordValue). length (answers_message l)) at.all)
