-- Names are the same, ignoring ASCII case, exactly if their lowered octets are.
use Rattle.std.proofs.Common.{◌≡◌, ℕ, List, Bool, true, false, Some, refl, sym, ap, ◌∙◌}
use Rattle.std.specs.Prelude.{◌↔◌, IsTrue, reverse}
use Rattle.std.specs.Ordering.{is_eq}
use Rattle.std.specs.Cmp.{Equal-is, IsTotalOrder}
use Rattle.std.specs.Str.{str_to_ascii_lowercase}
use Rattle.std.proofs.lemmas.Cmp.{lists_total, nat_list_cmp_total, tied_itself}
use Rattle.dns_wire.specs.Reading.{all_of}
use Rattle.dns_wire.specs.Names.{plain_name, name_labels, wire, lowered, IsName}
use Rattle.dns_wire.proofs.Lowered.{lower_wire, name_lowered, wire_one}
use Rattle.dns_wire.proofs.Spelled.{name_octets}
use Rattle.dns_name.specs.Hashing.{lowered_from_keys}
use Rattle.dns_name.specs.Order.{key, key_of, key_cmp}

-- names whose lowered octets are equal are equal when lowered
pub lowered_from_octets : (a b : List (List ℕ)) → IsName a → IsName b → str_to_ascii_lowercase (wire a) ≡ str_to_ascii_lowercase (wire b) → lowered a ≡ lowered b
lowered_from_octets a b is js e = wire_one (lowered a) (lowered b) (name_lowered a is) (name_lowered b js) (sym (lower_wire a is.sizes) ∙ e ∙ lower_wire b js.sizes)

-- a name's octets in lowercase are those of its labels in lowercase
pub octets_lowered : (bytes : List ℕ) → all_of (plain_name bytes) ≡ Some (name_labels bytes) → str_to_ascii_lowercase bytes ≡ wire (lowered (name_labels bytes))
octets_lowered bytes is =
    let t = name_octets bytes (name_labels bytes) is in
    ap str_to_ascii_lowercase t.1 ∙ lower_wire (name_labels bytes) t.0.sizes

pub keys_total : IsTotalOrder key_cmp
keys_total = lists_total nat_list_cmp_total

-- a test of the lowered octets is a test of the order
pub same_names : (a b : List ℕ) (r : Bool) → all_of (plain_name a) ≡ Some (name_labels a) → all_of (plain_name b) ≡ Some (name_labels b)
    → (IsTrue r ↔ (str_to_ascii_lowercase a ≡ str_to_ascii_lowercase b)) → r ≡ is_eq (key_cmp (key_of a) (key_of b))
same_names a b true is js test =
    let p = name_octets a (name_labels a) is in
    let q = name_octets b (name_labels b) js in
    let octets : str_to_ascii_lowercase (wire (name_labels a)) ≡ str_to_ascii_lowercase (wire (name_labels b)) =
    ap str_to_ascii_lowercase (sym p.1) ∙ test.0 refl ∙ ap str_to_ascii_lowercase q.1 in
    let same : key_of a ≡ key_of b = ap reverse (lowered_from_octets (name_labels a) (name_labels b) p.0 q.0 octets) in
    sym (ap is_eq (ap (λ (k : List (List ℕ)). key_cmp k (key_of b)) same ∙ tied_itself keys_total (key_of b)))
same_names a b false is js test = by (is_eq (key_cmp (key_of a) (key_of b))) refl where
  by : (t : Bool) → is_eq (key_cmp (key_of a) (key_of b)) ≡ t → false ≡ t
  by false e = refl
  by true e =
      let p = name_octets a (name_labels a) is in
      let q = name_octets b (name_labels b) js in
      let same = lowered_from_keys (name_labels a) (name_labels b) ((Equal-is (key_cmp (key_of a) (key_of b))).0 e) in
      test.1 (ap str_to_ascii_lowercase p.1 ∙ lower_wire (name_labels a) p.0.sizes ∙ ap wire same ∙ sym (lower_wire (name_labels b) q.0.sizes) ∙ ap str_to_ascii_lowercase (sym q.1))

-- a test of two names in lowercase is a test of the order
pub same_by_octets : (a b : List (List ℕ)) (r : Bool) → (IsTrue r → lowered a ≡ lowered b) → (lowered a ≡ lowered b → IsTrue r) → r ≡ is_eq (key_cmp (key a) (key b))
same_by_octets a b true same is =
    sym (ap is_eq (ap (λ (l : List (List ℕ)). key_cmp (reverse l) (key b)) (same refl) ∙ tied_itself keys_total (key b)))
same_by_octets a b false same is = by (is_eq (key_cmp (key a) (key b))) refl where
  by : (t : Bool) → is_eq (key_cmp (key a) (key b)) ≡ t → false ≡ t
  by false e = refl
  by true e = is (lowered_from_keys a b ((Equal-is (key_cmp (key a) (key b))).0 e))
