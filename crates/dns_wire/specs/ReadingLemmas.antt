-- What grammars leave over, and where what they read ends.
use Rattle.std.proofs.Common.{◌≡◌, ℕ, ◌+◌, ◌-◌, ◌≤◌, Bool, true, false, cond, ltb, List, [], ◌∷◌, length, take, drop, Option, Some, None, refl, sym, ap, ◌∙◌, arith}
use Rattle.std.specs.Int.{Width, byte_len}
use Rattle.std.specs.Str.{is_utf8}
use Rattle.std.proofs.lemmas.Bool.{ltb-false}
use Rattle.std.proofs.lemmas.List.{drop-drop, drop_all, length-drop}
use Rattle.std.proofs.lemmas.Option.{some_pair_parts}
use Rattle.dns_wire.specs.Reading.{Follows, LeavesRest, EndsWithin, octet, octets, number, plain_at, with_end}
use Rattle.dns_wire.specs.Steps.{◌>>=◌, first_to}
use Rattle.dns_wire.specs.Texts.{text}

-- ---- reading by steps

-- what two steps read was read by the first, and then by the second with it
pub then_some : {A B : Type 0} (read : Option A) (more : A → Option B) (b : B) → (read >>= more) ≡ Some b → (a : A) × (read ≡ Some a) × (more a ≡ Some b)
then_some None more b e = absurd cc
then_some (Some a) more b e = (a, refl, e)

-- what is put into something was read before
pub put_some : {A B S : Type 0} (to : A → B) (read : Option (A × S)) (y : B) (rest : S) → first_to to read ≡ Some (y, rest) → (x : A) × (read ≡ Some (x, rest)) × (to x ≡ y)
put_some to None y rest e = absurd cc
put_some to (Some (x, later)) y rest e = let same = some_pair_parts (to x) y later rest e in (x, ap (λ r. Some (x, r)) same.1, same.0)

pub put_leaves : {A B : Type 0} (to : A → B) (grammar : List ℕ → Option (A × List ℕ)) → LeavesRest grammar → LeavesRest (λ bytes. first_to to (grammar bytes))
put_leaves to grammar leaves bytes y rest e = let p = put_some to (grammar bytes) y rest e in leaves bytes p.0 rest p.1

pub put_ends : {A B : Type 0} (to : A → B) (grammar : List ℕ → ℕ → Option (A × ℕ)) → EndsWithin grammar → EndsWithin (λ contents at. first_to to (grammar contents at))
put_ends to grammar ends contents at y end e = let p = put_some to (grammar contents at) y end e in ends contents at p.0 end p.1

-- ---- one after another

pub follows_both : (a b c : List ℕ) → Follows b a → Follows c b → Follows c a
follows_both a b c p q = record {
  count = p.count + q.count;
  within = omega (arith, p.within, q.within, ap length p.rest_is, length-drop p.count a);
  rest_is = q.rest_is ∙ ap (drop q.count) p.rest_is ∙ drop-drop q.count p.count a;
}

-- nothing follows
pub nothing_follows : (bytes rest : List ℕ) → rest ≡ [] → Follows rest bytes
nothing_follows bytes rest e = record { count = length bytes; within = omega arith; rest_is = e ∙ sym (drop_all (length bytes) bytes (omega arith)) }

-- all the octets follow
pub all_follow : (bytes : List ℕ) → Follows bytes bytes
all_follow bytes = record { count = 0; within = omega arith; rest_is = refl }

-- that many octets, or nothing
pub counted_leaves : {A : Type 0} (b : Bool) (n : ℕ) (bytes : List ℕ) (x y : A) (rest : List ℕ) → ltb (length bytes) n ≡ b → ◌≡◌ {A = Option (A × List ℕ)} (cond b None (Some (x, drop n bytes))) (Some (y, rest)) → Follows rest bytes
counted_leaves true n bytes x y rest is e = absurd cc
counted_leaves false n bytes x y rest is e = let same = some_pair_parts x y (drop n bytes) rest e in record { count = n; within = ltb-false _ _ is; rest_is = sym same.1 }

-- all the octets, if they are such
pub tested_leaves : (b : Bool) (bytes x rest : List ℕ) → ◌≡◌ {A = Option (List ℕ × List ℕ)} (cond b (Some (bytes, [])) None) (Some (x, rest)) → Follows rest bytes
tested_leaves true bytes x rest e = nothing_follows bytes rest (sym (some_pair_parts bytes x [] rest e).1)
tested_leaves false bytes x rest e = absurd cc

-- ---- grammars

pub octet_leaves : LeavesRest octet
octet_leaves [] x rest e = absurd cc
octet_leaves (y ∷ bytes) x rest e = record { count = 1; within = omega arith; rest_is = sym (some_pair_parts y x bytes rest e).1 }

pub octets_leave : (n : ℕ) → LeavesRest (octets n)
octets_leave n bytes x rest e = counted_leaves (ltb (length bytes) n) n bytes (take n bytes) x rest refl e

pub number_leaves : (w : Width) → LeavesRest (number w)
number_leaves w bytes x rest e = counted_leaves (ltb (length bytes) (byte_len w)) (byte_len w) bytes _ x rest refl e

pub whole_leaves : LeavesRest (λ bytes. Some (bytes, []))
whole_leaves bytes x rest e = nothing_follows bytes rest (sym (some_pair_parts bytes x [] rest e).1)

pub text_leaves : LeavesRest text
text_leaves bytes x rest e = tested_leaves (is_utf8 bytes) bytes x rest e

-- ---- at a place

plain_within : {Y : Type 0} (b : Bool) (contents : List ℕ) (at : ℕ) (read : Option (Y × List ℕ)) (y : Y) (end : ℕ) → ltb (length contents) at ≡ b → ((x : Y) (rest : List ℕ) → read ≡ Some (x, rest) → Follows rest (drop at contents)) → cond b None (with_end contents read) ≡ Some (y, end) → (at ≤ end) × (end ≤ length contents)
plain_within true contents at read y end is leaves e = absurd cc
plain_within false contents at None y end is leaves e = absurd cc
plain_within false contents at (Some (x, rest)) y end is leaves e =
    let f = leaves x rest refl in
    let same = some_pair_parts x y (length contents - length rest) end e in
    let room : at ≤ length contents = ltb-false _ _ is in
    (omega (arith, same.1, room, f.within, ap length f.rest_is, length-drop f.count (drop at contents), length-drop at contents), omega (arith, same.1))

pub plain_ends : {Y : Type 0} (grammar : List ℕ → Option (Y × List ℕ)) → LeavesRest grammar → EndsWithin (plain_at grammar)
plain_ends grammar leaves contents at y end e = plain_within (ltb (length contents) at) contents at (grammar (drop at contents)) y end refl (λ x rest h. leaves (drop at contents) x rest h) e

placed_within : {Y : Type 0} (b : Bool) (contents : List ℕ) (read : Option (Y × List ℕ)) (y : Y) (end : ℕ) → cond b None (with_end contents read) ≡ Some (y, end) → (rest : List ℕ) × (read ≡ Some (y, rest))
placed_within true contents read y end e = absurd cc
placed_within false contents None y end e = absurd cc
placed_within false contents (Some (x, rest)) y end e =
    let same = some_pair_parts x y (length contents - length rest) end e in
    (rest, ap (λ z. Some (z, rest)) same.0)

-- what is read at a place is read from the octets there
pub placed_some : {Y : Type 0} (grammar : List ℕ → Option (Y × List ℕ)) (contents : List ℕ) (at : ℕ) (y : Y) (end : ℕ) → plain_at grammar contents at ≡ Some (y, end) → (rest : List ℕ) × (grammar (drop at contents) ≡ Some (y, rest))
placed_some grammar contents at y end e = placed_within (ltb (length contents) at) contents (grammar (drop at contents)) y end e
