-- What follows the owner of a record: read at the start of octets, and at a place in a message.
use Rattle.std.proofs.Common.{◌≡◌, ℕ, ◌+◌, ◌-◌, ◌≤◌, Bool, true, false, cond, ltb, List, ◌++◌, length, drop, Option, Some, None, refl, sym, ap, ◌∙◌, arith}
use Rattle.std.specs.Int.{w16, w32}
use Rattle.std.proofs.lemmas.Bool.{le-ltb, ltb-false}
use Rattle.std.proofs.lemmas.List.{length-drop, drop-drop}
use Rattle.std.proofs.lemmas.Option.{some_pair_parts}
use Rattle.dns_wire.specs.Reading.{LeavesRest, octets, number, plain_at, with_end}
use Rattle.dns_wire.specs.ReadingLemmas.{number_leaves, then_some}
use Rattle.dns_wire.specs.Steps.{◌>>=◌}
use Rattle.dns_record.specs.InPlace.{OctetsAt, NumberAt}
use Rattle.dns_record.specs.Records.{Parts, parts_at}
use Rattle.dns_record.proofs.Places.{number_at, octets_read, octets_spelled, octets_stand, placed, read_at, read_number}

-- ---- steps at a place

-- two steps at a place are the first there, and the second where it ends
pub two_steps : {A B : Type 0} (read : List ℕ → Option (A × List ℕ)) → LeavesRest read → (more : A → List ℕ → Option (B × List ℕ)) (contents : List ℕ) (at : ℕ)
    → plain_at (λ bytes. read bytes >>= (λ a. more a.0 a.1)) contents at ≡ (plain_at read contents at >>= (λ a. plain_at (more a.0) contents a.1))
two_steps {A} {B} read leaves more contents at = by (ltb (length contents) at) (read (drop at contents)) refl refl where
  by : (b : Bool) (first : Option (A × List ℕ)) → ltb (length contents) at ≡ b → read (drop at contents) ≡ first
      → cond {A = Option (B × ℕ)} b None (with_end contents (first >>= (λ a. more a.0 a.1))) ≡ (cond {A = Option (A × ℕ)} b None (with_end contents first) >>= (λ a. plain_at (more a.0) contents a.1))
  by true first after is = refl
  by false None after is = refl
  by false (Some (a, rest)) after is =
      let f = leaves (drop at contents) a rest is in
      let long : length rest ≡ length contents - at - f.count = ap length f.rest_is ∙ length-drop f.count (drop at contents) ∙ ap (λ (n : ℕ). n - f.count) (length-drop at contents) in
      let room : at ≤ length contents = ltb-false _ _ after in
      let place : length contents - length rest ≡ at + f.count = omega (arith, long, room, f.within, length-drop at contents) in
      let fits : ltb (length contents) (length contents - length rest) ≡ false = le-ltb _ _ (omega arith) in
      let there : drop (length contents - length rest) contents ≡ rest = ap (λ (n : ℕ). drop n contents) place ∙ sym (drop-drop f.count at contents) ∙ sym f.rest_is in
      rw (fits, there) refl

-- ---- the parts at a place

-- where each of the parts is
pub record PartsAt (contents : List ℕ) (at : ℕ) (p : Parts) (end : ℕ) : Type 0 where
  pub type_end : ℕ
  pub class_end : ℕ
  pub ttl_end : ℕ
  pub size_end : ℕ
  pub rtype : NumberAt contents at w16 p.rtype type_end
  pub class : NumberAt contents type_end w16 p.class class_end
  pub ttl : NumberAt contents class_end w32 p.ttl ttl_end
  pub size : NumberAt contents ttl_end w16 (length p.content) size_end
  pub content : OctetsAt contents size_end p.content end

-- the parts that begin with these numbers
abbrev pub from_size : ℕ → ℕ → ℕ → ℕ → List ℕ → Option (Parts × List ℕ)
from_size rtype class ttl size bytes = ◌>>=◌ {A = List ℕ × List ℕ} {B = Parts × List ℕ} (octets size bytes) (λ o. Some (record { rtype = rtype; class = class; ttl = ttl; content = o.0 }, o.1))

abbrev from_ttl : ℕ → ℕ → ℕ → List ℕ → Option (Parts × List ℕ)
from_ttl rtype class ttl bytes = ◌>>=◌ {A = ℕ × List ℕ} {B = Parts × List ℕ} (number w16 bytes) (λ s. from_size rtype class ttl s.0 s.1)

abbrev from_class : ℕ → ℕ → List ℕ → Option (Parts × List ℕ)
from_class rtype class bytes = ◌>>=◌ {A = ℕ × List ℕ} {B = Parts × List ℕ} (number w32 bytes) (λ t. from_ttl rtype class t.0 t.1)

abbrev from_type : ℕ → List ℕ → Option (Parts × List ℕ)
from_type rtype bytes = ◌>>=◌ {A = ℕ × List ℕ} {B = Parts × List ℕ} (number w16 bytes) (λ c. from_class rtype c.0 c.1)

-- the parts in steps at a place
abbrev steps_in : List ℕ → ℕ → Option (Parts × ℕ)
steps_in contents at =
    plain_at (number w16) contents at >>= (λ t. plain_at (number w16) contents t.1 >>= (λ c. plain_at (number w32) contents c.1 >>= (λ l. plain_at (number w16) contents l.1 >>= (λ s. plain_at (from_size t.0 c.0 l.0 s.0) contents s.1))))

in_steps : (contents : List ℕ) (at : ℕ) → plain_at parts_at contents at ≡ steps_in contents at
unfolding parts_at
in_steps contents at =
    two_steps (number w16) (number_leaves w16) from_type contents at
    ∙ later (plain_at (number w16) contents at) _ _ (λ t. two_steps (number w16) (number_leaves w16) (from_class t.0) contents t.1
    ∙ later (plain_at (number w16) contents t.1) _ _ (λ c. two_steps (number w32) (number_leaves w32) (from_ttl t.0 c.0) contents c.1
    ∙ later (plain_at (number w32) contents c.1) _ _ (λ l. two_steps (number w16) (number_leaves w16) (from_size t.0 c.0 l.0) contents l.1)))
  where
    later : {A B : Type 0} (read : Option A) (f g : A → Option B) → ((a : A) → f a ≡ g a) → (read >>= f) ≡ (read >>= g)
    later None f g same = refl
    later (Some a) f g same = same a

-- where the size's octets end
content_at : (rtype class ttl size : ℕ) (contents : List ℕ) (at : ℕ) (p : Parts) (end : ℕ) → plain_at (from_size rtype class ttl size) contents at ≡ Some (p, end)
    → (p.rtype ≡ rtype) × (p.class ≡ class) × (p.ttl ≡ ttl) × (length p.content ≡ size) × OctetsAt contents at p.content end
content_at rtype class ttl size contents at p end e =
    let found = placed (from_size rtype class ttl size) contents at p end e in
    let o = then_some (octets size (drop at contents)) _ _ found.read in
    let same = some_pair_parts (record { rtype = rtype; class = class; ttl = ttl; content = o.0.0 }) p o.0.1 found.rest o.2 in
    let spelled = octets_spelled size (drop at contents) o.0.0 o.0.1 o.1 in (
      (λ i. (sym same.0 i).rtype),
      (λ i. (sym same.0 i).class),
      (λ i. (sym same.0 i).ttl),
      (λ i. length (sym same.0 i).content) ∙ spelled.0,
      octets_stand contents at p.content found.rest end found.within (spelled.1 ∙ (λ i. (same.0 i).content ++ same.1 i)) found.end_is,
    )

pub parts_are_at : (contents : List ℕ) (at : ℕ) (p : Parts) (end : ℕ) → plain_at parts_at contents at ≡ Some (p, end) → PartsAt contents at p end
parts_are_at contents at p end e =
    let t = then_some (plain_at (number w16) contents at) _ _ (sym (in_steps contents at) ∙ e) in
    let c = then_some (plain_at (number w16) contents t.0.1) _ _ t.2 in
    let l = then_some (plain_at (number w32) contents c.0.1) _ _ c.2 in
    let s = then_some (plain_at (number w16) contents l.0.1) _ _ l.2 in
    let o = content_at t.0.0 c.0.0 l.0.0 s.0.0 contents s.0.1 p end s.2 in
    record {
      type_end = t.0.1;
      class_end = c.0.1;
      ttl_end = l.0.1;
      size_end = s.0.1;
      rtype = number_at w16 contents at p.rtype t.0.1 (t.1 ∙ ap (λ (n : ℕ). Some (n, t.0.1)) (sym o.0));
      class = number_at w16 contents t.0.1 p.class c.0.1 (c.1 ∙ ap (λ (n : ℕ). Some (n, c.0.1)) (sym o.1));
      ttl = number_at w32 contents c.0.1 p.ttl l.0.1 (l.1 ∙ ap (λ (n : ℕ). Some (n, l.0.1)) (sym o.2));
      size = number_at w16 contents l.0.1 (length p.content) s.0.1 (s.1 ∙ ap (λ (n : ℕ). Some (n, s.0.1)) (sym o.3));
      content = o.4;
    }

pub parts_found_at : (contents : List ℕ) (at : ℕ) (p : Parts) (end : ℕ) → PartsAt contents at p end → plain_at parts_at contents at ≡ Some (p, end)
parts_found_at contents at p end q =
    let rtype = read_number w16 contents at p.rtype q.type_end q.rtype in
    let class = read_number w16 contents q.type_end p.class q.class_end q.class in
    let ttl = read_number w32 contents q.class_end p.ttl q.ttl_end q.ttl in
    let size = read_number w16 contents q.ttl_end (length p.content) q.size_end q.size in
    let content : plain_at (from_size p.rtype p.class p.ttl (length p.content)) contents q.size_end ≡ Some (p, end) =
    read_at (from_size p.rtype p.class p.ttl (length p.content)) (λ r. r.content) contents q.size_end p end (λ rest. rw (octets_read (length p.content) p.content rest refl) refl) q.content in
    in_steps contents at ∙ rw (rtype, class, ttl, size) content

-- where the data begin, and that a size counts them
pub parts_end_at : (contents : List ℕ) (at : ℕ) (p : Parts) (end : ℕ) → plain_at parts_at contents at ≡ Some (p, end) → at + (10 + length p.content) ≡ end
parts_end_at contents at p end e = let q = parts_are_at contents at p end e in omega (arith, q.rtype.end_is, q.class.end_is, q.ttl.end_is, q.size.end_is, q.content.end_is)
