-- Fields that are read one after another, and put in canonical form.
use Rattle.std.proofs.Common.{◌≡◌, ℕ, suc, ◌+◌, ◌-◌, ◌<◌, ◌≤◌, Bool, true, false, List, [], ◌∷◌, ◌++◌, length, map, drop, take, get_or, Option, Some, None, append-nil, append_assoc, refl, sym, ap, subst, ◌∙◌, arith}
use Rattle.std.specs.Prelude.{◌==◌, ◌||◌}
use Rattle.std.proofs.lemmas.Bool.{eqb-true, or_left}
use Rattle.std.proofs.lemmas.List.{drop_all, drop-drop, length-drop, take_all}
use Rattle.std.proofs.Math.Seq.{drop-cons, take-add}
use Rattle.dns_wire.specs.Pointers.{name_at}
use Rattle.dns_wire.proofs.NamesLemmas.{name_ends}
use Rattle.dns_wire.specs.Reading.{all_at}
use Rattle.dns_wire.specs.Steps.{◌>>=◌}
use Rattle.dns_record.specs.Fields.{Field, field_octets, fields_octets, lowercased_field}
use Rattle.dns_record.specs.Kinds.{field_in, fields_in}
use Rattle.dns_record.specs.DataLemmas.{field_ends}
use Rattle.dns_record.specs.Types.{is_lowercased, opt_number}
use Rattle.dns_rdata.specs.Compressible.{is_compressible_type}
use Rattle.dns_record.specs.FieldKinds.{kind_of}
use Rattle.dns_message.specs.LowercaseFields.{KeepsField, PutsField, PutsFields, between}
use Rattle.dns_record.specs.declared.field_kind.FieldKind.{FieldKind}

-- these fields, and then what is read after them
abbrev after_fields : List Field → Option (List Field × ℕ) → Option (List Field × ℕ)
after_fields before None = None
after_fields before (Some (others, end)) = Some (before ++ others, end)

after_none : (read : Option (List Field × ℕ)) → read ≡ after_fields [] read
after_none None = refl
after_none (Some (others, end)) = refl

after_one : (before : List Field) (field : Field) (read : Option (List Field × ℕ)) → after_fields before (read >>= λ others. Some (field ∷ others.0, others.1)) ≡ after_fields (before ++ field ∷ []) read
after_one before field None = refl
after_one before field (Some (others, end)) = ap (λ (l : List Field). Some (l, end)) (sym (append_assoc before (field ∷ []) others))

octets_append : (fields : List Field) (field : Field) → fields_octets (map lowercased_field (fields ++ field ∷ [])) ≡ fields_octets (map lowercased_field fields) ++ field_octets (lowercased_field field)
octets_append [] field = append-nil (field_octets (lowercased_field field))
octets_append (first ∷ fields) field =
    ap (λ (l : List ℕ). field_octets (lowercased_field first) ++ l) (octets_append fields field)
    ∙ sym (append_assoc (field_octets (lowercased_field first)) (fields_octets (map lowercased_field fields)) (field_octets (lowercased_field field)))

-- fields are read, and their octets are after others; the other kinds are read from a place on
pub record ReadUpTo (contents : List ℕ) (start : ℕ) (kinds : List FieldKind) (old : List ℕ) (count at : ℕ) (new : List ℕ) : Type 0 where
  pub fields : List Field
  pub read : fields_in name_at (map kind_of kinds) contents start ≡ after_fields fields (fields_in name_at (map kind_of (drop count kinds)) contents at)
  pub put : new ≡ old ++ fields_octets (map lowercased_field fields)

pub read_none : (contents : List ℕ) (start : ℕ) (kinds : List FieldKind) (old : List ℕ) → ReadUpTo contents start kinds old 0 start old
read_none contents start kinds old = record { fields = []; read = after_none _; put = sym (append-nil old) }

next_kind : (kinds : List FieldKind) (count : ℕ) (kind other : FieldKind) → count < length kinds → kind ≡ get_or kinds count other → drop count kinds ≡ kind ∷ drop (count + 1) kinds
next_kind kinds count kind other within is =
    let on : count + 1 ≡ suc count = omega arith in
    drop-cons kinds count other within ∙ (λ i. sym is i ∷ drop (sym on i) kinds)

module _ (contents : List ℕ) (start : ℕ) (kinds : List FieldKind) (old : List ℕ) (count at : ℕ) (now : List ℕ) (kind other : FieldKind) (so : ReadUpTo contents start kinds old count at now) (within : count < length kinds) (is : kind ≡ get_or kinds count other) where
  pub read_more : (next : ℕ) (new : List ℕ) → PutsField (field_in name_at (kind_of kind) contents at) now (Some next) new → ReadUpTo contents start kinds old (count + 1) next new
  read_more next new put =
      let kinds-are = next_kind kinds count kind other within is in
      record {
        fields = so.fields ++ put.0 ∷ [];
        read = so.read
            ∙ ap (λ (l : List FieldKind). after_fields so.fields (fields_in name_at (map kind_of l) contents at)) kinds-are
            ∙ rw put.1 (after_one so.fields put.0 (fields_in name_at (map kind_of (drop (count + 1) kinds)) contents next));
        put = put.2
            ∙ ap (λ (l : List ℕ). l ++ field_octets (lowercased_field put.0)) so.put
            ∙ append_assoc old (fields_octets (map lowercased_field so.fields)) (field_octets (lowercased_field put.0))
            ∙ ap (λ (l : List ℕ). old ++ l) (sym (octets_append so.fields put.0));
      }

  pub read_fails : (new : List ℕ) → PutsField (field_in name_at (kind_of kind) contents at) now None new → all_at contents (fields_in name_at (map kind_of kinds) contents start) ≡ None
  read_fails new none =
      ap (all_at contents) (
      so.read
      ∙ ap (λ (l : List FieldKind). after_fields so.fields (fields_in name_at (map kind_of l) contents at)) (next_kind kinds count kind other within is)
      ∙ no_field so.fields (drop (count + 1) kinds) none
      )
    where
      no_field : (before : List Field) (others : List FieldKind) → field_in name_at (kind_of kind) contents at ≡ None → after_fields before (fields_in name_at (map kind_of (kind ∷ others)) contents at) ≡ None
      no_field before others none = rw none refl

pub read_all : (contents : List ℕ) (start : ℕ) (kinds : List FieldKind) (old : List ℕ) (count at : ℕ) (new : List ℕ) (end : ℕ) (b : Bool) → ReadUpTo contents start kinds old count at new → length kinds ≤ count → length contents ≡ end → b ≡ (at == end)
    → PutsFields (all_at contents (fields_in name_at (map kind_of kinds) contents start)) old b new
read_all contents start kinds old count at new end b so all-read long is = by b (is ∙ ap (λ (n : ℕ). at == n) (sym long)) where
  all : fields_in name_at (map kind_of kinds) contents start ≡ Some (so.fields, at)
  all = so.read ∙ ap (λ (l : List FieldKind). after_fields so.fields (fields_in name_at (map kind_of l) contents at)) (drop_all count kinds all-read) ∙ ap (λ (l : List Field). Some (l, at)) (append-nil so.fields)

  by : (b : Bool) → b ≡ (at == length contents) → PutsFields (all_at contents (fields_in name_at (map kind_of kinds) contents start)) old b new
  by true whole = (so.fields, ap (all_at contents) all ∙ rw (← whole) refl, so.put)
  by false whole = ap (all_at contents) all ∙ rw (← whole) refl

-- ---- octets from a place up to another

pub from_place : (octets : List ℕ) (at : ℕ) → between at (length octets) octets ≡ drop at octets
from_place octets at = take_all (length octets - at) (drop at octets) (omega (arith, length-drop at octets))

pub none_between : (octets : List ℕ) (at : ℕ) → between at at octets ≡ []
none_between octets at = let none : at - at ≡ 0 = omega arith in rw none refl

-- and from there up to a third
pub more_between : (octets : List ℕ) (from to next : ℕ) → from ≤ to → to ≤ next → between from next octets ≡ between from to octets ++ between to next octets
more_between octets from to next before after =
    let long : next - from ≡ (to - from) + (next - to) = omega arith in
    let place : from + (to - from) ≡ to = omega arith in
    ap (λ (n : ℕ). take n (drop from octets)) long
    ∙ take-add (to - from) (next - to) (drop from octets)
    ∙ ap (λ (l : List ℕ). between from to octets ++ take (next - to) l) (drop-drop (to - from) from octets ∙ ap (λ (n : ℕ). drop n octets) place)

-- ---- fields whose octets are put at once

-- the fields so far are those of what was put and of octets that are still to be put
abbrev pub ReadAndKept : (contents : List ℕ) (start : ℕ) (kinds : List FieldKind) (old : List ℕ) (count copied at : ℕ) (new : List ℕ) → Type 0
ReadAndKept contents start kinds old count copied at new = (copied ≤ at) × (at ≤ length contents) × ReadUpTo contents start kinds old count at (new ++ between copied at contents)

pub kept_none : (contents : List ℕ) (start : ℕ) (kinds : List FieldKind) (old : List ℕ) → start ≤ length contents → ReadAndKept contents start kinds old 0 start start old
kept_none contents start kinds old within =
    (omega arith, within, subst (λ (l : List ℕ). ReadUpTo contents start kinds old 0 start l) (sym (append-nil old) ∙ ap (λ (l : List ℕ). old ++ l) (sym (none_between contents start))) (read_none contents start kinds old))

module _ (contents : List ℕ) (start : ℕ) (kinds : List FieldKind) (old : List ℕ) (count copied at : ℕ) (new : List ℕ) (kind other : FieldKind) (so : ReadAndKept contents start kinds old count copied at new) (within : count < length kinds) (is : kind ≡ get_or kinds count other) where
  -- a field whose octets stay
  pub kept_more : (next : ℕ) → KeepsField (field_in name_at (kind_of kind) contents at) contents at (Some next) → ReadAndKept contents start kinds old (count + 1) copied next new
  kept_more next kept = (
    omega (arith, so.0, kept.2),
    kept.3,
    read_more contents start kinds old count at (new ++ between copied at contents) kind other so.2 within is next (new ++ between copied next contents) (
      kept.0,
      kept.1,
      ap (λ (l : List ℕ). new ++ l) (more_between contents copied at next so.0 kept.2 ∙ ap (λ (l : List ℕ). between copied at contents ++ l) kept.4)
          ∙ sym (append_assoc new (between copied at contents) (field_octets (lowercased_field kept.0))),
    ),
  )

  pub kept_fails : KeepsField (field_in name_at (kind_of kind) contents at) contents at None → all_at contents (fields_in name_at (map kind_of kinds) contents start) ≡ None
  kept_fails none = read_fails contents start kinds old count at (new ++ between copied at contents) kind other so.2 within is [] none

  -- a name, after octets that were to be put
  pub named_more : (next : ℕ) (later : List ℕ) → PutsField (field_in name_at (kind_of kind) contents at) (new ++ between copied at contents) (Some next) later → ReadAndKept contents start kinds old (count + 1) next next later
  named_more next later put = (
    omega arith,
    (field_ends name_at name_ends (kind_of kind) contents at put.0 next put.1).1,
    subst (λ (l : List ℕ). ReadUpTo contents start kinds old (count + 1) next l) (sym (append-nil later) ∙ ap (λ (l : List ℕ). later ++ l) (sym (none_between contents next)))
        (read_more contents start kinds old count at (new ++ between copied at contents) kind other so.2 within is next later put),
  )

  pub named_fails : (later : List ℕ) → PutsField (field_in name_at (kind_of kind) contents at) (new ++ between copied at contents) None later → all_at contents (fields_in name_at (map kind_of kinds) contents start) ≡ None
  named_fails later none = read_fails contents start kinds old count at (new ++ between copied at contents) kind other so.2 within is later none

-- ---- types

-- no name is in lowercase in data of OPT
pub lowercased_not_opt : (n : ℕ) → is_lowercased n ≡ true → (n == opt_number) ≡ false
lowercased_not_opt n is = by (n == opt_number) refl where
  by : (b : Bool) → (n == opt_number) ≡ b → b ≡ false
  by false other = refl
  by true same = let both : is_lowercased 41 ≡ true = ap is_lowercased (sym (eqb-true n 41 same)) ∙ is in absurd cc

-- pointers may lead through names of such types alone
pub cased_uncompressed : (n : ℕ) → is_lowercased n ≡ false → is_compressible_type n ≡ false
cased_uncompressed n is = by (is_compressible_type n) refl where
  by : (b : Bool) → is_compressible_type n ≡ b → b ≡ false
  by false other = refl
  by true same =
      let low : is_lowercased n ≡ true = or_left ((is_compressible_type n || n == 33) || n == 39) (n == 46) (or_left (is_compressible_type n || n == 33) (n == 39) (or_left (is_compressible_type n) (n == 33) same)) in
      absurd cc
