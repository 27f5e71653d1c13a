-- What is after a field, by its kind; and fields that are read one after another.
use Rattle.std.proofs.Common.{◌≡◌, ℕ, suc, ◌+◌, ◌<◌, ◌≤◌, Bool, true, false, cond, ltb, List, [], ◌∷◌, ◌++◌, length, map, drop, take, get_or, Option, Some, None, append-nil, append_assoc, refl, sym, ap, ◌∙◌, arith}
use Rattle.std.specs.Prelude.{MatchOption, ◌==◌}
use Rattle.std.proofs.lemmas.Bool.{eqb-true, le-ltb, lt-ltb}
use Rattle.std.proofs.lemmas.List.{drop_all}
use Rattle.std.proofs.Math.Seq.{drop-cons}
use Rattle.dns_wire.specs.Names.{plain_name}
use Rattle.dns_wire.specs.Octets.{Octets}
use Rattle.dns_wire.specs.Reading.{all_of}
use Rattle.dns_wire.specs.Steps.{◌>>=◌, first_to}
use Rattle.dns_record.specs.Fields.{Field}
use Rattle.dns_record.specs.Fields.FieldOf.{OtherOctets}
use Rattle.dns_record.specs.Kinds.{Kind, field_of, fields_of}
use Rattle.dns_record.specs.TypeBitMaps.{is_bitmap}
use Rattle.dns_record.specs.FieldKinds.{kind_of}
use Rattle.dns_message.specs.PlainFields.{AfterField, AreFields}
use Rattle.dns_record.specs.declared.field_kind.FieldKind.{FieldKind}
use denote.Ref.{Bor}

-- ---- that many octets

-- there are too few, or these are after them
abbrev pub AfterOctets : ℕ → Octets → Option (Bor Octets) → Type 0
AfterOctets size bytes rest = MatchOption rest (length bytes < size) (λ rest. (size ≤ length bytes) × (rest.now ≡ drop size bytes))

pub after_many : (size : ℕ) (bytes : Octets) (rest : Option (Bor Octets)) → AfterOctets size bytes rest → AfterField (field_of plain_name (Kind.FixedOctets size) bytes) rest
after_many size bytes None h = let short : ltb (length bytes) size ≡ true = lt-ltb _ _ h in rw short refl
after_many size bytes (Some rest) h =
    let long : ltb (length bytes) size ≡ false = le-ltb _ _ h.0 in
    (OtherOctets (take size bytes), rw (long, h.1) refl)

-- ---- names and strings

abbrev pub AfterRead : {A : Type 0} → Option (A × Octets) → Option (Bor Octets) → Type 0
AfterRead {A} read rest = MatchOption rest (read ≡ None) (λ rest. (x : A) × (read ≡ Some (x, rest.now)))

pub after_put : {A : Type 0} (put : A → Field) (read : Option (A × Octets)) (rest : Option (Bor Octets)) → AfterRead read rest → AfterField (first_to put read) rest
after_put put read None h = ap (first_to put) h
after_put put read (Some rest) h = (put h.0, ap (first_to put) h.1)

-- ---- what goes to the end

abbrev pub NoneAfter : Bool → Option (Bor Octets) → Type 0
NoneAfter good rest = MatchOption rest (good ≡ false) (λ rest. (good ≡ true) × (rest.now ≡ []))

pub after_tested : (put : Octets → Field) (good : Bool) (bytes : Octets) (rest : Option (Bor Octets)) → NoneAfter good rest → AfterField (first_to put (cond {A = Option (Octets × Octets)} good (Some (bytes, [])) None)) rest
after_tested put good bytes None h = rw h refl
after_tested put good bytes (Some rest) h = (put bytes, rw (h.0, h.1) refl)

-- a window at least
pub no_windows : (bytes : Octets) → length bytes ≡ 0 → field_of plain_name Kind.NonEmptyTypeBitMaps bytes ≡ None
no_windows [] e = refl
no_windows (b ∷ bytes) e = absurd (omega arith)

pub after_windows : (good : Bool) (bytes : Octets) (rest : Option (Bor Octets)) → good ≡ is_bitmap bytes → 0 < length bytes → NoneAfter good rest → AfterField (field_of plain_name Kind.NonEmptyTypeBitMaps bytes) rest
after_windows good [] rest is some h = absurd (omega arith)
after_windows good (b ∷ bytes) rest is some h = rw (← is) (after_tested OtherOctets good (b ∷ bytes) rest h)

-- ---- fields one after another

-- these fields, and then what is read after them
abbrev after_fields : List Field → Option (List Field × Octets) → Option (List Field × Octets)
after_fields before None = None
after_fields before (Some (others, rest)) = Some (before ++ others, rest)

after_none : (read : Option (List Field × Octets)) → read ≡ after_fields [] read
after_none None = refl
after_none (Some (others, rest)) = refl

after_one : (before : List Field) (field : Field) (read : Option (List Field × Octets)) → after_fields before (read >>= λ others. Some (field ∷ others.0, others.1)) ≡ after_fields (before ++ field ∷ []) read
after_one before field None = refl
after_one before field (Some (others, rest)) = ap (λ (l : List Field). Some (l, rest)) (sym (append_assoc before (field ∷ []) others))

-- fields are read, and the other kinds are read of the rest
pub record AreReadUpTo (bytes : Octets) (kinds : List FieldKind) (count : ℕ) (rest : Octets) : Type 0 where
  pub fields : List Field
  pub read : fields_of plain_name (map kind_of kinds) bytes ≡ after_fields fields (fields_of plain_name (map kind_of (drop count kinds)) rest)

pub are_read_none : (bytes : Octets) (kinds : List FieldKind) → AreReadUpTo bytes kinds 0 bytes
are_read_none bytes kinds = record { fields = []; read = after_none _ }

next_kind : (kinds : List FieldKind) (count : ℕ) (kind other : FieldKind) → count < length kinds → kind ≡ get_or kinds count other → drop count kinds ≡ kind ∷ drop (count + 1) kinds
next_kind kinds count kind other within is =
    let on : count + 1 ≡ suc count = omega arith in
    drop-cons kinds count other within ∙ (λ i. sym is i ∷ drop (sym on i) kinds)

module _ (bytes : Octets) (kinds : List FieldKind) (count : ℕ) (rest : Octets) (kind other : FieldKind) (so : AreReadUpTo bytes kinds count rest) (within : count < length kinds) (is : kind ≡ get_or kinds count other) where
  pub are_read_more : (field : Field) (later : Octets) → field_of plain_name (kind_of kind) rest ≡ Some (field, later) → AreReadUpTo bytes kinds (count + 1) later
  are_read_more field later found =
      record {
        fields = so.fields ++ field ∷ [];
        read = so.read
            ∙ ap (λ (l : List FieldKind). after_fields so.fields (fields_of plain_name (map kind_of l) rest)) (next_kind kinds count kind other within is)
            ∙ rw found (after_one so.fields field (fields_of plain_name (map kind_of (drop (count + 1) kinds)) later));
      }

  pub are_not_read : field_of plain_name (kind_of kind) rest ≡ None → all_of (fields_of plain_name (map kind_of kinds) bytes) ≡ None
  are_not_read none =
      ap all_of (
      so.read
      ∙ ap (λ (l : List FieldKind). after_fields so.fields (fields_of plain_name (map kind_of l) rest)) (next_kind kinds count kind other within is)
      ∙ no_field so.fields (drop (count + 1) kinds) none
      )
    where
      no_field : (before : List Field) (others : List FieldKind) → field_of plain_name (kind_of kind) rest ≡ None → after_fields before (fields_of plain_name (map kind_of (kind ∷ others)) rest) ≡ None
      no_field before others none = rw none refl

pub are_all_read : (bytes : Octets) (kinds : List FieldKind) (count : ℕ) (rest : Octets) (b : Bool) → AreReadUpTo bytes kinds count rest → length kinds ≤ count → b ≡ (length rest == 0) → AreFields (all_of (fields_of plain_name (map kind_of kinds) bytes)) b
are_all_read bytes kinds count rest b so all-read is = by b rest all is where
  all : fields_of plain_name (map kind_of kinds) bytes ≡ Some (so.fields, rest)
  all = so.read ∙ ap (λ (l : List FieldKind). after_fields so.fields (fields_of plain_name (map kind_of l) rest)) (drop_all count kinds all-read) ∙ ap (λ (l : List Field). Some (l, rest)) (append-nil so.fields)

  by : (b : Bool) (rest : Octets) → fields_of plain_name (map kind_of kinds) bytes ≡ Some (so.fields, rest) → b ≡ (length rest == 0) → AreFields (all_of (fields_of plain_name (map kind_of kinds) bytes)) b
  by true [] read is = (so.fields, ap all_of read)
  by true (b ∷ rest) read is = absurd (omega (arith, eqb-true (length (b ∷ rest)) 0 (sym is)))
  by false [] read is = absurd cc
  by false (b ∷ rest) read is = ap all_of read
