-- Sameness of content is an equivalence, and what is read as the same is fed alike to a hasher.
use Rattle.std.proofs.Common.{◌≡◌, ℕ, Bool, true, List, [], ◌∷◌, ◌++◌, refl, ap, subst, ◌∙◌}
use Rattle.std.proofs.Math.Bool.{beq}
use Rattle.std.proofs.lemmas.Bool.{eqb-true}
use Rattle.std.proofs.lemmas.Cmp.{on_equiv, and_equiv, lists_equiv, eq_by_cmp_equiv, nat_eq_equiv, on_total}
use Rattle.std.specs.Prelude.{nat_eq, ◌&&◌}
use Rattle.std.specs.Cmp.{IsEquivalence, bool_eq_equiv, first_so, second_so}
use Rattle.std.specs.Cmp.Lexicographic.{pointwise, bytes_decides}
use Rattle.std.specs.Hash.{slice, u8}
use Rattle.std.specs.Int.{Width}
use Rattle.std.specs.Str.{str_to_ascii_lowercase}
use Rattle.dns_name.proofs.NameSameness.{keys_total}
use Rattle.dns_name.specs.Hashing.{name_writes, same_names_alike}
use Rattle.dns_name.specs.Order.{key}
use Rattle.dns_record.specs.CharStrHashing.{same_charstrs_alike}
use Rattle.dns_record.specs.CharStrs.{same_charstr}
use Rattle.dns_record.specs.FieldOrder.{field_eq, fields_eq, field_writes, fields_writes}
use Rattle.dns_record.specs.Fields.{Field, FieldOf}
use Rattle.dns_record.specs.Fields.FieldOf.{CompressibleName, UncompressedName, CharacterString, CountedOctets, CharacterStrings, OtherOctets, Byte, Number}
use Rattle.dns_record.specs.Formats.{rdata_format, has_rdata_format}
use Rattle.dns_record.specs.Strings.{strings_in, same_strings, same_strings_alike}
use Rattle.dns_rdata.specs.Alike.{Content, same_name, same_content, type_writes, content_writes}
use Rattle.dns_boxed.specs.Boxed.{is_readable, spelled_fields, spelled_content}
use Rattle.dns_boxed.specs.FieldShapes.{spelled_shaped, SameWidth, SameWidths, widths_of_format}

-- ---- an equivalence

names_equiv : IsEquivalence same_name
names_equiv = eq_by_cmp_equiv (on_total key keys_total)

octets_equiv : IsEquivalence (pointwise nat_eq)
octets_equiv = lists_equiv nat_eq_equiv

string_equiv : IsEquivalence same_charstr
string_equiv = on_equiv str_to_ascii_lowercase octets_equiv

strings_equiv : IsEquivalence (λ (a b : List ℕ). same_strings (strings_in a) (strings_in b))
strings_equiv = on_equiv strings_in (lists_equiv string_equiv)

module _ {N : Type 0} (names : N → N → Bool) (uncompressed : List (List ℕ) → List (List ℕ) → Bool) (en : IsEquivalence names) (eb : IsEquivalence uncompressed) where
  itself : (x : FieldOf N) → field_eq names uncompressed x x ≡ true
  itself (CompressibleName a) = en.refl a
  itself (UncompressedName a) = eb.refl a
  itself (CharacterString a) = string_equiv.refl a
  itself (CountedOctets a) = octets_equiv.refl a
  itself (CharacterStrings a) = strings_equiv.refl a
  itself (OtherOctets a) = octets_equiv.refl a
  itself (Byte a) = nat_eq_equiv.refl a
  itself (Number w a) = nat_eq_equiv.refl a

  either_way : (x y : FieldOf N) → field_eq names uncompressed x y ≡ field_eq names uncompressed y x
  either_way (CompressibleName a) (CompressibleName b) = en.symm a b
  either_way (UncompressedName a) (UncompressedName b) = eb.symm a b
  either_way (CharacterString a) (CharacterString b) = string_equiv.symm a b
  either_way (CountedOctets a) (CountedOctets b) = octets_equiv.symm a b
  either_way (CharacterStrings a) (CharacterStrings b) = strings_equiv.symm a b
  either_way (OtherOctets a) (OtherOctets b) = octets_equiv.symm a b
  either_way (Byte a) (Byte b) = nat_eq_equiv.symm a b
  either_way (Number v a) (Number w b) = nat_eq_equiv.symm a b
  either_way x y = refl

  in_place : (x y z : FieldOf N) → field_eq names uncompressed x y ≡ true → field_eq names uncompressed x z ≡ field_eq names uncompressed y z
  in_place (CompressibleName a) (CompressibleName b) (CompressibleName c) e = en.congr a b c e
  in_place (UncompressedName a) (UncompressedName b) (UncompressedName c) e = eb.congr a b c e
  in_place (CharacterString a) (CharacterString b) (CharacterString c) e = string_equiv.congr a b c e
  in_place (CountedOctets a) (CountedOctets b) (CountedOctets c) e = octets_equiv.congr a b c e
  in_place (CharacterStrings a) (CharacterStrings b) (CharacterStrings c) e = strings_equiv.congr a b c e
  in_place (OtherOctets a) (OtherOctets b) (OtherOctets c) e = octets_equiv.congr a b c e
  in_place (Byte a) (Byte b) (Byte c) e = nat_eq_equiv.congr a b c e
  in_place (Number u a) (Number v b) (Number w c) e = nat_eq_equiv.congr a b c e
  in_place (CompressibleName a) (CompressibleName b) z e = refl
  in_place (UncompressedName a) (UncompressedName b) z e = refl
  in_place (CharacterString a) (CharacterString b) z e = refl
  in_place (CountedOctets a) (CountedOctets b) z e = refl
  in_place (CharacterStrings a) (CharacterStrings b) z e = refl
  in_place (OtherOctets a) (OtherOctets b) z e = refl
  in_place (Byte a) (Byte b) z e = refl
  in_place (Number u a) (Number v b) z e = refl
  in_place x y z e = absurd cc

  field_equiv : IsEquivalence (field_eq names uncompressed)
  field_equiv = record { refl = itself; symm = either_way; congr = in_place }

pub content_equiv : IsEquivalence (same_content same_name)
content_equiv =
    and_equiv (on_equiv (λ (c : Content (List (List ℕ))). c.known) bool_eq_equiv)
    (and_equiv (on_equiv (λ (c : Content (List (List ℕ))). c.rtype) nat_eq_equiv)
    (on_equiv (λ (c : Content (List (List ℕ))). c.fields) (lists_equiv (field_equiv same_name same_name names_equiv names_equiv))))

-- ---- fed alike

field_alike : (f g : Field) → SameWidth f g → field_eq same_name same_name f g ≡ true → field_writes name_writes name_writes f ≡ field_writes name_writes name_writes g
field_alike (CompressibleName a) (CompressibleName b) same e = same_names_alike a b e
field_alike (UncompressedName a) (UncompressedName b) same e = same_names_alike a b e
field_alike (CharacterString a) (CharacterString b) same e = same_charstrs_alike a b e
field_alike (CountedOctets a) (CountedOctets b) same e = ap (slice u8) ((bytes_decides a b).0 e)
field_alike (CharacterStrings a) (CharacterStrings b) same e = same_strings_alike (strings_in a) (strings_in b) e
field_alike (OtherOctets a) (OtherOctets b) same e = ap (slice u8) ((bytes_decides a b).0 e)
field_alike (Byte a) (Byte b) same e = ap u8 (eqb-true a b e)
field_alike (Number v a) (Number w b) same e =
    ap (λ (u : Width). field_writes {N = List (List ℕ)} name_writes name_writes (Number u a)) same
    ∙ ap (λ (n : ℕ). field_writes {N = List (List ℕ)} name_writes name_writes (Number w n)) (eqb-true a b e)
field_alike f g same e = absurd cc

fields_alike : (fs gs : List Field) → SameWidths fs gs → fields_eq same_name same_name fs gs ≡ true → fields_writes name_writes name_writes fs ≡ fields_writes name_writes name_writes gs
fields_alike [] [] same e = refl
fields_alike (f ∷ fs) (g ∷ gs) same e =
    ap (λ (l : List (List ℕ)). l ++ fields_writes name_writes name_writes fs) (field_alike f g same.0 (first_so _ _ e))
    ∙ ap (λ (l : List (List ℕ)). field_writes name_writes name_writes g ++ l) (fields_alike fs gs same.1 (second_so _ _ e))
fields_alike fs gs same e = absurd cc

-- octets that are read as the same are fed alike
pub spelled_alike : (rtype other : ℕ) (bytes others : List ℕ) → is_readable rtype bytes ≡ true → is_readable other others ≡ true
    → same_content same_name (spelled_content rtype bytes) (spelled_content other others) ≡ true → content_writes name_writes (spelled_content rtype bytes) ≡ content_writes name_writes (spelled_content other others)
spelled_alike rtype other bytes others ir io e =
    let later = second_so (beq (has_rdata_format rtype) (has_rdata_format other)) (nat_eq rtype other && fields_eq same_name same_name (spelled_fields rtype bytes) (spelled_fields other others)) e in
    let is : rtype ≡ other = eqb-true rtype other (first_so (nat_eq rtype other) (fields_eq same_name same_name (spelled_fields rtype bytes) (spelled_fields other others)) later) in
    subst (λ (n : ℕ). is_readable n others ≡ true → fields_eq same_name same_name (spelled_fields rtype bytes) (spelled_fields n others) ≡ true → content_writes name_writes (spelled_content rtype bytes) ≡ content_writes name_writes (spelled_content n others)) is
    (λ there same. ap (λ (l : List (List ℕ)). type_writes (spelled_content rtype bytes) ++ l)
    (fields_alike (spelled_fields rtype bytes) (spelled_fields rtype others)
    (widths_of_format (rdata_format rtype) (spelled_fields rtype bytes) (spelled_fields rtype others) (spelled_shaped rtype bytes ir) (spelled_shaped rtype others there)) same))
    io (second_so (nat_eq rtype other) (fields_eq same_name same_name (spelled_fields rtype bytes) (spelled_fields other others)) later)
