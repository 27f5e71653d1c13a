-- Words that are salts.
use Rattle.std.proofs.Common.{◌≡◌, ℕ, ◌+◌, ◌*◌, ◌≤◌, leb, List, [], ◌∷◌, length, Bool, true, false, cond, Option, Some, None, refl, sym, ap, ◌∙◌, arith}
use Rattle.std.specs.Prelude.{◌↔◌, ◌&&◌, codes}
use Rattle.std.specs.Str.{bytes_eq}
use Rattle.std.specs.Cmp.Lexicographic.{bytes_decides}
use Rattle.std.proofs.lemmas.Bool.{and_parts, le-leb, leb-true}
use Rattle.dns_text.specs.Hexadecimal.{digit_value, pair_before, spelled}
use Rattle.dns_denial.specs.Words.{IsSalt, salt_named}

-- a text has two digits for each octet that it spells
pub spelled_long : (s m : List ℕ) → spelled s ≡ Some m → length s ≡ 2 * length m
unfolding spelled
spelled_long [] m e = let none : [] ≡ m = cc in omega (arith, ap length none)
spelled_long (c ∷ []) m e = absurd cc
spelled_long (c ∷ d ∷ rest) m e = by (digit_value c) (digit_value d) (spelled rest) (λ octets r. spelled_long rest octets r) refl e where
  by : (high low : Option ℕ) (o : Option (List ℕ)) → ((octets : List ℕ) → spelled rest ≡ Some octets → length rest ≡ 2 * length octets) → spelled rest ≡ o → pair_before high low o ≡ Some m → length (c ∷ d ∷ rest) ≡ 2 * length m
  by (Some h) (Some l) (Some octets) long is e =
      let all : (h * 16 + l) ∷ octets ≡ m = cc in
      omega (arith, long octets is, ap length all)
  by (Some h) (Some l) None long is e = absurd cc
  by (Some h) None o long is e = absurd cc
  by None low o long is e = absurd cc

-- the text `-` spells nothing
no_pairs : spelled (codes "-") ≡ None
unfolding spelled
no_pairs = refl

pub salt_words : (word salt : List ℕ) → (salt_named word ≡ Some salt) ↔ IsSalt word salt
salt_words word salt = (from salt, to salt) where
  pairs : (salt : List ℕ) → spelled word ≡ Some salt → 2 ≤ length word → length word ≤ 510 → IsSalt word salt
  pairs [] is some few = absurd (omega (arith, spelled_long word [] is, some))
  pairs (octet ∷ salt) is some few = (is, omega (arith, spelled_long word (octet ∷ salt) is, few))

  none : (salt : List ℕ) → word ≡ codes "-" → [] ≡ salt → IsSalt word salt
  none [] is e = is
  none (octet ∷ salt) is e = absurd cc

  from : (salt : List ℕ) → salt_named word ≡ Some salt → IsSalt word salt
  from salt e = by (bytes_eq word (codes "-")) (leb 2 (length word) && leb (length word) 510) refl refl e where
    by : (dash sized : Bool) → bytes_eq word (codes "-") ≡ dash → (leb 2 (length word) && leb (length word) 510) ≡ sized
        → cond {A = Option (List ℕ)} dash (Some []) (cond {A = Option (List ℕ)} sized (spelled word) None) ≡ Some salt → IsSalt word salt
    by true sized is of e = none salt ((bytes_decides word (codes "-")).0 is) cc
    by false true is of e =
        let parts = and_parts (leb 2 (length word)) (leb (length word) 510) of in
        pairs salt e (leb-true 2 (length word) parts.0) (leb-true (length word) 510 parts.1)
    by false false is of e = absurd cc

  to : (salt : List ℕ) → IsSalt word salt → salt_named word ≡ Some salt
  to [] is = ap salt_named is
  to (octet ∷ salt) (is, few) = by (bytes_eq word (codes "-")) refl where
    long : length word ≡ 2 * length (octet ∷ salt)
    long = spelled_long word (octet ∷ salt) is

    by : (dash : Bool) → bytes_eq word (codes "-") ≡ dash → salt_named word ≡ Some (octet ∷ salt)
    by true same = let clash = sym is ∙ ap spelled ((bytes_decides word (codes "-")).0 same) ∙ no_pairs in absurd cc
    by false other = rw (other, le-leb 2 (length word) (omega (arith, long)), le-leb (length word) 510 (omega (arith, long, few))) is
