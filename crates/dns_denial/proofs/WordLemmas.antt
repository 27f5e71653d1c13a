-- The words of the commands.
use Rattle.std.proofs.Common.{◌≡◌, ℕ, ◌≤◌, List, [], ◌∷◌, length, Bool, true, false, cond, Option, Some, None, Result, Ok, Err, inl, inr, refl, ap, ◌∙◌, arith}
use Rattle.std.specs.Prelude.{◌↔◌, ◌⊎◌, codes, decimal, slice_get}
use Rattle.std.specs.Option.{option_map}
use Rattle.std.specs.Result.{result_ok}
use Rattle.std.specs.Str.{bytes_eq}
use Rattle.std.specs.Cmp.Lexicographic.{bytes_decides}
use Rattle.dns_wire.specs.Steps.{◌>>=◌}
use Rattle.dns_text.specs.Words.{number_within}
use Rattle.dns_text.proofs.WordLemmas.{number_again, number_is}
use Rattle.dns_name.specs.Text.{parsed_name}
use Rattle.dns_name.specs.declared.text_error.NameParseError.{NameParseError}
use Rattle.dns_denial.specs.Words.{IsSalt, command_named, command_of, hash_named, pair_named, salt_named}
use Rattle.dns_denial.specs.declared.words.DenialCommand.{DenialCommand}
use Rattle.dns_denial.specs.declared.words.DenialCommand.TheVariants.{Hash, Covers, Signed, KeyTags}
use Rattle.dns_denial.proofs.SaltLemmas.{salt_words}

-- ---- the words by their number

pub one_is : (words : List (List ℕ)) (word : List ℕ) → length words ≡ 1 → slice_get words 0 ≡ Some word → command_of words ≡ command_named word
one_is [] word long is = absurd (omega (arith, long))
one_is (w ∷ []) word long is = let first : w ≡ word = cc in ap command_named first
one_is (w ∷ x ∷ more) word long is = absurd (omega (arith, long))

pub two_is : (words : List (List ℕ)) (word name : List ℕ) → length words ≡ 2 → slice_get words 0 ≡ Some word → slice_get words 1 ≡ Some name → command_of words ≡ pair_named word name
two_is [] word name long a b = absurd (omega (arith, long))
two_is (w ∷ []) word name long a b = absurd (omega (arith, long))
two_is (w ∷ n ∷ []) word name long a b =
    let first : w ≡ word = cc in
    let second : n ≡ name = cc in
    λ i. pair_named (first i) (second i)
two_is (w ∷ n ∷ x ∷ more) word name long a b = absurd (omega (arith, long))

pub four_is : (words : List (List ℕ)) (word name salt count : List ℕ) → length words ≡ 4 → slice_get words 0 ≡ Some word → slice_get words 1 ≡ Some name → slice_get words 2 ≡ Some salt
    → slice_get words 3 ≡ Some count → command_of words ≡ cond {A = Option DenialCommand} (bytes_eq word (codes "hash")) (hash_named name salt count) None
four_is [] word name salt count long a b c d = absurd (omega (arith, long))
four_is (w ∷ []) word name salt count long a b c d = absurd (omega (arith, long))
four_is (w ∷ n ∷ []) word name salt count long a b c d = absurd (omega (arith, long))
four_is (w ∷ n ∷ s ∷ []) word name salt count long a b c d = absurd (omega (arith, long))
four_is (w ∷ n ∷ s ∷ k ∷ []) word name salt count long a b c d =
    let first : w ≡ word = cc in
    let second : n ≡ name = cc in
    let third : s ≡ salt = cc in
    let fourth : k ≡ count = cc in
    λ i. cond {A = Option DenialCommand} (bytes_eq (first i) (codes "hash")) (hash_named (second i) (third i) (fourth i)) None
four_is (w ∷ n ∷ s ∷ k ∷ x ∷ more) word name salt count long a b c d = absurd (omega (arith, long))

pub no_command : (words : List (List ℕ)) → (length words ≡ 1 → ⊥) → (length words ≡ 2 → ⊥) → (length words ≡ 4 → ⊥) → command_of words ≡ None
no_command [] one two four = refl
no_command (w ∷ []) one two four = absurd (one refl)
no_command (w ∷ n ∷ []) one two four = absurd (two refl)
no_command (w ∷ n ∷ s ∷ []) one two four = refl
no_command (w ∷ n ∷ s ∷ k ∷ []) one two four = absurd (four refl)
no_command (w ∷ n ∷ s ∷ k ∷ x ∷ more) one two four = refl

-- ---- which two words are a command

-- what a word and the word after it are that are a command
abbrev IsPair : List ℕ → List ℕ → DenialCommand → Type 0
IsPair word next command =
    ((name : List (List ℕ)) × (word ≡ codes "covers") × (parsed_name next ≡ Ok name) × (Covers name ≡ command))
    ⊎ ((number : ℕ) × (word ≡ codes "signed") × (number_within 65535 next ≡ Some number) × (Signed number ≡ command))

pair_is : (word next : List ℕ) (command : DenialCommand) → pair_named word next ≡ Some command → IsPair word next command
pair_is word next command e = by (bytes_eq word (codes "covers")) (parsed_name next) refl refl e where
  signed : (b : Bool) (o : Option ℕ) → bytes_eq word (codes "signed") ≡ b → number_within 65535 next ≡ o → cond {A = Option DenialCommand} b (option_map Signed o) None ≡ Some command → IsPair word next command
  signed true (Some number) is within e = inr (number, (bytes_decides word (codes "signed")).0 is, within, cc)
  signed true None is within e = absurd cc
  signed false o is within e = absurd cc

  by : (b : Bool) (r : Result (List (List ℕ)) NameParseError) → bytes_eq word (codes "covers") ≡ b → parsed_name next ≡ r
      → cond {A = Option DenialCommand} b (option_map Covers (result_ok r)) (cond {A = Option DenialCommand} (bytes_eq word (codes "signed")) (option_map Signed (number_within 65535 next)) None) ≡ Some command
      → IsPair word next command
  by true (Ok name) is parsed e = inl (name, (bytes_decides word (codes "covers")).0 is, parsed, cc)
  by true (Err error) is parsed e = absurd cc
  by false r is parsed e = signed (bytes_eq word (codes "signed")) (number_within 65535 next) refl refl e

-- it is one of the two commands
pair_other : (word next : List ℕ) (command : DenialCommand) → ((name : List (List ℕ)) → Covers name ≡ command → ⊥) → ((number : ℕ) → Signed number ≡ command → ⊥) → pair_named word next ≡ Some command → ⊥
pair_other word next command covers signed e = elim (pair_is word next command e) [
  | inl (name, is, parsed, same) ↦ covers name same
  | inr (number, is, within, same) ↦ signed number same
]

-- ---- which words are `hash`

-- what is known of the words after `hash` that are a command
record IsHash (name salt count : List ℕ) (command : DenialCommand) : Type 0 where
  labels : List (List ℕ)
  octets : List ℕ
  number : ℕ
  parsed : parsed_name name ≡ Ok labels
  salted : salt_named salt ≡ Some octets
  counted : number_within 65535 count ≡ Some number
  command_is : Hash labels octets number ≡ command

hash_is : (name salt count : List ℕ) (command : DenialCommand) → hash_named name salt count ≡ Some command → IsHash name salt count command
hash_is name salt count command e = by (parsed_name name) refl e where
  numbered : (labels : List (List ℕ)) (octets : List ℕ) → parsed_name name ≡ Ok labels → salt_named salt ≡ Some octets → (o : Option ℕ) → number_within 65535 count ≡ o
      → (o >>= (λ n. Some (Hash labels octets n))) ≡ Some command → IsHash name salt count command
  numbered labels octets parsed salted (Some n) counted e =
      record { labels = labels; octets = octets; number = n; parsed = parsed; salted = salted; counted = counted; command_is = cc }
  numbered labels octets parsed salted None counted e = absurd cc

  salt_of : (labels : List (List ℕ)) → parsed_name name ≡ Ok labels → (o : Option (List ℕ)) → salt_named salt ≡ o
      → (o >>= (λ octets. number_within 65535 count >>= (λ n. Some (Hash labels octets n)))) ≡ Some command → IsHash name salt count command
  salt_of labels parsed (Some octets) salted e = numbered labels octets parsed salted (number_within 65535 count) refl e
  salt_of labels parsed None salted e = absurd cc

  by : (r : Result (List (List ℕ)) NameParseError) → parsed_name name ≡ r
      → (result_ok r >>= (λ labels. salt_named salt >>= (λ octets. number_within 65535 count >>= (λ n. Some (Hash labels octets n))))) ≡ Some command → IsHash name salt count command
  by (Ok labels) parsed e = salt_of labels parsed (salt_named salt) refl e
  by (Err error) parsed e = absurd cc

pub hash_again : (name salt count : List ℕ) (labels : List (List ℕ)) (octets : List ℕ) (number : ℕ) → parsed_name name ≡ Ok labels → salt_named salt ≡ Some octets → number_within 65535 count ≡ Some number
    → hash_named name salt count ≡ Some (Hash labels octets number)
hash_again name salt count labels octets number parsed salted counted = rw (parsed, salted, counted) refl

-- what the words `hash NAME SALT N` are
abbrev HashWords : List (List ℕ) → List (List ℕ) → List ℕ → ℕ → Type 0
HashWords words name salt count =
    (text word : List ℕ) × (words ≡ codes "hash" ∷ text ∷ word ∷ decimal count ∷ []) × (parsed_name text ≡ Ok name) × IsSalt word salt × (count ≤ 65535)

named_no_hash : (word : List ℕ) (name : List (List ℕ)) (salt : List ℕ) (count : ℕ) → command_named word ≡ Some (Hash name salt count) → ⊥
named_no_hash word name salt count = by (bytes_eq word (codes "keytags")) where
  by : (b : Bool) → cond {A = Option DenialCommand} b (Some KeyTags) None ≡ Some (Hash name salt count) → ⊥
  by true e = absurd cc
  by false e = absurd cc

pub hash_words : (words name : List (List ℕ)) (salt : List ℕ) (count : ℕ) → (command_of words ≡ Some (Hash name salt count)) ↔ HashWords words name salt count
hash_words words name salt count = (from words, to) where
  parts : (text word number : List ℕ) → IsHash text word number (Hash name salt count) → (first : List ℕ) → first ≡ codes "hash" → HashWords (first ∷ text ∷ word ∷ number ∷ []) name salt count
  parts text word number h first is =
      let labels : h.labels ≡ name = let e = h.command_is in cc in
      let octets : h.octets ≡ salt = let e = h.command_is in cc in
      let same : h.number ≡ count = let e = h.command_is in cc in
      let of = number_is 65535 number h.number h.counted in (
        text,
        word,
        (λ i. is i ∷ text ∷ word ∷ (of.1 ∙ ap decimal same) i ∷ []),
        h.parsed ∙ ap Ok labels,
        (salt_words word salt).0 (h.salted ∙ ap Some octets),
        omega (arith, of.0, same),
      )

  from : (words : List (List ℕ)) → command_of words ≡ Some (Hash name salt count) → HashWords words name salt count
  from [] e = absurd cc
  from (word ∷ []) e = absurd (named_no_hash word name salt count e)
  from (word ∷ a ∷ []) e = absurd (pair_other word a (Hash name salt count) (λ other is. cc) (λ other is. cc) e)
  from (word ∷ a ∷ b ∷ []) e = absurd cc
  from (word ∷ a ∷ b ∷ c ∷ []) e = by (bytes_eq word (codes "hash")) refl e where
    by : (t : Bool) → bytes_eq word (codes "hash") ≡ t → cond {A = Option DenialCommand} t (hash_named a b c) None ≡ Some (Hash name salt count) → HashWords (word ∷ a ∷ b ∷ c ∷ []) name salt count
    by true is e = parts a b c (hash_is a b c (Hash name salt count) e) word ((bytes_decides word (codes "hash")).0 is)
    by false is e = absurd cc
  from (word ∷ a ∷ b ∷ c ∷ d ∷ more) e = absurd cc

  to : HashWords words name salt count → command_of words ≡ Some (Hash name salt count)
  to (text, word, is, parsed, salted, few) =
      ap command_of is ∙ hash_again text word (decimal count) name salt count parsed ((salt_words word salt).1 salted) (number_again 65535 (decimal count) count (omega arith) few refl)

-- ---- which words are `keytags`

pub key_tags_words : (words : List (List ℕ)) → (command_of words ≡ Some KeyTags) ↔ (words ≡ codes "keytags" ∷ [])
key_tags_words words = (from words, λ is. ap command_of is) where
  one : (word : List ℕ) → command_named word ≡ Some KeyTags → word ∷ [] ≡ codes "keytags" ∷ []
  one word e = by (bytes_eq word (codes "keytags")) refl e where
    by : (t : Bool) → bytes_eq word (codes "keytags") ≡ t → cond {A = Option DenialCommand} t (Some KeyTags) None ≡ Some KeyTags → word ∷ [] ≡ codes "keytags" ∷ []
    by true is e = ap (λ (w : List ℕ). w ∷ []) ((bytes_decides word (codes "keytags")).0 is)
    by false is e = absurd cc

  four : (word a b c : List ℕ) (t : Bool) → cond {A = Option DenialCommand} t (hash_named a b c) None ≡ Some KeyTags → ⊥
  four word a b c true e = let is = (hash_is a b c KeyTags e).command_is in absurd cc
  four word a b c false e = absurd cc

  from : (words : List (List ℕ)) → command_of words ≡ Some KeyTags → words ≡ codes "keytags" ∷ []
  from [] e = absurd cc
  from (word ∷ []) e = one word e
  from (word ∷ a ∷ []) e = absurd (pair_other word a KeyTags (λ other is. cc) (λ other is. cc) e)
  from (word ∷ a ∷ b ∷ []) e = absurd cc
  from (word ∷ a ∷ b ∷ c ∷ []) e = absurd (four word a b c (bytes_eq word (codes "hash")) e)
  from (word ∷ a ∷ b ∷ c ∷ d ∷ more) e = absurd cc

pub covers_words : (words name : List (List ℕ)) → (command_of words ≡ Some (Covers name)) ↔ ((text : List ℕ) × (words ≡ codes "covers" ∷ text ∷ []) × (parsed_name text ≡ Ok name))
covers_words words name = (from words, λ (text, is, parsed). ap command_of is ∙ ap (λ r. option_map Covers (result_ok r)) parsed) where
  one : (word : List ℕ) (t : Bool) → cond {A = Option DenialCommand} t (Some KeyTags) None ≡ Some (Covers name) → ⊥
  one word true e = absurd cc
  one word false e = absurd cc

  four : (a b c : List ℕ) (t : Bool) → cond {A = Option DenialCommand} t (hash_named a b c) None ≡ Some (Covers name) → ⊥
  four a b c true e = let is = (hash_is a b c (Covers name) e).command_is in absurd cc
  four a b c false e = absurd cc

  two : (word text : List ℕ) → pair_named word text ≡ Some (Covers name) → (found : List ℕ) × (word ∷ text ∷ [] ≡ codes "covers" ∷ found ∷ []) × (parsed_name found ≡ Ok name)
  two word text e = elim (pair_is word text (Covers name) e) [
    | inl (other, is, parsed, same) ↦ (text, ap (λ (w : List ℕ). w ∷ text ∷ []) is, parsed ∙ ap Ok (let name_is : other ≡ name = cc in name_is))
    | inr (number, is, within, same) ↦ absurd cc
  ]

  from : (words : List (List ℕ)) → command_of words ≡ Some (Covers name) → (text : List ℕ) × (words ≡ codes "covers" ∷ text ∷ []) × (parsed_name text ≡ Ok name)
  from [] e = absurd cc
  from (word ∷ []) e = absurd (one word (bytes_eq word (codes "keytags")) e)
  from (word ∷ a ∷ []) e = two word a e
  from (word ∷ a ∷ b ∷ []) e = absurd cc
  from (word ∷ a ∷ b ∷ c ∷ []) e = absurd (four a b c (bytes_eq word (codes "hash")) e)
  from (word ∷ a ∷ b ∷ c ∷ d ∷ more) e = absurd cc

-- ---- which words are `signed`

pub signed_words : (words : List (List ℕ)) (number : ℕ) → (command_of words ≡ Some (Signed number)) ↔ ((words ≡ codes "signed" ∷ decimal number ∷ []) × (number ≤ 65535))
signed_words words number = (from words, λ (is, few). ap command_of is ∙ ap (option_map Signed) (number_again 65535 (decimal number) number (omega arith) few refl)) where
  one : (word : List ℕ) (t : Bool) → cond {A = Option DenialCommand} t (Some KeyTags) None ≡ Some (Signed number) → ⊥
  one word true e = absurd cc
  one word false e = absurd cc

  four : (a b c : List ℕ) (t : Bool) → cond {A = Option DenialCommand} t (hash_named a b c) None ≡ Some (Signed number) → ⊥
  four a b c true e = let is = (hash_is a b c (Signed number) e).command_is in absurd cc
  four a b c false e = absurd cc

  two : (word next : List ℕ) → pair_named word next ≡ Some (Signed number) → (word ∷ next ∷ [] ≡ codes "signed" ∷ decimal number ∷ []) × (number ≤ 65535)
  two word next e = elim (pair_is word next (Signed number) e) [
    | inl (name, is, parsed, same) ↦ absurd cc
    | inr (other, is, within, same) ↦
        let one : other ≡ number = cc in
        let of = number_is 65535 next other within in
        (λ i. is i ∷ (of.1 ∙ ap decimal one) i ∷ [], omega (arith, of.0, one))
  ]

  from : (words : List (List ℕ)) → command_of words ≡ Some (Signed number) → (words ≡ codes "signed" ∷ decimal number ∷ []) × (number ≤ 65535)
  from [] e = absurd cc
  from (word ∷ []) e = absurd (one word (bytes_eq word (codes "keytags")) e)
  from (word ∷ a ∷ []) e = two word a e
  from (word ∷ a ∷ b ∷ []) e = absurd cc
  from (word ∷ a ∷ b ∷ c ∷ []) e = absurd (four a b c (bytes_eq word (codes "hash")) e)
  from (word ∷ a ∷ b ∷ c ∷ d ∷ more) e = absurd cc
