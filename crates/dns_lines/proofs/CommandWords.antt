-- The words of the commands.
use Rattle.std.proofs.Common.{◌≡◌, ℕ, Bool, true, false, cond, List, [], ◌∷◌, codes, bytes_eq, Option, Some, None, Result, Ok, Err, refl, ap, subst, ◌∙◌}
use Rattle.std.specs.Prelude.{◌↔◌}
use Rattle.std.specs.Cmp.Lexicographic.{bytes_decides}
use Rattle.std.specs.Option.{option_map}
use Rattle.std.specs.Result.{result_ok}
use Rattle.dns_name.specs.Text.{parsed_name}
use Rattle.dns_name.specs.declared.text_error.NameParseError.{NameParseError}
use Rattle.dns_lines.specs.Words.{command_named, command_of, records_of, zone_command}
use Rattle.dns_lines.specs.declared.command.LineCommand.{LineCommand}
use Rattle.dns_lines.specs.declared.command.LineCommand.TheVariants.{Normal, Digest, Signed, Records}

-- a word and the text of an apex
abbrev pub NamesZone : List (List ℕ) → List (List ℕ) → Type 0
NamesZone words apex = (text : List ℕ) × (words ≡ codes "records" ∷ text ∷ []) × (parsed_name text ≡ Ok apex)

-- the words of a command
abbrev pub WordsOf : List (List ℕ) → Option LineCommand → Type 0
WordsOf words None = Unit {0}
WordsOf words (Some Normal) = words ≡ codes "normal" ∷ []
WordsOf words (Some Digest) = words ≡ codes "digest" ∷ []
WordsOf words (Some Signed) = words ≡ codes "signed" ∷ []
WordsOf words (Some (Records None)) = words ≡ codes "records" ∷ []
WordsOf words (Some (Records (Some apex))) = NamesZone words apex

word_is : (word w : List ℕ) → bytes_eq word w ≡ true → word ∷ [] ≡ w ∷ []
word_is word w e = ap (λ (l : List ℕ). l ∷ []) ((bytes_decides word w).0 e)

-- a command if a test is true, and else what other tests give
tested : (word w : List ℕ) (command : LineCommand) (later : Option LineCommand) (b : Bool) → bytes_eq word w ≡ b → (word ∷ [] ≡ w ∷ [] → WordsOf (word ∷ []) (Some command)) → WordsOf (word ∷ []) later
    → WordsOf (word ∷ []) (cond b (Some command) later)
tested word w command later true e own others = own (word_is word w e)
tested word w command later false e own others = others

one_word : (word : List ℕ) → WordsOf (word ∷ []) (command_named word)
one_word word =
    tested word (codes "normal") Normal _ (bytes_eq word (codes "normal")) refl (λ is. is)
    (tested word (codes "digest") Digest _ (bytes_eq word (codes "digest")) refl (λ is. is)
    (tested word (codes "signed") Signed _ (bytes_eq word (codes "signed")) refl (λ is. is)
    (tested word (codes "records") (Records None) None (bytes_eq word (codes "records")) refl (λ is. is) tt)))

named : (word text : List ℕ) (r : Result (List (List ℕ)) NameParseError) → parsed_name text ≡ r → word ≡ codes "records" → WordsOf (word ∷ text ∷ []) (option_map records_of (result_ok r))
named word text (Ok apex) e is = (text, ap (λ (l : List ℕ). l ∷ text ∷ []) is, e)
named word text (Err error) e is = tt

two_words : (word text : List ℕ) → WordsOf (word ∷ text ∷ []) (zone_command word text)
two_words word text = by (bytes_eq word (codes "records")) refl where
  by : (b : Bool) → bytes_eq word (codes "records") ≡ b → WordsOf (word ∷ text ∷ []) (cond b (option_map records_of (result_ok (parsed_name text))) None)
  by true e = named word text (parsed_name text) refl ((bytes_decides word (codes "records")).0 e)
  by false e = tt

pub words_are : (words : List (List ℕ)) → WordsOf words (command_of words)
words_are [] = tt
words_are (word ∷ []) = one_word word
words_are (word ∷ text ∷ []) = two_words word text
words_are (word ∷ text ∷ other ∷ more) = tt

-- the words of a command are no others
from : (words : List (List ℕ)) (command : LineCommand) → command_of words ≡ Some command → WordsOf words (Some command)
from words command e = subst (WordsOf words) e (words_are words)

pub normal_words : (words : List (List ℕ)) → (command_of words ≡ Some Normal) ↔ (words ≡ codes "normal" ∷ [])
normal_words words = (from words Normal, λ is. ap command_of is)

pub digest_words : (words : List (List ℕ)) → (command_of words ≡ Some Digest) ↔ (words ≡ codes "digest" ∷ [])
digest_words words = (from words Digest, λ is. ap command_of is)

pub signed_words : (words : List (List ℕ)) → (command_of words ≡ Some Signed) ↔ (words ≡ codes "signed" ∷ [])
signed_words words = (from words Signed, λ is. ap command_of is)

pub records_words : (words : List (List ℕ)) → (command_of words ≡ Some (Records None)) ↔ (words ≡ codes "records" ∷ [])
records_words words = (from words (Records None), λ is. ap command_of is)

pub zone_words : (words apex : List (List ℕ)) → (command_of words ≡ Some (Records (Some apex))) ↔ NamesZone words apex
zone_words words apex = (from words (Records (Some apex)), λ (text, is, parsed). ap command_of is ∙ ap (λ (r : Result (List (List ℕ)) NameParseError). option_map records_of (result_ok r)) parsed)
