-- Octets that represent themselves.
use Rattle.std.proofs.Common.{◌≡◌, ℕ, ◌/◌, ◌%◌, ◌<◌, List, ◌∷◌, ◌++◌, leb, ◌≤◌, Bool, true, false, refl, sym, ap, ◌∙◌, arith}
use Rattle.std.specs.Prelude.{◌==◌, ◌||◌, not, codes, encode_utf8}
use Rattle.std.specs.List.{list_any}
use Rattle.std.specs.Char.{is_ascii_alphanumeric, is_ascii_graphic}
use Rattle.std.specs.Fmt.{decimal}
use Rattle.std.proofs.lemmas.Bool.{or_left, agree_below_at, leb-true, and_parts}
use Rattle.std.proofs.lemmas.Fmt.{decimal_digit}
use Rattle.std.proofs.lemmas.Str.{encode_ascii}
use Rattle.dns_label.specs.Text.{is_unescaped, shown_octet}

pub plain_letter : (octet : ℕ) → is_ascii_alphanumeric octet ≡ true → is_unescaped octet ≡ true
unfolding is_unescaped
plain_letter octet is = or_left (is_ascii_alphanumeric octet) _ is

pub plain_mark : (octet : ℕ) (test : Bool) → is_ascii_alphanumeric octet ≡ false → test ≡ list_any (λ mark. mark == octet) (codes "!#$%&'*+,-^_`{|}~") → test ≡ is_unescaped octet
unfolding is_unescaped
plain_mark octet test is_not is = is ∙ sym (ap (λ (b : Bool). b || list_any (λ mark. mark == octet) (codes "!#$%&'*+,-^_`{|}~")) is_not)

-- all of them are graphic ASCII
pub plain_graphic : (octet : ℕ) → octet < 256 → is_unescaped octet ≡ true → is_ascii_graphic octet ≡ true
unfolding is_unescaped
plain_graphic octet small plain =
    let t = agree_below_at (λ (o : ℕ). not (is_unescaped o) || is_ascii_graphic o) (λ (o : ℕ). true) 256 octet refl small in
    rw plain at t

graphic_small : (octet : ℕ) → is_ascii_graphic octet ≡ true → octet < 128
graphic_small octet graphic =
    let high : octet ≤ 126 = leb-true octet 126 (and_parts (leb 33 octet) (leb octet 126) graphic).1 in omega arith

-- what is written of an octet is what is printed of it
pub written_itself : (octet char : ℕ) → char ≡ octet → octet < 256 → is_unescaped octet ≡ true → encode_utf8 char ≡ shown_octet octet
unfolding shown_octet
written_itself octet char same small plain =
    ap encode_utf8 same ∙ encode_ascii octet (graphic_small octet (plain_graphic octet small plain)) ∙ sym (rw plain refl)

pub written_marked : (octet char : ℕ) → char ≡ octet → is_unescaped octet ≡ false → is_ascii_graphic octet ≡ true → encode_utf8 92 ++ encode_utf8 char ≡ shown_octet octet
unfolding shown_octet
written_marked octet char same marked graphic =
    ap (λ (l : List ℕ). l ++ encode_utf8 char) (encode_ascii 92 (omega arith)) ∙ ap (λ (l : List ℕ). 92 ∷ l) (ap encode_utf8 same ∙ encode_ascii octet (graphic_small octet graphic)) ∙ sym (rw (marked, graphic) refl)

pub written_digits : (octet : ℕ) → octet < 256 → is_unescaped octet ≡ false → is_ascii_graphic octet ≡ false → 92 ∷ (decimal (octet / 100) ++ (decimal (octet / 10 % 10) ++ decimal (octet % 10))) ≡ shown_octet octet
unfolding shown_octet
written_digits octet small marked dark =
    rw (decimal_digit (octet / 100) (omega arith), decimal_digit (octet / 10 % 10) (omega arith), decimal_digit (octet % 10) (omega arith), marked, dark) refl
