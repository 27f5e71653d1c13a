-- What several writes do together.
use Rattle.std.proofs.Common.{◌≡◌, ℕ, ◌+◌, ◌-◌, length, length-take, length-drop, length-append, arith, Result, Err, ◌≤◌, take_all, List, ◌++◌, Bool, take, drop, Some, None, IfSome, Ok, sym, subst, refl}
use Rattle.std.specs.Prelude.{IsSome}
use Rattle.std.specs.declared.option.Option.{Option}
use Rattle.std.proofs.KnownBytes.{Appends-trans, Consumes-trans}
use Rattle.std.proofs.Math.Seq.{take-add, take-append-add}
use Rattle.std.proofs.lemmas.List.{take-append-le}
use Rattle.dns_text.specs.Outside.{WritesPrefix, Puts}
use Rattle.dns_text.specs.Taken.{TakesAtMost}
use Rattle.std.specs.Io.KnownBytes.{Appends, Consumes}
use Rattle.dns_text.specs.Outside.{WriteFlag}
use Rattle.dns_text.specs.declared.io.traits.Failed.{Failed}

-- the rest of a text from i on, as a slice gives it
rest_of : (text : List ℕ) (i : ℕ) → take (length text - i) (drop i text) ≡ drop i text
rest_of text i = take_all (length text - i) (drop i text) (omega (arith, length-drop i text))

-- a write after the first i octets leaves the first i + n
pub appends_next : (a b c : Option (List ℕ)) (text : List ℕ) (i n : ℕ) → Appends a b (take i text)
    → Appends b c (take n (take (length text - i) (drop i text))) → Appends a c (take (i + n) text)
appends_next a b c text i n p q =
    let q' : Appends b c (take n (drop i text)) = subst (λ (l : List ℕ). Appends b c (take n l)) (rest_of text i) q in
    subst (Appends a c) (sym (take-add i n text)) (Appends-trans a b c _ _ p q')

-- a piece that was taken after others
pub taken_more : (a b c : Option (List ℕ)) (text buffer : List ℕ) (n limit : ℕ) → Consumes a b text → Consumes b c (take n buffer) → length text ≤ limit → length buffer ≡ 4096
    → TakesAtMost a c (limit + 4096)
taken_more a b c text buffer n limit p q within room =
    (text ++ take n buffer, Consumes-trans a b c text (take n buffer) p q, omega (arith, length-append text (take n buffer), length-take n buffer))

-- a flag that was reported is still reported after a write
pub flag_known : (a b c : Option Bool) (n : ℕ) → IfSome a (λ _. IsSome b) → WriteFlag b c (let r : Result ℕ Failed = Ok n in r) → IfSome a (λ _. IsSome c)
flag_known None b c n p q = tt
flag_known (Some x) None c n p q = cc
flag_known (Some x) (Some y) c n p q = rw q refl

-- a prefix of a text is one of a longer text
pub prefix_longer : (a b : Option (List ℕ)) (x y : List ℕ) → WritesPrefix a b x → WritesPrefix a b (x ++ y)
prefix_longer a b x y h =
    (h.0, omega (arith, h.1, length-append x y), subst (Appends a b) (sym (take-append-le h.0 x y h.1)) h.2)

-- a prefix after a text that was written
pub prefix_after : (a b c : Option (List ℕ)) (x y : List ℕ) → Appends a b x → WritesPrefix b c y → WritesPrefix a c (x ++ y)
prefix_after a b c x y h j =
    (length x + j.0, omega (arith, j.1, length-append x y), subst (Appends a c) (sym (take-append-add x y j.0)) (Appends-trans a b c x (take j.0 y) h j.2))

-- a text after a text that was written
pub puts_after : (a b c : Option (List ℕ)) (x y : List ℕ) (r : Result (Unit {0}) Failed) → Appends a b x → Puts b c y r → Puts a c (x ++ y) r
puts_after a b c x y (Ok u) h j = Appends-trans a b c x y h j
puts_after a b c x y (Err e) h j = prefix_after a b c x y h j
