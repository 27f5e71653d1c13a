-- A name that ends with the contents.
use Rattle.std.proofs.Common.{◌≡◌, ℕ, Bool, true, false, cond, List, length, Option, Some, None, Ok, Err, refl, ap, ◌∙◌, arith}
use Rattle.std.specs.Prelude.{◌==◌, Result, IfOk, OnErr}
use Rattle.std.proofs.lemmas.Bool.Decides.{nat_tests}
use Rattle.dns_wire.specs.Pointers.{NameAt, name_at}
use Rattle.dns_wire.specs.Reading.{Gives, all_at, whole_in}
use Rattle.dns_wire.specs.declared.error.ParseError.{ParseError}
use Rattle.dns_wire.proofs.Following.{name_at_is, name_at_finds}

all_at_is : (contents : List ℕ) (read : Option (List (List ℕ) × ℕ)) (labels : List (List ℕ)) → all_at contents read ≡ Some labels → read ≡ Some (labels, length contents)
all_at_is contents None labels e = absurd cc
all_at_is contents (Some (found, end)) labels e = by (end == length contents) refl e where
  by : (b : Bool) → (end == length contents) ≡ b → cond b (Some found) None ≡ Some labels → ◌≡◌ {A = Option (List (List ℕ) × ℕ)} (Some (found, end)) (Some (labels, length contents))
  by false is h = absurd cc
  by true is h =
      let last : end ≡ length contents = grind (arith, nat_tests, is) in
      let same : found ≡ labels = cc in
      ap (λ (l : List (List ℕ)). Some (l, end)) same ∙ ap (λ (n : ℕ). Some (labels, n)) last

all_at_finds : (contents : List ℕ) (read : Option (List (List ℕ) × ℕ)) (labels : List (List ℕ)) → read ≡ Some (labels, length contents) → all_at contents read ≡ Some labels
all_at_finds contents read labels e =
    let ends : (length contents == length contents) ≡ true = grind (arith, nat_tests) in
    ap (all_at contents) e ∙ rw ends refl

-- what was read follows the pointers
pub whole_follows : {E : Type 0} (contents : List ℕ) (start : ℕ) (result : Result (List (List ℕ)) E) → Gives (λ v. v) result (all_at contents (name_at contents start)) → IfOk result (λ v. NameAt contents start v (length contents))
whole_follows contents start (Ok v) e = name_at_is contents start v (length contents) (all_at_is contents (name_at contents start) v e)
whole_follows contents start (Err x) e = tt

-- and if nothing was, no name does
pub none_follows : {E : Type 0} (contents : List ℕ) (start : ℕ) (result : Result (List (List ℕ)) E) → Gives (λ v. v) result (all_at contents (name_at contents start)) → OnErr result ((labels : List (List ℕ)) → ¬ NameAt contents start labels (length contents))
none_follows contents start (Ok v) e = tt
none_follows contents start (Err x) e = λ labels found. let some = all_at_finds contents (name_at contents start) labels (name_at_finds contents start labels (length contents) found) in absurd cc

-- what was read, if it ends with the contents
pub gives_whole : (contents : List ℕ) (read : Result (List (List ℕ) × ℕ) ParseError) (grammar : Option (List (List ℕ) × ℕ)) → Gives (λ x. (x.0, x.1)) read grammar → Gives (λ v. v) (whole_in contents read) (all_at contents grammar)
gives_whole contents (Err x) grammar e = ap (all_at contents) e
gives_whole contents (Ok (labels, end)) grammar e = rw e (by (end == length contents)) where
  by : (b : Bool) → Gives {X = List (List ℕ)} {E = ParseError} {Y = List (List ℕ)} (λ v. v) (cond b (Ok labels) (Err (record {}))) (cond b (Some labels) None)
  by true = refl
  by false = refl
