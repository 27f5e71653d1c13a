-- Vectors that are computed lane by lane.
use Rattle.std.proofs.Common.{◌≡◌, ℕ, ◌<◌, cond, eqb, true, List, [], ◌∷◌, map, refl, ap, ap₂, ◌∙◌}
use Rattle.std.proofs.lemmas.Bool.{agree_below, agree_below_at, eqb-true}
use lib.Lanes.{Each1, sel_l, top}

-- a lane's computation is the one that is wanted, since it is at each number below n
pub at_each : (f g : ℕ → ℕ) (n : ℕ) → agree_below (λ x. eqb (f x) (g x)) (λ _. true) n ≡ true → (lanes : List ℕ) → Each1 (λ x. x < n) lanes → map f lanes ≡ map g lanes
at_each f g n same [] below = refl
at_each f g n same (x ∷ xs) below =
    ap₂ (λ y ys. y ∷ ys) (eqb-true (f x) (g x) (agree_below_at (λ y. eqb (f y) (g y)) (λ _. true) n x same below.0)) (at_each f g n same xs below.1)

-- one of two computations, by a test
chosen_each : (t f g : ℕ → ℕ) (lanes : List ℕ) → sel_l (map (top 7) (map t lanes)) (map f lanes) (map g lanes) ≡ map (λ x. cond (top 7 (t x)) (f x) (g x)) lanes
chosen_each t f g [] = refl
chosen_each t f g (x ∷ xs) = ap (λ ys. cond (top 7 (t x)) (f x) (g x) ∷ ys) (chosen_each t f g xs)

pub chosen : (t f g : ℕ → ℕ) (lanes : List ℕ) {tests xs ys : List ℕ} → tests ≡ map t lanes → xs ≡ map f lanes → ys ≡ map g lanes
    → sel_l (map (top 7) tests) xs ys ≡ map (λ x. cond (top 7 (t x)) (f x) (g x)) lanes
chosen t f g lanes {tests} {xs} {ys} p q r = ap (λ ts. sel_l (map (top 7) ts) xs ys) p ∙ ap₂ (sel_l (map (top 7) (map t lanes))) q r ∙ chosen_each t f g lanes
