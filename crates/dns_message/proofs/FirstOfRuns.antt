-- Of a list in order, the first of each run of alike elements: which these are, and that they settle the list.
use Rattle.std.proofs.Common.{◌≡◌, zero, suc, ◌⊎◌, inl, inr, Bool, true, false, cond, List, [], ◌∷◌, map, refl, sym, ap, ◌∙◌, subst, arith}
use Rattle.std.specs.Prelude.{◌↔◌, Contains}
use Rattle.std.specs.List.{dedup, dedup_from}
use Rattle.std.specs.declared.cmp.Ordering.{Ordering}
use Rattle.std.specs.declared.cmp.Ordering.TheVariants.{Less, Equal, Greater}
use Rattle.std.specs.Ordering.{is_lt, is_eq, ordering_reverse, ordering_then, then_cmp, eq_by_cmp}
use Rattle.std.specs.Cmp.{IsTotalOrder}
use Rattle.dns_message.specs.Sorted.{NoneBelow, Ascends, AllAbove, Climbs}
use Rattle.std.proofs.lemmas.Bool.{true≢false}
use Rattle.std.proofs.lemmas.Cmp.{then_total, tied_itself, tied_back, alike_right}
use Rattle.std.proofs.lemmas.List.Sorted.{ranks_by}

-- ---- lists by recursion

-- x is in the list
abbrev pub Among : {X : Type 0} → X → List X → Type 0
Among x [] = ⊥
Among x (y ∷ ys) = (x ≡ y) ⊎ Among x ys

pub among : {X : Type 0} (xs : List X) (x : X) → Contains xs x → Among x xs
among [] x h = absurd (omega (arith, h.1))
among (y ∷ ys) x (zero, lt, is) = inl (sym is)
among (y ∷ ys) x (suc k, lt, is) = inr (among ys x (k, omega arith, is))

pub contains : {X : Type 0} (xs : List X) (x : X) → Among x xs → Contains xs x
contains [] x h = absurd h
contains (y ∷ ys) x (inl e) = (0, omega arith, sym e)
contains (y ∷ ys) x (inr h) = let deep = contains ys x h in (suc deep.0, omega (arith, deep.1), deep.2)

pub not_below : {X : Type 0} (R : X → X → Ordering) (x : X) (zs : List X) (z : X) → NoneBelow R x zs → Among z zs → is_lt (R z x) ≡ false
not_below R x [] z none h = absurd h
not_below R x (y ∷ ys) z none (inl e) = rw e none.0
not_below R x (y ∷ ys) z none (inr h) = not_below R x ys z none.1 h

pub above : {X : Type 0} (R : X → X → Ordering) (x : X) (zs : List X) (z : X) → AllAbove R x zs → Among z zs → R x z ≡ Less
above R x [] z all h = absurd h
above R x (y ∷ ys) z all (inl e) = rw e all.0
above R x (y ∷ ys) z all (inr h) = above R x ys z all.1 h

-- the first of each run, seen through a function
pub seen_runs : {X Y : Type 0} (f : X → Y) (E : Y → Y → Bool) (k : X) (xs : List X) → map f (dedup_from (λ x y. E (f x) (f y)) k xs) ≡ dedup_from E (f k) (map f xs)
seen_runs {X} {Y} f E k [] = refl
seen_runs {X} {Y} f E k (x ∷ xs) =
    elim (E (f x) (f k)) as (λ b. map f (cond b (dedup_from (λ x y. E (f x) (f y)) k xs) (k ∷ dedup_from (λ x y. E (f x) (f y)) x xs)) ≡ cond b (dedup_from E (f k) (map f xs)) (f k ∷ dedup_from E (f x) (map f xs))) [
      | true ↦ seen_runs f E k xs
      | false ↦ ap (λ (ys : List Y). f k ∷ ys) (seen_runs f E x xs)
    ]

pub seen_firsts : {X Y : Type 0} (f : X → Y) (E : Y → Y → Bool) (xs : List X) → map f (dedup (λ x y. E (f x) (f y)) xs) ≡ dedup E (map f xs)
seen_firsts f E [] = refl
seen_firsts f E (x ∷ xs) = seen_runs f E x xs

-- ---- answers of orders

tie : (r : Ordering) → is_lt r ≡ false → is_lt (ordering_reverse r) ≡ false → r ≡ Equal
tie Less h k = cc
tie Equal h k = refl
tie Greater h k = cc

tied : (r : Ordering) → is_eq r ≡ true → r ≡ Equal
tied Less h = cc
tied Equal h = refl
tied Greater h = cc

first_part : (a b : Ordering) → is_lt (ordering_then a b) ≡ false → is_lt a ≡ false
first_part Less b h = h
first_part Equal b h = refl
first_part Greater b h = refl

less_back : (r : Ordering) → is_lt r ≡ false → is_eq r ≡ false → ordering_reverse r ≡ Less
less_back Less h k = cc
less_back Equal h k = cc
less_back Greater h k = refl

-- ---- one list for the same elements

module _ {X : Type 0} (R : X → X → Ordering) (total : IsTotalOrder R) where
  pub tail_same : (x : X) (xs ys : List X) → AllAbove R x xs → ((z : X) → Among z (x ∷ xs) → Among z (x ∷ ys)) → (z : X) → Among z xs → Among z ys
  tail_same x xs ys all h z m =
      elim (h z (inr m)) as (λ _. Among z ys) [
        | inl e ↦ let less : R x z ≡ Less = above R x xs z all m in let itself : R x z ≡ Equal = rw e (tied_itself total x) in cc
        | inr deep ↦ deep
      ]

  pub one_list : (xs ys : List X) → Climbs R xs → Climbs R ys → ((z : X) → Among z xs ↔ Among z ys) → xs ≡ ys
  one_list [] [] up vp h = refl
  one_list [] (y ∷ ys) up vp h = absurd ((h y).1 (inl refl))
  one_list (x ∷ xs) [] up vp h = absurd ((h x).0 (inl refl))
  one_list (x ∷ xs) (y ∷ ys) up vp h =
      let labels_wire : x ≡ y =
      elim ((h x).0 (inl refl)) as (λ _. x ≡ y) [
        | inl e ↦ e
        | inr below ↦ elim ((h y).1 (inl refl)) as (λ _. x ≡ y) [
          | inl e ↦ sym e
          | inr beneath ↦
              let yx : R y x ≡ Less = above R y ys x vp.0 below in
              let xy : R x y ≡ Less = above R x xs y up.0 beneath in
              let turned : R x y ≡ ordering_reverse (R y x) = total.antisymm x y in
              let other : R x y ≡ Greater = rw yx at turned in
              cc
        ]
      ] in
      let same : (z : X) → Among z (x ∷ xs) ↔ Among z (x ∷ ys) = subst (λ (w : X). (z : X) → Among z (x ∷ xs) ↔ Among z (w ∷ ys)) (sym labels_wire) h in
      let over : AllAbove R x ys = subst (λ (w : X). AllAbove R w ys) (sym labels_wire) vp.0 in
      let tails = one_list xs ys up.1 vp.1 (λ z. (tail_same x xs ys up.0 (λ w. (same w).0) z, tail_same x ys xs over (λ w. (same w).1) z)) in
      ap (λ (w : X). w ∷ xs) labels_wire ∙ ap (λ (zs : List X). y ∷ zs) tails

-- ---- the first of each run

-- C compares all by which elements are alike, and T those that are alike
module _ {X : Type 0} (C T : X → X → Ordering) (c : IsTotalOrder C) (t : IsTotalOrder T) where
  -- what the first of each run holds, k the first of the run at hand
  pub run_members : (k : X) (xs : List X) (y : X) → Among y (dedup_from (eq_by_cmp C) k xs) → Among y (k ∷ xs)
  run_members k [] y m = m
  run_members k (x ∷ xs) y m =
      elim (eq_by_cmp C x k) as (λ b. Among y (cond b (dedup_from (eq_by_cmp C) k xs) (k ∷ dedup_from (eq_by_cmp C) x xs)) → Among y (k ∷ x ∷ xs)) [
        | true ↦ λ m. elim (run_members k xs y m) as (λ _. Among y (k ∷ x ∷ xs)) [ inl e ↦ inl e | inr deep ↦ inr (inr deep) ]
        | false ↦ λ m. elim m as (λ _. Among y (k ∷ x ∷ xs)) [ inl e ↦ inl e | inr deep ↦ inr (run_members x xs y deep) ]
      ] m

  -- each element is alike to a first
  pub run_covers : (k : X) (xs : List X) (y : X) → Among y (k ∷ xs) → (w : X) × Among w (dedup_from (eq_by_cmp C) k xs) × (C w y ≡ Equal)
  run_covers k [] y (inl e) = (k, inl refl, rw e (tied_itself c k))
  run_covers k [] y (inr none) = absurd none
  run_covers k (x ∷ xs) y m =
      elim (eq_by_cmp C x k) as (λ b. eq_by_cmp C x k ≡ b → (w : X) × Among w (cond b (dedup_from (eq_by_cmp C) k xs) (k ∷ dedup_from (eq_by_cmp C) x xs)) × (C w y ≡ Equal)) [
        | true ↦ λ e. elim m as (λ _. (w : X) × Among w (dedup_from (eq_by_cmp C) k xs) × (C w y ≡ Equal)) [
          | inl f ↦ run_covers k xs y (inl f)
          | inr rest ↦ elim rest as (λ _. (w : X) × Among w (dedup_from (eq_by_cmp C) k xs) × (C w y ≡ Equal)) [
            | inl f ↦
                let found = run_covers k xs k (inl refl) in
                let xk : C x k ≡ Equal = tied (C x k) e in
                (found.0, found.1, rw f (alike_right c x k found.0 xk ∙ found.2))
            | inr deep ↦ run_covers k xs y (inr deep)
          ]
        ]
        | false ↦ λ e. elim m as (λ _. (w : X) × Among w (k ∷ dedup_from (eq_by_cmp C) x xs) × (C w y ≡ Equal)) [
          | inl f ↦ (k, inl refl, rw f (tied_itself c k))
          | inr rest ↦ let found = run_covers x xs y rest in (found.0, inr found.1, found.2)
        ]
      ] refl

  -- a first has no alike element before it
  pub run_least : (k : X) (xs : List X) → NoneBelow (then_cmp C T) k xs → Ascends (then_cmp C T) xs
      → (y : X) → Among y (dedup_from (eq_by_cmp C) k xs) → (z : X) → Among z (k ∷ xs) → C z y ≡ Equal → is_lt (T z y) ≡ false
  run_least k [] none up y (inl e) z (inl f) same = rw (e, f) (ap is_lt (tied_itself t k))
  run_least k [] none up y (inr never) z n same = absurd never
  run_least k [] none up y m z (inr never) same = absurd never
  run_least k (x ∷ xs) none up y m z n same =
      elim (eq_by_cmp C x k) as (λ b. eq_by_cmp C x k ≡ b → Among y (cond b (dedup_from (eq_by_cmp C) k xs) (k ∷ dedup_from (eq_by_cmp C) x xs)) → is_lt (T z y) ≡ false) [
        | true ↦ λ e m. elim n as (λ _. is_lt (T z y) ≡ false) [
          | inl f ↦ run_least k xs none.1 up.1 y m z (inl f) same
          | inr rest ↦ elim rest as (λ _. is_lt (T z y) ≡ false) [
            | inl f ↦
                let xk : C x k ≡ Equal = tied (C x k) e in
                let xy : C x y ≡ Equal = subst (λ (w : X). C w y ≡ Equal) f same in
                let later : is_lt (T k y) ≡ false = run_least k xs none.1 up.1 y m k (inl refl) (sym (c.congr x k y xk) ∙ xy) in
                let here : is_lt (T x k) ≡ false = subst (λ (r : Ordering). is_lt (ordering_then r (T x k)) ≡ false) xk none.0 in
                rw f ((ranks_by t (λ (w : X). w)).chain x k y here later)
            | inr deep ↦ run_least k xs none.1 up.1 y m z (inr deep) same
          ]
        ]
        | false ↦ λ e m. elim m as (λ _. is_lt (T z y) ≡ false) [
          | inl f ↦ elim n as (λ _. is_lt (T z y) ≡ false) [
            | inl g ↦ rw (f, g) (ap is_lt (tied_itself t k))
            | inr rest ↦
                let below : is_lt (ordering_then (C z k) (T z k)) ≡ false = not_below (then_cmp C T) k (x ∷ xs) z none rest in
                let zk : C z k ≡ Equal = subst (λ (w : X). C z w ≡ Equal) f same in
                rw f (subst (λ (r : Ordering). is_lt (ordering_then r (T z k)) ≡ false) zk below)
          ]
          | inr deep ↦ elim n as (λ _. is_lt (T z y) ≡ false) [
            | inl g ↦
                let ky : C k y ≡ Equal = subst (λ (w : X). C w y ≡ Equal) g same in
                let trailing : is_lt (ordering_then (C y x) (T y x)) ≡ false =
                elim (run_members x xs y deep) as (λ _. is_lt (then_cmp C T y x) ≡ false) [
                  | inl h ↦ rw h (ap is_lt (tied_itself (then_total c t) x))
                  | inr h ↦ not_below (then_cmp C T) x xs y up.0 h
                ] in
                let yx : is_lt (C y x) ≡ false = first_part (C y x) (T y x) trailing in
                let xk : is_lt (C x k) ≡ false = first_part (C x k) (T x k) none.0 in
                let kx : is_lt (ordering_reverse (C x k)) ≡ false = ap is_lt (sym (c.antisymm k x) ∙ c.congr k y x ky) ∙ yx in
                let tied_again : C x k ≡ Equal = tie (C x k) xk kx in
                let wrong : is_eq (C x k) ≡ true = ap is_eq tied_again in
                absurd (true≢false (sym wrong ∙ e))
            | inr rest ↦ run_least x xs up.0 up.1 y deep z rest same
          ]
        ]
      ] refl m

  -- what follows another of these
  run_above : (j k : X) (xs : List X) → C j k ≡ Less → NoneBelow (then_cmp C T) k xs → Ascends (then_cmp C T) xs → AllAbove C j (dedup_from (eq_by_cmp C) k xs)
  run_above j k [] less none up = (less, tt)
  run_above j k (x ∷ xs) less none up =
      elim (eq_by_cmp C x k) as (λ b. eq_by_cmp C x k ≡ b → AllAbove C j (cond b (dedup_from (eq_by_cmp C) k xs) (k ∷ dedup_from (eq_by_cmp C) x xs))) [
        | true ↦ λ e. run_above j k xs less none.1 up.1
        | false ↦ λ e.
            let kx : C k x ≡ Less = c.antisymm k x ∙ less_back (C x k) (first_part (C x k) (T x k) none.0) e in
            (less, run_above j x xs (c.trans j k x less kx) up.0 up.1)
      ] refl

  run_climbs : (k : X) (xs : List X) → NoneBelow (then_cmp C T) k xs → Ascends (then_cmp C T) xs → Climbs C (dedup_from (eq_by_cmp C) k xs)
  run_climbs k [] none up = (tt, tt)
  run_climbs k (x ∷ xs) none up =
      elim (eq_by_cmp C x k) as (λ b. eq_by_cmp C x k ≡ b → Climbs C (cond b (dedup_from (eq_by_cmp C) k xs) (k ∷ dedup_from (eq_by_cmp C) x xs))) [
        | true ↦ λ e. run_climbs k xs none.1 up.1
        | false ↦ λ e.
            let kx : C k x ≡ Less = c.antisymm k x ∙ less_back (C x k) (first_part (C x k) (T x k) none.0) e in
            (run_above k x xs kx up.0 up.1, run_climbs x xs up.0 up.1)
      ] refl

  pub climbs : (xs : List X) → Ascends (then_cmp C T) xs → Climbs C (dedup (eq_by_cmp C) xs)
  climbs [] up = tt
  climbs (x ∷ xs) up = run_climbs x xs up.0 up.1

  -- ---- the two laws

  module _ (same : (x y : X) → C x y ≡ Equal → T x y ≡ Equal → x ≡ y) where
    pub first_is_least : (xs : List X) → Ascends (then_cmp C T) xs → (y : X) → Among y (dedup (eq_by_cmp C) xs)
        ↔ (Among y xs × ((z : X) → Among z xs → C z y ≡ Equal → is_lt (T z y) ≡ false))
    first_is_least [] up y = (λ m. absurd m, λ h. absurd h.0)
    first_is_least (k ∷ xs) up y = (
      λ m. (run_members k xs y m, run_least k xs up.0 up.1 y m),
      λ h.
          let found = run_covers k xs y h.0 in
          let w = found.0 in
          let here : is_lt (T w y) ≡ false = h.1 w (run_members k xs w found.1) found.2 in
          let there : is_lt (T y w) ≡ false = run_least k xs up.0 up.1 w found.1 y h.0 (tied_back c w y found.2) in
          let equal : T w y ≡ Equal = tie (T w y) here (ap is_lt (sym (t.antisymm y w)) ∙ there) in
          subst (λ (v : X). Among v (dedup_from (eq_by_cmp C) k xs)) (same w y found.2 equal) found.1,
    )

    pub same_first : (xs ys : List X) → Ascends (then_cmp C T) xs → Ascends (then_cmp C T) ys
        → ((y : X) → Among y (dedup (eq_by_cmp C) xs) ↔ Among y (dedup (eq_by_cmp C) ys)) → dedup (eq_by_cmp C) xs ≡ dedup (eq_by_cmp C) ys
    same_first xs ys up vp h = one_list C c (dedup (eq_by_cmp C) xs) (dedup (eq_by_cmp C) ys) (climbs xs up) (climbs ys vp) h
