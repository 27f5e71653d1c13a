-- A function that is called on references to names, one after another.
use Rattle.std.specs.Prelude.{◌≡◌}
use Rattle.std.specs.Fn.{Mut, Called, Takes}
use denote.Ref.{Bor}

-- whatever a call of f at a reference to x leaves may be called at a reference to y
abbrev pub TakesNextAt : {F A R : Type 0} → Mut F (Bor A × Unit {0}) R → F → A → A → Type 0
TakesNextAt {F} {A} {R} g f x y = (p q : Bor A) (r : R) (between : F) → p.now ≡ x → q.now ≡ y → Called g f (p, tt) r between → Takes g between (q, tt)
