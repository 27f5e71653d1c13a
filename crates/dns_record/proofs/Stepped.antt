-- Reading in steps, taken apart.
use Rattle.std.proofs.Common.{◌≡◌, Option, Some, None, refl}
use Rattle.dns_wire.specs.Steps.{◌>>=◌}

-- the first step gives something, and the later ones what is given
pub record Stepped {A B : Type 0} (read : Option A) (more : A → Option B) (y : B) : Type 0 where
  pub value : A
  pub first : read ≡ Some value
  pub later : more value ≡ Some y

pub stepped : {A B : Type 0} (read : Option A) (more : A → Option B) (y : B) → ◌>>=◌ {A = A} {B = B} read more ≡ Some y → Stepped read more y
stepped None more y e = absurd cc
stepped (Some x) more y e = record { value = x; first = refl; later = e }
