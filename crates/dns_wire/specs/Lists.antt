-- Values that come one after another.
use Rattle.std.specs.Prelude.{◌≡◌, ℕ, zero, suc, List, [], ◌∷◌, ◌++◌, Option, Some, None, Result, Ok, Err}
use Rattle.dns_wire.specs.Octets.{Octets}
use Rattle.dns_wire.specs.declared.list.ListError.{ListError}
use Rattle.dns_wire.specs.declared.list.ListError.TheVariants.{Parse, Memory}

-- these values, and then what is read after them
abbrev pub with_prefix : {Y : Type 0} → List Y → Option (List Y × Octets) → Option (List Y × Octets)
with_prefix prefix None = None
with_prefix prefix (Some (others, rest)) = Some (prefix ++ others, rest)

-- a value, and then those that are read after it
abbrev pub then_list : {Y : Type 0} → (Octets → Option (List Y × Octets)) → Option (Y × Octets) → Option (List Y × Octets)
then_list more None = None
then_list more (Some (y, rest)) = with_prefix (y ∷ []) (more rest)

-- that many values, one after another, and the octets after them
unfoldable pub list_of : {Y : Type 0} → (Octets → Option (Y × Octets)) → ℕ → Octets → Option (List Y × Octets)
list_of grammar zero bytes = Some ([], bytes)
list_of grammar (suc n) bytes = then_list (list_of grammar n) (grammar bytes)

-- What a call answered, seen by view, is what is read: `Ok` and `Parse` exactly if it is, unless memory ran out.
abbrev pub GivesList : {X Y : Type 0} → (X → Y) → Result X ListError → Option Y → Type 0
GivesList view (Ok x) read = read ≡ Some (view x)
GivesList view (Err Parse) read = read ≡ None
GivesList view (Err Memory) read = Unit {0}
