-- What it means that a value is written in a message, whatever the type. Contents are the octets after the header, and
-- end where writing begins. Places are those of names that are known.
use Rattle.std.specs.Prelude.{◌≡◌, ℕ, ◌+◌, ◌<◌, List, [], ◌∷◌, ◌++◌, length, take, Result, IfOk, OnOk, OnErr, ⊤}
use Rattle.dns_wire.specs.Octets.{Octets, Places}
use Rattle.dns_wire.specs.Building.{Occurs}
use Rattle.dns_wire.specs.Compression.{FitsIn, Grows, CompressedWrite, written_octets, places_afterwards}
use Rattle.dns_wire.specs.Layout.{list_writes}

-- What a building call in a message does, if these octets are to be written, and these are the places afterwards. It
-- is accepted exactly if all prefixed data fit and the octets are at most the free ones. Then they lie from start
-- on, and the places are noted: they lead to names in what has been written. Else the octets before start and the places
-- are as they were.
pub record BuildsIn {E : Type 0} (fits : Type 0) (compressed : Octets × Places) (old : Octets) (start : ℕ) (places : Places) (new : Octets) (after : Places) (result : Result ℕ E) : Type 0 where
  pub accepted : OnOk result fits
  pub occurs : IfOk result (λ end. Occurs (written_octets compressed) old start new end)
  pub after_is : OnOk result (after ≡ places_afterwards compressed)
  pub grows : OnOk result (Grows places after start)
  pub leads : IfOk result (λ end. FitsIn after (take end new))
  pub refused : OnErr result (fits → length old < start + length (written_octets compressed))
  pub prefix : OnErr result (take start new ≡ take start old)
  pub size : OnErr result (length new ≡ length old)
  pub unchanged : OnErr result (after ≡ places)

-- two values fit, one after the other: the second one sees the octets of the first, and the places after it
abbrev pub then_fits : (Octets → Places → Type 0) → CompressedWrite → (Octets → Places → Type 0) → Octets → Places → Type 0
then_fits first writes second contents places =
    first contents places × second (contents ++ written_octets (writes contents places)) (places_afterwards (writes contents places))

-- the values of a list fit, one after another
unfoldable pub list_fits : {A : Type 0} → (A → Octets → Places → Type 0) → (A → CompressedWrite) → List A → Octets → Places → Type 0
list_fits fits writes [] contents places = ⊤
list_fits fits writes (value ∷ values) contents places =
    then_fits (fits value) (writes value) (list_fits fits writes values) contents places

-- each value of a list fits after those before it
abbrev pub EachFits : {A : Type 0} → (A → Octets → Places → Type 0) → (A → CompressedWrite) → List A → Octets → Places → Type 0
EachFits {A} fits writes values contents places =
    (prefix back : List A) (value : A) → values ≡ prefix ++ value ∷ back → fits value (contents ++ written_octets (list_writes writes prefix contents places)) (places_afterwards (list_writes writes prefix contents places))
