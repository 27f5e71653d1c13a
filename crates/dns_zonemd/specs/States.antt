-- What is kept of the sorted records of a zone that were read, and why a record or a line is refused.
use Rattle.std.specs.Prelude.{◌≡◌, ◌≤◌, ◌-◌, ◌*◌, ◌^◌, Bool, false, List, [], ◌∷◌, ◌++◌, ⊤, length, map}
use Rattle.std.specs.List.{concat}
use Rattle.std.specs.Ordering.{eq_by_cmp, is_gt}
use Rattle.sha2.specs.Hashers.{Holds384, Holds512}
use Rattle.dns_wire.specs.Octets.{Octets, Labels}
use Rattle.dns_message.specs.Order.{SortKey, alike_cmp, octets_of_key, sort_key_cmp}
use Rattle.dns_record_lines.specs.RecordLines.{IsLineOf}
use Rattle.dns_zonemd.specs.SortedZone.{InOrder, sorted_members, sorted_soas, sorted_zonemds}
use Rattle.dns_zonemd.specs.declared.members.SortedMembers.{SortedMembers}
use Rattle.dns_zonemd.specs.declared.refusal.LineRefusal.{LineRefusal}
use Rattle.dns_zonemd.specs.declared.refusal.LineRefusal.TheVariants.{Marked, NoRecord, NotSorted, SecondSoa, TooManyLines, Memory}
use Rattle.dns_zonemd.specs.declared.state.SortedZone.{SortedZone}

-- the last of some records, if there is one
abbrev pub last_of : List SortKey → List SortKey
last_of [] = []
last_of (k ∷ []) = k ∷ []
last_of (j ∷ k ∷ ks) = last_of (k ∷ ks)

-- whether a record is alike the first of some
abbrev pub is_alike_first : List SortKey → SortKey → Bool
is_alike_first [] k = false
is_alike_first (j ∷ js) k = eq_by_cmp alike_cmp k j

-- whether a record comes before the first of some
abbrev pub comes_before : List SortKey → SortKey → Bool
comes_before [] k = false
comes_before (j ∷ js) k = is_gt (sort_key_cmp j k)

-- these are the members, and what is kept of them: the last, how many they and their canonical octets are, and two hashers over these
pub record HoldsMembers (ms : List SortKey) (members : SortedMembers) : Type 0 where
  pub last : members.last ≡ last_of ms
  pub records : members.records ≡ length ms
  pub octets : members.octets ≡ length (concat (map octets_of_key ms))
  pub few : members.octets ≤ 65800 * members.records
  pub sha384 : Holds384 members.sha384 (concat (map octets_of_key ms))
  pub sha512 : Holds512 members.sha512 (concat (map octets_of_key ms))

-- the SOA record among those that were read, of which there is one at most
abbrev pub HoldsSoa : Labels → List SortKey → List SortKey → Type 0
HoldsSoa apex ks soa = (soa ≡ sorted_soas apex ks) × (length soa ≤ 1)

-- the ZONEMD records among those that were read, and the last of them
abbrev pub HoldsZonemds : Labels → List SortKey → List SortKey → List SortKey → Type 0
HoldsZonemds apex ks zonemds last = (zonemds ≡ sorted_zonemds apex ks) × (last ≡ last_of zonemds)

-- the apex of a zone that is read
abbrev pub zone_apex : SortedZone → Labels
zone_apex state = state.apex

-- these are the records that were read, in order, and what is kept of them
pub record Holds (ks : List SortKey) (state : SortedZone) : Type 0 where
  pub order : InOrder ks
  pub lines : state.lines ≡ length ks
  pub previous : state.previous ≡ last_of ks
  pub members : HoldsMembers (sorted_members state.apex ks) state.members
  pub soa : HoldsSoa state.apex ks state.soa
  pub zonemds : HoldsZonemds state.apex ks state.zonemds state.zonemd

-- after these records a record is refused: one that comes before the last, or a second SOA of the apex
abbrev pub RefusesRecord : Labels → List SortKey → SortKey → LineRefusal → Type 0
RefusesRecord apex ks k Marked = ⊥
RefusesRecord apex ks k NoRecord = ⊥
RefusesRecord apex ks k NotSorted = ¬ InOrder (ks ++ k ∷ [])
RefusesRecord apex ks k SecondSoa = length (sorted_soas apex (ks ++ k ∷ [])) ≡ 2
RefusesRecord apex ks k TooManyLines = ⊥
RefusesRecord apex ks k Memory = ⊤

-- after these records a line is refused: one with `!` first, one of no record, one of a record that is refused, or where more lines came than a
-- number of 64 bits says
abbrev pub RefusesLine : Labels → List SortKey → Octets → LineRefusal → Type 0
RefusesLine apex ks line Marked = (rest : Octets) × (line ≡ 33 ∷ rest)
RefusesLine apex ks line NoRecord = (k : SortKey) → ¬ IsLineOf line k
RefusesLine apex ks line NotSorted = (k : SortKey) × IsLineOf line k × RefusesRecord apex ks k NotSorted
RefusesLine apex ks line SecondSoa = (k : SortKey) × IsLineOf line k × RefusesRecord apex ks k SecondSoa
RefusesLine apex ks line TooManyLines = length ks ≡ 2 ^ 64 - 1
RefusesLine apex ks line Memory = ⊤
