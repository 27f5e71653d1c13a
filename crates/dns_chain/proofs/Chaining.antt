-- Names that are read through chains of pointers.
use Rattle.std.proofs.Common.{◌≡◌, ℕ, ◌+◌, ◌<◌, ◌≤◌, List, length, take, Some, inl, inr, subst, sym, arith}
use Rattle.std.specs.Prelude.{slice_index}
use Rattle.std.proofs.lemmas.Bool.{cases_lt}
use Rattle.std.proofs.lemmas.List.{get_or-take, length-take}
use Rattle.dns_wire.specs.declared.name_cursor.LabelType.TheVariants.{Pointer}
use Rattle.dns_wire.specs.Pointers.{label_type_at}
use Rattle.dns_wire.proofs.Following.{label_type_is, label_type_pointer}
use Rattle.dns_name.proofs.Followed.{Followed, followed_pointer}
use Rattle.dns_chain.specs.Chains.{AreFinalTargets, Leads, IsFinal}
use Rattle.dns_chain.specs.Chains.Leads.{stays, leads}

-- a pointer is the same where fewer octets are read
pointer_within : (contents : List ℕ) (at target end : ℕ) → label_type_at contents at at ≡ Some (Pointer target) → at + 2 ≤ end → end ≤ length contents → label_type_at (take end contents) at at ≡ Some (Pointer target)
pointer_within contents at target end is room within =
    let p = label_type_is contents at at (Pointer target) is in
    let first : slice_index (take end contents) at ≡ slice_index contents at = get_or-take end contents at 0 (omega arith) in
    let second : slice_index (take end contents) (at + 1) ≡ slice_index contents (at + 1) = get_or-take end contents (at + 1) 0 (omega arith) in
    label_type_pointer (take end contents) at at target (rw first p.0) (omega (arith, length-take end contents)) (rw (first, second) p.2) p.3

-- a chain is the same where fewer octets are read
pub leads_within : (contents : List ℕ) (at final end : ℕ) → Leads contents at final → at + 2 ≤ end → end ≤ length contents → Leads (take end contents) at final
leads_within contents at final end stays room within = stays
leads_within contents at final end (leads {target = target} is later) room within =
    let p = label_type_is contents at at (Pointer target) is in
    leads (pointer_within contents at target end is room within) (leads_within contents target final end later (omega (arith, p.3)) within)

-- a reading goes on at the final target
pub followed_final : (contents : List ℕ) (start at final after : ℕ) (prefix : List ℕ) → Followed contents start at at (Some after) prefix → Leads contents at final → Followed contents start final final (Some after) prefix
followed_final contents start at final after prefix followed stays = followed
followed_final contents start at final after prefix followed (leads {target = target} is later) =
    let p = label_type_is contents at at (Pointer target) is in
    followed_final contents start target final after prefix (followed_pointer contents start at at target (Some after) prefix followed is p.1 p.3) later

-- pointers lead back
pub leads_back : (contents : List ℕ) (at final : ℕ) → Leads contents at final → final ≤ at
leads_back contents at final stays = omega arith
leads_back contents at final (leads {target = target} is later) =
    let p = label_type_is contents at at (Pointer target) is in
    omega (arith, p.3, leads_back contents target final later)

pub final_pointer : (contents : List ℕ) (at target final : ℕ) → label_type_at contents at at ≡ Some (Pointer target) → IsFinal contents target final → IsFinal contents at final
final_pointer contents at target final is f = record { reached = leads is f.reached; last = f.last }

-- where no octet from 192 up is, there is no pointer
pub no_pointer : (contents : List ℕ) (at : ℕ) → (at < length contents → slice_index contents at < 192) → IsFinal contents at at
no_pointer contents at low =
    record { reached = stays; last = λ target is. let p = label_type_is contents at at (Pointer target) is in absurd (omega (arith, p.0, low (omega (arith, p.1)))) }

-- the target in the table, or the place itself after its end
pub target_reached : (contents targets : List ℕ) (place target : ℕ) → AreFinalTargets contents targets → (place < length targets → target ≡ slice_index targets place) → (length targets ≤ place → target ≡ place) → Leads contents place target
target_reached contents targets place target are found past =
    elim (cases_lt place (length targets)) [
      | inl before ↦ subst (Leads contents place) (sym (found before)) (are.final place before).reached
      | inr late ↦ subst (Leads contents place) (sym (past late)) stays
    ]
