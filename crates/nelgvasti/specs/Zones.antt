-- Messages one after another, and the digest of their zone.
use Rattle.std.specs.Prelude.{◌≡◌, ℕ, ◌-◌, ◌^◌, List, length, map, min, Option, Some, None}
use Rattle.std.specs.List.{concat}
use Rattle.sha2.specs.Sha512.{sha384}
use Rattle.dns_wire.specs.Octets.{Octets}
use Rattle.dns_command.specs.declared.outcome.PrintError.{PrintError}
use Rattle.dns_command.specs.declared.outcome.PrintError.TheVariants as print
use Rattle.dns_command.specs.declared.refusal.Refusal.TheVariants.{BadHex, Short, Item, Own}
use Rattle.dns_zone.specs.Texts.{ZoneRefusal}
use Rattle.dns_zone.specs.declared.refusal.ZoneReason.TheVariants.{NoSoa}
use Rattle.nelgvasti.specs.Refused.{message_position}
use Rattle.nelgvasti.specs.declared.answers.TheConstants.{DONE, SHORT, ITEM, USAGE, MEMORY, NO_SOA}
use Rattle.nelgvasti.specs.declared.item_position.ItemPosition.{ItemPosition}
use Rattle.nelgvasti.specs.declared.zone.ZoneDigest.{ZoneDigest}

-- the messages have these lengths, and one after another they are the octets
pub record AreCut (octets : Octets) (lengths : List ℕ) (messages : List Octets) : Type 0 where
  pub octets_are : concat messages ≡ octets
  pub lengths_are : map length messages ≡ lengths

-- the digest of these canonical octets, one list for each record; a number of octets past 64 bits is the greatest of 64 bits
pub record IsDigest (lists : List Octets) (d : ZoneDigest) : Type 0 where
  pub records : d.records ≡ length lists
  pub octets : d.octets ≡ min (length (concat lists)) (2 ^ 64 - 1)
  pub digest : d.digest ≡ sha384 (concat lists)

-- ---- answers

-- the answer to messages that are refused for a reason, or for none
abbrev pub zone_answer : Option ZoneRefusal → ℕ
zone_answer None = DONE
zone_answer (Some BadHex) = USAGE
zone_answer (Some (Short message)) = SHORT
zone_answer (Some (Item message section index)) = ITEM
zone_answer (Some (Own NoSoa)) = NO_SOA

abbrev pub error_answer : PrintError ZoneRefusal → ℕ
error_answer (print.Refused r) = zone_answer (Some r)
error_answer print.Memory = MEMORY

abbrev pub zone_position : PrintError ZoneRefusal → ItemPosition → ItemPosition
zone_position (print.Refused BadHex) old = old
zone_position (print.Refused (Short message)) old = message_position message
zone_position (print.Refused (Item message section index)) old = record { message = message; section = section; index = index }
zone_position (print.Refused (Own NoSoa)) old = old
zone_position print.Memory old = old
