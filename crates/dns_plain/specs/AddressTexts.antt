-- Texts of addresses. What is read of an IPv6 address are the forms of RFC 4291 section 2.2 that have no dots, and what is
-- printed is the form of RFC 5952 section 4.
use Rattle.std.specs.Prelude.{◌≡◌, ℕ, ◌+◌, ◌-◌, ◌<◌, ◌⊎◌, false, List, ◌++◌, length, replicate, codes}
use Rattle.std.specs.Net.Addr.{segments_of}
use Rattle.std.specs.Net.Grammar.{IsDotted, IsGroups}
use Rattle.std.specs.Net.Text as Net
use Rattle.dns_wire.specs.Octets.{Octets}
use Rattle.dns_plain.specs.declared.a.A.{A}
use Rattle.dns_plain.specs.declared.aaaa.Aaaa.{Aaaa}

-- ---- IPv4

-- the text is the four octets in decimal, with dots between them
abbrev pub SpellsIpv4 : Octets → A → Type 0
SpellsIpv4 text v = IsDotted text v.octets

-- and so it is printed
abbrev pub ipv4_text : A → Octets
ipv4_text v = Net.ipv4_text v.octets

-- ---- IPv6

-- Groups of one to four hexadecimal digits with colons between them before and after `::`, at most seven in all. It represents
-- the groups of zero that are missing.
pub record IsShortened (text : Octets) (groups : List ℕ) : Type 0 where
  pub prefix_text : Octets
  pub back_text : Octets
  pub prefix : List ℕ
  pub back : List ℕ
  pub spelled : text ≡ prefix_text ++ codes "::" ++ back_text
  pub prefix_groups : IsGroups false prefix_text prefix
  pub back_groups : IsGroups false back_text back
  pub few : length prefix + length back < 8
  pub value : groups ≡ prefix ++ replicate (8 - length prefix - length back) 0 ++ back

-- all eight groups, or those around `::`
abbrev pub IsHexText : Octets → List ℕ → Type 0
IsHexText text groups = (IsGroups false text groups × (length groups ≡ 8)) ⊎ IsShortened text groups

-- the text spells the address, two octets to a group
abbrev pub SpellsIpv6 : Octets → Aaaa → Type 0
SpellsIpv6 text v = IsHexText text (segments_of v.octets)

-- Hexadecimal digits in lowercase, with no zero before a group. If two groups of zero or more come together, `::` represents
-- the longest such run, and the first of those as long.
abbrev pub ipv6_text : Aaaa → Octets
ipv6_text v = Net.hex_groups_text (segments_of v.octets)
