-- What the data of an option are, by its code (RFC 6891 section 6.1.2).
use Rattle.std.specs.Prelude.{ℕ, zero, suc, List, [], ◌∷◌, ◌++◌, length, map, Option, Some, None, Result, Ok, Err, ◌==◌, if◌then◌else◌}
use Rattle.std.specs.Int.{w16, to_be_bytes}
use Rattle.std.specs.Option.{option_map}
use Rattle.dns_wire.specs.Octets.{Octets}
use Rattle.dns_wire.specs.Reading.{all_of}
use Rattle.dns_wire.specs.Steps.{◌>>=◌}
use Rattle.dns_edns.specs.Cookies.{cookie}
use Rattle.dns_edns.specs.ExtErrors.{ext_error, text_of}
use Rattle.dns_record.specs.Options.{OptionSeen, option}
use Rattle.dns_edns.specs.Seen.{cookie_octets}
use Rattle.dns_edns.specs.declared.unparsed_option.UnparsedEdnsOption.{UnparsedEdnsOption}
use Rattle.dns_edns.specs.declared.edns_option.EdnsOption.{EdnsOption}
use Rattle.dns_edns.specs.declared.edns_option.EdnsOption.TheVariants.{ClientCookie, Cookie, ExtError, Unknown}

-- an option, as it is read: the octets of a client cookie alone, the octets of a client cookie with a server cookie, the code and
-- the text of an extended error, or a code and the octets of other data
pub data Suited : Type 0 where
  OfClient : Octets → Suited
  OfServer : Octets → Suited
  OfError : ℕ × Octets → Suited
  OfOther : ℕ → Octets → Suited

-- a cookie: that of a client alone has 8 octets (RFC 7873 section 4)
abbrev pub cookies : Octets → Option Suited
cookies content = if length content == 8 then Some (OfClient content) else option_map OfServer (all_of (cookie content))

-- data that suit their code: 10 is a cookie, 15 an extended error, and data of any other code are kept unchanged
abbrev pub suited : ℕ → Octets → Option Suited
suited code content =
    if code == 10 then cookies content
    else if code == 15 then option_map OfError (all_of (ext_error content))
    else Some (OfOther code content)

-- an option whose data suit its code, at the start, and the octets after it
abbrev pub suited_option : Octets → Option (Suited × Octets)
suited_option bytes = do
  (found, rest) ← option bytes
  what ← suited found.code found.content
  Some (what, rest)

-- its code
abbrev pub option_code_of : Suited → ℕ
option_code_of (OfClient octets) = 10
option_code_of (OfServer octets) = 10
option_code_of (OfError error) = 15
option_code_of (OfOther code octets) = code

-- the octets of its data
abbrev pub option_content_of : Suited → Octets
option_content_of (OfClient octets) = octets
option_content_of (OfServer octets) = octets
option_content_of (OfError (code, words)) = to_be_bytes w16 code ++ words
option_content_of (OfOther code octets) = octets

-- the option that a value is
abbrev pub seen_option : EdnsOption → Suited
seen_option (ClientCookie v) = OfClient v.octets
seen_option (Cookie v) = OfServer (cookie_octets v)
seen_option (ExtError v) = OfError (v.code.code.value, text_of v)
seen_option (Unknown code v) = OfOther code.code.value v.octets.now

-- ---- options one after another

abbrev pub or_unchanged : OptionSeen → Option Suited → Result Suited OptionSeen
or_unchanged found None = Err found
or_unchanged found (Some what) = Ok what

-- what an option is: its data if they suit its code, and else the option unchanged
abbrev pub item_of : OptionSeen → Result Suited OptionSeen
item_of found = or_unchanged found (suited found.code found.content)

abbrev pub then_options : (Octets → List OptionSeen) → Option (OptionSeen × Octets) → List OptionSeen
then_options more None = []
then_options more (Some (found, rest)) = found ∷ more rest

-- the options at the start, one after another, of which at most that many are read
unfoldable pub options_up_to : ℕ → Octets → List OptionSeen
options_up_to zero bytes = []
options_up_to (suc steps) bytes = then_options (λ more. options_up_to steps more) (option bytes)

-- the options of octets
unfoldable pub options_in : Octets → List OptionSeen
options_in bytes = options_up_to (length bytes) bytes

-- and what each of them is
abbrev pub items_in : Octets → List (Result Suited OptionSeen)
items_in bytes = map item_of (options_in bytes)

-- what is seen of an item
abbrev pub seen_item : Result EdnsOption UnparsedEdnsOption → Result Suited OptionSeen
seen_item (Ok option) = Ok (seen_option option)
seen_item (Err option) = Err (record { code = option.code.code.value; content = option.content.now })
