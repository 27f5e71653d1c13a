-- What is seen of the items that are read.
use Rattle.dns_wire.specs.Octets.{Octets, Labels}
use Rattle.dns_record.specs.Types.{opt_number}
use Rattle.std.specs.Prelude.{◌≢◌, ◌≡◌, ℕ, ◌<◌, ◌^◌, List, [], ◌∷◌, length, map, take}
use Rattle.dns_record.specs.Fields.{Field, named_by, fields_octets}
use Rattle.dns_record.specs.Fields.FieldOf.{OtherOctets}
use Rattle.dns_record.specs.Seen.{question_seen, record_seen}
use Rattle.dns_record.specs.declared.record.Record.{Record}
use Rattle.dns_edns.specs.declared.opt.Opt.{Opt}
use Rattle.dns_rdata.specs.Data.{data_fields, IsDataOf}
use Rattle.dns_rdata.specs.Edns.{EdnsOf, edns_seen, edns_fixed_header}
use Rattle.dns_rdata.specs.EdnsForms.{edns_ttl}
use Rattle.dns_rdata.specs.declared.record_data.RecordData.{RecordData}
use Rattle.dns_message.specs.Messages.{Item, RecordValue}
use Rattle.dns_message.specs.Messages.Item.{QuestionItem, RecordItem}
use Rattle.dns_message.specs.declared.item.MessageItem.{MessageItem}
use Rattle.dns_message.specs.declared.item.MessageItem.TheVariants.{Question, Answer, Authority, Additional, Edns}

-- the fields of data, whose names are seen as their labels
abbrev pub data_seen : RecordData Labels → List Field
data_seen v = map (named_by (λ labels. labels)) (data_fields v)

-- an owned record, whose names are seen as their labels
abbrev pub record_value : Record Labels (RecordData Labels) → RecordValue
record_value = record_seen (λ labels. labels) data_seen

-- an EDNS record as a record: its owner is the root, and its fields are the class and the time to live (RFC 6891 section 6.1.2)
abbrev pub edns_value : EdnsOf Octets → RecordValue
edns_value e = record { owner = []; rtype = opt_number; class = e.payload; ttl = edns_ttl e.ext_rcode e.version e.flags; content = OtherOctets e.content ∷ [] }

-- a question, or a record of whatever section
abbrev pub item_seen : MessageItem Labels (RecordData Labels) Opt → Item
item_seen (Question q) = QuestionItem (question_seen (λ labels. labels) q)
item_seen (Answer r) = RecordItem (record_value r)
item_seen (Authority r) = RecordItem (record_value r)
item_seen (Additional r) = RecordItem (record_value r)
item_seen (Edns e) = RecordItem (edns_value (edns_seen (λ options. options.slice.now) e))

-- octets that begin with the root and the number of OPT
abbrev pub BeginsEdns : Octets → Type 0
BeginsEdns octets = take 3 octets ≡ edns_fixed_header

-- Of which section an item is, if it begins with these octets: an additional item is an EDNS record exactly if it begins
-- as one.
abbrev pub IsOfSection : {N D E : Type 0} → ℕ → Octets → MessageItem N D E → Type 0
IsOfSection section octets (Question q) = section ≡ 0
IsOfSection section octets (Answer r) = section ≡ 1
IsOfSection section octets (Authority r) = section ≡ 2
IsOfSection section octets (Additional r) = (section ≡ 3) × ¬ BeginsEdns octets
IsOfSection section octets (Edns e) = (section ≡ 3) × BeginsEdns octets

-- data are of the type of their record, and that many octets as its size can say
abbrev pub AreSound : Record Labels (RecordData Labels) → Type 0
AreSound r = IsDataOf r.rdata r.rtype.code.value × (length (fields_octets (data_seen r.rdata)) < 2 ^ 16)

-- the same of the record that an item is
abbrev pub HasSoundData : {E : Type 0} → MessageItem Labels (RecordData Labels) E → Type 0
HasSoundData (Question q) = Unit {0}
HasSoundData (Answer r) = AreSound r
HasSoundData (Authority r) = AreSound r
HasSoundData (Additional r) = AreSound r
HasSoundData (Edns e) = Unit {0}

-- the same of a record of another type than OPT
abbrev pub HasSoundDataUnlessOpt : {E : Type 0} → MessageItem Labels (RecordData Labels) E → Type 0
HasSoundDataUnlessOpt (Question q) = Unit {0}
HasSoundDataUnlessOpt (Answer r) = r.rtype.code.value ≢ opt_number → AreSound r
HasSoundDataUnlessOpt (Authority r) = r.rtype.code.value ≢ opt_number → AreSound r
HasSoundDataUnlessOpt (Additional r) = r.rtype.code.value ≢ opt_number → AreSound r
HasSoundDataUnlessOpt (Edns e) = Unit {0}
