-- An EDNS record writes what the record that it is writes, and is read again as exactly that record.
use Rattle.std.proofs.Common.{◌≡◌, ℕ, ◌+◌, ◌-◌, ◌/◌, ◌%◌, ◌<◌, ◌≤◌, ◌^◌, false, true, List, [], ◌∷◌, ◌++◌, length, take_all, refl, sym, ap, subst, ◌∙◌, arith}
use Rattle.std.specs.Int.{w16, w32, to_be_bytes}
use Rattle.std.proofs.lemmas.List.{append-nil, drop_at, length-append}
use Rattle.dns_wire.specs.Compression.{FitsIn, longest_recorded, label_places, recorded, with_more, compress}
use Rattle.dns_wire.specs.Names.{lowered}
use Rattle.dns_wire.specs.Layout.{part_writes, octets_writes}
use Rattle.dns_wire.specs.Layout.LayoutPart.{OctetsPart as Octets}
use Rattle.dns_wire.specs.Reading.{AreOctets}
use Rattle.dns_wire.specs.LayoutLemmas.{list_writes-one}
use Rattle.dns_wire.specs.declared.sizes.TheConstants.{MAX_PLACES}
use Rattle.dns_wire.proofs.Cutting.{octet_at}
use Rattle.dns_num.specs.InMessage.{zeros}
use Rattle.dns_num.specs.Prefixed.{sized}
use Rattle.dns_record.specs.Fields.{Field, canonical_fields}
use Rattle.dns_record.specs.InMessage.{fixed_header}
use Rattle.dns_record.specs.Options.{is_option_data}
use Rattle.dns_record.specs.Types.{is_lowercased}
use Rattle.dns_record.proofs.Opted.{options_are}
use Rattle.dns_edns.specs.Flags.{flag_bits}
use Rattle.dns_rdata.specs.Edns.{EdnsOf, edns_seen, edns_octets}
use Rattle.dns_rdata.specs.EdnsForms.{edns_ttl}
use Rattle.dns_rdata.specs.declared.edns_record.EdnsRecord.{EdnsRecord}
use Rattle.dns_message.specs.Building.{Draft, drafted, count_in, with_count, pushed}
use Rattle.dns_message.specs.Built.{built}
use Rattle.dns_message.specs.Canonical.{lowercase_names}
use Rattle.dns_message.specs.Messages.{Item, RecordValue, message_reading}
use Rattle.dns_message.specs.Messages.Item.{RecordItem}
use Rattle.dns_message.specs.Messages.Reading.{Whole}
use Rattle.dns_message.specs.Seen.{edns_value}
use Rattle.dns_message.specs.WellFormed.{WellFormed}
use Rattle.dns_message.proofs.Octets.{no_octets, one_more}
use Rattle.dns_message.proofs.Repushed.{pushed_record}
use Rattle.dns_message.proofs.Whole.{data_back, parts_octets}

-- ---- what is written

-- each field has its own octets among the four of a time to live
ttl_octets : (a b c : ℕ) → a < 2 ^ 8 → b < 2 ^ 8 → c < 2 ^ 16 → to_be_bytes w32 (edns_ttl a b c) ≡ a ∷ (b ∷ to_be_bytes w16 c)
ttl_octets a b c a-fits b-fits c-fits =
    let n = edns_ttl a b c in
    let first : n / 16777216 % 256 ≡ a = omega arith in
    let second : n / 65536 % 256 ≡ b = omega arith in
    let third : n / 256 % 256 ≡ c / 256 % 256 = omega arith in
    let fourth : n % 256 ≡ c % 256 = omega arith in
    λ i. first i ∷ second i ∷ third i ∷ fourth i ∷ []

-- the root is written as it is, and no place is noted
root_compressed : (contents places : List ℕ) → compress contents places [] ≡ 0 ∷ []
unfolding longest_recorded
root_compressed contents places = refl

root_places : (contents : List ℕ) → label_places (length (contents ++ 0 ∷ []) - length contents) (contents ++ 0 ∷ []) (length contents) ≡ []
unfolding label_places
root_places contents =
    let one : length (contents ++ 0 ∷ []) - length contents ≡ 1 = omega (arith, length-append contents (0 ∷ [])) in
    let o = octet_at (contents ++ 0 ∷ []) (length contents) 0 [] (drop_at contents (0 ∷ []) (length contents) refl) in
    rw one (rw o.is refl)

root_recorded : (contents places : List ℕ) → length places ≤ MAX_PLACES → recorded places (contents ++ compress contents places []) (length contents) ≡ places
root_recorded contents places few =
    ap (λ (l : List ℕ). recorded places (contents ++ l) (length contents)) (root_compressed contents places)
    ∙ ap (with_more places) (root_places contents)
    ∙ take_all MAX_PLACES (places ++ []) (omega (arith, few, length-append places []))
    ∙ append-nil places

pub edns_built : {D : Type 0} (r : EdnsRecord D) (octets contents places : List ℕ) → length places ≤ MAX_PLACES → r.ext_rcode < 2 ^ 8 → r.version < 2 ^ 8 → flag_bits r.flags < 2 ^ 16
    → octets_writes (edns_octets r octets) contents places ≡ built (edns_value (edns_seen (λ _. octets) r)) contents places
edns_built r octets contents places few ext version flags =
    let p = compress contents places [] in
    let known = recorded places (contents ++ p) (length contents) in
    let payload = to_be_bytes w16 r.max_udp_payload.value in
    let ttl = edns_ttl r.ext_rcode r.version (flag_bits r.flags) in
    let numbers = fixed_header 41 r.max_udp_payload.value ttl in
    let ttl_is = ttl_octets r.ext_rcode r.version (flag_bits r.flags) ext version flags in
    let inner = list_writes-one part_writes (Octets octets) (((contents ++ p) ++ numbers) ++ zeros w16) known in
    sym (ap (λ (x : List ℕ × List ℕ). (p ++ (numbers ++ sized w16 x.0), x.1)) inner
    ∙ ap (λ (l : List ℕ). (l ++ (numbers ++ sized w16 octets), known)) (root_compressed contents places)
    ∙ ap (λ (l : List ℕ). ((0 ∷ []) ++ ((to_be_bytes w16 41 ++ (payload ++ l)) ++ sized w16 octets), known)) ttl_is
    ∙ ap (λ (l : List ℕ). (edns_octets r octets, l)) (root_recorded contents places few))

-- ---- what is read

no_labels : (labels : List (List ℕ)) → lowered labels ≡ [] → labels ≡ []
no_labels [] e = refl
no_labels (label ∷ labels) e = absurd cc

fields_stay : (rtype : ℕ) (fields : List Field) → is_lowercased rtype ≡ false → canonical_fields rtype fields ≡ fields
fields_stay rtype fields unchanged = rw unchanged refl

-- a record of the root, whose type is none of the nine, is the same if it is the same when lowercased
lowercase_exact : (there r : RecordValue) → lowercase_names there ≡ lowercase_names r → r.owner ≡ [] → is_lowercased r.rtype ≡ false → there ≡ r
lowercase_exact there r alike root unchanged =
    let rtype : there.rtype ≡ r.rtype = ap (λ (s : RecordValue). s.rtype) alike in
    let class : there.class ≡ r.class = ap (λ (s : RecordValue). s.class) alike in
    let ttl : there.ttl ≡ r.ttl = ap (λ (s : RecordValue). s.ttl) alike in
    let owner : there.owner ≡ r.owner = no_labels there.owner (ap (λ (s : RecordValue). s.owner) alike ∙ ap lowered root) ∙ sym root in
    let content : there.content ≡ r.content =
    sym (fields_stay there.rtype there.content (ap is_lowercased rtype ∙ unchanged)) ∙ ap (λ (s : RecordValue). s.content) alike ∙ fields_stay r.rtype r.content unchanged in
    λ i. record { owner = owner i; rtype = rtype i; class = class i; ttl = ttl i; content = content i }

-- the record that an EDNS record of options is
pub edns_well : (e : EdnsOf (List ℕ)) → e.payload < 2 ^ 16 → e.ext_rcode < 2 ^ 8 → e.version < 2 ^ 8 → e.flags < 2 ^ 16 → AreOctets e.content → is_option_data e.content ≡ true → WellFormed (edns_value e)
edns_well e payload ext version flags are options =
    let whole : e.content ++ [] ≡ e.content = append-nil e.content in
    record {
      owner = record { sizes = tt; size = omega arith };
      rtype = omega arith;
      class = payload;
      ttl = omega arith;
      size = omega (arith, (options_are e.content options).short, ap length whole);
      content = data_back 41 ((edns_value e).content) (options, tt);
      octets = parts_octets [] 41 e.payload (edns_ttl e.ext_rcode e.version e.flags) (e.content ++ []) (one_more 0 [] (omega arith) no_octets) (subst AreOctets (sym whole) are);
    }

pub pushed_edns : {D : Type 0} (draft : Draft) (items : List Item) (r : EdnsRecord D) (octets : List ℕ) → length draft.header ≡ 12 → count_in 3 draft.header < 65535
    → message_reading (drafted draft) ≡ Whole items (length draft.contents) → FitsIn draft.places draft.contents
    → r.max_udp_payload.value < 2 ^ 16 → r.ext_rcode < 2 ^ 8 → r.version < 2 ^ 8 → flag_bits r.flags < 2 ^ 16 → AreOctets octets → is_option_data octets ≡ true
    → message_reading (drafted (pushed 3 (octets_writes (edns_octets r octets)) draft)) ≡ Whole (items ++ RecordItem (edns_value (edns_seen (λ _. octets) r)) ∷ []) (length (pushed 3 (octets_writes (edns_octets r octets)) draft).contents)
pushed_edns draft items r octets long few read fits payload ext version flags are options =
    let as_record : RecordValue = edns_value (edns_seen (λ _. octets) r) in
    let after : List ℕ × List ℕ → Draft = λ w. record { header = with_count 3 (count_in 3 draft.header + 1) draft.header; contents = draft.contents ++ w.0; size = draft.size; places = w.1 } in
    let read_again = pushed_record draft items long read fits 3 as_record (omega arith) (omega arith) refl few (edns_well (edns_seen (λ _. octets) r) payload ext version flags are options) in
    let exact : read_again.0 ≡ as_record = lowercase_exact read_again.0 as_record read_again.1 refl refl in
    let same = edns_built r octets draft.contents draft.places fits.places_are.few ext version flags in
    subst (λ (w : List ℕ × List ℕ). message_reading (drafted (after w)) ≡ Whole (items ++ RecordItem as_record ∷ []) (length (after w).contents)) (sym same)
    (subst (λ (s : RecordValue). message_reading (drafted (after (built as_record draft.contents draft.places))) ≡ Whole (items ++ RecordItem s ∷ []) (length (after (built as_record draft.contents draft.places)).contents)) exact read_again.2)
