-- The items of a message, as its parser gives them one after another.
use Rattle.std.proofs.Common.{◌≡◌, ℕ, ◌≤◌, false, List, [], ◌∷◌, ◌++◌, ◌+◌, length, drop, filter, Some, None, refl, sym, ap, ◌∙◌, subst}
use Rattle.std.proofs.lemmas.List.Elements.{filter-append}
use Rattle.dns_message.specs.Canonical.{is_not_opt}
use Rattle.dns_record.specs.FurtherFormats.{DataReading}
use Rattle.dns_message.specs.Messages.{Item, RecordValue, Reading, counted_slots, with_item, records_among, item_by, reading_by, message_by, ValidBy, BadBy}
use Rattle.dns_message.specs.Messages.Reading.{Stopped, Whole}
use Rattle.dns_message.specs.Parsing.{parsed_message, given_count, next_start, has_ended, slots_ahead, IsComing, HasPassed, ahead_by, AddsItemBy}
use Rattle.dns_message.specs.declared.parser.MessageParser.{MessageParser}
use Rattle.dns_message.proofs.Parsed.{starts, reads_on, reads_none}
use Rattle.dns_message.proofs.SlotLemmas.{among_append}

-- what is kept of items
abbrev pub not_opt_of : List Item → List RecordValue
not_opt_of items = filter is_not_opt (records_among items)

not_opt_append : (items others : List Item) → not_opt_of (items ++ others) ≡ not_opt_of items ++ not_opt_of others
not_opt_append items others =
    ap (filter is_not_opt) (among_append items others) ∙ filter-append is_not_opt (records_among items) (records_among others)

-- ---- items before a reading

abbrev with_items : List Item → Reading → Reading
with_items [] reading = reading
with_items (item ∷ items) reading = with_item item (with_items items reading)

one_more : (items : List Item) (item : Item) (reading : Reading) → with_items (items ++ item ∷ []) reading ≡ with_items items (with_item item reading)
one_more [] item reading = refl
one_more (first ∷ items) item reading = ap (with_item first) (one_more items item reading)

all_stopped : (items : List Item) (section index place : ℕ) → with_items items (Stopped [] section index place) ≡ Stopped items section index place
all_stopped [] section index place = refl
all_stopped (item ∷ items) section index place = ap (with_item item) (all_stopped items section index place)

all_whole : (items : List Item) (end : ℕ) → with_items items (Whole [] end) ≡ Whole items end
all_whole [] end = refl
all_whole (item ∷ items) end = ap (with_item item) (all_whole items end)

-- ---- the items so far

-- these items were given, what is kept is of them, and the parser has the others ahead
pub record ReadSoFar (reads : DataReading) (m : List ℕ) (parser : MessageParser) (not_opt : List RecordValue) : Type 0 where
  pub of_message : parsed_message parser ≡ m
  pub items : List Item
  pub read : with_items items (ahead_by reads parser) ≡ message_by reads m
  pub not_opt_is : not_opt ≡ not_opt_of items

pub read_none : (reads : DataReading) (m : List ℕ) (parser : MessageParser) (not_opt : List RecordValue) → (12 ≤ length m) × (parsed_message parser ≡ m) → (given_count parser ≡ 0) × (next_start parser ≡ 0) × (has_ended parser ≡ false) → not_opt ≡ [] → ReadSoFar reads m parser not_opt
read_none reads m parser not_opt whole start none = record {
  of_message = whole.1;
  items = [];
  read = starts reads parser (subst (λ (l : List ℕ). 12 ≤ length l) (sym whole.1) whole.0) start.0 start.1 start.2 ∙ ap (message_by reads) whole.1;
  not_opt_is = none;
}

pub read_more : (reads : DataReading) (m : List ℕ) (old new : MessageParser) (section index end : ℕ) (not_opt more : List RecordValue) → ReadSoFar reads m old not_opt → HasPassed old section index end new
    → AddsItemBy reads section (drop 12 (parsed_message old)) (next_start old) not_opt more (Some end) → ReadSoFar reads m new more
read_more reads m old new section index end not_opt more so passed adds =
    let item = adds.0 in
    let there : item_by reads section (drop 12 (parsed_message old)) (next_start old) ≡ Some (item, next_start new) = adds.1 ∙ ap (λ (n : ℕ). Some (item, n)) (sym passed.1) in
    let reading : ahead_by reads old ≡ with_item item (ahead_by reads new) =
    reads_on reads (drop 12 (parsed_message old)) (slots_ahead old) (slots_ahead new) (section, index) (next_start old) (Some (item, next_start new)) passed.0 there
    ∙ ap (λ (l : List ℕ). with_item item (reading_by reads (drop 12 l) (slots_ahead new) (next_start new))) (sym passed.3) in
    record {
      of_message = passed.3 ∙ so.of_message;
      items = so.items ++ item ∷ [];
      read = one_more so.items item (ahead_by reads new) ∙ ap (with_items so.items) (sym reading) ∙ so.read;
      not_opt_is = adds.2 ∙ ap (λ (l : List RecordValue). l ++ not_opt_of (item ∷ [])) so.not_opt_is ∙ sym (not_opt_append so.items (item ∷ []));
    }

pub read_fails : (reads : DataReading) (m : List ℕ) (parser : MessageParser) (section index : ℕ) (not_opt : List RecordValue) → ReadSoFar reads m parser not_opt → IsComing parser section index
    → item_by reads section (drop 12 (parsed_message parser)) (next_start parser) ≡ None → BadBy reads m section index
read_fails reads m parser section index not_opt so coming none =
    let later = drop (given_count parser + 1) (counted_slots (parsed_message parser)) in
    let stops = reads_on reads (drop 12 (parsed_message parser)) (slots_ahead parser) later (section, index) (next_start parser) None coming.0 none in
    (next_start parser, (so.items, sym so.read ∙ ap (with_items so.items) stops ∙ all_stopped so.items section index (next_start parser)))

pub read_all : (reads : DataReading) (m : List ℕ) (parser : MessageParser) (not_opt : List RecordValue) → ReadSoFar reads m parser not_opt → slots_ahead parser ≡ []
    → (rs : List RecordValue) × ValidBy reads m rs × (not_opt ≡ filter is_not_opt rs)
read_all reads m parser not_opt so over =
    let ends = reads_none reads (drop 12 (parsed_message parser)) (slots_ahead parser) (next_start parser) over in
    (records_among so.items, (so.items, next_start parser, sym so.read ∙ ap (with_items so.items) ends ∙ all_whole so.items (next_start parser), refl), so.not_opt_is)
