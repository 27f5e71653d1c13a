-- Records that are given as octets without pointers.
use Rattle.std.proofs.Common.{◌≡◌, ℕ, ◌<◌, ◌^◌, Bool, true, false, cond, ltb, List, [], ◌∷◌, length, take, drop, Option, Some, None, inr, refl, sym, ap, subst, ◌∙◌, append-nil, arith}
use Rattle.std.specs.Int.{w16, w32, from_be_bytes}
use Rattle.std.proofs.lemmas.List.{length-take}
use Rattle.std.proofs.lemmas.Option.{some_pair_parts}
use Rattle.dns_wire.specs.Names.{plain_name}
use Rattle.dns_wire.proofs.NamesLemmas.{plain_name_leaves}
use Rattle.dns_wire.specs.Reading.{AreOctets, Follows, all_of, number, octets}
use Rattle.dns_wire.specs.ReadingLemmas.{then_some, number_leaves}
use Rattle.dns_num.proofs.CountedData.{small}
use Rattle.dns_record.specs.Data.{data_as}
use Rattle.dns_record.specs.Fields.{Field, fields_octets}
use Rattle.dns_record.specs.Formats.{rdata_format}
use Rattle.dns_record.specs.Kinds.{fields_of}
use Rattle.dns_record.specs.Records.{Parts, parts_at, record_at, record_of}
use Rattle.dns_message.specs.Canonical.{plain_record}
use Rattle.dns_message.specs.Messages.{RecordValue}
use Rattle.dns_message.proofs.KindLemmas.{fields_read, format_is_format}
use Rattle.dns_message.proofs.Octets.{octets_from, octets_up_to}
use Rattle.nelgvasti.specs.Calls.{HasNoRecord}

-- ---- sizes

-- what follows octets are octets
later_octets : (rest bytes : List ℕ) → AreOctets bytes → Follows rest bytes → AreOctets rest
later_octets rest bytes are is = subst AreOctets (sym is.rest_is) (octets_from is.count bytes are)

-- a number in two octets
number_small : (bytes : List ℕ) (n : ℕ) (rest : List ℕ) → AreOctets bytes → number w16 bytes ≡ Some (n, rest) → n < 65536
number_small bytes n rest are e = by (ltb (length bytes) 2) e where
  by : (b : Bool) → cond {A = Option (ℕ × List ℕ)} b None (Some (from_be_bytes w16 (take 2 bytes), drop 2 bytes)) ≡ Some (n, rest) → n < 65536
  by true e = absurd cc
  by false e = let is = (some_pair_parts (from_be_bytes w16 (take 2 bytes)) n (drop 2 bytes) rest e).0 in omega (arith, is, small w16 (inr refl) (take 2 bytes) (octets_up_to 2 bytes are))

-- the first octets, as many as are asked for
octets_are : (n : ℕ) (bytes body rest : List ℕ) → octets n bytes ≡ Some (body, rest) → body ≡ take n bytes
octets_are n bytes body rest e = by (ltb (length bytes) n) e where
  by : (b : Bool) → cond {A = Option (List ℕ × List ℕ)} b None (Some (take n bytes, drop n bytes)) ≡ Some (body, rest) → body ≡ take n bytes
  by true e = absurd cc
  by false e = sym (some_pair_parts (take n bytes) body (drop n bytes) rest e).0

all_of_is : (read : Option (List Field × List ℕ)) (fs : List Field) → all_of read ≡ Some fs → read ≡ Some (fs, [])
all_of_is None fs e = absurd cc
all_of_is (Some (gs, [])) fs e = let same : gs ≡ fs = cc in ap (λ (l : List Field). Some (l, [])) same
all_of_is (Some (gs, x ∷ rest)) fs e = absurd cc

-- data that are read have the octets that they are read from
data_long : (rtype : ℕ) (body : List ℕ) (fs : List Field) → AreOctets body → data_as plain_name rtype body ≡ Some fs → body ≡ fields_octets fs
unfolding data_as
data_long rtype body fs are e = (fields_read (rdata_format rtype) fs body [] (format_is_format rtype) are (all_of_is (fields_of plain_name (rdata_format rtype) body) fs e)).1 ∙ append-nil (fields_octets fs)

-- the data after an owner are no more octets than their size says
short_parts : (bytes : List ℕ) (p : Parts) (rest : List ℕ) → AreOctets bytes → parts_at bytes ≡ Some (p, rest) → (length p.content < 2 ^ 16) × AreOctets p.content
unfolding parts_at
short_parts bytes p rest are e =
    let b = then_some (number w16 bytes) _ _ e in
    let c = then_some (number w16 b.0.1) _ _ b.2 in
    let d = then_some (number w32 c.0.1) _ _ c.2 in
    let s = then_some (number w16 d.0.1) _ _ d.2 in
    let o = then_some (octets s.0.0 s.0.1) _ _ s.2 in
    let same = some_pair_parts (record { rtype = b.0.0; class = c.0.0; ttl = d.0.0; content = o.0.0 }) p o.0.1 rest o.2 in
    let after_type = later_octets b.0.1 bytes are (number_leaves w16 bytes b.0.0 b.0.1 b.1) in
    let after_class = later_octets c.0.1 b.0.1 after_type (number_leaves w16 b.0.1 c.0.0 c.0.1 c.1) in
    let after_ttl = later_octets d.0.1 c.0.1 after_class (number_leaves w32 c.0.1 d.0.0 d.0.1 d.1) in
    let after_size = later_octets s.0.1 d.0.1 after_ttl (number_leaves w16 d.0.1 s.0.0 s.0.1 s.1) in
    let body : p.content ≡ take s.0.0 s.0.1 = sym (ap (λ (q : Parts). q.content) same.0) ∙ octets_are s.0.0 s.0.1 o.0.0 o.0.1 o.1 in (
      omega (arith, ap length body, length-take s.0.0 s.0.1, number_small d.0.1 s.0.0 s.0.1 after_ttl s.1),
      subst AreOctets (sym body) (octets_up_to s.0.0 s.0.1 after_size),
    )

-- the data of a record that is read are no more octets than its size says
pub short_content : (bytes : List ℕ) (found : RecordValue) (rest : List ℕ) → AreOctets bytes → plain_record bytes ≡ Some (found, rest) → length (fields_octets found.content) < 2 ^ 16
unfolding record_at
short_content bytes found rest are e =
    let a = then_some (plain_name bytes) _ _ e in
    let p = then_some (parts_at a.0.1) _ _ a.2 in
    let v = then_some (data_as plain_name p.0.0.rtype p.0.0.content) _ _ p.2 in
    let same = some_pair_parts (record_of a.0.0 p.0.0 v.0) found p.0.1 rest v.2 in
    let after_owner = later_octets a.0.1 bytes are (plain_name_leaves bytes a.0.0 a.0.1 a.1) in
    let short = short_parts a.0.1 p.0.0 p.0.1 after_owner p.1 in
    let held : p.0.0.content ≡ fields_octets v.0 = data_long p.0.0.rtype p.0.0.content v.0 short.1 v.1 in
    let content-is : v.0 ≡ found.content = ap (λ (r : RecordValue). r.content) same.0 in
    omega (arith, ap (λ (fs : List Field). length (fields_octets fs)) content-is, ap length held, short.0)

-- ---- octets that are read, or not

pub unread : (bytes : List ℕ) → plain_record bytes ≡ None → HasNoRecord bytes
unread bytes none = λ r has. (let clash = sym (ap all_of none) ∙ has.0 in absurd cc)

pub read_on : (bytes : List ℕ) (r : RecordValue) (x : ℕ) (rest : List ℕ) → plain_record bytes ≡ Some (r, x ∷ rest) → HasNoRecord bytes
read_on bytes r x rest is = λ s has. (let clash = sym (ap all_of is) ∙ has.0 in absurd cc)

pub read_whole : (bytes : List ℕ) (r : RecordValue) (rest : List ℕ) → plain_record bytes ≡ Some (r, rest) → rest ≡ [] → all_of (plain_record bytes) ≡ Some r
read_whole bytes r rest is none = ap all_of (is ∙ ap (λ (l : List ℕ). Some (r, l)) none)
