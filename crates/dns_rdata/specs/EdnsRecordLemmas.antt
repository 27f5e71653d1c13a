-- What the reading of an EDNS record leaves over.
use Rattle.std.proofs.Common.{◌≡◌, ℕ, Bool, true, false, cond, List, take, drop, Option, Some, None, refl, sym, subst, arith}
use Rattle.std.specs.Int.{w16}
use Rattle.std.proofs.lemmas.List.{length-take}
use Rattle.std.proofs.lemmas.Option.{some_pair_parts}
use Rattle.dns_num.specs.PrefixedLemmas.{prefixed_leaves}
use Rattle.dns_num.specs.Prefixed.{prefixed}
use Rattle.dns_wire.specs.ReadingLemmas.{then_some, follows_both, octet_leaves, number_leaves}
use Rattle.dns_wire.specs.Reading.{Follows, LeavesRest, octet, number}
use Rattle.std.specs.Prelude.{nat_eq}
use Rattle.std.specs.Cmp.Lexicographic.{pointwise, as_long}
use Rattle.dns_rdata.specs.Edns.{edns_fixed_header, after_fixed_header, edns_after_rcode, edns_at}

fixed_header_leaves_by : (b : Bool) (bytes rest : List ℕ) → pointwise nat_eq (take 3 bytes) edns_fixed_header ≡ b → cond b (Some (drop 3 bytes)) None ≡ Some rest → Follows rest bytes
fixed_header_leaves_by true bytes rest is e =
    let same : drop 3 bytes ≡ rest = cc in
    record { count = 3; within = omega (arith, as_long nat_eq (take 3 bytes) edns_fixed_header is, length-take 3 bytes); rest_is = sym same }
fixed_header_leaves_by false bytes rest is e = absurd cc

-- what comes after the root and the number follows
fixed_header_leaves : (bytes rest : List ℕ) → after_fixed_header bytes ≡ Some rest → Follows rest bytes
fixed_header_leaves bytes rest e = fixed_header_leaves_by (pointwise nat_eq (take 3 bytes) edns_fixed_header) bytes rest refl e

after_rcode_leaves : {D : Type 0} (content : List ℕ → Option (D × List ℕ)) (payload ext_rcode : ℕ) → LeavesRest (edns_after_rcode content payload ext_rcode)
unfolding edns_after_rcode
after_rcode_leaves content payload ext_rcode bytes found rest e =
    let d = then_some (octet bytes) _ _ e in
    let f = then_some (number w16 d.0.1) _ _ d.2 in
    let v = then_some (prefixed w16 content f.0.1) _ _ f.2 in
    let same = some_pair_parts (record { payload = payload; ext_rcode = ext_rcode; version = d.0.0; flags = f.0.0; content = v.0.0 }) found v.0.1 rest v.2 in
    let trailing = follows_both d.0.1 f.0.1 v.0.1 (number_leaves w16 d.0.1 f.0.0 f.0.1 f.1) (prefixed_leaves w16 content f.0.1 v.0.0 v.0.1 v.1) in
    subst (λ (l : List ℕ). Follows l bytes) same.1 (follows_both bytes d.0.1 v.0.1 (octet_leaves bytes d.0.0 d.0.1 d.1) trailing)

pub edns_leaves : {D : Type 0} (content : List ℕ → Option (D × List ℕ)) → LeavesRest (edns_at content)
unfolding edns_at
edns_leaves content bytes found rest e =
    let a = then_some (after_fixed_header bytes) _ _ e in
    let b = then_some (number w16 a.0) _ _ a.2 in
    let c = then_some (octet b.0.1) _ _ b.2 in
    let prefix = follows_both bytes a.0 b.0.1 (fixed_header_leaves bytes a.0 a.1) (number_leaves w16 a.0 b.0.0 b.0.1 b.1) in
    let trailing = follows_both b.0.1 c.0.1 rest (octet_leaves b.0.1 c.0.0 c.0.1 c.1) (after_rcode_leaves content b.0.0 c.0.0 c.0.1 found rest c.2) in
    follows_both bytes b.0.1 rest prefix trailing
