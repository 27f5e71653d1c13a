-- The order of signatures: the numbers before the signer, the signer, and the signature, where the first that differs decides.
use Rattle.std.proofs.Common.{◌≡◌, ◌<◌, ◌^◌, true, sym, nat_cmp}
use Rattle.std.specs.Ordering.{ordering_then}
use Rattle.std.specs.Cmp.Lexicographic.{slice_cmp}
use Rattle.std.specs.declared.cmp.Ordering.{Ordering}
use Rattle.dns_wire.specs.Names.{IsName, name_labels}
use Rattle.dns_name.specs.Composed.{lowercase_composed_cmp}
use Rattle.dns_record.specs.Canonical.{ranked_cmp}
use Rattle.dns_record.specs.Fields.{canonical_octets}
use Rattle.dns_record.proofs.ComparedOctets.{fields_compared, then_assoc}
use Rattle.dns_sec.specs.Types.{rrsig_fields}
use Rattle.dns_sec.specs.declared.rrsig.Rrsig.{Rrsig}

-- the numbers fit their widths, and the signer is a name
pub record IsWell (v : Rrsig) : Type 0 where
  pub rtype : v.rtype.code.value < 2 ^ 16
  pub ttl : v.ttl.value.value < 2 ^ 32
  pub expiration : v.expiration.0.value < 2 ^ 32
  pub inception : v.inception.0.value < 2 ^ 32
  pub keytag : v.keytag.value < 2 ^ 16
  pub signer : IsName (name_labels v.signer.slice.now)

abbrev pub fixed_cmp : Rrsig → Rrsig → Ordering
fixed_cmp v w =
    ordering_then (ordering_then (ordering_then (ordering_then (ordering_then (ordering_then (nat_cmp v.rtype.code.value w.rtype.code.value) (nat_cmp v.algorithm.code w.algorithm.code)) (nat_cmp v.labels w.labels)) (nat_cmp v.ttl.value.value w.ttl.value.value)) (nat_cmp v.expiration.0.value w.expiration.0.value)) (nat_cmp v.inception.0.value w.inception.0.value)) (nat_cmp v.keytag.value w.keytag.value)

abbrev pub signed_cmp : Rrsig → Rrsig → Ordering
signed_cmp v w = ordering_then (lowercase_composed_cmp (name_labels v.signer.slice.now) (name_labels w.signer.slice.now)) (slice_cmp nat_cmp v.signature.now w.signature.now)

pub signatures_compared : (v w : Rrsig) → IsWell v → IsWell w → ordering_then (fixed_cmp v w) (signed_cmp v w) ≡ ranked_cmp 0 0 (canonical_octets 46 (rrsig_fields v)) (canonical_octets 46 (rrsig_fields w))
signatures_compared v w p q =
    simp then_assoc
    (sym (fields_compared true (rrsig_fields v) (rrsig_fields w) ((p.rtype, q.rtype), (tt, (tt, ((p.ttl, q.ttl), ((p.expiration, q.expiration), ((p.inception, q.inception), ((p.keytag, q.keytag), ((p.signer, q.signer), tt))))))))))
