use Rattle.std.proofs.Common.{◌≡◌, ℕ, ap, length, sym, take, ◌∙◌}
use Rattle.dns_wire.specs.Names.{lowered, wire}
use Rattle.dns_wire.proofs.Lowered.{lowered_long, name_lowered}
use Rattle.dns_message.proofs.LastOwners.{canonical_lowercase, canonical_name, owner_read}
use Rattle.dns_message.proofs.WrittenNames.{always_fits, written_first}
use Rattle.dns_message.proofs.last_owner.LastOwner.of.Goals as goal

pub unwrap-requires : goal.unwrap-requires
unwrap-requires c = always_fits _ _ _ _ c.build_lowercased_at.ensures (name_lowered c.args.name.now c.composed_size-size.ensures.name).size

written : (c : goal.After-key-1) → take c.composed_size-size.result c.build_lowercased_at.new.bytes ≡ wire (lowered c.args.name.now)
written c =
    ap (λ (n : ℕ). take n c.build_lowercased_at.new.bytes) (c.composed_size-size.ensures.size ∙ sym (lowered_long c.args.name.now))
    ∙ written_first _ _ _ _ c.build_lowercased_at.ensures (name_lowered c.args.name.now c.composed_size-size.ensures.name).size

pub put_owner_key-requires-clause-name : goal.put_owner_key-requires-clause-name
put_owner_key-requires-clause-name c = canonical_name (take c.composed_size-size.result c.build_lowercased_at.new.bytes) c.args.name.now c.composed_size-size.ensures.name (written c)

pub put_owner_key-requires-clause-lowercase : goal.put_owner_key-requires-clause-lowercase
put_owner_key-requires-clause-lowercase c = canonical_lowercase (take c.composed_size-size.result c.build_lowercased_at.new.bytes) c.args.name.now c.composed_size-size.ensures.name (written c)

pub returns : goal.returns
returns c =
    let octets =
    ap (λ (n : ℕ). take n c.build_lowercased_at.new.bytes) (c.composed_size-size.ensures.size ∙ sym (lowered_long c.args.name.now))
    ∙ written_first _ _ _ _ c.build_lowercased_at.ensures (name_lowered c.args.name.now c.composed_size-size.ensures.name).size in
    let long : length (take c.composed_size-size.result c.build_lowercased_at.new.bytes) ≡ c.composed_size-size.result = ap length octets ∙ lowered_long c.args.name.now ∙ sym c.composed_size-size.ensures.size in
    owner_read (record { start = 0; end = 0; size = c.composed_size-size.result; octets = c.build_lowercased_at.new.bytes; key = c.put_owner_key.new.key }) c.args.name.now
    c.composed_size-size.ensures.name c.composed_size-size.ensures.size octets (ap (λ (n : ℕ). take n c.put_owner_key.new.key) (sym long) ∙ c.put_owner_key.ensures.key)
