use Rattle.std.proofs.Common.{◌≡◌, ◌+◌, ℕ, List, ◌++◌, length, ap, ap₂, ◌∙◌, arith}
use Rattle.dns_edns.proofs.Fronts.{trailing}
use Rattle.dns_edns.proofs.keyed_hash.server_hash.Goals as goal

pub returns : goal.returns
returns g c =
    let prefix = c.copy_from_slice.new.self in
    let part = c.copy_from_slice-2.new.self in
    let long : length prefix ≡ 16 = omega (arith, c.copy_from_slice.ensures.len, ap length c.copy_from_slice.ensures.after) in
    c.hash.ensures
    ∙ ap (g.H.KeyedHash.keyed c.args.hash.now c.args.secret.now)
    (trailing _ _ prefix part long (16 + length c.octets-octets.result.now) (omega (arith, ap length c.copy_from_slice-2.ensures.after))
    ∙ ap₂ (λ (x y : List ℕ). x ++ y) c.copy_from_slice.ensures.after (c.copy_from_slice-2.ensures.after ∙ c.octets-octets.ensures.octets))
