use Rattle.std.proofs.Common.{◌≡◌, ℕ, List, ◌++◌, length, refl, ap, ap₂, ◌∙◌, arith}
use Rattle.dns_edns.proofs.Fronts.{filled}
use Rattle.dns_edns.proofs.client_cookie.ClientCookie.response.Goals as goal

pub returns : goal.returns
returns g c =
    let prefix = c.copy_from_slice.new.self in
    let part = c.copy_from_slice-2.new.self in
    let long : length prefix ≡ 16 = omega (arith, c.copy_from_slice.ensures.len, ap length c.copy_from_slice.ensures.after) in
    filled 8 _ prefix part long refl
    ∙ ap₂ (λ (x y : List ℕ). x ++ y) (c.copy_from_slice.ensures.after ∙ c.unhashed-prefix.ensures) (c.copy_from_slice-2.ensures.after ∙ c.server_hash-hashed.ensures ∙ rw c.unhashed-prefix.ensures refl)
