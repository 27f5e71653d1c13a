use Rattle.std.proofs.Common.{◌≡◌, ℕ, List, ◌++◌, length, refl, ap, ap₂, ◌∙◌, arith}
use Rattle.dns_edns.proofs.Fronts.{filled}
use Rattle.dns_edns.proofs.client_cookie.ClientCookie.unhashed.Goals as goal

pub returns : goal.returns
returns c =
    let prefix = c.copy_from_slice.new.self in
    let part = c.copy_from_slice-2.new.self in
    let long : length prefix ≡ 8 = omega (arith, c.copy_from_slice.ensures.len, ap length c.copy_from_slice.ensures.after) in
    filled 8 _ prefix part long refl ∙ ap₂ (λ (x y : List ℕ). x ++ y) c.copy_from_slice.ensures.after (c.copy_from_slice-2.ensures.after ∙ rw (c.to_be_bytes-time.ensures, c.get.ensures) refl)
