use Rattle.std.proofs.Common.{refl, rules}
use Rattle.dns_edns.specs.Cookies.IsRefused.{OtherVersion, OtherSize, OtherMoment}
use Rattle.dns_edns.proofs.cookie.Cookie.verify.Goals as goal
use Rattle.dns_edns.proofs.cookie.Cookie.verify.Goals.{then-version-ne1-via-then-version-ne1, then-version-ne1-via-else-version-ne1+then-hashed-ne8, then-version-ne1-via-else-version-ne1+else-hashed-ne8+then-not-is_within}

pub returns-then-version-ne1-clause-refused : goal.returns-then-version-ne1-clause-refused
returns-then-version-ne1-clause-refused g c = (
  λ err. elim c.then-version-ne1.branch [
    | then-version-ne1-via-then-version-ne1 w ↦ OtherVersion (search rules)
    | then-version-ne1-via-else-version-ne1+then-hashed-ne8 w ↦ OtherSize (search rules)
    | then-version-ne1-via-else-version-ne1+else-hashed-ne8+then-not-is_within w ↦ OtherMoment (search rules)
  ],
  λ refused. refl,
)
