-- Each return is where the fields before are alike and the next decides.
use Rattle.std.proofs.Common.{ℕ, List, sym, ◌∙◌, true, [], ◌∷◌}
use Rattle.std.specs.Int.{w32}
use Rattle.dns_record.specs.Fields.{Field}
use Rattle.dns_record.specs.Fields.FieldOf.{CompressibleName, Number}
use Rattle.dns_record.proofs.ComparedOctets.{first_ties, first_decides, last_decides}
use Rattle.dns_basic.specs.declared.soa.Soa.{Soa}
use Rattle.dns_basic.proofs.soa.SoaCanonicalRecordData.cmp_canonical.Goals as goal

abbrev after_expire : {N : Type 0} → Soa N → List Field
after_expire v = Number w32 v.minimum.value ∷ []

abbrev after_retry : {N : Type 0} → Soa N → List Field
after_retry v = Number w32 v.expire.value ∷ after_expire v

abbrev after_refresh : {N : Type 0} → Soa N → List Field
after_refresh v = Number w32 v.retry.value ∷ after_retry v

abbrev after_serial : {N : Type 0} → Soa N → List Field
after_serial v = Number w32 v.refresh.value ∷ after_refresh v

abbrev after_rname : {N : Type 0} → Soa N → List Field
after_rname v = Number w32 v.serial.0.value ∷ after_serial v

abbrev after_mname : {N : Type 0} → (N → List (List ℕ)) → Soa N → List Field
after_mname name v = CompressibleName (name v.rname) ∷ after_rname v

pub returns-in_default : goal.returns-in_default
returns-in_default g c =
    let name = g.N.CanonicalName.name in let a = c.args.self.now in let b = c.args.other.now in
    first_decides true (CompressibleName (name a.mname)) (CompressibleName (name b.mname)) (after_mname name a) (after_mname name b) _ c.cmp_lowercase_composed.ensures.names c.cmp_lowercase_composed.ensures.order c.in_default.not-Equal

pub returns-in_default-cmp_lowercase_composed : goal.returns-in_default-cmp_lowercase_composed
returns-in_default-cmp_lowercase_composed g c =
    let name = g.N.CanonicalName.name in let a = c.args.self.now in let b = c.args.other.now in
    first_ties true (CompressibleName (name a.mname)) (CompressibleName (name b.mname)) (after_mname name a) (after_mname name b) _ c.cmp_lowercase_composed.ensures.names (sym c.cmp_lowercase_composed.ensures.order ∙ c.in-Equal.is) (
    first_decides true (CompressibleName (name a.rname)) (CompressibleName (name b.rname)) (after_rname a) (after_rname b) _ c.cmp_lowercase_composed-2.ensures.names c.cmp_lowercase_composed-2.ensures.order c.in_default-cmp_lowercase_composed.not-Equal)

pub returns-in_default-compare : goal.returns-in_default-compare
returns-in_default-compare g c =
    let name = g.N.CanonicalName.name in let a = c.args.self.now in let b = c.args.other.now in
    first_ties true (CompressibleName (name a.mname)) (CompressibleName (name b.mname)) (after_mname name a) (after_mname name b) _ c.cmp_lowercase_composed.ensures.names (sym c.cmp_lowercase_composed.ensures.order ∙ c.in-Equal.is) (
    first_ties true (CompressibleName (name a.rname)) (CompressibleName (name b.rname)) (after_rname a) (after_rname b) _ c.cmp_lowercase_composed-2.ensures.names (sym c.cmp_lowercase_composed-2.ensures.order ∙ c.in-Equal-cmp_lowercase_composed.is) (
    first_decides true (Number w32 a.serial.0.value) (Number w32 b.serial.0.value) (after_serial a) (after_serial b) _ c.compare.ensures.fits c.compare.ensures.order c.in_default-compare.not-Equal))

pub returns-in_default-compare-2 : goal.returns-in_default-compare-2
returns-in_default-compare-2 g c =
    let name = g.N.CanonicalName.name in let a = c.args.self.now in let b = c.args.other.now in
    first_ties true (CompressibleName (name a.mname)) (CompressibleName (name b.mname)) (after_mname name a) (after_mname name b) _ c.cmp_lowercase_composed.ensures.names (sym c.cmp_lowercase_composed.ensures.order ∙ c.in-Equal.is) (
    first_ties true (CompressibleName (name a.rname)) (CompressibleName (name b.rname)) (after_rname a) (after_rname b) _ c.cmp_lowercase_composed-2.ensures.names (sym c.cmp_lowercase_composed-2.ensures.order ∙ c.in-Equal-cmp_lowercase_composed.is) (
    first_ties true (Number w32 a.serial.0.value) (Number w32 b.serial.0.value) (after_serial a) (after_serial b) _ c.compare.ensures.fits (sym c.compare.ensures.order ∙ c.in-Equal-compare.is) (
    first_decides true (Number w32 a.refresh.value) (Number w32 b.refresh.value) (after_refresh a) (after_refresh b) _ c.compare-2.ensures.fits c.compare-2.ensures.order c.in_default-compare-2.not-Equal)))

pub returns-in_default-compare-3 : goal.returns-in_default-compare-3
returns-in_default-compare-3 g c =
    let name = g.N.CanonicalName.name in let a = c.args.self.now in let b = c.args.other.now in
    first_ties true (CompressibleName (name a.mname)) (CompressibleName (name b.mname)) (after_mname name a) (after_mname name b) _ c.cmp_lowercase_composed.ensures.names (sym c.cmp_lowercase_composed.ensures.order ∙ c.in-Equal.is) (
    first_ties true (CompressibleName (name a.rname)) (CompressibleName (name b.rname)) (after_rname a) (after_rname b) _ c.cmp_lowercase_composed-2.ensures.names (sym c.cmp_lowercase_composed-2.ensures.order ∙ c.in-Equal-cmp_lowercase_composed.is) (
    first_ties true (Number w32 a.serial.0.value) (Number w32 b.serial.0.value) (after_serial a) (after_serial b) _ c.compare.ensures.fits (sym c.compare.ensures.order ∙ c.in-Equal-compare.is) (
    first_ties true (Number w32 a.refresh.value) (Number w32 b.refresh.value) (after_refresh a) (after_refresh b) _ c.compare-2.ensures.fits (sym c.compare-2.ensures.order ∙ c.in-Equal-compare-2.is) (
    first_decides true (Number w32 a.retry.value) (Number w32 b.retry.value) (after_retry a) (after_retry b) _ c.compare-3.ensures.fits c.compare-3.ensures.order c.in_default-compare-3.not-Equal))))

pub returns-in_default-compare-4 : goal.returns-in_default-compare-4
returns-in_default-compare-4 g c =
    let name = g.N.CanonicalName.name in let a = c.args.self.now in let b = c.args.other.now in
    first_ties true (CompressibleName (name a.mname)) (CompressibleName (name b.mname)) (after_mname name a) (after_mname name b) _ c.cmp_lowercase_composed.ensures.names (sym c.cmp_lowercase_composed.ensures.order ∙ c.in-Equal.is) (
    first_ties true (CompressibleName (name a.rname)) (CompressibleName (name b.rname)) (after_rname a) (after_rname b) _ c.cmp_lowercase_composed-2.ensures.names (sym c.cmp_lowercase_composed-2.ensures.order ∙ c.in-Equal-cmp_lowercase_composed.is) (
    first_ties true (Number w32 a.serial.0.value) (Number w32 b.serial.0.value) (after_serial a) (after_serial b) _ c.compare.ensures.fits (sym c.compare.ensures.order ∙ c.in-Equal-compare.is) (
    first_ties true (Number w32 a.refresh.value) (Number w32 b.refresh.value) (after_refresh a) (after_refresh b) _ c.compare-2.ensures.fits (sym c.compare-2.ensures.order ∙ c.in-Equal-compare-2.is) (
    first_ties true (Number w32 a.retry.value) (Number w32 b.retry.value) (after_retry a) (after_retry b) _ c.compare-3.ensures.fits (sym c.compare-3.ensures.order ∙ c.in-Equal-compare-3.is) (
    first_decides true (Number w32 a.expire.value) (Number w32 b.expire.value) (after_expire a) (after_expire b) _ c.compare-4.ensures.fits c.compare-4.ensures.order c.in_default-compare-4.not-Equal)))))

pub returns : goal.returns
returns g c =
    let name = g.N.CanonicalName.name in let a = c.args.self.now in let b = c.args.other.now in
    first_ties true (CompressibleName (name a.mname)) (CompressibleName (name b.mname)) (after_mname name a) (after_mname name b) _ c.cmp_lowercase_composed.ensures.names (sym c.cmp_lowercase_composed.ensures.order ∙ c.in-Equal.is) (
    first_ties true (CompressibleName (name a.rname)) (CompressibleName (name b.rname)) (after_rname a) (after_rname b) _ c.cmp_lowercase_composed-2.ensures.names (sym c.cmp_lowercase_composed-2.ensures.order ∙ c.in-Equal-cmp_lowercase_composed.is) (
    first_ties true (Number w32 a.serial.0.value) (Number w32 b.serial.0.value) (after_serial a) (after_serial b) _ c.compare.ensures.fits (sym c.compare.ensures.order ∙ c.in-Equal-compare.is) (
    first_ties true (Number w32 a.refresh.value) (Number w32 b.refresh.value) (after_refresh a) (after_refresh b) _ c.compare-2.ensures.fits (sym c.compare-2.ensures.order ∙ c.in-Equal-compare-2.is) (
    first_ties true (Number w32 a.retry.value) (Number w32 b.retry.value) (after_retry a) (after_retry b) _ c.compare-3.ensures.fits (sym c.compare-3.ensures.order ∙ c.in-Equal-compare-3.is) (
    first_ties true (Number w32 a.expire.value) (Number w32 b.expire.value) (after_expire a) (after_expire b) _ c.compare-4.ensures.fits (sym c.compare-4.ensures.order ∙ c.in-Equal-compare-4.is) (
    last_decides true (Number w32 a.minimum.value) (Number w32 b.minimum.value) _ c.compare-5.ensures.fits c.compare-5.ensures.order))))))
