use Rattle.std.proofs.Common.{◌<◌, ◌∙◌, codes, refl, slice_index, sym}
use Rattle.std.proofs.lemmas.List.{map-id}
use Rattle.std.proofs.lemmas.Simd.{Each1-from_get_or, splat_is_map, zip2_of_maps, zip2_splat}
use Rattle.dns_wire.proofs.Lanes.{at_each, chosen}
use Rattle.dns_text.proofs.Lanes.{below, more}
use Rattle.dns_text.proofs.ShownBlocks.{digit_lane}
use Rattle.dns_text.proofs.write_digits.digits_of.Goals as goal

pub returns : goal.returns
returns c =
    let v = c.args.values in
    let long = c.fits-values.0 in
    let test = zip2_of_maps below (λ _. 9) (λ x. x) v (splat_is_map v 16 9 long) (sym (map-id v)) in
    chosen (λ x. below 9 x) (λ x. more x 87) (λ x. more x 48) v test (zip2_splat more v 16 87 long) (zip2_splat more v 16 48 long)
    ∙ at_each digit_lane (slice_index (codes "0123456789abcdef")) 16 refl v (Each1-from_get_or (λ x. x < 16) v 0 (λ k within. c.requires k 0 within))
