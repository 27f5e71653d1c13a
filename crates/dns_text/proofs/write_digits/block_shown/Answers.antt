use Rattle.std.proofs.Common.{ℕ, ◌/◌, ◌^◌, bit_and, refl, ap, ◌∙◌}
use Rattle.std.proofs.lemmas.Simd.{zip2_splat}
use Rattle.dns_text.proofs.ShownBlocks.{all_small, block_is, digits_of}
use Rattle.dns_text.proofs.write_digits.block_shown.Goals as goal

pub digits_of-high-requires : goal.digits_of-high-requires
digits_of-high-requires c = all_small (λ b. b / 16) refl c.args.octets c.fits-octets.1 (zip2_splat {Y = ℕ} (λ a b. a / 2 ^ b) c.args.octets 16 4 c.fits-octets.0)

pub digits_of-low-requires : goal.digits_of-low-requires
digits_of-low-requires c = all_small (λ b. bit_and b 15) refl c.args.octets c.fits-octets.1 (zip2_splat bit_and c.args.octets 16 15 c.fits-octets.0)

pub returns : goal.returns
returns c =
    let octets = c.args.octets in
    let halves =
    block_is octets c.fits-octets (c.digits_of-high.ensures ∙ ap digits_of (zip2_splat {Y = ℕ} (λ a b. a / 2 ^ b) octets 16 4 c.fits-octets.0))
    (c.digits_of-low.ensures ∙ ap digits_of (zip2_splat bit_and octets 16 15 c.fits-octets.0)) in
    record { first = halves.0; second = halves.1 }
