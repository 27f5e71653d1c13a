use Rattle.std.proofs.Common.{bit_or}
use Rattle.std.proofs.lemmas.Simd.{splat_is_map, zip2_of_maps, zip2_splat}
use Rattle.dns_wire.proofs.Lanes.{chosen}
use Rattle.dns_text.proofs.Lanes.{below, less, more}
use Rattle.dns_text.proofs.DigitBlocks.{letter, numeral, values_read}
use Rattle.dns_text.proofs.read_digits.values_of.Goals as goal

pub returns : goal.returns
returns c =
    let v = c.args.digits in
    let long = c.fits-digits.0 in
    let numerals = zip2_splat less v 16 48 long in
    let letters = zip2_of_maps less (λ x. bit_or x 32) (λ _. 97) v (zip2_splat bit_or v 16 32 long) (splat_is_map v 16 97 long) in
    let is_numeral = zip2_of_maps below numeral (λ _. 10) v numerals (splat_is_map v 16 10 long) in
    let is_letter = zip2_of_maps below letter (λ _. 6) v letters (splat_is_map v 16 6 long) in
    let later = zip2_of_maps more letter (λ _. 10) v letters (splat_is_map v 16 10 long) in
    values_read v c.fits-digits (zip2_of_maps bit_or (λ x. below (numeral x) 10) (λ x. below (letter x) 6) v is_numeral is_letter)
    (chosen (λ x. below (numeral x) 10) numeral (λ x. more (letter x) 10) v is_numeral numerals later)
