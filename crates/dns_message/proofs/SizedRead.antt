-- The parts of data that were written after their size are read again.
use Rattle.std.proofs.Common.{◌≡◌, ℕ, ◌+◌, ◌≤◌, List, ◌∷◌, ◌++◌, length, take, refl, sym, ap, subst, ◌∙◌, append_assoc, arith, Option, Some}
use Rattle.std.specs.Int.{Width, to_be_bytes}
use Rattle.std.specs.List.{AllByRecursion}
use Rattle.std.proofs.lemmas.List.{drop_at, take_at, length-append}
use Rattle.dns_wire.specs.Compression.{CompressedWrite, FitsIn, Grows}
use Rattle.dns_wire.specs.Layout.{LayoutPart, laid, LayoutMatches}
use Rattle.dns_wire.specs.Layout.LayoutPart.{OctetsPart}
use Rattle.dns_message.specs.LayoutRead.{IsLayoutPart, LayoutAt}
use Rattle.dns_message.proofs.Laid.{Runs, laid_fits, laid_grows, laid_runs}
use Rattle.dns_wire.proofs.RisingPlaces.{all_map}
use Rattle.dns_wire.proofs.RunLemmas.{fits_more}
use Rattle.dns_num.specs.InMessage.{zeros, sized_compressed_writes}
use Rattle.dns_num.proofs.SizePrefixes.{number_long}
use Rattle.dns_num.proofs.OverwrittenOctets.{slot_fits}
use Rattle.dns_message.proofs.Surviving.{layout_slot}

module _ (w : Width) (layout : List LayoutPart) (contents places more : List ℕ) (fits : FitsIn places contents) (all : AllByRecursion IsLayoutPart layout) where
  abbrev prefix : List ℕ
  prefix = contents ++ zeros w

  abbrev inner : List ℕ × List ℕ
  inner = laid layout prefix places

  abbrev size : List ℕ
  size = to_be_bytes w (length inner.0)

  abbrev rest : List ℕ
  rest = inner.0 ++ more

  abbrev low : ℕ
  low = length contents + length (zeros w)

  low_is : length prefix ≡ low
  low_is = length-append contents (zeros w)

  zeros_fit : FitsIn places prefix
  zeros_fit = fits_more contents (zeros w) places fits

  grown : Grows places inner.1 (length prefix)
  grown = laid_grows layout prefix places zeros_fit all

  whole : (prefix ++ inner.0) ++ more ≡ contents ++ (zeros w ++ rest)
  whole = append_assoc prefix inner.0 more ∙ append_assoc contents (zeros w) rest

  all_fit : FitsIn (places ++ grown.added) (contents ++ (zeros w ++ rest))
  all_fit =
      subst (λ (k : List ℕ). FitsIn k (contents ++ (zeros w ++ rest))) grown.after_is
      (subst (FitsIn inner.1) whole (fits_more (prefix ++ inner.0) more inner.1 (laid_fits layout prefix places zeros_fit all)))

  trailing : AllByRecursion (λ place. low ≤ place) grown.added
  trailing = all_map (λ place. length prefix ≤ place) (λ place. low ≤ place) grown.added (λ p h. omega (arith, low_is)) grown.trailing

  runs : Runs (contents ++ (zeros w ++ rest)) (places ++ grown.added) low layout (low + length inner.0)
  runs =
      subst (λ (k : List ℕ). Runs (contents ++ (zeros w ++ rest)) k low layout (low + length inner.0)) grown.after_is
      (subst (λ (c : List ℕ). Runs c inner.1 low layout (low + length inner.0)) (append_assoc contents (zeros w) rest)
      (subst (λ (n : ℕ). Runs (prefix ++ rest) inner.1 n layout (n + length inner.0)) low_is (laid_runs layout prefix places more zeros_fit all)))

  same_long : length (zeros w) ≡ length size
  same_long = number_long w 0 ∙ sym (number_long w (length inner.0))

  filled : LayoutAt (contents ++ (size ++ rest)) low layout (low + length inner.0)
  filled = layout_slot contents (zeros w) size rest places grown.added same_long fits trailing all_fit layout low (low + length inner.0) (omega arith) runs

  pub sized_laid_read : LayoutAt ((contents ++ (sized_compressed_writes w (laid layout) contents places).0) ++ more) (length contents) (OctetsPart size ∷ layout) (length contents + length (sized_compressed_writes w (laid layout) contents places).0)
  sized_laid_read =
      let joined : contents ++ (size ++ rest) ≡ (contents ++ (size ++ inner.0)) ++ more = ap (λ (l : List ℕ). contents ++ l) (sym (append_assoc size inner.0 more)) ∙ sym (append_assoc contents (size ++ inner.0) more) in
      let end : low + length inner.0 ≡ length contents + length (size ++ inner.0) = omega (arith, length-append size inner.0, same_long) in
      let at : low ≡ length contents + length size = omega (arith, same_long) in
      subst (λ (c : List ℕ). LayoutAt c (length contents) (OctetsPart size ∷ layout) (length contents + length (size ++ inner.0))) joined (
        omega (arith, length-append contents (size ++ rest), length-append size rest),
        ap (take (length size)) (drop_at contents (size ++ rest) (length contents) refl) ∙ take_at size rest (length size) refl,
        subst (λ (n : ℕ). LayoutAt (contents ++ (size ++ rest)) n layout (length contents + length (size ++ inner.0))) at
            (subst (λ (n : ℕ). LayoutAt (contents ++ (size ++ rest)) low layout n) end filled),
      )

  -- and the places lead to names, once the size is where zeros were
  pub sized_laid_fits : FitsIn inner.1 (contents ++ (size ++ rest))
  sized_laid_fits =
      subst (λ (k : List ℕ). FitsIn k (contents ++ (size ++ rest))) (sym grown.after_is)
      (slot_fits contents (zeros w) size rest places grown.added same_long fits trailing all_fit)

-- and so of data that has a layout
pub sized_layout_read : (w : Width) (layout_matches : Option (List LayoutPart)) (writes : CompressedWrite) (layout : List LayoutPart) (contents places more : List ℕ) → LayoutMatches layout_matches writes → layout_matches ≡ Some layout → FitsIn places contents → AllByRecursion IsLayoutPart layout
    → LayoutAt ((contents ++ (sized_compressed_writes w writes contents places).0) ++ more) (length contents) (OctetsPart (to_be_bytes w (length (writes (contents ++ zeros w) places).0)) ∷ layout) (length contents + length (sized_compressed_writes w writes contents places).0)
sized_layout_read w layout_matches writes layout contents places more matches is fits all =
    let each : (c k : List ℕ) → writes c k ≡ laid layout c k = subst (λ (t : Option (List LayoutPart)). LayoutMatches t writes) is matches in
    let same : writes ≡ laid layout = λ i c k. each c k i in
    subst (λ (p : CompressedWrite). LayoutAt ((contents ++ (sized_compressed_writes w p contents places).0) ++ more) (length contents) (OctetsPart (to_be_bytes w (length (p (contents ++ zeros w) places).0)) ∷ layout) (length contents + length (sized_compressed_writes w p contents places).0)) (sym same)
    (sized_laid_read w layout contents places more fits all)
