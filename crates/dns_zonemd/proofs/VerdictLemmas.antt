-- What is printed for the sums and the ZONEMD records of a zone.
use Rattle.std.proofs.Common.{◌≡◌, ℕ, ◌+◌, ◌<◌, List, [], ◌∷◌, ◌++◌, codes, decimal, flat_map, get_or, length, take, sym, ap, ◌∙◌, append_assoc}
use Rattle.std.proofs.lemmas.List.{flat_map_more, take_more}
use Rattle.sha2.specs.Sha512.{sha384, sha512}
use Rattle.dns_text.specs.Hexadecimal.{line, shown}
use Rattle.dns_zonemd.specs.Verdicts.{sums_text}

-- the text of the sums
pub sums_are : (records octets : ℕ) (first second stream : List ℕ) (n : ℕ) → records ≡ n → octets ≡ length stream → first ≡ flat_map shown (sha384 stream) → second ≡ flat_map shown (sha512 stream)
    → codes "records " ++ (decimal records ++ (codes " octets " ++ (decimal octets ++ (10 ∷ codes "sha384 " ++ (first ++ (10 ∷ codes "sha512 " ++ (second ++ 10 ∷ []))))))) ≡ sums_text n stream
sums_are records octets first second stream n r o f s =
    (λ i. codes "records " ++ (decimal (r i) ++ (codes " octets " ++ (decimal (o i) ++ (10 ∷ codes "sha384 " ++ (f i ++ (10 ∷ codes "sha512 " ++ (s i ++ 10 ∷ []))))))))
    ∙ ap (λ (l : List ℕ). codes "records " ++ (decimal n ++ (codes " octets " ++ (decimal (length stream) ++ (10 ∷ codes "sha384 " ++ l)))))
    (sym (append_assoc (flat_map shown (sha384 stream)) (10 ∷ []) (codes "sha512 " ++ line (sha512 stream))))

-- what is appended for one more
pub one_more : {X : Type 0} (xs : List X) (f : X → List ℕ) (i : ℕ) (x : X) (start now new : List ℕ) → i < length xs → x ≡ get_or xs i x → now ≡ start ++ flat_map f (take i xs) → new ≡ now ++ f x
    → new ≡ start ++ flat_map f (take (i + 1) xs)
one_more {X = X} xs f i x start now new within at is more =
    more ∙ ap (λ (l : List ℕ). l ++ f x) is ∙ flat_map_more f start (take i xs) x
    ∙ ap (λ (l : List X). start ++ flat_map f l) (ap (λ (y : X). take i xs ++ y ∷ []) at ∙ sym (take_more xs i x within))
