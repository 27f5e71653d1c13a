-- Values that are written one after another, and those that has a layout: what is written of each is what its
-- parts write.
use Rattle.std.proofs.Common.{◌≡◌, ℕ, List, [], ◌∷◌, ◌++◌, Option, Some, None, sym, ap, ◌∙◌, append_assoc}
use Rattle.std.proofs.lemmas.List.{append-nil}
use Rattle.dns_wire.specs.Compression.{CompressedWrite}
use Rattle.dns_wire.specs.Layout.{LayoutPart, part_writes, then_writes, list_writes, laid, LayoutMatches, both_layouts}

-- ---- lists

-- a list of one value
pub list_writes-one : {A : Type 0} (writes : A → CompressedWrite) (value : A) (contents places : List ℕ) → list_writes writes (value ∷ []) contents places ≡ writes value contents places
unfolding list_writes
list_writes-one writes value contents places = ap (λ (o : List ℕ). (o, (writes value contents places).1)) (append-nil (writes value contents places).0)

-- a list that is cut in two
pub list_writes-append : {A : Type 0} (writes : A → CompressedWrite) (values others : List A) (contents places : List ℕ) → list_writes writes (values ++ others) contents places ≡ then_writes (list_writes writes values) (list_writes writes others) contents places
unfolding list_writes
list_writes-append writes [] others contents places = ap (λ (c : List ℕ). list_writes writes others c places) (sym (append-nil contents))
list_writes-append writes (value ∷ values) others contents places =
    let later = list_writes writes others in
    let first = writes value contents places in
    let second = list_writes writes values (contents ++ first.0) first.1 in
    ap (λ (r : List ℕ × List ℕ). (first.0 ++ r.0, r.1)) (list_writes-append writes values others (contents ++ first.0) first.1)
    ∙ ap (λ (c : List ℕ). (first.0 ++ (second.0 ++ (later c second.1).0), (later c second.1).1)) (append_assoc contents first.0 second.0)
    ∙ ap (λ (o : List ℕ). (o, (later (contents ++ (first.0 ++ second.0)) second.1).1)) (sym (append_assoc first.0 second.0 (later (contents ++ (first.0 ++ second.0)) second.1).0))

-- ---- parts

-- a value that is one part
pub part_matches : (part : LayoutPart) → LayoutMatches (Some (part ∷ [])) (part_writes part)
part_matches part contents places = sym (list_writes-one part_writes part contents places)

-- two values, one after the other
pub then_matches : (first second : CompressedWrite) (layout others : Option (List LayoutPart)) → LayoutMatches layout first → LayoutMatches others second → LayoutMatches (both_layouts layout others) (then_writes first second)
then_matches first second None others t u = tt
then_matches first second (Some layout) None t u = tt
then_matches first second (Some layout) (Some others) t u = λ contents places.
    ap (λ (r : List ℕ × List ℕ). ((first contents places).0 ++ r.0, r.1)) (u (contents ++ (first contents places).0) (first contents places).1)
    ∙ ap (λ (o : List ℕ × List ℕ). (o.0 ++ (laid others (contents ++ o.0) o.1).0, (laid others (contents ++ o.0) o.1).1)) (t contents places)
    ∙ sym (list_writes-append part_writes layout others contents places)
