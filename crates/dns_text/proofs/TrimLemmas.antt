-- A text without the whitespace at its end.
use Rattle.std.proofs.Common.{◌≡◌, ◌||◌, inl, inr, ℕ, ◌==◌, List, [], ◌∷◌, ◌++◌, Bool, true, false, true≢false, get_or, drop, length, refl, sym, ap, ◌∙◌, subst, arith}
use Rattle.std.proofs.lemmas.Bool.{eqb-true}
use Rattle.std.specs.List.{AllByRecursion}
use Rattle.dns_text.specs.Hexadecimal.{IsWhitespace, Trimmed, is_whitespace, trim, trim_cons}

-- no list is empty and has an octet
nil_cons : (x : ℕ) (xs : List ℕ) → [] ≡ x ∷ xs → ⊥
nil_cons x xs e = absurd (omega (arith, ap length e))

nil_snoc : (xs : List ℕ) (x : ℕ) → [] ≡ xs ++ x ∷ [] → ⊥
nil_snoc [] x e = nil_cons x [] e
nil_snoc (y ∷ ys) x e = nil_cons y (ys ++ x ∷ []) e

-- ---- whitespace by the test

either : (p q r s : Bool) (P : Type 0) → (p || q || r || s) ≡ true → (p ≡ true → P) → (q ≡ true → P) → (r ≡ true → P) → (s ≡ true → P) → P
either true q r s P h f g j k = f refl
either false true r s P h f g j k = g refl
either false false true s P h f g j k = j refl
either false false false true P h f g j k = k refl
either false false false false P h f g j k = absurd (true≢false (sym h))

blank_is : (b : ℕ) → is_whitespace b ≡ true → IsWhitespace b
blank_is b h =
    either (b == 32) (b == 9) (b == 13) (b == 10) (IsWhitespace b) h
    (λ e. inl (eqb-true b 32 e)) (λ e. inr (inl (eqb-true b 9 e))) (λ e. inr (inr (inl (eqb-true b 13 e)))) (λ e. inr (inr (inr (eqb-true b 10 e))))

blank_tests : (b : ℕ) → IsWhitespace b → is_whitespace b ≡ true
blank_tests b (inl e) = rw e refl
blank_tests b (inr (inl e)) = rw e refl
blank_tests b (inr (inr (inl e))) = rw e refl
blank_tests b (inr (inr (inr e))) = rw e refl

solid_tests : (b : ℕ) (t : Bool) → is_whitespace b ≡ t → ¬ IsWhitespace b → is_whitespace b ≡ false
solid_tests b true e none = absurd (none (blank_is b e))
solid_tests b false e none = e

blanks_are : (bs : List ℕ) → AllByRecursion (λ b. is_whitespace b ≡ true) bs → AllByRecursion IsWhitespace bs
blanks_are [] all = tt
blanks_are (b ∷ bs) all = (blank_is b all.0, blanks_are bs all.1)

blanks_test : (bs : List ℕ) → AllByRecursion IsWhitespace bs → AllByRecursion (λ b. is_whitespace b ≡ true) bs
blanks_test [] all = tt
blanks_test (b ∷ bs) all = (blank_tests b all.0, blanks_test bs all.1)

-- a trimmed text by the test
record Tested (text prefix : List ℕ) : Type 0 where
  whitespace : List ℕ
  text_is : text ≡ prefix ++ whitespace
  blank : AllByRecursion (λ b. is_whitespace b ≡ true) whitespace
  solid : (before : List ℕ) (b : ℕ) → prefix ≡ before ++ b ∷ [] → is_whitespace b ≡ false

-- ---- what is left is trimmed

-- one octet that is not whitespace
one_solid : (b : ℕ) → is_whitespace b ≡ false → (before : List ℕ) (d : ℕ) → b ∷ [] ≡ before ++ d ∷ [] → is_whitespace d ≡ false
one_solid b h [] d e = let same : b ≡ d = ap (λ (l : List ℕ). get_or l 0 0) e in rw (← same) h
one_solid b h (x ∷ xs) d e = absurd (nil_snoc xs d (ap (drop 1) e))

-- an octet before others that do not end in whitespace
more_solid : (b c : ℕ) (rest : List ℕ) → ((before : List ℕ) (d : ℕ) → c ∷ rest ≡ before ++ d ∷ [] → is_whitespace d ≡ false)
    → (before : List ℕ) (d : ℕ) → b ∷ c ∷ rest ≡ before ++ d ∷ [] → is_whitespace d ≡ false
more_solid b c rest h [] d e = absurd (nil_cons c rest (sym (ap (drop 1) e)))
more_solid b c rest h (x ∷ xs) d e = h xs d (ap (drop 1) e)

-- an octet before a text whose prefix is this
trimmed_cons : (b : ℕ) (rest prefix : List ℕ) (blank : Bool) → is_whitespace b ≡ blank → Tested rest prefix → Tested (b ∷ rest) (trim_cons b prefix)
trimmed_cons b rest [] true h t = rw h (record { whitespace = b ∷ t.whitespace; text_is = ap (λ (l : List ℕ). b ∷ l) t.text_is; blank = (h, t.blank); solid = λ before d e. absurd (nil_snoc before d e) })
trimmed_cons b rest [] false h t = rw h (record { whitespace = t.whitespace; text_is = ap (λ (l : List ℕ). b ∷ l) t.text_is; blank = t.blank; solid = one_solid b h })
trimmed_cons b rest (c ∷ prefix) blank h t = record { whitespace = t.whitespace; text_is = ap (λ (l : List ℕ). b ∷ l) t.text_is; blank = t.blank; solid = more_solid b c prefix t.solid }

trims_tested : (text : List ℕ) → Tested text (trim text)
unfolding trim
trims_tested [] = record { whitespace = []; text_is = refl; blank = tt; solid = λ before d e. absurd (nil_snoc before d e) }
trims_tested (b ∷ rest) = trimmed_cons b rest (trim rest) (is_whitespace b) refl (trims_tested rest)

-- ---- there is one such prefix

-- nothing is left of whitespace
trim-whitespace : (text : List ℕ) → AllByRecursion (λ b. is_whitespace b ≡ true) text → trim text ≡ []
unfolding trim
trim-whitespace [] all = refl
trim-whitespace (b ∷ rest) all = rw (trim-whitespace rest all.1) (rw all.0 refl)

-- an octet that does not end in whitespace, or others after it that do
kept_cons : (b : ℕ) (prefix : List ℕ) → ((before : List ℕ) (d : ℕ) → b ∷ prefix ≡ before ++ d ∷ [] → is_whitespace d ≡ false) → b ∷ prefix ≡ trim_cons b prefix
kept_cons b [] solid = rw (solid [] b refl) refl
kept_cons b (c ∷ prefix) solid = refl

tested_one : (text prefix : List ℕ) → Tested text prefix → prefix ≡ trim text
unfolding trim
tested_one text [] t = sym (trim-whitespace text (subst (AllByRecursion (λ b. is_whitespace b ≡ true)) (sym t.text_is) t.blank))
tested_one [] (x ∷ prefix) t = absurd (nil_cons x (prefix ++ t.whitespace) t.text_is)
tested_one (b ∷ rest) (x ∷ prefix) t =
    let same : b ≡ x = ap (λ (l : List ℕ). get_or l 0 0) t.text_is in
    let later : Tested rest prefix = record { whitespace = t.whitespace; text_is = ap (drop 1) t.text_is; blank = t.blank; solid = λ before d e. t.solid (x ∷ before) d (ap (λ (l : List ℕ). x ∷ l) e) } in
    kept_cons x prefix t.solid ∙ ap (λ (l : List ℕ). trim_cons x l) (tested_one rest prefix later) ∙ ap (λ (c : ℕ). trim_cons c (trim rest)) (sym same)

-- ---- in words

pub trims : (text : List ℕ) → Trimmed text (trim text)
trims text =
    let t : Tested text (trim text) = trims_tested text in
    record {
      whitespace = t.whitespace;
      text_is = t.text_is;
      blank = blanks_are t.whitespace t.blank;
      solid = λ before last e is. true≢false (sym (blank_tests last is) ∙ t.solid before last e);
    }

pub trims_one : (text left : List ℕ) → Trimmed text left → left ≡ trim text
trims_one text left t =
    tested_one text left (record {
      whitespace = t.whitespace;
      text_is = t.text_is;
      blank = blanks_test t.whitespace t.blank;
      solid = λ before b e. solid_tests b (is_whitespace b) refl (t.solid before b e);
    })
