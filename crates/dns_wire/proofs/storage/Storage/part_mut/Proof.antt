-- `part_mut` borrows octets of the array, from one place up to another. Assumes `Logic`.
use Rattle.std.proofs.Common.{◌≡◌, ℕ, ◌+◌, ◌-◌, ◌^◌, ◌<◌, ◌≤◌, List, [], ◌∷◌, ◌++◌, length, take, drop as drop_list, refl, sym, ap, ◌∙◌, arith, w64}
use Rattle.std.proofs.lemmas.List.{take-append-drop, length-append, length-drop, length-take-le, drop-drop, take_all}
use seplogic.Ra.Ura.{Ura}
use mir.Syntax.{Fn, named}
use mir.MapTy.{inst_fn}
use mir.Val.{Val, vptr, vint}
use base.Logic.{SProp, ent, sep, ex}
use base.Fml.{Fml, Lft, GName, Share, ftrue, flft}
use prog.Memory.{Memory, size}
use prog.Routine.{Routine}
use prog.Wp.{Calls, Loops, WpFn, Tables}
use contract.BorrowLft.{◌⊑◌}
use contract.Lifetimes.{AllOutlive}
use contract.Monad.{Fun}
use contract.Running.{tables, tables_of}
use sound.WpLaws.{WpFn-mono}
use types.Logic.{Logic, sem}
use types.Mut.{open_ref}
use types.Kit.{Item, ‵, ◌⊛◌, raw, given, some, later, ◌$◌, ◌∵◌, !, qed, by, move, keep, drop, split, split3, join, learn, fsplit, fsplit3, fjoin, use1, use2, await, pick, suffices, frame, done, updating, group, now, show, rewrite}
use types.SemTy.{cells}
use types.Part.{agg}
use types.Run.{stop, fld, addr, bin, and_then, no_more, returns, enter}
use types.ByLocal.{alloc_all, pass_all, free_all, look_at, get, through, sets}
use denote.Array.{Array}
use denote.Builtin.{u8, RefMutOf, usize}
use denote.Exit.{yes, no}
use denote.Follow.{follows}
use denote.FollowSlice.{lends_Elements}
use denote.Memory.{mem}
use denote.Param.{number, layout}
use denote.Plain.{uint_vals, uint_Tells}
use denote.RattleType.{owns}
use denote.Ref.{MutBor, MutRef, mut_vals, mut_Tells}
use denote.Signature.{plain}
use denote.Slice.{MutSlice, Room, slice_val}
use denote.Steps.{nothing}
use denote.Triple.Clauses.{Clauses, Ended, closing}
use denote.Triple.Entry.{on_entry}
use denote.Triple.Spec.{Meets, triple_of}
use denote.Triple.Table.{entered}
use denote.Triple.Walked.{says, Stays, stay_dropped, walk_of, ends_at, walked, Goes-dropped, Goes-spent_ref, walk_Meets}
use borrow.Table.Elements.{at, at_byte, cut_app, join_app}
use Rattle.dns_wire.specs.Storage.{overwritten}
use Rattle.dns_wire.specs.contracts.storage.Storage.part_mut as F
use Rattle.dns_wire.specs.contracts.storage.Storage.part_mut.Key.{name as #self}
use Rattle.dns_wire.proofs.Cells.{args, S, start, Left, octets_out, octets_in}
use Rattle.dns_wire.proofs.storage.Storage.part_mut.Statement.{statement}
use Rattle.dns_wire.proofs.storage.Storage.part_mut.Code as code

-- as many octets as were borrowed, between the others, are the array when it is written over
written_over : (xs ws : List ℕ) (i m : ℕ) → i + m ≤ length xs → length ws ≡ m → take i xs ++ (ws ++ drop_list m (drop_list i xs)) ≡ overwritten xs i ws
written_over xs ws i m room e =
    let trailing : drop_list m (drop_list i xs) ≡ drop_list (i + length ws) xs = drop-drop m i xs ∙ ap (λ (n : ℕ). drop_list n xs) (omega arith) in
    let long : length (take i xs ++ (ws ++ drop_list (i + length ws) xs)) ≤ length xs = omega (arith, length-append (take i xs) (ws ++ drop_list (i + length ws) xs), length-append ws (drop_list (i + length ws) xs), length-drop (i + length ws) xs, length-take-le i xs (omega arith)) in
    ap (λ (l : List ℕ). take i xs ++ (ws ++ l)) trailing ∙ sym (take_all (length xs) (take i xs ++ (ws ++ drop_list (i + length ws) xs)) long)

module _ (n : ℕ) where
  abbrev function : Fn
  function = inst_fn (args n) code.function

  abbrev ended : Ended
  ended = F.ended (number n)

  abbrev stayed : Stays ended.signature.params ended.kept
  stayed = (stay_dropped (RefMutOf (0 ∷ []) tt (plain (λ _. S n)) (λ _. tt)) no, (stay_dropped (plain (λ _. usize)) yes, (stay_dropped (plain (λ _. usize)) yes, tt)))

  module _ {M : Type 1} {𝓤 : Ura M} (𝓛 : Logic 𝓤) where
    open 𝓛 use {H, A}

    module _ (κ : Lft) (q : Share) (b o : ℕ) (γ : GName) (d : (S n).Denot) (i j : ℕ) where
      -- how many octets are borrowed, and where they lie
      abbrev m : ℕ
      m = j - i

      abbrev begin : ℕ
      begin = start n o

      abbrev spot : ℕ
      spot = i + begin

      abbrev prefix : List ℕ
      prefix = take i d.octets

      abbrev lent_out : List ℕ
      lent_out = take m (drop_list i d.octets)

      abbrev back : List ℕ
      back = drop_list m (drop_list i d.octets)

      abbrev after : List ℕ → (S n).Denot
      after ws = record { octets = overwritten d.octets i ws }

      abbrev octets : List ℕ → ℕ → Fml
      octets ws = cells (mem u8) ws b

      abbrev past : ℕ → ℕ → ℕ
      past from = at from (mem u8).size

      abbrev Rest : SProp 𝓤
      Rest = sep 𝓤 (sem 𝓛 (octets prefix begin)) (sep 𝓤 (sem 𝓛 (octets back (past spot (length lent_out)))) (Left n 𝓛 b o))

      begins : i ≤ length d.octets → past begin (length prefix) ≡ spot
      begins le = at_byte begin (length prefix) ∙ ap (λ (k : ℕ). k + begin) (length-take-le i d.octets le)

      put : i ≤ j → j ≤ n → length d.octets ≡ n → (ws : List ℕ) → length ws ≡ length lent_out → ent 𝓤 (sep 𝓤 (sem 𝓛 (octets ws spot)) Rest) (sem 𝓛 ((mem (S n)).own_at (after ws) b o))
      put order room long ws e =
          let count : length lent_out ≡ m = length-take-le m (drop_list i d.octets) (omega (arith, length-drop i d.octets)) in
          let same : prefix ++ (ws ++ back) ≡ (after ws).octets = written_over d.octets ws i m (omega arith) (e ∙ count) in
          let as_long : length (after ws).octets ≡ n = omega (arith, ap length same, length-append prefix (ws ++ back), length-append ws back, length-drop m (drop_list i d.octets), length-drop i d.octets, length-take-le i d.octets (omega arith), count) in
          qed 𝓛 (‵ (octets ws spot) ∷ ‵ (octets prefix begin) ∷ ‵ (octets back (past spot (length lent_out))) ∷ raw (Left n 𝓛 b o) ∷ []) ∵
          rewrite ! 2 (λ (k : ℕ). ‵ (octets back (past spot k))) (sym e) refl $ move ! (0 ∷ 2 ∷ []) $
          use2 𝓛 (‵ (octets (ws ++ back) spot)) (join_app 𝓛 (mem u8) ws back b spot) $
          rewrite ! 0 (λ (k : ℕ). ‵ (octets (ws ++ back) k)) (sym (begins (omega arith))) refl $ move ! (1 ∷ 0 ∷ []) $
          use2 𝓛 (‵ (octets (prefix ++ (ws ++ back)) begin)) (join_app 𝓛 (mem u8) prefix (ws ++ back) b begin) $
          rewrite ! 0 (λ (l : List ℕ). ‵ (octets l begin)) same refl $
          by ! (octets_in n 𝓛 b o (after ws) as_long)

      abbrev Lent : ℕ → GName → SProp 𝓤
      Lent k δ = sep 𝓤 (sem 𝓛 ((MutSlice (named 0) κ u8).own_val (record { ref_ptr = (b, spot); ghost_name = δ; now = lent_out }) (slice_val (b, spot) k ∷ []))) (sep 𝓤 (A.lft κ q) (sem 𝓛 (follows (S n) (Array u8 0) γ δ after)))

      abbrev lent : ℕ → GName → Item 𝓤
      lent k δ = ‵ ((MutSlice (named 0) κ u8).own_val (record { ref_ptr = (b, spot); ghost_name = δ; now = lent_out }) (slice_val (b, spot) k ∷ [])) ⊛ ‵ (flft κ q) ⊛ ‵ (follows (S n) (Array u8 0) γ δ after)

      lends : i ≤ j → j ≤ n → n < 2 ^ 63 → (vs : List Val)
          → ent 𝓤 (sep 𝓤 (sem 𝓛 ((MutRef (named 0) κ (S n)).own_val (record { ref_ptr = (b, o); ghost_name = γ; now = d }) vs)) (A.lft κ q)) (H.⇛ (ex 𝓤 (Lent m)))
      lends order room small vs =
          qed 𝓛 (‵ ((MutRef (named 0) κ (S n)).own_val (record { ref_ptr = (b, o); ghost_name = γ; now = d }) vs) ∷ ‵ (flft κ q) ∷ []) ∵
          updating ! $ fsplit3 ! $ drop ! $ open_ref ! tt (mem (S n)) {b = b} {o = o} $
          use1 𝓛 (given (length d.octets ≡ n) (‵ (octets d.octets begin) ⊛ raw (Left n 𝓛 b o))) (octets_out n 𝓛 b o d) $
          learn ! (λ long. split ! $
          let count : length lent_out ≡ m = length-take-le m (drop_list i d.octets) (omega (arith, length-drop i d.octets)) in
          let fits : Room u8 (length lent_out) = (omega arith, omega arith) in
          rewrite ! 0 (λ (l : List ℕ). ‵ (octets l begin)) (sym (take-append-drop i d.octets)) refl $
          use1 𝓛 (‵ (octets prefix begin) ⊛ ‵ (octets (drop_list i d.octets) (past begin (length prefix)))) (cut_app 𝓛 (mem u8) prefix (drop_list i d.octets) b begin) $
          split ! $ rewrite ! 1 (λ (k : ℕ). ‵ (octets (drop_list i d.octets) k)) (begins (omega arith)) refl $ move ! (1 ∷ 0 ∷ []) $
          rewrite ! 0 (λ (l : List ℕ). ‵ (octets l spot)) (sym (take-append-drop m (drop_list i d.octets))) refl $
          use1 𝓛 (‵ (octets lent_out spot) ⊛ ‵ (octets back (past spot (length lent_out)))) (cut_app 𝓛 (mem u8) lent_out back b spot) $
          split ! $ move ! (1 ∷ 3 ∷ []) $ join ! $ move ! (2 ∷ 0 ∷ []) $ join ! $ move ! (2 ∷ 3 ∷ 4 ∷ 1 ∷ 0 ∷ []) $ group ! 5 $
          use1 𝓛 (later (some (lent (length lent_out))))
          (lends_Elements 𝓛 (S n) u8 after (named 0) κ q b o b spot γ lent_out fits Rest (put order room long) ((S n).coded.code d) ((S n).coded.code d)) $
          await ! tt $ pick ! (λ δ. rewrite ! 0 (λ (k : ℕ). lent k δ) count refl $ now ! $ show ! (Lent m) δ $ done !))

    module _ (at_mem : Memory → SProp 𝓤) (run : Routine → Fun 𝓤) where
      abbrev clauses : Clauses 𝓤 ended
      clauses = F.clauses (number n) 𝓛 at_mem run

      module _ (C : Calls 𝓤 H) (Λ : Loops 𝓤 H) (κ κN : Lft) (q qN : Share) (bd : AllOutlive 2 ended.signature.outlives (κ, (κN, tt))) (b o : ℕ) (γ : GName) (d : (S n).Denot) (i j : ℕ) where
        abbrev self : MutBor (S n).Denot
        self = record { ref_ptr = (b, o); ghost_name = γ; now = d }

        abbrev vals : List Val
        vals = vptr b o ∷ vint w64 i ∷ vint w64 j ∷ []

        abbrev bound : (walk_of 𝓛 ended stayed clauses).Ghost
        bound = (((κ, (κN, tt)), (q, (qN, tt)), bd, (self, (i, (j, tt))), (mut_vals self, (vint w64 i ∷ [], (vint w64 j ∷ [], tt)))), tt)

        walk : i ≤ j → j ≤ n → i < 2 ^ 64 → j < 2 ^ 64 → n < 2 ^ 63
            → ent 𝓤 (on_entry 𝓛 ended.signature (κ, (κN, tt)) (q, (qN, tt)) (self, (i, (j, tt))) (mut_vals self, (vint w64 i ∷ [], (vint w64 j ∷ [], tt)))) (WpFn 𝓤 H C Λ function vals ((walk_of 𝓛 ended stayed clauses).post bound))
        walk order room fi fj small =
            let fits : j - i < 2 ^ 64 = omega arith in
            qed 𝓛 ((‵ (flft κ q) ⊛ ‵ (flft κN qN) ⊛ ‵ ftrue) ∷ ‵ (owns (MutRef (named 0) κ (S n) ∷ usize ∷ usize ∷ []) (self, (i, (j, tt))) (mut_vals self, (vint w64 i ∷ [], (vint w64 j ∷ [], tt)))) ∷ []) ∵
            enter ! C Λ function vals _ $
            alloc_all ! (λ l. pass_all ! refl ((tt, tt), ((tt, record { fits = fi }), ((tt, record { fits = fj }), tt))) $
            sets ! (addr ! (through ! refl (fld ! refl (stop !)))) refl (tt, tt) $
            sets ! (bin ! (get ! refl) (get ! refl) tt) refl (tt, tt) $
            sets ! (bin ! (get ! refl) (get ! refl) order) refl (tt, record { fits = fits }) $
            sets ! (addr ! (through ! refl (stop !))) refl (tt, tt) $
            sets ! (agg ! (and_then ! (get ! refl) (and_then ! (get ! refl) (no_more !)))) refl (tt, (tt, (record { fits = fits }, tt))) $
            split ! $ move ! (2 ∷ []) $ fsplit ! $ move ! (0 ∷ 2 ∷ []) $
            use2 𝓛 (later (some (lent κ q b o γ d i j (j - i)))) (lends κ q b o γ d i j order room small (mut_vals self)) $
            await ! tt $ pick ! (λ δ.
            returns ! (look_at ! 0 refl) $ free_all ! refl $ keep ! (0 ∷ 2 ∷ []) $ split3 ! $
            suffices ! _ (ends_at 𝓛 ended stayed clauses bound (slice_val (b, i + start n o) (j - i)) (record { ref_ptr = (b, i + start n o); ghost_name = δ; now = take (j - i) (drop_list i d.octets) }) (tt, (tt, (tt, tt))) (tt, (tt, (tt, tt)))) $
            nothing ! $ nothing ! $ fjoin ! $ nothing ! $ fjoin ! $ nothing ! $ fjoin ! $ join ! $ move ! (1 ∷ 3 ∷ []) $ join ! $ join ! $ frame ! $ says ! refl $ done !))

      meets : (𝓣 : Tables 𝓤 H) → Meets 𝓛 ended.signature (WpFn 𝓤 H 𝓣.C 𝓣.Λ function) (closing 𝓛 ended clauses)
      meets 𝓣 =
          let goes = Goes-dropped 𝓛 2 (plain (λ _. usize)) yes (λ κs x f. refl) in
          walk_Meets 𝓛 ended stayed (Goes-spent_ref 𝓛 2 (0 ∷ []) tt (plain (λ _. S n)), (goes, (goes, tt))) clauses (WpFn 𝓤 H 𝓣.C 𝓣.Λ function) (WpFn-mono 𝓤 H 𝓛.laws 𝓣 function)
          (walked 𝓛 ended stayed clauses (WpFn 𝓤 H 𝓣.C 𝓣.Λ function) (λ κs. (mut_vals, (uint_vals w64, (uint_vals w64, tt)))) (λ κs. (mut_Tells (named 0) κs.0 (S n), (uint_Tells w64, (uint_Tells w64, tt))))
          (λ κs qs bounds a g are.
          qed 𝓛 (raw (on_entry 𝓛 ended.signature κs qs a (mut_vals a.0, (vint w64 a.1.0 ∷ [], (vint w64 a.1.1.0 ∷ [], tt)))) ∷ (given (κs.1.0 ⊑ []) (‵ ftrue) ⊛ given (size (layout (S n)) < 2 ^ 63) (‵ ftrue) ⊛ given (a.1.0 ≤ a.1.1.0) (‵ ftrue) ⊛ given (a.1.1.0 ≤ n) (‵ ftrue)) ∷ []) ∵
          move ! (1 ∷ []) $ split3 ! $ drop ! $ learn ! (λ small. drop ! $ split ! $ learn ! (λ order. drop ! $ learn ! (λ room. drop ! $
          by ! (walk 𝓣.C 𝓣.Λ κs.0 κs.1.0 qs.0 qs.1.0 bounds a.0.ref_ptr.0 a.0.ref_ptr.1 a.0.ghost_name a.0.now a.1.0 a.1.1.0 order room are.1.0.1 are.1.1.0.1 (omega arith)))))))

pub part_mut_spec : {M : Type 1} → statement M
unfolding tables_of
part_mut_spec 𝓤 𝓛 𝓜 𝓡 wired n fits =
    let 𝓣 : Tables 𝓤 𝓛.H = tables_of 𝓤 𝓛.H 𝓜 (tables 𝓤 𝓛.H 𝓜 𝓡 𝓡.env) in
    entered 𝓤 𝓛.H (triple_of 𝓛 (ended n).signature (F.spec (number n) 𝓛 𝓜.mem 𝓡.returns)) 𝓣.C 𝓣.Λ (#self (args n)) (function n) (code.unfolded 𝓤 𝓛.H 𝓜 𝓡 wired (number n, tt))
    (meets n 𝓛 𝓜.mem 𝓡.returns 𝓣)
