-- `build_canonical_bytes` returns a borrow of the rest of the buffer, and the canonical octets are before it. Assumes `Logic`.
use Rattle.std.proofs.Common.{◌≡◌, ℕ, ◌+◌, ◌-◌, ◌*◌, ◌^◌, ◌<◌, ◌≤◌, List, [], ◌∷◌, length, take, drop as drop_list, sym, refl, ap, ◌∙◌, lit<, arith, w64, Result, Ok, Err, MutBor}
use Rattle.std.proofs.raw_atomic.Walks.{proved}
use Rattle.std.proofs.lemmas.List.{take-append-drop, length-drop, take_at, drop_at}
use mir.MapTy.{inst_fn}
use mir.Syntax.{Args, Fn, a_type, named, erased, dcons, dnil}
use mir.Val.{Val, vint, of_list}
use base.Fml.{GName, ftrue, flft, fobs, fres}
use base.Fraction.{full_share}
use base.Logic.{emp, id⊢}
use contract.BorrowLft.{◌⊑◌}
use contract.Monad.{fact, fact_i}
use contract.Running.{tables}
use prog.Wp.{Env, Wp, after_seq, at_return}
use borrow.Rule.Slice.Lend.{kept_f, sl_relend, sl_relent_backˡ}
use borrow.Table.Elements.{at, at_mul}
use borrow.Table.Owned as Table
use denote.Builtin.{u8, usize, RefOf}
use denote.Exit.{yes, no}
use denote.Param.{bounded, param}
use denote.Plain.{uint_Makes}
use denote.RattleType.{Valss, owns}
use denote.Ref.{shr_vals}
use denote.Signature.{Slot, plain, types_at, mut_slice_of}
use denote.Slice.{MutSlice, Room, slice_val, mut_slice_vals, mut_slice_Tells}
use denote.Steps.{nothing, owned, heard}
use denote.Triple.Call.{calls_at}
use denote.Triple.Clauses.{lasts}
use denote.Triple.Spec.{triple_of}
use denote.Triple.Table.{framed}
use denote.Triple.Walked.{Stays, stay_dropped, walk_of, ends_at, Goes-dropped, Goes-spent_slice}
use types.ByLocal.{alloc_all, pass_all, free_all, look_at, look_in_at, get, get_in, get_tag, through, sets, sets_last, lands_as, env}
use types.Kit.{Post as After, ‵, raw, ◌⊛◌, some, later, given, any_q, at_ret, ◌$◌, ◌∵◌, !, qed, move, keep, drop, split, split3, join, learn, fsplit, fjoin, feq_i, use0, use1, use2, use3, await, pick, rewrite, suffices, frame, done}
use types.Match.{vrt, in_variant, live}
use types.Part.{whole, sub, agg}
use types.Run.{stop, fld, hop, from, addr, lit, bin, and_then, no_more, of_opd, first, exec, switches_on, returns, enter}
use types.Tokens.{lft_new, lft_end}
use Rattle.std.specs.contracts.result.Result as RS
use Rattle.std.specs.Prelude.{⊤}
use Rattle.dns_wire.specs.Building.{Builds, Occurs}
use Rattle.dns_wire.specs.contracts.error.TruncationError as TE
use Rattle.dns_record.specs.contracts.canonical.CanonicalRecordData.build_canonical_at as G
use Rattle.dns_record.specs.contracts.canonical.CanonicalRecordData.build_canonical_bytes as F
use Rattle.dns_wire.proofs.Lent.{rest_lent, lends_rest, Before, AsLong, lent_ok, lent_err}
use Rattle.std.specs.Borrow.{LendsSoOk, Array}
use base.Stored.{coded_list}
use denote.FollowSlice.{heres_id}
use Rattle.dns_wire.proofs.ResultLemmas.{refused_val, cases, refusal, accepted, says_three, after, head, arm_body}
use Rattle.dns_record.proofs.canonical.CanonicalRecordData.build_canonical_bytes.Statement.{statement}
use Rattle.dns_record.proofs.canonical.CanonicalRecordData.build_canonical_bytes.Code as code

pub build_canonical_bytes_spec : {M : Type 1} → statement M
build_canonical_bytes_spec 𝓤 𝓛 𝓜 𝓡 wired X L g d gb db met _ =
    let H = 𝓛.H in
    let T = F.ended X g d gb db in
    let c = F.clauses X g d gb db 𝓛 𝓜.mem 𝓡.returns in
    let args : Args = bounded (a_type ∷ []) (X, tt) (dcons d (dcons db dnil)) in
    let fn : Fn = inst_fn args code.function in
    let self : Slot 3 = RefOf (0 ∷ []) tt (plain (λ _. param 0 X)) (λ _. tt) in
    let stayed : Stays T.signature.params T.kept = (stay_dropped self yes, (stay_dropped (mut_slice_of (1 ∷ []) tt (plain (λ _. u8))) no, tt)) in
    let W = walk_of 𝓛 T stayed c in
    let C = (tables 𝓤 H 𝓜 𝓡 𝓡.env).C in let Λ = (tables 𝓤 H 𝓜 𝓡 𝓡.env).Λ in
    proved 𝓛 T stayed c 𝓜 𝓡 (Goes-dropped 𝓛 3 self yes (λ κs x f. refl), (Goes-spent_slice 𝓛 3 (1 ∷ []) tt (plain (λ _. u8)), tt))
    (F.Key.name args) fn (code.unfolded 𝓤 H 𝓜 𝓡 wired (X, tt) d db)
    (λ κs. (shr_vals, (mut_slice_vals, tt))) (λ κs. ((λ r vs s. s.0), (mut_slice_Tells (named 1) κs.1.0 u8, tt))) (λ κs qs bounds a _ are.
    let κ = κs.1.0 in let q = qs.1.0 in let b = a.1.0.ref_ptr.0 in let o = a.1.0.ref_ptr.1 in let γ = a.1.0.ghost_name in let xs = a.1.0.now in
    let vss : Valss (types_at T.signature.params κs) = (shr_vals a.0, (mut_slice_vals a.1.0, tt)) in let y : W.Ghost = ((κs, qs, bounds, a, vss), tt) in
    let room : Room u8 (length xs) = are.1.0.0.1 in
    qed 𝓛 (((‵ (flft κs.0 qs.0) ⊛ ‵ (flft κ q) ⊛ ‵ (flft κs.1.1.0 qs.1.1.0) ⊛ ‵ ftrue) ⊛ ‵ (owns (types_at T.signature.params κs) a vss)) ∷ (raw (fact 𝓤 (κs.1.1.0 ⊑ X.lives)) ⊛ raw (emp 𝓤)) ∷ []) ∵
    move ! (1 ∷ []) $ split ! $ heard ! _ (λ le. drop ! $ split ! $ split3 ! $ move ! (2 ∷ []) $ split ! $ move ! (4 ∷ []) $ fsplit ! $ move ! (1 ∷ []) $ fsplit ! $ keep ! (0 ∷ 6 ∷ 2 ∷ 5 ∷ 3 ∷ []) $
    -- [the slice; the token of κ; self; the two other tokens]
    let count : length xs < 2 ^ 64 = room.0 in let bytes : length xs * 1 < 2 ^ 63 = room.1 in
    enter ! C Λ fn _ (W.post y) $ alloc_all ! (λ l. pass_all ! refl ((tt, tt), ((tt, (tt, (record { fits = count }, tt))), tt)) $
    let En : Env 𝓤 H = env fn.locals l in
    sets ! (addr ! (from ! (fld ! refl (hop ! (look_in_at ! 2 (sub ! 0 refl (whole !))) (stop !))))) refl (tt, tt) $
    sets ! (agg ! (and_then ! (get ! refl) (and_then ! (get_in ! (fld ! refl (stop !)) (sub ! 1 refl (whole !))) (no_more !)))) refl (tt, (tt, (record { fits = count }, tt))) $
    -- the buffer is borrowed again for α
    lft_new ! tt (λ α. move ! (1 ∷ 2 ∷ []) $ fsplit ! $ fsplit ! $ drop ! $ fjoin ! $
    use2 𝓛 (later (some (λ (δ : GName). ‵ ((Table.MutSlice erased (α ∷ []) u8).own_val (record { ref_ptr = (b, o); ghost_name = δ; now = xs })) ⊛ (kept_f 𝓛 u8 κ q (α ∷ []) γ δ xs b o))))
    (sl_relend 𝓛 u8 κ q (α ∷ []) b o γ xs) $ await ! tt $ pick ! (λ δ. split ! $
    let Gt = triple_of 𝓛 (G.signature X) (G.spec X g d gb db 𝓛 𝓜.mem 𝓡.returns) in let r : MutBor (List ℕ) = record { ref_ptr = (b, o); ghost_name = δ; now = xs } in
    let z : Gt.Ghost = (((κs.0, (α ∷ [], (κs.1.1.0, tt))), (qs.0, (full_share, (qs.1.1.0, tt))), bounds, (a.0, (r, (0, tt))), (shr_vals a.0, (mut_slice_vals r, (vint w64 0 ∷ [], tt)))), tt) in
    fsplit ! $ feq_i ! (List Val) (slice_val (b, o) (length xs) ∷ []) (slice_val (b, o) (length xs) ∷ []) refl $ fjoin ! $ fjoin ! $
    nothing ! $ owned ! usize _ (uint_Makes 𝓛 w64) 0 _ (refl, lit< tt) $ fjoin ! $ move ! (1 ∷ 0 ∷ []) $ fjoin ! $ move ! (3 ∷ 0 ∷ []) $ fjoin ! $
    nothing ! $ move ! (5 ∷ 0 ∷ []) $ join ! $ move ! (3 ∷ 0 ∷ []) $ join ! $ move ! (3 ∷ 0 ∷ []) $ join ! $ join ! $
    use0 𝓛 (raw (fact 𝓤 (0 ≤ length xs))) (fact_i 𝓤 (0 ≤ length xs) (emp 𝓤) (omega arith)) $
    use0 𝓛 (raw (fact 𝓤 (κs.1.1.0 ⊑ X.lives))) (fact_i 𝓤 (κs.1.1.0 ⊑ X.lives) (emp 𝓤) le) $ join ! $ move ! (1 ∷ 0 ∷ []) $ use2 𝓛 (raw (Gt.pre z)) (id⊢ 𝓤 _) $
    calls_at ! (framed 𝓤 H 𝓜 (tables 𝓤 H 𝓜 𝓡 𝓡.env)) Gt met.build_canonical_at z (and_then ! (get ! refl) (and_then ! (get ! refl) (and_then ! (lit ! tt) (no_more !)))) (λ v.
    use1 𝓛 (later (some (λ (res : Result ℕ (TE.the_row).Denot). ((‵ (flft κs.0 qs.0) ⊛ ‵ (flft (α ∷ []) full_share) ⊛ ‵ (flft κs.1.1.0 qs.1.1.0) ⊛ ‵ ftrue) ⊛ ‵ ((RS.the_row usize TE.the_row).own_val res (v ∷ [])))
    ⊛ some (λ (ws : Unit {0} × (List ℕ × (Unit {0} × Unit {0}))). ‵ (lasts (G.ended X g d gb db) z.0.0 z.0.3 ws) ⊛ raw (fact 𝓤 (Builds ⊤ (g.canonical a.0.now) xs 0 ws.1.0 res)))))) (id⊢ 𝓤 _) $ await ! tt $ pick ! (λ res.
    split ! $ split ! $ split3 ! $ move ! (2 ∷ []) $ split ! $ move ! (5 ∷ []) $ pick ! (λ ws. split ! $ move ! (1 ∷ []) $ heard ! _ (λ built.
    -- [what says the last values; a token; nothing; a token; α's; the result; what the lender keeps]
    fsplit ! $ move ! (1 ∷ []) $ fsplit ! $ fsplit ! $ fsplit ! $ move ! (1 ∷ []) $ drop ! $ move ! (1 ∷ []) $ drop ! $ move ! (1 ∷ []) $ drop ! $ move ! (1 ∷ []) $ drop ! $ move ! (2 ∷ []) $ drop ! $
    -- [the last value under δ; two tokens; α's; the result; what the lender keeps]
    let ys : List ℕ = ws.1.0 in
    move ! (3 ∷ []) $ lft_end ! tt $ move ! (0 ∷ 5 ∷ 1 ∷ []) $
    use3 𝓛 (later (given (length ys ≡ length xs) (‵ ((Table.MutSlice erased κ u8).own_val (record { ref_ptr = (b, o); ghost_name = γ; now = ys })) ⊛ ‵ (flft κ q)))) (sl_relent_backˡ 𝓛 u8 κ q (α ∷ []) b o γ δ xs ys) $ await ! tt $ learn ! (λ same. split ! $
    -- [the slice; its token; two tokens; the result]
    let Then : After 𝓤 H = any_q (after_seq 𝓤 H (Wp 𝓤 H C Λ En (after 4 fn.body) (at_return 𝓤 H En (W.post y))) (at_return 𝓤 H En (W.post y))) in
    move ! (4 ∷ []) $ cases ! (λ (t : Result ℕ (TE.the_row).Denot). Builds ⊤ (g.canonical a.0.now) xs 0 ys t) res v built
    (λ end said fits is.
    let octets : List ℕ = g.canonical a.0.now in
    let occurs : Occurs octets xs 0 ys end = said.ok.1 in
    let prefix : List ℕ = take end ys in let back : List ℕ = drop_list end ys in
    let le : end ≤ length xs = occurs.within in
    let good : length xs - end < 2 ^ 64 = omega arith in
    lands_as ! is refl (tt, (record { fits = lit< tt }, (record { fits = fits }, tt))) $
    first ! $ switches_on ! (get_tag ! (vrt ! refl (fld ! refl (stop !))) (whole !)) $ exec ! C Λ En (arm_body 0 (head (after 3 fn.body))) Then $
    sets ! (of_opd ! (get_in ! (vrt ! refl (fld ! refl (stop !))) (in_variant ! 0 0 refl refl (whole !)))) refl (tt, record { fits = fits }) $
    sets ! (bin ! (get_in ! (fld ! refl (stop !)) (sub ! 0 refl (whole !))) (get ! refl) tt) refl (tt, tt) $
    sets ! (bin ! (get_in ! (fld ! refl (stop !)) (sub ! 1 refl (whole !))) (get ! refl) le) refl (tt, record { fits = good }) $
    sets ! (addr ! (through ! refl (stop !))) refl (tt, tt) $
    sets ! (agg ! (and_then ! (get ! refl) (and_then ! (get ! refl) (no_more !)))) refl (tt, (tt, (record { fits = good }, tt))) $
    sets_last ! (agg ! (and_then ! (lit ! tt) (and_then ! (get ! refl) (no_more !)))) refl (tt, (record { fits = lit< tt }, ((tt, (record { fits = good }, tt)), tt))) $
    exec ! C Λ En (after 4 fn.body) (at_ret En (W.post y)) $
    sets ! (of_opd ! (get ! refl)) refl (tt, (record { fits = lit< tt }, ((tt, (record { fits = good }, tt)), tt))) $
    let long : length octets ≡ end = omega (arith, occurs.end_is) in
    let at_prefix : prefix ≡ octets = ap (take end) occurs.new_is ∙ take_at octets (drop_list end xs) end long in
    let at_back : back ≡ drop_list (length octets) xs = ap (drop_list end) occurs.new_is ∙ drop_at octets (drop_list end xs) end long ∙ ap (λ (n : ℕ). drop_list n xs) (sym long) in
    let left : length back ≡ length xs - end = length-drop end ys ∙ ap (λ (n : ℕ). n - end) same in
    let on : at o 1 (length prefix) ≡ end + o = at_mul o 1 (length prefix) ∙ omega (arith, long, ap length at_prefix) in
    fsplit ! $ feq_i ! (List Val) (slice_val (b, o) (length ys) ∷ []) (slice_val (b, o) (length ys) ∷ []) refl $ fjoin ! $ fjoin ! $
    use2 𝓛 (later (some (rest_lent 𝓛 (named 1) κ q b o γ u8 ys prefix back (sym (take-append-drop end ys)) (end + o) on)))
    (lends_rest 𝓛 (named 1) κ q b o γ u8 ys prefix back (sym (take-append-drop end ys)) (end + o) on (omega arith, omega arith) (slice_val (b, o) (length ys) ∷ [])) $ await ! tt $ pick ! (λ δ'.
    let rest : MutBor (List ℕ) = record { ref_ptr = (b, end + o); ghost_name = δ'; now = back } in let word : Val = slice_val (b, end + o) (length xs - end) in
    returns ! (look_at ! 0 refl) $ free_all ! refl $ split3 ! $
    rewrite ! 0 (λ (k : ℕ). ‵ ((MutSlice (named 1) κ u8).own_val rest (slice_val (b, end + o) k ∷ []))) left refl $
    use1 𝓛 (‵ ((RS.the_row (MutSlice (named 1) κ u8) TE.the_row).own_val (Ok rest) (live 0 (of_list (word ∷ [])) ∷ []))) (accepted 𝓛 (MutSlice (named 1) κ u8) rest word) $ move ! (2 ∷ []) $
    use1 𝓛 (‵ (LendsSoOk (Array u8 0) (Array u8 0) a.1.0 {E = (TE.the_row).Denot} (Ok rest) (Before octets) (AsLong xs))) (lent_ok 𝓛 (TE.the_row).Denot a.1.0 rest (AsLong xs) prefix octets at_prefix) $
    -- [what the buffer ends as; the result; its token; two tokens]
    suffices ! _ (ends_at 𝓛 T stayed c y (live 0 (of_list (word ∷ []))) (Ok rest) (tt, (tt, tt)) (tt, (tt, tt))) $
    nothing ! $ nothing ! $ fjoin ! $ nothing ! $ fjoin ! $ move ! (0 ∷ 2 ∷ []) $ join ! $ nothing ! $ move ! (4 ∷ 0 ∷ []) $ join ! $ move ! (3 ∷ 0 ∷ []) $ join ! $ move ! (3 ∷ 0 ∷ []) $ join ! $ join ! $ frame ! $
    says_three ! (at_back, omega (arith, long, le), tt) $ done !))
    (λ e said is.
    lands_as ! is refl (tt, (record { fits = lit< tt }, (tt, tt))) $
    first ! $ switches_on ! (get_tag ! (vrt ! refl (fld ! refl (stop !))) (whole !)) $ exec ! C Λ En (arm_body 1 (head (after 3 fn.body))) Then $
    sets ! (of_opd ! (get_in ! (vrt ! refl (fld ! refl (stop !))) (in_variant ! 1 0 refl refl (whole !)))) refl (tt, tt) $
    sets_last ! (agg ! (and_then ! (lit ! tt) (and_then ! (get ! refl) (no_more !)))) refl (tt, (record { fits = lit< tt }, (tt, tt))) $
    exec ! C Λ En (after 4 fn.body) (at_ret En (W.post y)) $
    sets ! (of_opd ! (get ! refl)) refl (tt, (record { fits = lit< tt }, (tt, tt))) $
    returns ! (look_at ! 0 refl) $ free_all ! refl $ fsplit ! $ drop ! $ fsplit ! $
    rewrite ! 0 (λ (t : List ℕ). ‵ (fobs γ ((coded_list u8.coded).code t))) (heres_id u8 ys) refl $ use1 𝓛 (‵ (fres γ ((coded_list u8.coded).code ys))) (𝓛.names.obs-res γ ((coded_list u8.coded).code ys)) $ move ! (1 ∷ []) $ drop ! $
    use1 𝓛 (‵ (LendsSoOk (Array u8 0) (Array u8 0) a.1.0 (Err e) (Before (g.canonical a.0.now)) (AsLong xs))) (lent_err 𝓛 (TE.the_row).Denot a.1.0 (Before (g.canonical a.0.now)) (AsLong xs) e ys same) $
    use0 𝓛 (‵ ((RS.the_row (MutSlice (named 1) κ u8) TE.the_row).own_val (Err e) (refused_val ∷ []))) (refusal 𝓛 (MutSlice (named 1) κ u8) e) $ move ! (1 ∷ []) $
    suffices ! _ (ends_at 𝓛 T stayed c y refused_val (Err e) (tt, (tt, tt)) (tt, (tt, tt))) $
    nothing ! $ nothing ! $ fjoin ! $ nothing ! $ fjoin ! $ move ! (0 ∷ 2 ∷ []) $ join ! $ nothing ! $ move ! (4 ∷ 0 ∷ []) $ join ! $ move ! (3 ∷ 0 ∷ []) $ join ! $ move ! (3 ∷ 0 ∷ []) $ join ! $ join ! $ frame ! $
    says_three ! (tt, tt, omega (arith, said.err.2 tt)) $ done !)))))))))))
