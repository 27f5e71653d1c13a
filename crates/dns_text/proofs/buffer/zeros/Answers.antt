use Rattle.std.proofs.Common.{ℕ, arith, ap, length-take-le, replicate, sym, take, vec_len, ◌∙◌, ◌≡◌, ◌≤◌, ◌+◌, ◌++◌}
use Rattle.std.proofs.lemmas.List.{replicate-append-replicate, take-replicate}
use Rattle.dns_text.proofs.buffer.zeros.Goals as goal

pub loop-piece-preserved : goal.loop-piece-preserved
loop-piece-preserved c =
    let more = c.min-more.result in
    let before = vec_len c.loop-piece.octets in
    let few : more ≤ 256 = omega (arith, c.min-more.ensures) in
    let long : vec_len c.extend_from_slice.new.self ≡ before + more = omega (arith, c.in_ok-extend_from_slice.ensures.len, length-take-le {A = ℕ} more (replicate 256 0) few) in
    let grown : c.extend_from_slice.new.self.items ≡ replicate before 0 ++ take more (replicate 256 0) =
    c.in_ok-extend_from_slice.ensures.items ∙ ap (λ l. l ++ take more (replicate 256 0)) c.loop-piece.invariant.zeros in
    let joined : replicate before 0 ++ take more (replicate 256 0) ≡ replicate (before + more) 0 =
    ap (λ l. replicate before 0 ++ l) (take-replicate more 256 0 few) ∙ replicate-append-replicate before more 0 in
    record {
      within = omega (arith, long, c.min-more.ensures, c.len-in-loop-piece.ensures, c.loop-piece.invariant.within);
      zeros = grown ∙ joined ∙ ap (λ n. replicate n 0) (sym long);
    }
