-- Each read adds what the source gave, and one that failed adds nothing.
use Rattle.std.proofs.Common.{◌≡◌, ◌<◌, List, ℕ, [], length, take, arith, refl, sym, ◌∙◌, subst, inl, inr, append-nil}
use Rattle.std.proofs.lemmas.Grind.{common_steps}
use Rattle.std.proofs.lemmas.Result.{err_from_is_err_and}
use Rattle.sc_http.specs.Stream.{KeepsBytes}
use Rattle.sc_http.proofs.StreamLemmas.{reads_while, gives_out_all, gives_out_more, falls_short}
use Rattle.sc_http.proofs.stated.read_rest.Goals as goal

pub loop-filled-init : goal.loop-filled-init
loop-filled-init g c =
    let rest = g.S.Source.rest c.args.source.now in
    let whole : take c.len-filled.result c.args.body.now.items ≡ c.args.body.now.items = grind (arith, common_steps) in
    record {
      within = omega arith;
      below = omega arith;
      size = omega arith;
      out = subst (λ (xs : List ℕ). KeepsBytes xs [] c.args.body.now.items rest rest) (sym whole) (gives_out_all c.args.body.now.items rest);
      needed = inl refl;
      steady = refl;
    }

pub loop-filled-preserved : goal.loop-filled-preserved
loop-filled-preserved g c =
    let few : length (take c.loop-filled.filled c.loop-filled.body.items) < c.args.whole = grind (arith, common_steps) in
    record {
      within = grind (arith, common_steps);
      below = c.in_ok-filled.ensures.fills.bounded;
      size = omega arith;
      out = gives_out_more _ _ _ _ _ _ c.loop-filled.invariant.out c.in_ok-filled.ensures.grows;
      needed = inr (reads_while (λ xs. length xs < c.args.whole) _ _ _ _ _ _ _ c.loop-filled.invariant.out c.in_ok-filled.ensures.grows.gives
          (subst (λ (xs : List ℕ). length xs < c.args.whole) (sym (append-nil (take c.loop-filled.filled c.loop-filled.body.items))) few));
      steady = c.in_ok-filled.ensures.faults.steady (λ failed. cc) ∙ c.loop-filled.invariant.steady;
    }

pub returns-in_err-filled-clause-short : goal.returns-in_err-filled-clause-short
returns-in_err-filled-clause-short g c =
    let p = err_from_is_err_and c.from_residual.result c.from_residual.ensures.1 in
    let few : length (take c.loop-filled.filled c.loop-filled.body.items) < c.args.whole = grind (arith, common_steps) in
    rw p.1 (falls_short _ _ _ _ _ _ c.loop-filled.invariant.out few c.in_err-filled.ensures.stays)
