-- A run more is put at the end.
use Rattle.std.proofs.Common.{◌++◌, ◌∷◌, [], List, ℕ, ◌∙◌, sym, ap, ap₂, append_assoc}
use Rattle.std.proofs.lemmas.List.{map_more}
use Rattle.sc_schema.proofs.word.push_runs.Goals as goal

pub loop-run-preserved : goal.loop-run-preserved
loop-run-preserved c =
    c.in_ok-push.ensures.items ∙ ap₂ (λ (ks : List (List ℕ)) (r : List ℕ). ks ++ r ∷ []) c.loop-run.invariant c.in_ok-new.ensures ∙ append_assoc c.args.keys.now.items _ _
    ∙ ap (λ (rs : List (List ℕ)). c.args.keys.now.items ++ rs) (sym (map_more (λ r. r.now) c.as_slice-run-items.result.now c.loop-run.run-index _ c.loop-run-test.true))
