-- A run goes on with a letter or a digit, and ends at each other byte and at the end.
use Rattle.std.proofs.Common.{◌≡◌, ◌+◌, ◌++◌, ◌<◌, List, ℕ, length, get_or, map, sym, ap, ap₂, ◌∙◌, arith, append_assoc, drop, subst, true, false}
use Rattle.std.specs.Char.{is_ascii_alphanumeric}
use Rattle.sc_schema.specs.Runs.{runs_from, closed}
use Rattle.sc_schema.proofs.ScanLemmas.{part, run_goes_on, run_ends}
use Rattle.sc_schema.proofs.word.runs_of.Goals as goal
use Rattle.sc_schema.proofs.word.runs_of.Goals.{then-not-is_ascii_alphanumeric+in_ok-push_run, else-not-is_ascii_alphanumeric}

pub loop-at-preserved : goal.loop-at-preserved
loop-at-preserved c =
    let text = c.args.text.now in
    let start = c.loop-at.start in
    let at = c.loop-at.at in
    let keys : List (List ℕ) = map (λ r. r.now) c.loop-at.found.items in
    let bytes_is = c.as_bytes-bytes.ensures.value in
    let within : at < length text = subst (λ (bytes : List ℕ). at < length bytes) bytes_is c.loop-at-test.true in
    elim c.if-not-is_ascii_alphanumeric.branch [
      | then-not-is_ascii_alphanumeric+in_ok-push_run w ↦
          let other : is_ascii_alphanumeric (get_or c.as_bytes-bytes.result.now at 0) ≡ false = cc in
          let ends = run_ends text start at within (subst (λ (bytes : List ℕ). is_ascii_alphanumeric (get_or bytes at 0) ≡ false) bytes_is other) in
          let rest = runs_from (part text (at + 1) (at + 1)) (drop (at + 1) text) in
          record {
            begun = omega (arith, w.start-is);
            found =
                ap₂ (λ (ks : List (List ℕ)) s. ks ++ runs_from (part text s (at + 1)) (drop (at + 1) text))
                (ap (λ ks. map (λ r. r.now) ks.items) w.found-is ∙ w.in_ok-push_run.ensures ∙ ap (λ r. keys ++ closed r) w.range.ensures.value) w.start-is
                ∙ append_assoc keys (closed (part text start at)) rest ∙ ap (λ rs. keys ++ rs) (sym ends) ∙ c.loop-at.invariant.found;
          }
      | else-not-is_ascii_alphanumeric w ↦
          let other : is_ascii_alphanumeric (get_or c.as_bytes-bytes.result.now at 0) ≡ true = cc in
          let on = run_goes_on text start at c.loop-at.invariant.begun within
          (subst (λ (bytes : List ℕ). is_ascii_alphanumeric (get_or bytes at 0) ≡ true) bytes_is other) in
          record {
            begun = omega (arith, w.start-is, c.loop-at.invariant.begun);
            found =
                ap₂ (λ (ks : List (List ℕ)) s. ks ++ runs_from (part text s (at + 1)) (drop (at + 1) text))
                (ap (λ ks. map (λ r. r.now) ks.items) w.found-is) w.start-is
                ∙ ap (λ rs. keys ++ rs) (sym on) ∙ c.loop-at.invariant.found;
          }
    ]
