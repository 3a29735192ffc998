-- A move of one worker's crew changes what is said of that worker alone.
use Rattle.std.proofs.Common.{ℕ, Bool, false, List, [], ◌∷◌, ◌++◌, if◌then◌else◌, refl, sym, ap, ◌∙◌}
use Rattle.std.proofs.lemmas.Bool.{eq-eqb, ne_eqb}
use Rattle.std.proofs.lemmas.List.Sums.{fold_push}
use Rattle.sc_session.specs.Stations.{SetsAt}
use Rattle.sc_sockets.specs.Moves.{after_move, was_given}

pub sets_at_move : (moves : List (ℕ × Bool)) (worker : ℕ) (given : Bool)
    → SetsAt worker given (was_given moves) (was_given (moves ++ (worker, given) ∷ []))
sets_at_move moves worker given = record {
  here = fold_push (after_move worker) false moves (worker, given)
      ∙ ap (λ (same : Bool). if same then given else was_given moves worker) (eq-eqb worker worker refl);
  elsewhere = λ other differs. fold_push (after_move other) false moves (worker, given)
      ∙ ap (λ (same : Bool). if same then given else was_given moves other) (ne_eqb worker other (λ e. differs (sym e)));
}
