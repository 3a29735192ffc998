-- The parameters so far and those that are still to come are all.
use Rattle.std.proofs.Common.{◌≡◌, ◌++◌, map}
use Rattle.form_urlencoded.specs.Parse.{owned_pairs_left}
use Rattle.sc_model.specs.Heads.{param_of, form_params}
use Rattle.sc_http.proofs.form.form_params.Given as goal

abbrev pub invariant-loop-pair : goal.invariant-loop-pair
invariant-loop-pair l =
    (goal.iterator-loop-pair).can_next l.pair-iterator × (goal.iterator-loop-pair).is_finite l.pair-iterator
    × (form_params l.form ≡ l.params ++ map param_of (owned_pairs_left l.pair-iterator))
