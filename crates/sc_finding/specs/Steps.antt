-- How many steps a search takes with several searchers.
use Rattle.std.specs.Prelude.{ℕ, ◌+◌, ◌*◌, ◌≤◌, List, length, filter}
use Rattle.std.specs.List.{sum_by}
use Rattle.sc_eval.specs.Criteria.{Criterion}
use Rattle.sc_eval.specs.Numbers.{is_match, leaves, IsLookUp}
use Rattle.sc_replicas.specs.Searchers.{searcher_rows}
use Rattle.sc_replicas.specs.declared.standing.Searcher.{Searcher}

-- where to look a term up with each searcher takes at most so many steps, a look-up for each leaf of the criterion, and one step for each live row that matches
abbrev pub steps_with : Criterion → (Searcher → ℕ) → Searcher → ℕ
steps_with criterion most searcher = leaves criterion * most searcher + length (filter (is_match criterion) (searcher_rows searcher))

-- these are no more steps than that with each of the searchers, in all
abbrev pub AreStepsOfSearches : Criterion → List Searcher → ℕ → Type 0
AreStepsOfSearches criterion searchers steps = (most : Searcher → ℕ) → ((searcher : Searcher) → IsLookUp (searcher_rows searcher) (most searcher))
    → steps ≤ sum_by (steps_with criterion most) searchers
