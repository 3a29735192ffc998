-- How many steps the searches with several searchers take.
use Rattle.std.proofs.Common.{◌≡◌, ℕ, ◌+◌, ◌-◌, ◌≤◌, List, [], ◌∷◌, ◌++◌, take, arith}
use Rattle.std.proofs.lemmas.List.Sums.{sum_by-append, sum_by-take-le}
use Rattle.sc_eval.specs.Criteria.{Criterion}
use Rattle.sc_eval.specs.Numbers.{AreStepsOfSearch}
use Rattle.sc_replicas.specs.Searchers.{searcher_rows}
use Rattle.sc_replicas.specs.declared.standing.Searcher.{Searcher}
use Rattle.sc_finding.specs.Steps.{AreStepsOfSearches, steps_with}

module _ (criterion : Criterion) where
  -- no step is within each bound
  pub no-steps : (searchers : List Searcher) (before after : ℕ) → after ≡ before → AreStepsOfSearches criterion searchers (after - before)
  no-steps searchers before after same = λ most enough. omega (arith, same)

  -- and so with one searcher
  pub none-taken : (searcher : Searcher) (before after : ℕ) → after ≡ before → AreStepsOfSearch criterion (searcher_rows searcher) (after - before)
  none-taken searcher before after same = λ most enough. omega (arith, same)

  -- the steps with one searcher more
  pub more-steps : (searchers next : List Searcher) (searcher : Searcher) (start before after : ℕ) → next ≡ searchers ++ searcher ∷ []
      → start ≤ before → before ≤ after → AreStepsOfSearches criterion searchers (before - start)
      → AreStepsOfSearch criterion (searcher_rows searcher) (after - before) → AreStepsOfSearches criterion next (after - start)
  more-steps searchers next searcher start before after is rises rises_again far steps = λ most enough.
      let these = far most enough in
      let those = steps (most searcher) (enough searcher) in
      let sum = sum_by-append (steps_with criterion most) searchers (searcher ∷ []) in
      rw is (omega (arith, these, those, sum, rises, rises_again))

  -- the steps with the first searchers are steps with all
  pub first-steps : (searchers : List Searcher) (index steps : ℕ) → AreStepsOfSearches criterion (take index searchers) steps
      → AreStepsOfSearches criterion searchers steps
  first-steps searchers index steps far = λ most enough.
      let these = far most enough in
      let part = sum_by-take-le (steps_with criterion most) searchers index in
      omega (arith, these, part)
