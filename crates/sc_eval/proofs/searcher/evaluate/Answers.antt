-- The rows that are found are at the numbers of those that match, and each of these is read once.
use Rattle.std.proofs.Common.{◌≤◌, ◌+◌, ℕ, List, length, option_to_list, slice_get, ◌∙◌, ap, arith}
use Rattle.std.specs.List.{flat_map}
use Rattle.std.proofs.lemmas.Result.{IfOk-weaker}
use Rattle.sc_eval.specs.Criteria.{criterion_of}
use Rattle.sc_eval.specs.Numbers.{numbers_of, row_in}
use Rattle.sc_eval.proofs.NumberLemmas.{rows-in}
use Rattle.sc_eval.proofs.StepLemmas.{search-steps}
use Rattle.sc_eval.proofs.searcher.evaluate.Goals as goal

pub returns-clause-found : goal.returns-clause-found
returns-clause-found g c =
    let rows = c.args.snapshot.now.rows in
    let range = c.args.range.now in
    let criterion = criterion_of c.args.query.now in
    IfOk-weaker c.cells_in.result _ _
    (λ found is. is ∙ ap (flat_map (λ number. option_to_list (row_in range (slice_get rows number)))) c.as_slice.ensures
    ∙ rows-in range criterion rows (numbers_of c.in_ok-numbers.numbers) c.in_ok-numbers.ensures.numbers)
    c.cells_in.ensures.found

pub returns-clause-bound : goal.returns-clause-bound
returns-clause-bound g c =
    let few : c.cells_in.new.steps ≤ c.matching.new.steps + length (numbers_of c.in_ok-numbers.numbers) =
    omega (arith, c.cells_in.ensures.bound, ap (λ (ns : List ℕ). length ns) c.as_slice.ensures) in
    search-steps (criterion_of c.args.query.now) c.args.snapshot.now.rows (numbers_of c.in_ok-numbers.numbers)
    c.args.steps.now c.matching.new.steps c.cells_in.new.steps c.in_ok-numbers.ensures.numbers c.matching.ensures.bound
    c.matching.ensures.counted few
