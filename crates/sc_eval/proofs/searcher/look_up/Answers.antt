-- The numbers of the rows that match are those of the rows that are found, or are cut to them.
use Rattle.std.proofs.Common.{◌≤◌, ◌+◌, ℕ, List, length, slice_get, is_some, ◌∙◌, ap, arith}
use Rattle.std.specs.List.{filter}
use Rattle.std.proofs.lemmas.Bool.{OnTrue_at}
use Rattle.std.proofs.lemmas.Result.{IfOk-weaker}
use Rattle.sc_eval.specs.Criteria.{criterion_of}
use Rattle.sc_eval.specs.Matching.{finds}
use Rattle.sc_eval.specs.Numbers.{numbers_of, row_in}
use Rattle.sc_eval.proofs.NumberLemmas.{numbers-in, numbers-all}
use Rattle.sc_eval.proofs.StepLemmas.{one-list, search-steps}
use Rattle.sc_eval.proofs.searcher.look_up.Goals as goal

pub returns-then-has_all-clause-found : goal.returns-then-has_all-clause-found
returns-then-has_all-clause-found g c =
    let rows = c.args.snapshot.now.rows in
    let range = c.args.range.now in
    let criterion = criterion_of c.args.query.now in
    IfOk-weaker c.unjoined.result _ _
    (λ found will. record {
      ready = will.ready;
      joined = λ numbers is. numbers-all range criterion rows numbers (OnTrue_at c.if-has_all.true c.has_all.ensures) (will.joined numbers is);
    })
    c.unjoined.ensures.numbers

pub returns-clause-found : goal.returns-clause-found
returns-clause-found g c =
    let rows = c.args.snapshot.now.rows in
    let range = c.args.range.now in
    let criterion = criterion_of c.args.query.now in
    one-list rows (finds range criterion) c.in_ok-found.found
    (numbers-in range criterion rows (numbers_of c.in_ok-numbers.numbers) (numbers_of c.in_ok-found.found) c.in_ok-numbers.ensures.numbers
    (c.in_ok-found.ensures.found ∙ ap (filter (λ number. is_some (row_in range (slice_get rows number)))) c.as_slice.ensures))

pub returns-clause-bound : goal.returns-clause-bound
returns-clause-bound g c =
    let few : c.numbers_in.new.steps ≤ c.matching.new.steps + length (numbers_of c.in_ok-numbers.numbers) =
    omega (arith, c.numbers_in.ensures.bound, ap (λ (ns : List ℕ). length ns) c.as_slice.ensures) in
    search-steps (criterion_of c.args.query.now) c.args.snapshot.now.rows (numbers_of c.in_ok-numbers.numbers)
    c.args.steps.now c.matching.new.steps c.numbers_in.new.steps c.in_ok-numbers.ensures.numbers c.matching.ensures.bound
    c.matching.ensures.counted few

pub returns-in_err-found-clause-bound : goal.returns-in_err-found-clause-bound
returns-in_err-found-clause-bound g c =
    let few : c.numbers_in.new.steps ≤ c.matching.new.steps + length (numbers_of c.in_ok-numbers.numbers) =
    omega (arith, c.numbers_in.ensures.bound, ap (λ (ns : List ℕ). length ns) c.as_slice.ensures) in
    search-steps (criterion_of c.args.query.now) c.args.snapshot.now.rows (numbers_of c.in_ok-numbers.numbers)
    c.args.steps.now c.matching.new.steps c.numbers_in.new.steps c.in_ok-numbers.ensures.numbers c.matching.ensures.bound
    c.matching.ensures.counted few
