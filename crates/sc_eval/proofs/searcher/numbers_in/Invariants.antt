-- So far those of the first numbers that are kept, in a step for each.
use Rattle.std.proofs.Common.{◌≡◌, ◌+◌, take, is_some, slice_get}
use Rattle.std.specs.List.{filter}
use Rattle.sc_eval.specs.Numbers.{row_in}
use Rattle.sc_eval.proofs.searcher.numbers_in.Given as goal

abbrev pub invariant-loop-number : goal.invariant-loop-number
invariant-loop-number g l = record {
  found : l.found.items ≡ filter (λ number. is_some (row_in l.range (slice_get l.snapshot.rows number))) (take l.number-index l.numbers);
  steps : l.steps ≡ l.fn.steps + l.number-index;
}
