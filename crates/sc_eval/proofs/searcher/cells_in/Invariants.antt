-- So far the rows of the first numbers that are kept, in a step for each.
use Rattle.std.proofs.Common.{◌≡◌, ◌+◌, map, take, option_to_list, slice_get}
use Rattle.std.specs.Arc.{arc_value}
use Rattle.std.specs.List.{flat_map}
use Rattle.sc_eval.specs.Numbers.{row_in}
use Rattle.sc_eval.proofs.searcher.cells_in.Given as goal

abbrev pub invariant-loop-number : goal.invariant-loop-number
invariant-loop-number g l = record {
  found : map arc_value l.found ≡ flat_map (λ number. option_to_list (row_in l.range (slice_get l.snapshot.rows number))) (take l.number-index l.numbers);
  steps : l.steps ≡ l.fn.steps + l.number-index;
}
