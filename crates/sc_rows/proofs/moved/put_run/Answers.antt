-- The numbers that stood there, and the run after them.
use Rattle.std.proofs.Common.{List, ℕ, ◌++◌, ap, ◌∙◌}
use Rattle.std.specs.List.{range_with_len}
use Rattle.sc_rows.proofs.moved.put_run.Goals as goal

pub returns : goal.returns
returns c =
    c.with_run.ensures ∙ ap (λ (ns : List ℕ). ns ++ range_with_len c.args.first c.args.count) (ap (λ list. list.items) c.replace-numbers.ensures.value ∙ c.reserve.ensures.items)
