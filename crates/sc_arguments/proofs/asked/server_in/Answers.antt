-- The server that the arguments ask for can be run.
use Rattle.std.proofs.Common.{◌∙◌, sym}
use Rattle.sc_arguments.specs.Arguments as asked
use Rattle.sc_arguments.specs.Found.{settings_found}
use Rattle.sc_arguments.proofs.RangeLemmas.{asked_is_shape, server_in_range}
use Rattle.sc_arguments.proofs.asked.server_in.Goals as goal

pub returns-clause-range : goal.returns-clause-range
returns-clause-range c =
    let shape = asked_is_shape c.in_ok-shape_of.field-0 (asked.shape_of (settings_found c.args.found.now))
    (sym c.in_ok-shape_of.was ∙ c.shape_of.ensures) in
    server_in_range (record {
      shape = c.in_ok-shape_of.field-0;
      clock = c.number_given.result;
      port = c.in_ok-within.field-0;
      workers = c.in_ok-within-2.field-0;
      max_connections = c.in_ok-within-3.field-0;
    }) shape c.in_ok-within.ensures.range c.in_ok-within-2.ensures.range c.in_ok-within-3.ensures.range
