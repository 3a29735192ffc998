-- The options so far are those of the names so far.
use Rattle.std.proofs.Common.{◌≡◌, map, take}
use Rattle.clap.specs.Words.{app_of}
use Rattle.sc_arguments.specs.Found.{command_with}
use Rattle.sc_arguments.proofs.options.parser_of.Given as goal

abbrev pub invariant-loop-name : goal.invariant-loop-name
invariant-loop-name l = app_of l.parser ≡ command_with (take l.name-index (map (λ name. name.now) l.names))
