-- The keys so far, and then those of the values left.
use Rattle.std.proofs.Common.{◌≡◌, ◌++◌}
use Rattle.std.specs.Prelude.{flat_map}
use Rattle.sc_schema.specs.Terms.{keys_of}
use Rattle.sc_schema.proofs.terms.found_keys.Given as goal

abbrev pub invariant-loop-value : goal.invariant-loop-value
invariant-loop-value l = l.keys.items ++ flat_map (keys_of l.split) l.value-iterator ≡ flat_map (keys_of l.split) l.fn.values
