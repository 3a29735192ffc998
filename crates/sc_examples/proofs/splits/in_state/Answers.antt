-- The slice that is found is one of the map and has the state.
use denote.Enum.Bare.{same_true}
use Rattle.std.proofs.Common.{refl, sym, rules}
use Rattle.sc_cluster.specs.contracts.slice.State.{the_type}
use Rattle.sc_examples.proofs.splits.in_state.Goals as goal

pub returns-in-Some : goal.returns-in-Some
returns-in-Some c =
    (c.in-Some.slice.now, c.in-Some.ensures.slice.0, refl, refl, same_true the_type (search rules) _ _ (sym c.if-eq.ensures))
