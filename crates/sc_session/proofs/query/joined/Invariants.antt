-- The texts so far are joined.
use Rattle.std.proofs.Common.{◌+◌, take}
use Rattle.sc_query.specs.Tree.{tree_of}
use Rattle.sc_session.specs.Queries.{HaveJoined}
use Rattle.sc_session.proofs.query.joined.Given as goal

abbrev pub invariant-loop-text : goal.invariant-loop-text
invariant-loop-text l = HaveJoined (take (l.text-index + 1) l.texts) (tree_of l.query)
