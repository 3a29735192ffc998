-- One row more is told, by whether its hash is in the range.
use Rattle.std.proofs.Common.{length, sym, ◌∙◌}
use Rattle.sc_snapshot.proofs.part.Part.look.Goals as goal

pub returns-in_ok-keep-clause-change : goal.returns-in_ok-keep-clause-change
returns-in_ok-keep-clause-change c = λ old new at is at_old at_new.
    c.in_ok-keep.ensures.change old new at is at_old (at_new (sym c.is_within.ensures ∙ c.if-is_within.true))

pub returns-in_ok-leave-clause-change : goal.returns-in_ok-leave-clause-change
returns-in_ok-leave-clause-change c = λ old new at is at_old at_new.
    c.in_ok-leave.ensures.change old new at (length c.args.self.now.cells.items) is
