-- Another entry takes no slice away.
use Rattle.sc_restored.proofs.MarkLemmas.{resets_not}
use Rattle.sc_restored.proofs.marks.resets.Goals as goal

pub returns-in_default : goal.returns-in_default
returns-in_default c = resets_not c.args.slice c.args.entry.now c.in_default.not-Dropped
