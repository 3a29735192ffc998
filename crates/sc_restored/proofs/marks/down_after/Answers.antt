-- Another entry changes nothing.
use Rattle.sc_record.specs.Names.{key_of_core}
use Rattle.sc_restored.proofs.MarkLemmas.{down_same}
use Rattle.sc_restored.proofs.marks.down_after.Goals as goal

pub returns-in_default : goal.returns-in_default
returns-in_default c =
    down_same (key_of_core c.args.seat) c.args.before c.args.entry.now c.in_default.not-Dropped c.in_default.not-Down c.in_default.not-Up
    c.in_default.not-Led
