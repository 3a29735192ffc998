-- Another entry says nothing of a seat.
use Rattle.std.proofs.Common.{Some, None, cond, Bool, sym, ap}
use Rattle.sc_restored.proofs.MarkLemmas.{no_mark}
use Rattle.sc_restored.proofs.marks.mark_of.Goals as goal

pub returns-in_default : goal.returns-in_default
returns-in_default c =
    sym (ap (λ (b : Bool). cond b (Some c.args.entry.now) None)
    (no_mark c.args.entry.now c.in_default.not-Dropped c.in_default.not-Down c.in_default.not-Up c.in_default.not-Led))
