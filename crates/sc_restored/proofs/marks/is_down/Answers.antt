-- One entry more, and all of them.
use Rattle.std.proofs.Common.{◌∙◌, List, ap, arith}
use Rattle.std.proofs.lemmas.List.{take_all}
use Rattle.sc_record.specs.declared.entry.Entry.{Entry}
use Rattle.sc_record.specs.Names.{key_of_core}
use Rattle.sc_journal.specs.Down.{is_down}
use Rattle.sc_restored.proofs.MarkLemmas.{is_down-next}
use Rattle.sc_restored.proofs.marks.is_down.Goals as goal

pub loop-entry-preserved : goal.loop-entry-preserved
loop-entry-preserved c =
    is_down-next c.args.entries.now c.loop-entry.entry-index c.entry-item.result (key_of_core c.args.seat) c.loop-entry.down c.down_after-down.result
    c.loop-entry-test.true c.entry-item.is c.loop-entry.invariant c.down_after-down.ensures

pub returns : goal.returns
returns c =
    c.loop-entry.invariant
    ∙ ap (λ (entries : List Entry). is_down entries (key_of_core c.args.seat))
    (take_all c.loop-entry.entry-index c.args.entries.now (omega (arith, c.loop-entry-test.false)))
