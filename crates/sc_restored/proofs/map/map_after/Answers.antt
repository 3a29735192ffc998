-- The next entry is allowed, and makes the next map.
use Rattle.std.proofs.Common.{◌∙◌, ap, arith}
use Rattle.std.proofs.lemmas.List.{take_all}
use Rattle.sc_journal.specs.Splits.{map_after}
use Rattle.sc_restored.proofs.MapLemmas.{allows_next, map_next}
use Rattle.sc_restored.proofs.map.map_after.Goals as goal

pub change-requires : goal.change-requires
change-requires c =
    allows_next c.args.first.now c.args.entries.now c.loop-entry.entry-index c.entry-item.result c.loop-entry.map c.get.ensures.map c.requires.idle
    c.requires.legal c.loop-entry-test.true c.entry-item.is c.loop-entry.invariant

pub loop-entry-preserved : goal.loop-entry-preserved
loop-entry-preserved c =
    map_next c.args.first.now c.args.entries.now c.loop-entry.entry-index c.entry-item.result c.loop-entry.map c.change.new.map
    c.loop-entry-test.true c.entry-item.is c.loop-entry.invariant c.in_ok-change.ensures

pub returns : goal.returns
returns c =
    c.loop-entry.invariant
    ∙ ap (map_after c.args.first.now) (take_all c.loop-entry.entry-index c.args.entries.now (omega (arith, c.loop-entry-test.false)))
