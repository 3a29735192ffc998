-- Each change of what is kept is that of the entry that came.
use Rattle.std.proofs.Common.{subst}
use Rattle.sc_record.specs.declared.entry.Entry.TheVariants as entry
use Rattle.sc_journal.specs.Legal.{MayFollow}
use Rattle.sc_legal.proofs.KeptLemmas.{writes_within, kept-committed, kept-begun, kept-switched, kept-failed, kept-dropped, kept-down, kept-led, kept-up}
use Rattle.sc_legal.proofs.MayLemmas.{being_split, may_take_out, noted, noted_where_ok}
use Rattle.sc_legal.proofs.kept.Kept.note.Goals as goal

pub write-requires-clause-writes : goal.write-requires-clause-writes
write-requires-clause-writes c =
    let (first, journal, checked, may, few) = c.requires in writes_within first journal c.args.self.now checked.kept_is

pub switched-requires-clause-split : goal.switched-requires-clause-split
switched-requires-clause-split c =
    let (first, journal, checked, may, few) = c.requires in
    being_split first journal c.args.self.now c.in-Switched.parent checked (subst (MayFollow first journal) c.in-Switched.is may)

pub failed-requires-clause-split : goal.failed-requires-clause-split
failed-requires-clause-split c =
    let (first, journal, checked, may, few) = c.requires in
    being_split first journal c.args.self.now c.in-Failed.parent checked (subst (MayFollow first journal) c.in-Failed.is may)

pub dropped-requires-clause-inactive : goal.dropped-requires-clause-inactive
dropped-requires-clause-inactive c =
    let (first, journal, checked, may, few) = c.requires in
    may_take_out first journal c.args.self.now c.in-Dropped.slice checked (subst (MayFollow first journal) c.in-Dropped.is may)

pub returns-in-Committed-clause-ok : goal.returns-in-Committed-clause-ok
returns-in-Committed-clause-ok c =
    noted entry.Committed c.args.entry.now c.args.self.now _ c.committed.new.self c.in-Committed.is c.committed.ensures
    (λ first journal. kept-committed first journal c.args.self.now)

pub returns-in-Switched-clause-ok : goal.returns-in-Switched-clause-ok
returns-in-Switched-clause-ok c =
    noted (entry.Switched c.in-Switched.parent) c.args.entry.now c.args.self.now _ c.switched.new.self c.in-Switched.is c.switched.ensures
    (λ first journal. kept-switched first journal c.args.self.now c.in-Switched.parent)

pub returns-in-Failed-clause-ok : goal.returns-in-Failed-clause-ok
returns-in-Failed-clause-ok c =
    noted (entry.Failed c.in-Failed.parent) c.args.entry.now c.args.self.now _ c.failed.new.self c.in-Failed.is c.failed.ensures
    (λ first journal. kept-failed first journal c.args.self.now c.in-Failed.parent)

pub returns-in-Dropped-clause-ok : goal.returns-in-Dropped-clause-ok
returns-in-Dropped-clause-ok c =
    noted (entry.Dropped c.in-Dropped.slice) c.args.entry.now c.args.self.now _ c.dropped.new.self c.in-Dropped.is c.dropped.ensures
    (λ first journal. kept-dropped first journal c.args.self.now c.in-Dropped.slice)

pub returns-in-Up-clause-ok : goal.returns-in-Up-clause-ok
returns-in-Up-clause-ok c =
    noted (entry.Up c.in-Up.core) c.args.entry.now c.args.self.now _ c.up.new.self c.in-Up.is c.up.ensures
    (λ first journal. kept-up first journal c.args.self.now c.in-Up.core)

pub returns-in-Begun-clause-ok : goal.returns-in-Begun-clause-ok
returns-in-Begun-clause-ok c =
    noted_where_ok (entry.Begun c.in-Begun.parent c.in-Begun.subs) c.args.entry.now c.args.self.now _ c.begun.new.self c.begun.result c.in-Begun.is c.begun.ensures.ok
    (λ first journal. kept-begun first journal c.args.self.now c.in-Begun.parent c.in-Begun.subs)

pub returns-in-Down-clause-ok : goal.returns-in-Down-clause-ok
returns-in-Down-clause-ok c =
    noted_where_ok (entry.Down c.in-Down.core) c.args.entry.now c.args.self.now _ c.down.new.self c.down.result c.in-Down.is c.down.ensures.ok
    (λ first journal. kept-down first journal c.args.self.now c.in-Down.core)

pub returns-in-Led-clause-ok : goal.returns-in-Led-clause-ok
returns-in-Led-clause-ok c =
    noted_where_ok (entry.Led c.in-Led.core) c.args.entry.now c.args.self.now _ c.down-in-Led.new.self c.down-in-Led.result c.in-Led.is c.down-in-Led.ensures.ok
    (λ first journal. kept-led first journal c.args.self.now c.in-Led.core)
