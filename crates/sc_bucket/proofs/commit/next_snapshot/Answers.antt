-- What was committed is the leader's cells after the changes.
use Rattle.std.proofs.Common.{List, length, map, sym, subst}
use Rattle.std.proofs.lemmas.Bool.{eqb-true}
use Rattle.sc_record.specs.Writes.{Write}
use Rattle.sc_snapshot.specs.Rows.{lent}
use Rattle.sc_bucket.specs.Taking.{AreChangesOf}
use Rattle.sc_bucket.proofs.NextLemmas.{no_cells, IsOfLeader-next, bounded-changed}
use Rattle.sc_bucket.proofs.commit.next_snapshot.Goals as goal

pub same_snapshot-requires-clause-unchanged : goal.same_snapshot-requires-clause-unchanged
same_snapshot-requires-clause-unchanged c =
    subst (AreChangesOf c.args.bucket.now.journal.entries c.args.slice.now)
    (no_cells lent c.args.changes.now (eqb-true (length c.args.changes.now) 0 (sym c.if-is_empty.ensures))) c.requires.changes

pub next-requires-clause-bounded : goal.next-requires-clause-bounded
next-requires-clause-bounded c =
    let changes : List Write = map lent c.args.changes.now in
    bounded-changed c.args.bucket.now c.args.slice.now c.args.last.now.rows changes c.requires.sound c.requires.last c.requires.changes

pub returns-else-is_empty : goal.returns-else-is_empty
returns-else-is_empty c =
    let changes : List Write = map lent c.args.changes.now in
    IsOfLeader-next c.args.bucket.now c.args.slice.now c.args.last.now.rows changes c.entries.result c.next.result c.requires.sound c.requires.last
    c.requires.changes c.entries.ensures.count c.next.ensures.place c.next.ensures.rows c.next.ensures.changed
