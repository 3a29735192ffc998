-- The changes are those of the writes that are not committed, where there are any.
use Rattle.std.proofs.Common.{◌∙◌, List, length, map, filter, sym, ap, subst}
use Rattle.std.specs.Arc.{arc_value}
use Rattle.std.proofs.lemmas.Bool.{eqb-true}
use Rattle.sc_record.specs.Writes.{Write, AscendById}
use Rattle.sc_bucket.specs.Entries.{uncommitted}
use Rattle.sc_snapshot.specs.Rows.{is_within, lent}
use Rattle.sc_bucket.specs.Taking.{AreLastOf}
use Rattle.sc_bucket.proofs.NextLemmas.{no_cells, AreChangesOf-none}
use Rattle.sc_bucket.proofs.commit.changed_snapshot.Goals as goal

pub same_snapshot-requires-clause-unchanged : goal.same_snapshot-requires-clause-unchanged
same_snapshot-requires-clause-unchanged c =
    let writes = c.uncommitted_writes-writes.result.now in
    AreChangesOf-none c.args.bucket.now.journal.entries c.args.slice.now
    (sym c.uncommitted_writes-writes.ensures ∙ no_cells arc_value writes (eqb-true (length writes) 0 (sym c.if-is_empty.ensures)))

pub next_snapshot-requires-clause-changes : goal.next_snapshot-requires-clause-changes
next_snapshot-requires-clause-changes c =
    let range = c.args.slice.now.range in
    let journal = c.args.bucket.now.journal.entries in
    let changes : List Write = map lent c.in_ok-changes.changes.items in
    let same = ap (map lent) c.as_slice.ensures.value in
    record {
      ascend = subst AscendById (sym same) c.in_ok-changes.ensures.ascend;
      last = subst (AreLastOf (filter (is_within range) (uncommitted journal))) (sym same)
          (subst (λ (writes : List Write). AreLastOf (filter (is_within range) writes) changes) c.uncommitted_writes-writes.ensures c.in_ok-changes.ensures.last);
    }
