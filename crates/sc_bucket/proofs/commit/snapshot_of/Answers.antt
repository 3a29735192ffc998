-- The rows of the last searcher are what was committed of the slice, or else those of them that are in its range.
use Rattle.std.proofs.Common.{◌∙◌, filter, All, sym, ap, subst}
use Rattle.sc_snapshot.specs.Rows.{SnapshotState, is_within}
use Rattle.sc_bucket.specs.Sound.{IsInRange}
use Rattle.sc_bucket.specs.Taking.{AreCommittedOf}
use Rattle.sc_bucket.proofs.NextLemmas.{AreCommittedOf-last, AreCommittedOf-within}
use Rattle.sc_bucket.proofs.commit.snapshot_of.Goals as goal

pub changed_snapshot-requires-clause-last : goal.changed_snapshot-requires-clause-last
changed_snapshot-requires-clause-last c =
    let b = c.args.bucket.now in
    let slice = c.args.slice.now in
    subst (λ (s : SnapshotState). AreCommittedOf b slice s.rows) (sym c.deref-then-are_within.ensures)
    (AreCommittedOf-last b slice c.args.last.now c.requires.sound c.requires.last
    (subst (λ (s : SnapshotState). All (IsInRange slice) s.rows) c.deref.ensures (c.are_within.ensures c.if-are_within.true)))

pub changed_snapshot-requires-else-are_within-clause-last : goal.changed_snapshot-requires-else-are_within-clause-last
changed_snapshot-requires-else-are_within-clause-last c =
    let b = c.args.bucket.now in
    let slice = c.args.slice.now in
    subst (AreCommittedOf b slice)
    (sym (ap (λ (s : SnapshotState). s.rows) c.in_ok-part.ensures ∙ ap (λ (s : SnapshotState). filter (is_within slice.range) s.rows) c.deref-else-are_within.ensures))
    (AreCommittedOf-within b slice c.args.last.now c.requires.sound c.requires.last)
