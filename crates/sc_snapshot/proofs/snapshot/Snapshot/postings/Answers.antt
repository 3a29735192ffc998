-- The rows that the index gives are those of the snapshot.
use Rattle.std.proofs.Common.{◌≡◌, ◌+◌, ◌-◌, ◌*◌, ◌^◌, ◌≤◌, List, ap, subst, ◌∙◌, slice_get}
use Rattle.sc_record.specs.Writes.{Write}
use Rattle.sc_snapshot.specs.Postings.{has_term, term_count}
use Rattle.sc_snapshot.specs.Rows.{SnapshotState}
use Rattle.sc_snapshot.proofs.snapshot.Snapshot.postings.Goals as goal

pub returns-clause-members : goal.returns-clause-members
returns-clause-members g c = λ number.
    let same : c.pieces.result.now ≡ c.args.self.now.rows = c.pieces.ensures.rows ∙ ap (λ (s : SnapshotState). s.rows) c.self.view_is in
    c.postings.ensures.members number ∙ ap (λ (rows : List Write). has_term c.args.key.now.term (slice_get rows number)) same

pub returns-clause-bound : goal.returns-clause-bound
returns-clause-bound g c =
    let same : c.pieces.result.now ≡ c.args.self.now.rows = c.pieces.ensures.rows ∙ ap (λ (s : SnapshotState). s.rows) c.self.view_is in
    subst (λ (rows : List Write). 2 ^ (c.postings.new.steps - c.args.steps.now) ≤ 2 * term_count rows + 1) same c.postings.ensures.bound
