-- No edit is told yet.
use Rattle.std.proofs.Common.{sym, ◌∙◌}
use Rattle.sc_snapshot.specs.Edits.{edited}
use Rattle.sc_snapshot.proofs.made.Told.begin.Goals as goal

pub returns : goal.returns
returns c =
    let old = c.args.old.now in
    let new = edited old 0 c.args.edits.now in
    let rows = c.rows_after.ensures in
    let survey = c.in_ok-survey.ensures in
    record {
      change = c.in_ok-change.ensures.change old new;
      alone = c.in_ok-change.ensures.alone;
      surveyed = survey.surveyed new (sym rows);
      size = survey.size ∙ rows;
      bounds = survey.hashes;
    }
