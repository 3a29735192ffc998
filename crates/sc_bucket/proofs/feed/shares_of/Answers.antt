-- The shares are those of the rows in the range.
use Rattle.std.proofs.Common.{◌≡◌, ◌∙◌, ◌++◌, ◌∷◌, [], Some, slice_get, ap, sym, filter}
use Rattle.std.specs.Option.{option_map, option_copied}
use Rattle.std.specs.Arc.{arc_value}
use Rattle.sc_snapshot.specs.Rows.{is_within}
use Rattle.sc_replicas.proofs.FindLemmas.{filter_take-next}
use Rattle.sc_bucket.proofs.feed.shares_of.Goals as goal

pub loop-at-preserved : goal.loop-at-preserved
loop-at-preserved g c =
    let row = arc_value c.unwrap.result.now in
    let there : slice_get c.args.snapshot.now.rows c.loop-at.at ≡ Some row =
    sym c.row.ensures.row ∙ ap (λ found. option_map arc_value (option_copied found)) c.unwrap.ensures in
    c.in_ok-push_share.ensures
    ∙ ap (λ these. these ++ filter (is_within c.args.range.now) (row ∷ [])) c.loop-at.invariant
    ∙ filter_take-next (is_within c.args.range.now) c.args.snapshot.now.rows c.loop-at.at row there
