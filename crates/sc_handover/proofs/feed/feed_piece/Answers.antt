-- Each turn feeds one row; where none is left then, the feed is taken away.
use Rattle.std.proofs.Common.{List, sym, subst, arith}
use Rattle.std.proofs.lemmas.Option.{slice_get_within}
use Rattle.sc_replica.specs.Core.{fed_all}
use Rattle.sc_bucket.specs.Kept.{FeedState}
use Rattle.sc_bucket.specs.Sound.{IsSound}
use Rattle.sc_handover.specs.Feeding.{next_fed, after_rows}
use Rattle.sc_handover.proofs.ChangedLemmas.{with_fed}
use Rattle.sc_handover.proofs.FedLemmas.{IsSound-ended}
use Rattle.sc_handover.proofs.PieceLemmas.{under_way, under_way_more, left_then, none_left, FeedsPiece-ended, FeedsPiece-goes_on}
use Rattle.sc_handover.proofs.feed.feed_piece.Goals as goal

pub loop-row-init : goal.loop-row-init
loop-row-init c = record {
  sound = c.requires.sound;
  way = under_way c.args.bucket.now c.args.core c.position.result c.position-2.result c.unwrap-at.result
      c.unwrap-replica.result c.min-count.result c.rows_left.result c.get.result.now c.position.ensures
      c.unwrap-at.ensures c.position-2.ensures c.unwrap-replica.ensures c.get.ensures c.rows_left.ensures
      c.min-count.ensures;
}

pub feed_row-requires-clause-left : goal.feed_row-requires-clause-left
feed_row-requires-clause-left c =
    let way = c.loop-row.invariant.way in (
      after_rows c.loop-row._row way.feed,
      fed_all way.core (next_fed c.loop-row._row way.feed),
      way.at,
      omega (arith, way.count_is, c.loop-row-test.true),
    )

pub loop-row-preserved : goal.loop-row-preserved
loop-row-preserved c = record {
  sound = c.feed_row.ensures.sound;
  way = under_way_more c.args.bucket.now c.loop-row.bucket c.feed_row.new.bucket c.args.core c.unwrap-at.result
      c.unwrap-replica.result c.min-count.result c.loop-row._row c.loop-row.invariant.way c.feed_row.ensures.fed;
}

pub get-requires-2 : goal.get-requires-2
get-requires-2 c =
    let way = c.loop-row.invariant.way in
    slice_get_within c.loop-row.bucket.feeds c.unwrap-at.result (after_rows c.loop-row._row way.feed) way.at.feed_found

pub remove-requires : goal.remove-requires
remove-requires c = slice_get_within c.loop-row.bucket.feeds c.unwrap-at.result c.get-2.result.now c.get-2.ensures

pub returns-then-is_done-clause-sound : goal.returns-then-is_done-clause-sound
returns-then-is_done-clause-sound c =
    let mid = c.loop-row.bucket in
    let way = c.loop-row.invariant.way in
    let left = left_then c.args.bucket.now mid c.args.core _ _ _ _ c.rows_left-is_done.result c.get-2.result.now way
    c.get-2.ensures c.rows_left-is_done.ensures in
    subst (λ (feeds : List FeedState). IsSound (with_fed mid feeds mid.replicas)) (sym c.remove.ensures)
    (IsSound-ended mid c.unwrap-at.result (after_rows c.loop-row._row way.feed) c.loop-row.invariant.sound
    way.at.feed_found (none_left way.feed c.loop-row._row (omega (arith, left, c.if-is_done.true))))

pub returns-then-is_done-clause-fed : goal.returns-then-is_done-clause-fed
returns-then-is_done-clause-fed c =
    FeedsPiece-ended c.args.bucket.now c.loop-row.bucket c.args.core c.unwrap-at.result c.unwrap-replica.result
    c.min-count.result c.loop-row._row c.rows_left-is_done.result c.get-2.result.now c.remove.new.self
    c.loop-row.invariant.way (omega (arith, c.loop-row-test.false)) c.get-2.ensures c.rows_left-is_done.ensures
    c.if-is_done.true c.remove.ensures

pub returns-else-is_done-clause-fed : goal.returns-else-is_done-clause-fed
returns-else-is_done-clause-fed c =
    FeedsPiece-goes_on c.args.bucket.now c.loop-row.bucket c.args.core c.unwrap-at.result c.unwrap-replica.result
    c.min-count.result c.loop-row._row c.rows_left-is_done.result c.get-2.result.now c.loop-row.invariant.way
    (omega (arith, c.loop-row-test.false)) c.get-2.ensures c.rows_left-is_done.ensures c.if-is_done.false
