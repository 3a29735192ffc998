-- The row is fed where it is in the range, and else it is passed over.
use Rattle.std.proofs.Common.{◌∷◌, [], sym, ◌∙◌, subst, arith, ◌<◌}
use Rattle.std.specs.Arc.{arc_value}
use Rattle.std.proofs.lemmas.Option.{same_Some}
use Rattle.sc_replica.specs.Core.{Core}
use Rattle.sc_replicas.proofs.FindLemmas.{some_at}
use Rattle.sc_handover.proofs.RowLemmas.{looked-some, looked-none, room_to_feed, left_at, unfed, FeedsRows-one, IsSound-rows}
use Rattle.sc_handover.proofs.feed.feed_row.Goals as goal

pub feed-requires-clause-room : goal.feed-requires-clause-room
feed-requires-clause-room c core there =
    let b = c.args.bucket.now in
    let (feed, its, is, left) = c.requires.left in
    let (row, next) = some_at feed.rows feed.next left in
    subst (λ (one : Core). 0 < one.cell_spare) (same_Some its core (sym is.core_found ∙ there))
    (room_to_feed b c.args.at c.args.replica feed its (arc_value c.in-Some.write) c.requires.sound is
    (looked-some feed row (arc_value c.in-Some.write) next (c.in-Some.ensures.row feed row is.feed_found next)))

pub returns-in-Some-clause-fed : goal.returns-in-Some-clause-fed
returns-in-Some-clause-fed c feed core is =
    let b = c.args.bucket.now in
    let (row, next) = some_at feed.rows feed.next (left_at b c.args.at c.args.replica feed core c.requires.left is) in
    FeedsRows-one b c.args.at c.args.replica feed core c.look.new.self c.feed.new.self (arc_value c.in-Some.write ∷ [])
    (looked-some feed row (arc_value c.in-Some.write) next (c.in-Some.ensures.row feed row is.feed_found next))
    (c.look.ensures.next feed is.feed_found) (c.feed.ensures core is.core_found)

pub returns-in-Some-clause-sound : goal.returns-in-Some-clause-sound
returns-in-Some-clause-sound c =
    let (feed, core, is, left) = c.requires.left in
    IsSound-rows c.args.bucket.now c.args.at c.args.replica 1 feed core c.look.new.self c.feed.new.self
    c.requires.sound is
    (omega (arith, left)) (returns-in-Some-clause-fed c feed core is)

pub returns-in_default-clause-fed : goal.returns-in_default-clause-fed
returns-in_default-clause-fed c feed core is =
    let b = c.args.bucket.now in
    let (row, next) = some_at feed.rows feed.next (left_at b c.args.at c.args.replica feed core c.requires.left is) in
    FeedsRows-one b c.args.at c.args.replica feed core c.look.new.self b.replicas []
    (looked-none feed row next (c.in_default.ensures.row feed row is.feed_found next))
    (c.look.ensures.next feed is.feed_found) (unfed b c.args.at c.args.replica feed core is)

pub returns-in_default-clause-sound : goal.returns-in_default-clause-sound
returns-in_default-clause-sound c =
    let (feed, core, is, left) = c.requires.left in
    IsSound-rows c.args.bucket.now c.args.at c.args.replica 1 feed core c.look.new.self c.args.bucket.now.replicas
    c.requires.sound is
    (omega (arith, left)) (returns-in_default-clause-fed c feed core is)
