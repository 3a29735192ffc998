-- The slices are shown as the board has them at its stop.
use Rattle.std.proofs.Common.{Ok, sym, ap, subst}
use Rattle.std.proofs.lemmas.Result.{err_from_is_err_and}
use Rattle.sc_seen.specs.Seen.{Layout}
use Rattle.sc_collection.specs.Desks.{Out, AreAtRest}
use Rattle.sc_session.specs.Answering.{reply_of}
use Rattle.sc_session.proofs.StatusLemmas.{board_kept, board_told, board_shown}
use Rattle.sc_session.proofs.command.status.Goals as goal

pub give_board-requires-clause-rest : goal.give_board-requires-clause-rest
give_board-requires-clause-rest g c keepers has =
    let rest = c.hold_board-board.ensures.rest keepers has in (
      rest.0,
      subst (λ (layout : Layout). AreAtRest layout c.hold_board-board.result.journal.entries (g.D.Desk.keeping c.hold_board-board.new.self keepers))
          (sym c.hold_board-board.ensures.handed.layout) rest.1,
    )

pub returns-in_err-body-clause-shows : goal.returns-in_err-body-clause-shows
returns-in_err-body-clause-shows g c =
    let held = c.hold_board-board.result.journal.entries in
    let layout = g.D.Desk.layout c.args.desk.now in
    let failed = err_from_is_err_and c.from_residual.result c.from_residual.ensures.1 in
    let kept = board_kept layout (g.D.Desk.layout c.hold_board-board.new.self) (g.D.Desk.layout c.give_board.new.self) held c.args.trail.now c.keep.new.self
    c.buckets.result c.entries-place.result c.hold_board-board.ensures.handed.layout c.give_board.ensures.taken.layout c.buckets.ensures.count c.entries-place.ensures c.keep.ensures in
    board_shown c.hold_board-board.result layout (g.D.Desk.layout c.hold_board-board.new.self) (g.D.Desk.seen c.args.desk.now) (g.D.Desk.seen c.hold_board-board.new.self)
    (g.D.Desk.seen c.give_board.new.self) c.args.trail.now.stops c.keep.new.self.stops c.from_residual.result
    c.hold_board-board.ensures.handed.sound c.hold_board-board.ensures.handed.is_of c.hold_board-board.ensures.handed.extends c.hold_board-board.ensures.handed.layout c.hold_board-board.ensures.handed.seen
    (c.give_board.ensures.taken.seen held (ap (λ (out : Out). out.board) c.hold_board-board.ensures.handed.out)) kept (rw failed.1 tt)

pub returns-clause-shows : goal.returns-clause-shows
returns-clause-shows g c =
    let held = c.hold_board-board.result.journal.entries in
    let layout = g.D.Desk.layout c.args.desk.now in
    let kept = board_kept layout (g.D.Desk.layout c.hold_board-board.new.self) (g.D.Desk.layout c.give_board.new.self) held c.args.trail.now c.keep.new.self
    c.buckets.result c.entries-place.result c.hold_board-board.ensures.handed.layout c.give_board.ensures.taken.layout c.buckets.ensures.count c.entries-place.ensures c.keep.ensures in
    board_shown c.hold_board-board.result layout (g.D.Desk.layout c.hold_board-board.new.self) (g.D.Desk.seen c.args.desk.now) (g.D.Desk.seen c.hold_board-board.new.self)
    (g.D.Desk.seen c.give_board.new.self) c.args.trail.now.stops c.keep.new.self.stops (Ok c.made.result)
    c.hold_board-board.ensures.handed.sound c.hold_board-board.ensures.handed.is_of c.hold_board-board.ensures.handed.extends c.hold_board-board.ensures.handed.layout c.hold_board-board.ensures.handed.seen
    (c.give_board.ensures.taken.seen held (ap (λ (out : Out). out.board) c.hold_board-board.ensures.handed.out)) kept
    (board_told layout c.map.result.now c.hold_board-board.result.map c.nodes-nodes.result c.in_ok-body.field-0 (reply_of c.made.result)
    c.made.ensures c.in_ok-body.ensures c.map.ensures c.nodes-nodes.ensures.count)
