-- proofs/deleting/drop_on_board/Answers.antt
-- The board is given back with one entry more, or as it was.
use Rattle.std.proofs.Common.{◌∙◌, true, false, [], ◌∷◌, ◌++◌, length, sym, ap, subst}
use Rattle.std.specs.Prelude.{is_ok}
use Rattle.sc_seen.specs.Seen.{Layout}
use Rattle.sc_seen.specs.declared.stop.Stop.{Stop}
use Rattle.sc_board.specs.Drops.{IsDropRefusal}
use Rattle.sc_seen.specs.Board.{board_map}
use Rattle.sc_collection.specs.Kept.{Kept}
use Rattle.sc_collection.specs.Desks.{Out, AreAtRest}
use Rattle.sc_admin.specs.Dropping.{DropsSlice, with_board}
use Rattle.sc_admin.proofs.DeleteBoardLemmas.{may_replace, by_ok, by_err, at_err, stop_is, deletes_slice, deletes_none}
use Rattle.sc_admin.proofs.deleting.drop_on_board.Goals as goal

pub drop_slice-answer-requires-clause-rest : goal.drop_slice-answer-requires-clause-rest
drop_slice-answer-requires-clause-rest g c keepers has =
    let rest = c.hold_board-board.ensures.rest keepers has in (
      rest.0,
      subst (λ (layout : Layout). AreAtRest layout c.hold_board-board.result.journal.entries (g.D.Desk.keeping c.hold_board-board.new.self keepers))
          (sym c.hold_board-board.ensures.handed.layout) rest.1,
    )

pub give_board-requires-clause-is_out : goal.give_board-requires-clause-is_out
give_board-requires-clause-is_out g c = (
  c.hold_board-board.result.journal.entries,
  ap (λ (out : Out). out.board) (c.drop_slice-answer.ensures.out ∙ c.hold_board-board.ensures.handed.out),
  may_replace (g.D.Desk.layout c.hold_board-board.new.self) (g.D.Desk.layout c.drop_slice-answer.new.desk) c.args.shard.now
      (g.D.Desk.seen c.hold_board-board.new.self) (g.D.Desk.seen c.drop_slice-answer.new.desk) (g.D.Desk.seen c.drop_slice-answer.new.desk)
      c.hold_board-board.result.journal.entries c.drop_slice-answer.new.board.journal.entries c.drop_slice-answer.result
      c.drop_slice-answer.ensures.dropped c.drop_slice-answer.ensures.entries,
)

pub returns-clause-dropped : goal.returns-clause-dropped
returns-clause-dropped g c =
    let layout = g.D.Desk.layout c.args.desk.now in
    let held = c.hold_board-board.result.journal.entries in
    let given = c.drop_slice-answer.new.board.journal.entries in
    let out = g.D.Desk.seen c.hold_board-board.new.self in
    let between = g.D.Desk.seen c.drop_slice-answer.new.desk in
    by_ok c.drop_slice-answer.result (DropsSlice (g.D.Desk.layout c.hold_board-board.new.self) c.args.shard.now (with_board out held) (with_board between given)) _
    c.drop_slice-answer.ensures.dropped
    (λ cores is drops. deletes_slice layout (g.D.Desk.layout c.hold_board-board.new.self) (g.D.Desk.layout c.drop_slice-answer.new.desk)
    c.args.shard.now (g.D.Desk.seen c.args.desk.now) out between (g.D.Desk.seen c.give_board.new.self) c.args.trail.now.stops c.keep.new.self.stops
    held given c.hold_board-board.ensures.handed.layout (c.drop_slice-answer.ensures.layout ∙ c.hold_board-board.ensures.handed.layout)
    c.hold_board-board.ensures.handed.extends c.hold_board-board.ensures.handed.seen c.drop_slice-answer.ensures.board
    (c.give_board.ensures.taken.seen held (ap (λ (o : Out). o.board) (c.drop_slice-answer.ensures.out ∙ c.hold_board-board.ensures.handed.out)))
    cores drops
    (ap (λ (kept : Kept). kept.stops) c.keep.ensures ∙ ap (λ (stop : Stop). c.args.trail.now.stops ++ stop ∷ [])
    (stop_is c.buckets.result layout.buckets c.entries-place.result (length held) c.is_ok.result true
    (c.buckets.ensures.count ∙ ap (λ (l : Layout). l.buckets)
    (c.give_board.ensures.taken.layout ∙ c.drop_slice-answer.ensures.layout ∙ c.hold_board-board.ensures.handed.layout))
    c.entries-place.ensures (c.is_ok.ensures.value ∙ ap is_ok is))))

pub returns-clause-refused : goal.returns-clause-refused
returns-clause-refused g c =
    let layout = g.D.Desk.layout c.args.desk.now in
    let held = c.hold_board-board.result.journal.entries in
    let given = c.drop_slice-answer.new.board.journal.entries in
    let out = g.D.Desk.seen c.hold_board-board.new.self in
    let between = g.D.Desk.seen c.drop_slice-answer.new.desk in
    by_err c.drop_slice-answer.result (IsDropRefusal (board_map (g.D.Desk.layout c.hold_board-board.new.self).first held) c.args.shard.now) _
    c.drop_slice-answer.ensures.refused
    (λ fault is cause. deletes_none layout (g.D.Desk.layout c.hold_board-board.new.self) (g.D.Desk.layout c.drop_slice-answer.new.desk)
    c.args.shard.now (g.D.Desk.seen c.args.desk.now) out between (g.D.Desk.seen c.give_board.new.self) c.args.trail.now.stops c.keep.new.self.stops
    held given c.hold_board-board.ensures.handed.layout (c.drop_slice-answer.ensures.layout ∙ c.hold_board-board.ensures.handed.layout)
    c.hold_board-board.ensures.handed.extends c.hold_board-board.ensures.handed.seen c.drop_slice-answer.ensures.board
    (c.give_board.ensures.taken.seen held (ap (λ (o : Out). o.board) (c.drop_slice-answer.ensures.out ∙ c.hold_board-board.ensures.handed.out)))
    fault cause (at_err c.drop_slice-answer.result fault is c.drop_slice-answer.ensures.entries)
    (at_err c.drop_slice-answer.result fault is c.drop_slice-answer.ensures.journals)
    (ap (λ (kept : Kept). kept.stops) c.keep.ensures ∙ ap (λ (stop : Stop). c.args.trail.now.stops ++ stop ∷ [])
    (stop_is c.buckets.result layout.buckets c.entries-place.result (length held) c.is_ok.result false
    (c.buckets.ensures.count ∙ ap (λ (l : Layout). l.buckets)
    (c.give_board.ensures.taken.layout ∙ c.drop_slice-answer.ensures.layout ∙ c.hold_board-board.ensures.handed.layout))
    c.entries-place.ensures (c.is_ok.ensures.value ∙ ap is_ok is))))
