-- proofs/board/open/Answers.antt
-- The board is given back with one entry more, or as it was.
use Rattle.std.proofs.Common.{◌≡◌, Some, None, true, false, [], ◌∷◌, ◌++◌, length, ap, ◌∙◌, refl}
use Rattle.std.specs.Prelude.{is_ok}
use Rattle.sc_seen.specs.Seen.{Layout}
use Rattle.sc_seen.specs.declared.stop.Stop.{Stop}
use Rattle.sc_collection.specs.Kept.{Kept}
use Rattle.sc_seen.specs.declared.board.BoardEntry.TheVariants as board
use Rattle.sc_board.specs.Events.{Notes, IsSameBoardButRoom}
use Rattle.sc_board.specs.Splits.{IsPlanOf, IsRefusal, asked_for}
use Rattle.sc_collection.specs.Desks.{Out}
use Rattle.sc_split.proofs.BoardLemmas.{at-rest-still}
use Rattle.sc_split.proofs.OpenBoardLemmas.{may-replace-begun, keepers-still, by-ok, by-err, if-ok-at, if-err-at, opens-by, refuses-by, stop-is}
use Rattle.sc_split.proofs.board.open.Goals as goal

pub give_board-requires-clause-is_out : goal.give_board-requires-clause-is_out
give_board-requires-clause-is_out g c = (
  c.hold_board-board.result.journal.entries,
  ap (λ (out : Out). out.board) c.hold_board-board.ensures.handed.out,
  may-replace-begun c.hold_board-board.result c.begin_split-answer.new.self c.begin_split-answer.result (g.D.Desk.layout c.hold_board-board.new.self) (g.D.Desk.seen c.hold_board-board.new.self)
      c.hold_board-board.ensures.handed.sound.keepers_there
      c.begin_split-answer.ensures.begun c.begin_split-answer.ensures.keepers c.begin_split-answer.ensures.same,
)

pub give_board-requires-clause-rest : goal.give_board-requires-clause-rest
give_board-requires-clause-rest g c keepers has =
    let still = keepers-still c.hold_board-board.result c.begin_split-answer.new.self c.begin_split-answer.result c.begin_split-answer.ensures.handed_out c.begin_split-answer.ensures.same keepers has in
    let rest = c.hold_board-board.ensures.rest keepers still.0 in (
      rest.0,
      at-rest-still (g.D.Desk.layout c.args.desk.now) _ c.hold_board-board.result.journal.entries _ _ _ c.hold_board-board.ensures.handed.layout still.1
          (record { part = λ number. refl; own = λ number. refl }) rest.1,
    )

pub returns-clause-opened : goal.returns-clause-opened
returns-clause-opened g c = by-ok c.begin_split-answer.result _ (λ begun is.
    let kept = if-ok-at c.begin_split-answer.result (λ one. c.hold_board-board.result.keepers ≡ Some one.1) begun is c.begin_split-answer.ensures.keepers in
    let handed : c.begin_split-answer.new.self.keepers ≡ None = if-ok-at c.begin_split-answer.result (λ one. c.begin_split-answer.new.self.keepers ≡ None) begun is c.begin_split-answer.ensures.handed_out in
    let notes : Notes c.hold_board-board.result (board.Begun begun.0) c.begin_split-answer.new.self =
    if-ok-at c.begin_split-answer.result (λ one. Notes c.hold_board-board.result (board.Begun one.0) c.begin_split-answer.new.self) begun is c.begin_split-answer.ensures.begun in
    let planned : IsPlanOf c.hold_board-board.result.first c.hold_board-board.result.journal.entries (asked_for c.args.shard.now c.args.cut.now) begun.0 =
    if-ok-at c.begin_split-answer.result (λ one. IsPlanOf c.hold_board-board.result.first c.hold_board-board.result.journal.entries (asked_for c.args.shard.now c.args.cut.now) one.0)
    begun is c.begin_split-answer.ensures.plan in
    let rest = c.hold_board-board.ensures.rest begun.1 kept in
    let still = c.give_board.ensures.keepers handed begun.1 rest.0 in
    let opens = opens-by c.hold_board-board.result c.begin_split-answer.new.self (asked_for c.args.shard.now c.args.cut.now) begun.0
    (g.D.Desk.layout c.args.desk.now) (g.D.Desk.layout c.hold_board-board.new.self) (g.D.Desk.seen c.args.desk.now) (g.D.Desk.seen c.hold_board-board.new.self)
    (g.D.Desk.seen c.give_board.new.self) c.args.trail.now.stops c.keep.new.self.stops
    c.hold_board-board.ensures.handed.is_of c.hold_board-board.ensures.handed.extends c.hold_board-board.ensures.handed.layout c.hold_board-board.ensures.handed.seen planned notes
    (c.give_board.ensures.taken.seen c.hold_board-board.result.journal.entries (ap (λ (out : Out). out.board) c.hold_board-board.ensures.handed.out))
    (ap (λ (kept : Kept). kept.stops) c.keep.ensures ∙ ap (λ (stop : Stop). c.args.trail.now.stops ++ stop ∷ [])
    (stop-is c.buckets.result (g.D.Desk.layout c.args.desk.now).buckets c.entries-place.result (length c.hold_board-board.result.journal.entries) c.is_ok.result true
    (c.buckets.ensures.count ∙ ap (λ (l : Layout). l.buckets) (c.give_board.ensures.taken.layout ∙ c.hold_board-board.ensures.handed.layout))
    c.entries-place.ensures (c.is_ok.ensures.value ∙ ap is_ok is))) in (
      opens.0,
      still.0,
      at-rest-still (g.D.Desk.layout c.args.desk.now) (g.D.Desk.layout c.args.desk.now) c.hold_board-board.result.journal.entries _
          (g.D.Desk.keeping c.hold_board-board.new.self begun.1) (g.D.Desk.keeping c.give_board.new.self begun.1) refl opens.1 still.1 rest.1,
    ))

pub returns-clause-refused : goal.returns-clause-refused
returns-clause-refused g c = by-err c.begin_split-answer.result _ (λ fault is.
    refuses-by c.hold_board-board.result c.begin_split-answer.new.self (asked_for c.args.shard.now c.args.cut.now) fault
    (g.D.Desk.layout c.args.desk.now) (g.D.Desk.layout c.hold_board-board.new.self) (g.D.Desk.seen c.args.desk.now) (g.D.Desk.seen c.hold_board-board.new.self)
    (g.D.Desk.seen c.give_board.new.self) c.args.trail.now.stops c.keep.new.self.stops
    c.hold_board-board.ensures.handed.is_of c.hold_board-board.ensures.handed.extends c.hold_board-board.ensures.handed.layout c.hold_board-board.ensures.handed.seen
    (if-err-at c.begin_split-answer.result (IsRefusal c.hold_board-board.result.first c.hold_board-board.result.limit c.hold_board-board.result.journal.entries (asked_for c.args.shard.now c.args.cut.now))
    fault is c.begin_split-answer.ensures.refused)
    (if-err-at c.begin_split-answer.result (λ one. IsSameBoardButRoom c.hold_board-board.result c.begin_split-answer.new.self) fault is c.begin_split-answer.ensures.same)
    (c.give_board.ensures.taken.seen c.hold_board-board.result.journal.entries (ap (λ (out : Out). out.board) c.hold_board-board.ensures.handed.out))
    (ap (λ (kept : Kept). kept.stops) c.keep.ensures ∙ ap (λ (stop : Stop). c.args.trail.now.stops ++ stop ∷ [])
    (stop-is c.buckets.result (g.D.Desk.layout c.args.desk.now).buckets c.entries-place.result (length c.hold_board-board.result.journal.entries) c.is_ok.result false
    (c.buckets.ensures.count ∙ ap (λ (l : Layout). l.buckets) (c.give_board.ensures.taken.layout ∙ c.hold_board-board.ensures.handed.layout))
    c.entries-place.ensures (c.is_ok.ensures.value ∙ ap is_ok is))))
