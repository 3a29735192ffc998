-- proofs/board/note_done/Answers.antt
-- The board is as it was left, and one entry is added.
use Rattle.std.proofs.Common.{◌≡◌, List, [], ◌∷◌, ◌++◌, sym, ap, ◌∙◌, subst}
use Rattle.sc_seen.specs.Seen.{Layout}
use Rattle.sc_seen.specs.declared.board.BoardEntry.{BoardEntry}
use Rattle.sc_seen.specs.declared.board.BoardEntry.TheVariants as board
use Rattle.sc_collection.specs.Desks.{Out, AreAtRest}
use Rattle.sc_split.proofs.BoardLemmas.{may-note-here, may-replace-one, notes-one, at-rest-still, same-some}
use Rattle.sc_split.proofs.board.note_done.Goals as goal

pub done-requires-clause-can : goal.done-requires-clause-can
done-requires-clause-can g c = (
  c.requires.may.0,
  may-note-here (g.D.Desk.layout c.args.desk.now).first c.hold_board-board.result.first (g.D.Desk.seen c.args.desk.now).board c.hold_board-board.result.journal.entries
      (board.Done c.requires.may.0) c.hold_board-board.ensures.handed.is_of.first_is (c.hold_board-board.ensures.handed.as_left c.requires.owns) c.requires.may.1,
)

pub give_board-requires-clause-is_of : goal.give_board-requires-clause-is_of
give_board-requires-clause-is_of g c = record {
  first_is = (c.done.ensures.noted c.requires.may.0 (may-note-here (g.D.Desk.layout c.args.desk.now).first c.hold_board-board.result.first (g.D.Desk.seen c.args.desk.now).board c.hold_board-board.result.journal.entries (board.Done c.requires.may.0) c.hold_board-board.ensures.handed.is_of.first_is (c.hold_board-board.ensures.handed.as_left c.requires.owns) c.requires.may.1)).first_is
      ∙ c.hold_board-board.ensures.handed.is_of.first_is ∙ ap (λ (l : Layout). l.first) (sym c.hold_board-board.ensures.handed.layout);
  limit_is = (c.done.ensures.noted c.requires.may.0 (may-note-here (g.D.Desk.layout c.args.desk.now).first c.hold_board-board.result.first (g.D.Desk.seen c.args.desk.now).board c.hold_board-board.result.journal.entries (board.Done c.requires.may.0) c.hold_board-board.ensures.handed.is_of.first_is (c.hold_board-board.ensures.handed.as_left c.requires.owns) c.requires.may.1)).limit_is
      ∙ c.hold_board-board.ensures.handed.is_of.limit_is ∙ ap (λ (l : Layout). l.limit) (sym c.hold_board-board.ensures.handed.layout);
}

pub give_board-requires-clause-is_out : goal.give_board-requires-clause-is_out
give_board-requires-clause-is_out g c = (
  c.hold_board-board.result.journal.entries,
  ap (λ (out : Out). out.board) c.hold_board-board.ensures.handed.out,
  may-replace-one (g.D.Desk.layout c.args.desk.now) _ (g.D.Desk.seen c.args.desk.now) _ c.hold_board-board.result.journal.entries _ (board.Done c.requires.may.0)
      c.hold_board-board.ensures.handed.layout c.hold_board-board.ensures.handed.seen (c.hold_board-board.ensures.handed.as_left c.requires.owns)
      (c.done.ensures.noted c.requires.may.0 (may-note-here (g.D.Desk.layout c.args.desk.now).first c.hold_board-board.result.first (g.D.Desk.seen c.args.desk.now).board c.hold_board-board.result.journal.entries (board.Done c.requires.may.0) c.hold_board-board.ensures.handed.is_of.first_is (c.hold_board-board.ensures.handed.as_left c.requires.owns) c.requires.may.1)).entries c.requires.owns,
)

pub returns-clause-noted : goal.returns-clause-noted
returns-clause-noted g c parent may =
    notes-one (g.D.Desk.layout c.args.desk.now) _ (g.D.Desk.seen c.args.desk.now) _ _ c.hold_board-board.result.journal.entries _ (board.Done parent)
    c.hold_board-board.ensures.handed.layout c.hold_board-board.ensures.handed.seen (c.hold_board-board.ensures.handed.as_left c.requires.owns)
    (c.done.ensures.noted parent (may-note-here (g.D.Desk.layout c.args.desk.now).first c.hold_board-board.result.first (g.D.Desk.seen c.args.desk.now).board c.hold_board-board.result.journal.entries
    (board.Done parent) c.hold_board-board.ensures.handed.is_of.first_is (c.hold_board-board.ensures.handed.as_left c.requires.owns) may)).entries
    (c.give_board.ensures.taken.seen c.hold_board-board.result.journal.entries (ap (λ (out : Out). out.board) c.hold_board-board.ensures.handed.out))

pub give_board-requires-clause-rest : goal.give_board-requires-clause-rest
give_board-requires-clause-rest g c keepers there =
    let same : keepers ≡ c.args.keepers = same-some keepers c.args.keepers (sym there ∙ c.done.ensures.keepers) in
    let still = c.hold_board-board.ensures.keepers c.args.keepers c.requires.fits in
    subst (λ (k : g.row.D-Keepers.Denot). g.D.Desk.fits c.hold_board-board.new.self k × AreAtRest (g.D.Desk.layout c.hold_board-board.new.self)
    c.done.new.self.journal.entries (g.D.Desk.keeping c.hold_board-board.new.self k)) (sym same) (
      still.0,
      at-rest-still (g.D.Desk.layout c.args.desk.now) _
          ((g.D.Desk.seen c.args.desk.now).board ++ board.Done c.requires.may.0 ∷ []) _ _ _ c.hold_board-board.ensures.handed.layout
          ((c.done.ensures.noted c.requires.may.0 (may-note-here (g.D.Desk.layout c.args.desk.now).first c.hold_board-board.result.first
          (g.D.Desk.seen c.args.desk.now).board c.hold_board-board.result.journal.entries (board.Done c.requires.may.0)
          c.hold_board-board.ensures.handed.is_of.first_is (c.hold_board-board.ensures.handed.as_left c.requires.owns) c.requires.may.1)).entries
          ∙ ap (λ (es : List BoardEntry). es ++ board.Done c.requires.may.0 ∷ []) (c.hold_board-board.ensures.handed.as_left c.requires.owns))
          still.1 c.requires.may.2,
    )
