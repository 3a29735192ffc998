-- The split on the board is one's own, and once each bucket is switched the board may have the keepers back.
use Rattle.std.proofs.Common.{subst}
use Rattle.sc_seen.specs.Seen.{Layout}
use Rattle.sc_seen.specs.declared.board.BoardEntry.TheVariants as board
use Rattle.sc_collection.specs.Known.{known_of}
use Rattle.sc_split.specs.Stages.{OpenSplit}
use Rattle.sc_split.specs.Steps.{NotesOne}
use Rattle.sc_split.proofs.CloseLemmas.{owns-closing, may-close, closes-by}
use Rattle.sc_split.proofs.driver.close.Goals as goal

pub note_done-requires-clause-owns : goal.note_done-requires-clause-owns
note_done-requires-clause-owns g c =
    owns-closing (g.D.Desk.layout c.args.desk.now) (g.D.Desk.layout c.switch_all.new.desk) c.requires.whole.0 c.requires.whole.1
    (known_of (g.D.Desk.seen c.args.desk.now) (g.D.Desk.keeping c.args.desk.now c.args.keepers))
    (known_of (g.D.Desk.seen c.switch_all.new.desk) (g.D.Desk.keeping c.switch_all.new.desk c.switch_all.new.keepers))
    c.switch_all.ensures.leaves.layout c.switch_all.ensures.leaves.board c.requires.whole.2

pub note_done-requires-clause-may : goal.note_done-requires-clause-may
note_done-requires-clause-may g c =
    let split : OpenSplit = c.requires.whole.0 in
    let may = may-close (g.D.Desk.layout c.args.desk.now) (g.D.Desk.layout c.switch_all.new.desk) split c.requires.whole.1
    (known_of (g.D.Desk.seen c.args.desk.now) (g.D.Desk.keeping c.args.desk.now c.args.keepers))
    (known_of (g.D.Desk.seen c.switch_all.new.desk) (g.D.Desk.keeping c.switch_all.new.desk c.switch_all.new.keepers))
    c.switch_all.ensures.leaves.layout c.switch_all.ensures.leaves.rest.legal c.switch_all.ensures.leaves.board c.requires.whole.2
    (c.switch_all.ensures.switched split c.requires.whole.2.whole) in
    (split.plan.parent, may.0, may.1)

pub returns-clause-closed : goal.returns-clause-closed
returns-clause-closed g c split entries was =
    let done = c.switch_all.ensures.switched split was.whole in
    let may = may-close (g.D.Desk.layout c.args.desk.now) (g.D.Desk.layout c.switch_all.new.desk) split entries
    (known_of (g.D.Desk.seen c.args.desk.now) (g.D.Desk.keeping c.args.desk.now c.args.keepers))
    (known_of (g.D.Desk.seen c.switch_all.new.desk) (g.D.Desk.keeping c.switch_all.new.desk c.switch_all.new.keepers))
    c.switch_all.ensures.leaves.layout c.switch_all.ensures.leaves.rest.legal c.switch_all.ensures.leaves.board was done in
    let notes : NotesOne (g.D.Desk.layout c.args.desk.now) (board.Done split.plan.parent) (g.D.Desk.seen c.switch_all.new.desk) (g.D.Desk.seen c.note_done.new.desk) =
    subst (λ (l : Layout). NotesOne l (board.Done split.plan.parent) (g.D.Desk.seen c.switch_all.new.desk) (g.D.Desk.seen c.note_done.new.desk))
    c.switch_all.ensures.leaves.layout (c.note_done.ensures.noted split.plan.parent may.0) in
    closes-by (g.D.Desk.layout c.args.desk.now) split
    (known_of (g.D.Desk.seen c.args.desk.now) (g.D.Desk.keeping c.args.desk.now c.args.keepers))
    (known_of (g.D.Desk.seen c.switch_all.new.desk) (g.D.Desk.keeping c.switch_all.new.desk c.switch_all.new.keepers))
    (g.D.Desk.seen c.note_done.new.desk) c.switch_all.ensures.went_on c.switch_all.ensures.leaves.board done notes
