-- The split is given up in each bucket in which it had begun, and then the board may have the keepers back.
use Rattle.std.proofs.Common.{◌≡◌, [], subst}
use Rattle.sc_cluster.specs.Slices.{forming}
use Rattle.sc_cluster.specs.Map.{IsMap}
use Rattle.sc_seen.specs.Seen.{Layout, AreLegal}
use Rattle.sc_seen.specs.declared.board.BoardEntry.TheVariants as board
use Rattle.sc_collection.specs.Known.{Known, known_of}
use Rattle.sc_split.specs.Stages.{OpenSplit}
use Rattle.sc_split.specs.Steps.{NotesOne}
use Rattle.sc_split.proofs.GiveUpLemmas.{halted-owns, halted-may-fail, rest-failed, gives-up-by}
use Rattle.sc_split.proofs.driver.give_up.Goals as goal

pub note_failed-requires-clause-owns : goal.note_failed-requires-clause-owns
note_failed-requires-clause-owns g c =
    let halted = c.requires.halted in
    halted-owns (g.D.Desk.layout c.args.desk.now) (g.D.Desk.layout c.abort_all.new.desk) halted.0 halted.1 halted.2 c.args.progress.begun
    (known_of (g.D.Desk.seen c.args.desk.now) (g.D.Desk.keeping c.args.desk.now c.args.keepers))
    (known_of (g.D.Desk.seen c.abort_all.new.desk) (g.D.Desk.keeping c.abort_all.new.desk c.abort_all.new.keepers))
    c.abort_all.ensures.leaves.layout c.abort_all.ensures.leaves.board halted.3

pub note_failed-requires-clause-may : goal.note_failed-requires-clause-may
note_failed-requires-clause-may g c =
    let halted = c.requires.halted in
    let split : OpenSplit = halted.0 in (
      split.plan.parent,
      halted-may-fail (g.D.Desk.layout c.args.desk.now) (g.D.Desk.layout c.abort_all.new.desk) split halted.1 halted.2 c.args.progress.begun
          (known_of (g.D.Desk.seen c.args.desk.now) (g.D.Desk.keeping c.args.desk.now c.args.keepers))
          (known_of (g.D.Desk.seen c.abort_all.new.desk) (g.D.Desk.keeping c.abort_all.new.desk c.abort_all.new.keepers))
          c.abort_all.ensures.leaves.layout c.abort_all.ensures.leaves.rest.legal c.abort_all.ensures.leaves.board halted.3,
      rest-failed (g.D.Desk.layout c.args.desk.now) (g.D.Desk.layout c.abort_all.new.desk) split halted.1 halted.2 c.args.progress.begun
          (known_of (g.D.Desk.seen c.args.desk.now) (g.D.Desk.keeping c.args.desk.now c.args.keepers))
          (known_of (g.D.Desk.seen c.abort_all.new.desk) (g.D.Desk.keeping c.abort_all.new.desk c.abort_all.new.keepers))
          c.abort_all.ensures.leaves.layout c.abort_all.ensures.leaves.rest.legal c.abort_all.ensures.leaves.board halted.3
          (c.abort_all.ensures.failed split halted.3.opened) c.abort_all.ensures.others,
    )

pub returns-clause-given_up : goal.returns-clause-given_up
returns-clause-given_up g c split entries recovered halted =
    let layout : Layout = g.D.Desk.layout c.args.desk.now in
    let old : Known = known_of (g.D.Desk.seen c.args.desk.now) (g.D.Desk.keeping c.args.desk.now c.args.keepers) in
    let between : Known = known_of (g.D.Desk.seen c.abort_all.new.desk) (g.D.Desk.keeping c.abort_all.new.desk c.abort_all.new.keepers) in
    let same : g.D.Desk.layout c.abort_all.new.desk ≡ layout = c.abort_all.ensures.leaves.layout in
    let may = halted-may-fail layout (g.D.Desk.layout c.abort_all.new.desk) split entries recovered c.args.progress.begun old between
    same c.abort_all.ensures.leaves.rest.legal c.abort_all.ensures.leaves.board halted in
    gives-up-by layout split entries recovered c.args.progress.begun old between (g.D.Desk.seen c.note_failed.new.desk)
    (subst (λ (l : Layout). IsMap l.first) same c.note_failed.ensures.first_map)
    (subst (λ (l : Layout). forming l.first ≡ []) same c.note_failed.ensures.first_idle)
    (subst (λ (l : Layout). AreLegal l (g.D.Desk.seen c.abort_all.new.desk)) same c.abort_all.ensures.leaves.rest.legal)
    c.abort_all.ensures.went_on c.abort_all.ensures.leaves.board halted (c.abort_all.ensures.failed split halted.opened) c.abort_all.ensures.others
    (subst (λ (l : Layout). NotesOne l (board.Failed split.plan.parent) (g.D.Desk.seen c.abort_all.new.desk) (g.D.Desk.seen c.note_failed.new.desk))
    same (c.note_failed.ensures.noted split.plan.parent may))
