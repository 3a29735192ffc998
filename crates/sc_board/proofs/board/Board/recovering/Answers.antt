-- The entry is that of the split that runs, and leaves the board sound.
use Rattle.std.proofs.Common.{◌∙◌, [], ◌∷◌, ◌++◌, refl, ap}
use Rattle.std.specs.Prelude.{is_some}
use Rattle.sc_record.specs.declared.slice.SliceId.{SliceId}
use Rattle.sc_cluster.specs.Changes.{Change, after}
use Rattle.sc_seen.specs.declared.board.BoardEntry.TheVariants as board
use Rattle.sc_board.specs.Kept.{BoardJournalState}
use Rattle.sc_board.proofs.SoundLemmas.{running_is, parent_is, sound_recovering, some_owed_recovering}
use Rattle.sc_board.proofs.board.Board.recovering.Goals as goal

pub unwrap-requires : goal.unwrap-requires
unwrap-requires g c =
    let may = c.requires.can.1 in
    let running = running_is c.args.self.now c.running.result c.requires.can.0 c.requires.sound c.running.ensures may.0 in
    ap is_some running.1

pub append-requires : goal.append-requires
append-requires g c = (some_owed_recovering c.args.self.now c.requires.can.0 c.requires.sound c.requires.can.1).1

pub overflow_sub-self : goal.overflow_sub-self
overflow_sub-self g c = (some_owed_recovering c.args.self.now c.requires.can.0 c.requires.sound c.requires.can.1).0

pub returns-clause-noted : goal.returns-clause-noted
returns-clause-noted g c parent may =
    let here = c.unwrap.result in
    let same = (parent_is c.args.self.now c.running.result here parent c.requires.sound c.running.ensures may.0 c.unwrap.ensures).0 in
    let old = c.args.self.now in
    record {
      first_is = refl;
      limit_is = refl;
      entries = ap (λ (j : BoardJournalState). j.entries) c.append.ensures
          ∙ ap (λ (p : SliceId). old.journal.entries ++ board.Recovering p ∷ []) same;
      map_is = c.recovering.ensures.change ∙ ap (λ (p : SliceId). after old.map (Change.Recovering p)) same;
    }

pub returns-clause-sound : goal.returns-clause-sound
returns-clause-sound g c =
    let parent = c.requires.can.0 in
    let may = c.requires.can.1 in
    let here = c.unwrap.result in
    let old = c.args.self.now in
    let is = parent_is old c.running.result here parent c.requires.sound c.running.ensures may.0 c.unwrap.ensures in
    let same = is.0 in
    sound_recovering old parent _ c.requires.sound may
    (record {
      first_is = refl;
      limit_is = refl;
      entries = ap (λ (j : BoardJournalState). j.entries) c.append.ensures
          ∙ ap (λ (p : SliceId). old.journal.entries ++ board.Recovering p ∷ []) same;
      map_is = c.recovering.ensures.change ∙ ap (λ (p : SliceId). after old.map (Change.Recovering p)) same;
    }) refl refl (ap (λ (j : BoardJournalState). j.room) c.append.ensures) refl
