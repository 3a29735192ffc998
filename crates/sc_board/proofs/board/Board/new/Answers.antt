-- A board with no entries is sound.
use Rattle.std.proofs.Common.{refl, ap, rules}
use Rattle.sc_board.specs.Kept.{BoardJournalState}
use Rattle.sc_board.proofs.SoundLemmas.{sound_new}
use Rattle.sc_board.proofs.board.Board.new.Goals as goal

pub returns-clause-sound : goal.returns-clause-sound
returns-clause-sound g c =
    sound_new _ c.get.ensures.map c.requires.active c.requires.ids c.requires.limit
    (ap (λ (j : BoardJournalState). j.entries) c.new.ensures) (search rules) (search rules) refl refl
