-- The board stays sound with keepers, since no split runs.
use Rattle.sc_board.proofs.FollowLemmas.{with_is_sound}
use Rattle.sc_board.proofs.restored.Board+unit.with_keepers.Goals as goal

pub returns-clause-sound : goal.returns-clause-sound
returns-clause-sound g c = with_is_sound c.args.self c.args.keepers c.requires.sound c.requires.idle
