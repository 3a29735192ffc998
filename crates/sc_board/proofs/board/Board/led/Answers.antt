-- A replica that is noted as the leader leaves the board sound.
use Rattle.std.proofs.Common.{refl, ap, arith}
use Rattle.sc_board.specs.Kept.{BoardJournalState}
use Rattle.sc_board.proofs.FollowLemmas.{sound_follows, place_there, place_is, leader_there}
use Rattle.sc_board.proofs.SoundLemmas.{sound_led}
use Rattle.sc_board.proofs.board.Board.led.Goals as goal

pub unwrap-at-requires : goal.unwrap-at-requires
unwrap-at-requires g c =
    let may = c.requires.can in
    place_there c.args.self.now c.place_of.result c.args.slice may.slice (sound_follows c.args.self.now c.requires.sound) c.place_of.ensures may.there may.named

pub set-requires : goal.set-requires
set-requires g c =
    leader_there c.args.self.now c.unwrap-at.result c.args.slice (sound_follows c.args.self.now c.requires.sound)
    (place_is c.args.self.now c.place_of.result c.unwrap-at.result c.args.slice c.place_of.ensures c.unwrap-at.ensures)

pub append-requires : goal.append-requires
append-requires g c = let memory = c.requires.memory in omega (arith, memory)

pub returns-clause-sound : goal.returns-clause-sound
returns-clause-sound g c =
    sound_led c.args.self.now c.args.slice c.args.replica c.unwrap-at.result _ c.requires.sound
    (place_is c.args.self.now c.place_of.result c.unwrap-at.result c.args.slice c.place_of.ensures c.unwrap-at.ensures) c.requires.can
    (record {
      first_is = refl;
      limit_is = refl;
      entries = ap (λ (j : BoardJournalState). j.entries) c.append.ensures;
      map_is = refl;
    }) c.set.ensures c.requires.room refl c.requires.memory (ap (λ (j : BoardJournalState). j.room) c.append.ensures) refl
