-- A slice that is dropped leaves the board sound.
use Rattle.std.proofs.Common.{refl, sym, ap, subst}
use Rattle.sc_cluster.specs.Changes.{Change, MayChange}
use Rattle.sc_board.specs.Kept.{BoardJournalState}
use Rattle.sc_board.proofs.FollowLemmas.{sound_follows, place_there, place_is, leader_there}
use Rattle.sc_board.proofs.SoundLemmas.{sound_dropped}
use Rattle.sc_board.proofs.board.Board.dropped.Goals as goal

pub unwrap-at-requires : goal.unwrap-at-requires
unwrap-at-requires g c =
    let (slice, there, named, inactive) = c.requires.can.1 in
    place_there c.args.self.now c.place_of.result c.args.slice slice (sound_follows c.args.self.now c.requires.sound) c.place_of.ensures there named

pub remove-requires : goal.remove-requires
remove-requires g c =
    leader_there c.args.self.now c.unwrap-at.result c.args.slice (sound_follows c.args.self.now c.requires.sound)
    (place_is c.args.self.now c.place_of.result c.unwrap-at.result c.args.slice c.place_of.ensures c.unwrap-at.ensures)

pub dropped-requires : goal.dropped-requires
dropped-requires g c = subst (λ s. MayChange s (Change.Dropped c.args.slice)) (sym c.requires.sound.map_is) c.requires.can

pub returns-clause-sound : goal.returns-clause-sound
returns-clause-sound g c =
    sound_dropped c.args.self.now c.args.slice c.unwrap-at.result _ c.requires.sound
    (place_is c.args.self.now c.place_of.result c.unwrap-at.result c.args.slice c.place_of.ensures c.unwrap-at.ensures) c.requires.can
    (record {
      first_is = refl;
      limit_is = refl;
      entries = ap (λ (j : BoardJournalState). j.entries) c.append.ensures;
      map_is = c.dropped.ensures.change;
    }) c.remove.ensures refl (ap (λ (j : BoardJournalState). j.room) c.append.ensures) refl
