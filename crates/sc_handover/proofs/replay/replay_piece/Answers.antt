-- The core of the name replays, and has room for what it buffered, so that the bucket stays sound.
use Rattle.std.proofs.Common.{refl}
use Rattle.sc_ulog.specs.declared.mode.Mode.TheVariants.{Replaying}
use Rattle.sc_replica.specs.Core.{replayed}
use Rattle.sc_handover.proofs.ChangedLemmas.{with_fed, HasSameRest-with_fed}
use Rattle.sc_handover.proofs.ReplayLemmas.{mode_at, ChangesCore-found, room_to_replay, IsSound-piece_replayed}
use Rattle.sc_handover.proofs.replay.replay_piece.Goals as goal

pub replay-requires-clause-replaying : goal.replay-requires-clause-replaying
replay-requires-clause-replaying c core there =
    mode_at c.args.bucket.now c.args.core Replaying c.position.result c.unwrap-at.result core c.requires.sound
    c.requires.can c.position.ensures c.unwrap-at.ensures there

pub replay-requires-clause-room : goal.replay-requires-clause-room
replay-requires-clause-room c core there =
    room_to_replay c.args.bucket.now c.unwrap-at.result core c.requires.sound there

pub returns-clause-replayed : goal.returns-clause-replayed
returns-clause-replayed c =
    let b = c.args.bucket.now in
    let changed =
    ChangesCore-found b c.args.core c.position.result c.unwrap-at.result replayed
    (with_fed b b.feeds c.replay.new.self) c.position.ensures c.unwrap-at.ensures c.replay.ensures.value in
    record {
      rest = HasSameRest-with_fed b b.feeds c.replay.new.self;
      feeds_are = refl;
      changed = changed;
      done = c.replay.ensures.done changed.core changed.core_found;
    }

pub returns-clause-sound : goal.returns-clause-sound
returns-clause-sound c =
    IsSound-piece_replayed c.args.bucket.now c.args.core c.replay.result c.replay.new.self c.requires.sound
    c.requires.can (returns-clause-replayed c)
