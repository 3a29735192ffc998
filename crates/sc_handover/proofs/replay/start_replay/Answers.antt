-- The core of the name buffers and has no feed, so that the bucket stays sound once it replays.
use Rattle.std.proofs.Common.{refl}
use Rattle.sc_ulog.specs.declared.mode.Mode.TheVariants.{Buffering}
use Rattle.sc_replica.specs.Deliveries.{replaying}
use Rattle.sc_handover.proofs.ChangedLemmas.{with_fed, HasSameRest-with_fed}
use Rattle.sc_handover.proofs.ReplayLemmas.{mode_at, ChangesCore-found, IsSound-started}
use Rattle.sc_handover.proofs.replay.start_replay.Goals as goal

pub start_replay-requires-clause-buffering : goal.start_replay-requires-clause-buffering
start_replay-requires-clause-buffering c core there =
    mode_at c.args.bucket.now c.args.core Buffering c.position.result c.unwrap-at.result core c.requires.sound
    c.requires.can.0 c.position.ensures c.unwrap-at.ensures there

pub returns-clause-started : goal.returns-clause-started
returns-clause-started c =
    let b = c.args.bucket.now in
    let cores = c.start_replay.new.self in
    record {
      rest = HasSameRest-with_fed b b.feeds cores;
      feeds_are = refl;
      changed = ChangesCore-found b c.args.core c.position.result c.unwrap-at.result replaying
          (with_fed b b.feeds cores) c.position.ensures c.unwrap-at.ensures c.start_replay.ensures;
    }

pub returns-clause-sound : goal.returns-clause-sound
returns-clause-sound c =
    IsSound-started c.args.bucket.now c.args.core c.start_replay.new.self c.requires.sound c.requires.can
    (returns-clause-started c)
