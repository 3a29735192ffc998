-- A core replays piece after piece.
use Rattle.std.proofs.Common.{◌<◌, ◌≤◌, true, false, [], refl, sym, ◌∙◌, subst}
use Rattle.std.specs.Prelude.{if◌then◌else◌}
use Rattle.sc_seen.specs.Seen.{Layout}
use Rattle.sc_ulog.specs.declared.mode.Mode.{Mode}
use Rattle.sc_ulog.specs.declared.mode.Mode.TheVariants.{Active, Replaying}
use Rattle.sc_keeper.specs.Events.{PartReplays}
use Rattle.sc_collection.specs.Known.{known_of}
use Rattle.sc_split.proofs.HeldLemmas.{held-then}
use Rattle.sc_split.proofs.ReplayLemmas.{HasPutMode, seats-put, put-started, put-replayed, starts_first, replays_first, filled_first, underway-put}
use Rattle.sc_split.proofs.MeasureLemmas.{fewer_writes}
use Rattle.sc_split.proofs.filling.replay_all.Goals as goal

pub start_replay_in-requires : goal.start_replay_in-requires
start_replay_in-requires g c = record {
  within = c.requires.within;
  rests = record { rest = c.requires.rests.rest; fits = c.requires.rests.fits };
  may = starts_first ((g.D.Desk.keeping c.args.desk.now c.args.keepers.now).part c.args.b) c.args.core c.requires.first.0 c.requires.first.1
      c.requires.unfed;
}

pub loop-core-init : goal.loop-core-init
loop-core-init g c = record {
  leaves = record {
    layout = c.start_replay_in.ensures.leaves.layout;
    rest = c.start_replay_in.ensures.leaves.rest;
    fits = c.start_replay_in.ensures.leaves.fits;
  };
  held = c.start_replay_in.ensures.leaves.held;
  replays = put-started ((g.D.Desk.keeping c.args.desk.now c.args.keepers.now).part c.args.b)
      ((g.D.Desk.keeping c.start_replay_in.new.desk c.start_replay_in.new.keepers).part c.args.b) c.args.core c.requires.first.1.apart
      c.start_replay_in.ensures.started;
  steady = refl;
}

pub replay_in-is_replayed-requires : goal.replay_in-is_replayed-requires
replay_in-is_replayed-requires g c = record {
  within = subst (λ (layout : Layout). c.args.b < layout.buckets) (sym c.loop-core.invariant.leaves.layout) c.requires.within;
  rests = record { rest = c.loop-core.invariant.leaves.rest; fits = c.loop-core.invariant.leaves.fits };
  may = replays_first ((g.D.Desk.keeping c.args.desk.now c.args.keepers.now).part c.args.b)
      ((g.D.Desk.keeping c.loop-core.desk c.loop-core.keepers).part c.args.b) c.args.core c.requires.first.0 c.requires.first.1
      c.loop-core.invariant.replays;
}

pub loop-core-preserved : goal.loop-core-preserved
loop-core-preserved g c = record {
  leaves = record {
    layout = c.replay_in-is_replayed.ensures.leaves.layout ∙ c.loop-core.invariant.leaves.layout;
    rest = c.replay_in-is_replayed.ensures.leaves.rest;
    fits = c.replay_in-is_replayed.ensures.leaves.fits;
  };
  held = held-then c.args.b (known_of (g.D.Desk.seen c.args.desk.now) (g.D.Desk.keeping c.args.desk.now c.args.keepers.now))
      (known_of (g.D.Desk.seen c.loop-core.desk) (g.D.Desk.keeping c.loop-core.desk c.loop-core.keepers))
      (known_of (g.D.Desk.seen c.replay_in-is_replayed.new.desk)
      (g.D.Desk.keeping c.replay_in-is_replayed.new.desk c.replay_in-is_replayed.new.keepers)) [] c.loop-core.invariant.held
      c.replay_in-is_replayed.ensures.leaves.held;
  replays = put-replayed ((g.D.Desk.keeping c.args.desk.now c.args.keepers.now).part c.args.b)
      ((g.D.Desk.keeping c.loop-core.desk c.loop-core.keepers).part c.args.b)
      ((g.D.Desk.keeping c.replay_in-is_replayed.new.desk c.replay_in-is_replayed.new.keepers).part c.args.b) c.args.core false
      c.requires.first.1.apart c.loop-core.invariant.replays
      (subst (λ is_done. PartReplays ((g.D.Desk.keeping c.loop-core.desk c.loop-core.keepers).part c.args.b) c.args.core is_done
      ((g.D.Desk.keeping c.replay_in-is_replayed.new.desk c.replay_in-is_replayed.new.keepers).part c.args.b)) c.if-is_replayed.false
      c.replay_in-is_replayed.ensures.replayed);
  steady = c.between.ensures.steady c.if-not-between.false ∙ c.loop-core.invariant.steady;
}

pub loop-core-smaller : goal.loop-core-smaller
loop-core-smaller g c =
    fewer_writes ((g.D.Desk.keeping c.loop-core.desk c.loop-core.keepers).part c.args.b)
    ((g.D.Desk.keeping c.replay_in-is_replayed.new.desk c.replay_in-is_replayed.new.keepers).part c.args.b) c.args.core
    (subst (λ is_done. PartReplays ((g.D.Desk.keeping c.loop-core.desk c.loop-core.keepers).part c.args.b) c.args.core is_done
    ((g.D.Desk.keeping c.replay_in-is_replayed.new.desk c.replay_in-is_replayed.new.keepers).part c.args.b)) c.if-is_replayed.false
    c.replay_in-is_replayed.ensures.replayed)

pub returns-then-not-between : goal.returns-then-not-between
returns-then-not-between g c =
    let mode : Mode = if c.replay_in-is_replayed.result then Active else Replaying in
    let put : HasPutMode ((g.D.Desk.keeping c.args.desk.now c.args.keepers.now).part c.args.b) c.args.core mode
    ((g.D.Desk.keeping c.replay_in-is_replayed.new.desk c.replay_in-is_replayed.new.keepers).part c.args.b) =
    put-replayed ((g.D.Desk.keeping c.args.desk.now c.args.keepers.now).part c.args.b)
    ((g.D.Desk.keeping c.loop-core.desk c.loop-core.keepers).part c.args.b)
    ((g.D.Desk.keeping c.replay_in-is_replayed.new.desk c.replay_in-is_replayed.new.keepers).part c.args.b) c.args.core
    c.replay_in-is_replayed.result c.requires.first.1.apart c.loop-core.invariant.replays
    c.replay_in-is_replayed.ensures.replayed in
    record {
      leaves = record {
        layout = c.replay_in-is_replayed.ensures.leaves.layout ∙ c.loop-core.invariant.leaves.layout;
        rest = c.replay_in-is_replayed.ensures.leaves.rest;
        fits = c.replay_in-is_replayed.ensures.leaves.fits;
        seen = c.replay_in-is_replayed.ensures.leaves.seen;
        held = held-then c.args.b (known_of (g.D.Desk.seen c.args.desk.now) (g.D.Desk.keeping c.args.desk.now c.args.keepers.now))
            (known_of (g.D.Desk.seen c.loop-core.desk) (g.D.Desk.keeping c.loop-core.desk c.loop-core.keepers))
            (known_of (g.D.Desk.seen c.replay_in-is_replayed.new.desk)
            (g.D.Desk.keeping c.replay_in-is_replayed.new.desk c.replay_in-is_replayed.new.keepers)) [] c.loop-core.invariant.held
            c.replay_in-is_replayed.ensures.leaves.held;
      };
      seats = seats-put ((g.D.Desk.keeping c.args.desk.now c.args.keepers.now).part c.args.b)
          ((g.D.Desk.keeping c.replay_in-is_replayed.new.desk c.replay_in-is_replayed.new.keepers).part c.args.b) c.args.core mode put;
      unfed = put.feeds_are ∙ c.requires.unfed;
      underway = underway-put ((g.D.Desk.keeping c.args.desk.now c.args.keepers.now).part c.args.b)
          ((g.D.Desk.keeping c.replay_in-is_replayed.new.desk c.replay_in-is_replayed.new.keepers).part c.args.b) c.args.core
          c.requires.first.0 mode c.requires.first.1 put;
      filled = λ done. absurd (cc);
      pace = record {
        steady = λ going. absurd (cc);
        stopped = λ stopped.
            subst (λ n. n < g.P.Pace.stops c.between.new.self) c.loop-core.invariant.steady (c.between.ensures.cause c.if-not-between.true);
        no_fall = subst (λ n. n ≤ g.P.Pace.stops c.between.new.self) c.loop-core.invariant.steady c.between.ensures.no_fall;
      };
    }

pub returns-then-is_replayed : goal.returns-then-is_replayed
returns-then-is_replayed g c =
    let put : HasPutMode ((g.D.Desk.keeping c.args.desk.now c.args.keepers.now).part c.args.b) c.args.core Active
    ((g.D.Desk.keeping c.replay_in-is_replayed.new.desk c.replay_in-is_replayed.new.keepers).part c.args.b) =
    put-replayed ((g.D.Desk.keeping c.args.desk.now c.args.keepers.now).part c.args.b)
    ((g.D.Desk.keeping c.loop-core.desk c.loop-core.keepers).part c.args.b)
    ((g.D.Desk.keeping c.replay_in-is_replayed.new.desk c.replay_in-is_replayed.new.keepers).part c.args.b) c.args.core true
    c.requires.first.1.apart c.loop-core.invariant.replays
    (subst (λ is_done. PartReplays ((g.D.Desk.keeping c.loop-core.desk c.loop-core.keepers).part c.args.b) c.args.core is_done
    ((g.D.Desk.keeping c.replay_in-is_replayed.new.desk c.replay_in-is_replayed.new.keepers).part c.args.b)) c.if-is_replayed.true
    c.replay_in-is_replayed.ensures.replayed) in
    record {
      leaves = record {
        layout = c.replay_in-is_replayed.ensures.leaves.layout ∙ c.loop-core.invariant.leaves.layout;
        rest = c.replay_in-is_replayed.ensures.leaves.rest;
        fits = c.replay_in-is_replayed.ensures.leaves.fits;
        seen = c.replay_in-is_replayed.ensures.leaves.seen;
        held = held-then c.args.b (known_of (g.D.Desk.seen c.args.desk.now) (g.D.Desk.keeping c.args.desk.now c.args.keepers.now))
            (known_of (g.D.Desk.seen c.loop-core.desk) (g.D.Desk.keeping c.loop-core.desk c.loop-core.keepers))
            (known_of (g.D.Desk.seen c.replay_in-is_replayed.new.desk)
            (g.D.Desk.keeping c.replay_in-is_replayed.new.desk c.replay_in-is_replayed.new.keepers)) [] c.loop-core.invariant.held
            c.replay_in-is_replayed.ensures.leaves.held;
      };
      seats = seats-put ((g.D.Desk.keeping c.args.desk.now c.args.keepers.now).part c.args.b)
          ((g.D.Desk.keeping c.replay_in-is_replayed.new.desk c.replay_in-is_replayed.new.keepers).part c.args.b) c.args.core Active put;
      unfed = put.feeds_are ∙ c.requires.unfed;
      underway = underway-put ((g.D.Desk.keeping c.args.desk.now c.args.keepers.now).part c.args.b)
          ((g.D.Desk.keeping c.replay_in-is_replayed.new.desk c.replay_in-is_replayed.new.keepers).part c.args.b) c.args.core
          c.requires.first.0 Active c.requires.first.1 put;
      filled = λ done names to_fill. filled_first ((g.D.Desk.keeping c.args.desk.now c.args.keepers.now).part c.args.b)
          ((g.D.Desk.keeping c.replay_in-is_replayed.new.desk c.replay_in-is_replayed.new.keepers).part c.args.b) c.args.core names
          to_fill put;
      pace = record {
        steady = λ going. c.between.ensures.steady c.if-not-between.false ∙ c.loop-core.invariant.steady;
        stopped = λ stopped. absurd (cc);
        no_fall = subst (λ n. n ≤ g.P.Pace.stops c.between.new.self) c.loop-core.invariant.steady c.between.ensures.no_fall;
      };
    }
