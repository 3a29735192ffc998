-- The cores of a bucket are fed, and then they replay.
use Rattle.std.proofs.Common.{◌<◌, ◌≤◌, ◌+◌, [], drop, refl, sym, ◌∙◌, subst}
use Rattle.std.proofs.Math.Nat.{le_refl}
use Rattle.sc_seen.specs.Seen.{Layout}
use Rattle.sc_collection.specs.Known.{known_of}
use Rattle.sc_split.specs.Buckets.{AreToFill}
use Rattle.sc_split.proofs.HeldLemmas.{held-not, held-then}
use Rattle.sc_split.proofs.FillLemmas.{names_from, names_past, first_fed, unfed_by_names, kept-then, seats-kept, seats-then, to_fill-kept, underway-kept, is_filled}
use Rattle.sc_split.proofs.filling.fill.Goals as goal

pub loop-core-init : goal.loop-core-init
loop-core-init g c = record {
  leaves = record {
    layout = refl;
    rest = c.requires.rests.rest;
    fits = c.requires.rests.fits;
  };
  seen = c.requires.seen;
  held = held-not c.args.b (known_of (g.D.Desk.seen c.args.desk.now) (g.D.Desk.keeping c.args.desk.now c.args.keepers.now));
  kept = record { rest = record { map_is = refl; phase_is = refl; entries_are = refl }; cores_are = refl };
  fed = c.requires.to_fill.fed;
  steady = refl;
}

pub feed_all-requires : goal.feed_all-requires
feed_all-requires g c = record {
  within = subst (λ (layout : Layout). c.args.b < layout.buckets) (sym c.loop-core.invariant.leaves.layout) c.requires.within;
  rests = record { rest = c.loop-core.invariant.leaves.rest; fits = c.loop-core.invariant.leaves.fits };
  first = first_fed ((g.D.Desk.keeping c.loop-core.desk c.loop-core.keepers).part c.args.b) c.args.cores.now c.loop-core.core-index
      c.core-item.result
      c.loop-core-test.true c.core-item.is c.requires.to_fill.cores.once c.loop-core.invariant.fed;
}

pub loop-core-preserved : goal.loop-core-preserved
loop-core-preserved g c = record {
  leaves = record {
    layout = c.feed_all.ensures.leaves.layout ∙ c.loop-core.invariant.leaves.layout;
    rest = c.feed_all.ensures.leaves.rest;
    fits = c.feed_all.ensures.leaves.fits;
  };
  seen = c.feed_all.ensures.leaves.seen;
  held = held-then c.args.b (known_of (g.D.Desk.seen c.args.desk.now) (g.D.Desk.keeping c.args.desk.now c.args.keepers.now))
      (known_of (g.D.Desk.seen c.loop-core.desk) (g.D.Desk.keeping c.loop-core.desk c.loop-core.keepers))
      (known_of (g.D.Desk.seen c.feed_all.new.desk) (g.D.Desk.keeping c.feed_all.new.desk c.feed_all.new.keepers)) []
      c.loop-core.invariant.held c.feed_all.ensures.leaves.held;
  kept = kept-then ((g.D.Desk.keeping c.args.desk.now c.args.keepers.now).part c.args.b)
      ((g.D.Desk.keeping c.loop-core.desk c.loop-core.keepers).part c.args.b)
      ((g.D.Desk.keeping c.feed_all.new.desk c.feed_all.new.keepers).part c.args.b) c.loop-core.invariant.kept c.feed_all.ensures.kept;
  fed = c.feed_all.ensures.fed c.if-not-feed_all.false (drop (c.loop-core.core-index + 1) c.args.cores.now)
      (c.loop-core.invariant.fed
      ∙ names_from c.args.cores.now c.loop-core.core-index c.core-item.result c.loop-core-test.true c.core-item.is);
  steady = c.feed_all.ensures.pace.steady c.if-not-feed_all.false ∙ c.loop-core.invariant.steady;
}

pub returns-then-not-feed_all : goal.returns-then-not-feed_all
returns-then-not-feed_all g c =
    let kept =
    kept-then ((g.D.Desk.keeping c.args.desk.now c.args.keepers.now).part c.args.b)
    ((g.D.Desk.keeping c.loop-core.desk c.loop-core.keepers).part c.args.b)
    ((g.D.Desk.keeping c.feed_all.new.desk c.feed_all.new.keepers).part c.args.b) c.loop-core.invariant.kept c.feed_all.ensures.kept in
    record {
      leaves = record {
        layout = c.feed_all.ensures.leaves.layout ∙ c.loop-core.invariant.leaves.layout;
        rest = c.feed_all.ensures.leaves.rest;
        fits = c.feed_all.ensures.leaves.fits;
        seen = c.feed_all.ensures.leaves.seen;
        held = held-then c.args.b (known_of (g.D.Desk.seen c.args.desk.now) (g.D.Desk.keeping c.args.desk.now c.args.keepers.now))
            (known_of (g.D.Desk.seen c.loop-core.desk) (g.D.Desk.keeping c.loop-core.desk c.loop-core.keepers))
            (known_of (g.D.Desk.seen c.feed_all.new.desk) (g.D.Desk.keeping c.feed_all.new.desk c.feed_all.new.keepers)) []
            c.loop-core.invariant.held c.feed_all.ensures.leaves.held;
      };
      seats = seats-kept ((g.D.Desk.keeping c.args.desk.now c.args.keepers.now).part c.args.b)
          ((g.D.Desk.keeping c.feed_all.new.desk c.feed_all.new.keepers).part c.args.b) kept;
      underway = λ base plan. underway-kept base ((g.D.Desk.keeping c.args.desk.now c.args.keepers.now).part c.args.b)
          ((g.D.Desk.keeping c.feed_all.new.desk c.feed_all.new.keepers).part c.args.b) plan kept;
      filled = λ filled. absurd (cc);
      pace = record {
        steady = λ going. absurd (cc);
        stopped = λ stopped.
            subst (λ n. n < g.P.Pace.stops c.feed_all.new.pace) c.loop-core.invariant.steady
            (c.feed_all.ensures.pace.stopped c.if-not-feed_all.true);
        no_fall = subst (λ n. n ≤ g.P.Pace.stops c.feed_all.new.pace) c.loop-core.invariant.steady c.feed_all.ensures.pace.no_fall;
      };
    }

pub loop-core-2-init : goal.loop-core-2-init
loop-core-2-init g c = record {
  leaves = record {
    layout = c.loop-core.invariant.leaves.layout;
    rest = c.loop-core.invariant.leaves.rest;
    fits = c.loop-core.invariant.leaves.fits;
  };
  seen = c.loop-core.invariant.seen;
  held = c.loop-core.invariant.held;
  seats = seats-kept ((g.D.Desk.keeping c.args.desk.now c.args.keepers.now).part c.args.b)
      ((g.D.Desk.keeping c.loop-core.desk c.loop-core.keepers).part c.args.b) c.loop-core.invariant.kept;
  unfed = unfed_by_names ((g.D.Desk.keeping c.loop-core.desk c.loop-core.keepers).part c.args.b)
      (c.loop-core.invariant.fed ∙ names_past c.args.cores.now c.loop-core.core-index c.loop-core-test.false);
  to_fill = to_fill-kept ((g.D.Desk.keeping c.args.desk.now c.args.keepers.now).part c.args.b)
      ((g.D.Desk.keeping c.loop-core.desk c.loop-core.keepers).part c.args.b) c.args.cores.now c.loop-core.invariant.kept
      c.requires.to_fill.cores;
  underway = λ base plan. underway-kept base ((g.D.Desk.keeping c.args.desk.now c.args.keepers.now).part c.args.b)
      ((g.D.Desk.keeping c.loop-core.desk c.loop-core.keepers).part c.args.b) plan c.loop-core.invariant.kept;
  steady = c.loop-core.invariant.steady;
}

pub replay_all-requires : goal.replay_all-requires
replay_all-requires g c = record {
  within = subst (λ (layout : Layout). c.args.b < layout.buckets) (sym c.loop-core-2.invariant.leaves.layout) c.requires.within;
  rests = record { rest = c.loop-core-2.invariant.leaves.rest; fits = c.loop-core-2.invariant.leaves.fits };
  unfed = c.loop-core-2.invariant.unfed;
  first = (
    drop (c.loop-core-2.core-index + 1) c.args.cores.now,
    subst (AreToFill ((g.D.Desk.keeping c.loop-core-2.desk c.loop-core-2.keepers).part c.args.b))
        (names_from c.args.cores.now c.loop-core-2.core-index c.core-item-in-loop-core-2.result c.loop-core-2-test.true
        c.core-item-in-loop-core-2.is) c.loop-core-2.invariant.to_fill,
  );
}

pub loop-core-2-preserved : goal.loop-core-2-preserved
loop-core-2-preserved g c = record {
  leaves = record {
    layout = c.replay_all.ensures.leaves.layout ∙ c.loop-core-2.invariant.leaves.layout;
    rest = c.replay_all.ensures.leaves.rest;
    fits = c.replay_all.ensures.leaves.fits;
  };
  seen = c.replay_all.ensures.leaves.seen;
  held = held-then c.args.b (known_of (g.D.Desk.seen c.args.desk.now) (g.D.Desk.keeping c.args.desk.now c.args.keepers.now))
      (known_of (g.D.Desk.seen c.loop-core-2.desk) (g.D.Desk.keeping c.loop-core-2.desk c.loop-core-2.keepers))
      (known_of (g.D.Desk.seen c.replay_all.new.desk) (g.D.Desk.keeping c.replay_all.new.desk c.replay_all.new.keepers)) []
      c.loop-core-2.invariant.held c.replay_all.ensures.leaves.held;
  seats = seats-then ((g.D.Desk.keeping c.args.desk.now c.args.keepers.now).part c.args.b)
      ((g.D.Desk.keeping c.loop-core-2.desk c.loop-core-2.keepers).part c.args.b)
      ((g.D.Desk.keeping c.replay_all.new.desk c.replay_all.new.keepers).part c.args.b) c.loop-core-2.invariant.seats
      c.replay_all.ensures.seats;
  unfed = c.replay_all.ensures.unfed;
  to_fill = c.replay_all.ensures.filled c.if-not-replay_all.false (drop (c.loop-core-2.core-index + 1) c.args.cores.now)
      (subst (AreToFill ((g.D.Desk.keeping c.loop-core-2.desk c.loop-core-2.keepers).part c.args.b))
      (names_from c.args.cores.now c.loop-core-2.core-index c.core-item-in-loop-core-2.result c.loop-core-2-test.true
      c.core-item-in-loop-core-2.is) c.loop-core-2.invariant.to_fill);
  underway = λ base plan underway. c.replay_all.ensures.underway base plan (c.loop-core-2.invariant.underway base plan underway);
  steady = c.replay_all.ensures.pace.steady c.if-not-replay_all.false ∙ c.loop-core-2.invariant.steady;
}

pub returns-then-not-replay_all : goal.returns-then-not-replay_all
returns-then-not-replay_all g c = record {
  leaves = record {
    layout = c.replay_all.ensures.leaves.layout ∙ c.loop-core-2.invariant.leaves.layout;
    rest = c.replay_all.ensures.leaves.rest;
    fits = c.replay_all.ensures.leaves.fits;
    seen = c.replay_all.ensures.leaves.seen;
    held = held-then c.args.b (known_of (g.D.Desk.seen c.args.desk.now) (g.D.Desk.keeping c.args.desk.now c.args.keepers.now))
        (known_of (g.D.Desk.seen c.loop-core-2.desk) (g.D.Desk.keeping c.loop-core-2.desk c.loop-core-2.keepers))
        (known_of (g.D.Desk.seen c.replay_all.new.desk) (g.D.Desk.keeping c.replay_all.new.desk c.replay_all.new.keepers)) []
        c.loop-core-2.invariant.held c.replay_all.ensures.leaves.held;
  };
  seats = seats-then ((g.D.Desk.keeping c.args.desk.now c.args.keepers.now).part c.args.b)
      ((g.D.Desk.keeping c.loop-core-2.desk c.loop-core-2.keepers).part c.args.b)
      ((g.D.Desk.keeping c.replay_all.new.desk c.replay_all.new.keepers).part c.args.b) c.loop-core-2.invariant.seats
      c.replay_all.ensures.seats;
  underway = λ base plan underway. c.replay_all.ensures.underway base plan (c.loop-core-2.invariant.underway base plan underway);
  filled = λ filled. absurd (cc);
  pace = record {
    steady = λ going. absurd (cc);
    stopped = λ stopped.
        subst (λ n. n < g.P.Pace.stops c.replay_all.new.pace) c.loop-core-2.invariant.steady
        (c.replay_all.ensures.pace.stopped c.if-not-replay_all.true);
    no_fall = subst (λ n. n ≤ g.P.Pace.stops c.replay_all.new.pace) c.loop-core-2.invariant.steady c.replay_all.ensures.pace.no_fall;
  };
}

pub returns : goal.returns
returns g c = record {
  leaves = record {
    layout = c.loop-core-2.invariant.leaves.layout;
    rest = c.loop-core-2.invariant.leaves.rest;
    fits = c.loop-core-2.invariant.leaves.fits;
    seen = c.loop-core-2.invariant.seen;
    held = c.loop-core-2.invariant.held;
  };
  seats = c.loop-core-2.invariant.seats;
  underway = c.loop-core-2.invariant.underway;
  filled = λ filled.
      is_filled ((g.D.Desk.keeping c.loop-core-2.desk c.loop-core-2.keepers).part c.args.b) (drop c.loop-core-2.core-index c.args.cores.now)
      (names_past c.args.cores.now c.loop-core-2.core-index c.loop-core-2-test.false) c.loop-core-2.invariant.unfed
      c.loop-core-2.invariant.to_fill;
  pace = record {
    steady = λ going. c.loop-core-2.invariant.steady;
    stopped = λ stopped. absurd (cc);
    no_fall = subst (λ n. g.P.Pace.stops c.args.pace.now ≤ n) (sym c.loop-core-2.invariant.steady) (le_refl (g.P.Pace.stops c.args.pace.now));
  };
}
