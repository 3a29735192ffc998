-- A core is fed piece after piece.
use Rattle.std.proofs.Common.{◌<◌, ◌≤◌, [], refl, sym, ◌∙◌, subst}
use Rattle.std.specs.List.{IsDistinct}
use Rattle.sc_record.specs.Names.{is_core}
use Rattle.sc_seen.specs.Seen.{Layout}
use Rattle.sc_keeper.specs.Events.{PartFeeds}
use Rattle.sc_collection.specs.Known.{known_of}
use Rattle.sc_split.proofs.HeldLemmas.{held-not, held-then}
use Rattle.sc_split.proofs.FeedLemmas.{may_feed_first, fed_names-piece, fed_names-last, kept-fed}
use Rattle.sc_split.proofs.MeasureLemmas.{fewer_rows}
use Rattle.sc_split.proofs.filling.feed_all.Goals as goal

pub loop-core-init : goal.loop-core-init
loop-core-init g c = record {
  leaves = record {
    layout = refl;
    rest = c.requires.rests.rest;
    fits = c.requires.rests.fits;
  };
  held = held-not c.args.b (known_of (g.D.Desk.seen c.args.desk.now) (g.D.Desk.keeping c.args.desk.now c.args.keepers.now));
  kept = record { rest = record { map_is = refl; phase_is = refl; entries_are = refl }; cores_are = refl };
  fed = refl;
  steady = refl;
}

pub feed_in-is_fed-requires : goal.feed_in-is_fed-requires
feed_in-is_fed-requires g c = record {
  within = subst (λ (layout : Layout). c.args.b < layout.buckets) (sym c.loop-core.invariant.leaves.layout) c.requires.within;
  rests = record { rest = c.loop-core.invariant.leaves.rest; fits = c.loop-core.invariant.leaves.fits };
  may = may_feed_first ((g.D.Desk.keeping c.loop-core.desk c.loop-core.keepers).part c.args.b) c.args.core c.requires.first.later
      (c.loop-core.invariant.fed ∙ c.requires.first.fed);
}

pub loop-core-preserved : goal.loop-core-preserved
loop-core-preserved g c = record {
  leaves = record {
    layout = c.feed_in-is_fed.ensures.leaves.layout ∙ c.loop-core.invariant.leaves.layout;
    rest = c.feed_in-is_fed.ensures.leaves.rest;
    fits = c.feed_in-is_fed.ensures.leaves.fits;
  };
  held = held-then c.args.b (known_of (g.D.Desk.seen c.args.desk.now) (g.D.Desk.keeping c.args.desk.now c.args.keepers.now))
      (known_of (g.D.Desk.seen c.loop-core.desk) (g.D.Desk.keeping c.loop-core.desk c.loop-core.keepers))
      (known_of (g.D.Desk.seen c.feed_in-is_fed.new.desk) (g.D.Desk.keeping c.feed_in-is_fed.new.desk c.feed_in-is_fed.new.keepers)) []
      c.loop-core.invariant.held c.feed_in-is_fed.ensures.leaves.held;
  kept = kept-fed ((g.D.Desk.keeping c.args.desk.now c.args.keepers.now).part c.args.b)
      ((g.D.Desk.keeping c.loop-core.desk c.loop-core.keepers).part c.args.b)
      ((g.D.Desk.keeping c.feed_in-is_fed.new.desk c.feed_in-is_fed.new.keepers).part c.args.b) c.args.core c.feed_in-is_fed.result
      c.loop-core.invariant.kept
      c.feed_in-is_fed.ensures.fed;
  fed = fed_names-piece ((g.D.Desk.keeping c.loop-core.desk c.loop-core.keepers).part c.args.b)
      ((g.D.Desk.keeping c.feed_in-is_fed.new.desk c.feed_in-is_fed.new.keepers).part c.args.b) c.args.core
      (subst (λ is_done. PartFeeds ((g.D.Desk.keeping c.loop-core.desk c.loop-core.keepers).part c.args.b) c.args.core is_done
      ((g.D.Desk.keeping c.feed_in-is_fed.new.desk c.feed_in-is_fed.new.keepers).part c.args.b)) c.if-is_fed.false
      c.feed_in-is_fed.ensures.fed)
      ∙ c.loop-core.invariant.fed;
  steady = c.between.ensures.steady c.if-not-between.false ∙ c.loop-core.invariant.steady;
}

pub loop-core-smaller : goal.loop-core-smaller
loop-core-smaller g c =
    fewer_rows ((g.D.Desk.keeping c.loop-core.desk c.loop-core.keepers).part c.args.b)
    ((g.D.Desk.keeping c.feed_in-is_fed.new.desk c.feed_in-is_fed.new.keepers).part c.args.b) c.args.core
    (subst (λ is_done. PartFeeds ((g.D.Desk.keeping c.loop-core.desk c.loop-core.keepers).part c.args.b) c.args.core is_done
    ((g.D.Desk.keeping c.feed_in-is_fed.new.desk c.feed_in-is_fed.new.keepers).part c.args.b)) c.if-is_fed.false
    c.feed_in-is_fed.ensures.fed)

pub returns-then-not-between : goal.returns-then-not-between
returns-then-not-between g c = record {
  leaves = record {
    layout = c.feed_in-is_fed.ensures.leaves.layout ∙ c.loop-core.invariant.leaves.layout;
    rest = c.feed_in-is_fed.ensures.leaves.rest;
    fits = c.feed_in-is_fed.ensures.leaves.fits;
    seen = c.feed_in-is_fed.ensures.leaves.seen;
    held = held-then c.args.b (known_of (g.D.Desk.seen c.args.desk.now) (g.D.Desk.keeping c.args.desk.now c.args.keepers.now))
        (known_of (g.D.Desk.seen c.loop-core.desk) (g.D.Desk.keeping c.loop-core.desk c.loop-core.keepers))
        (known_of (g.D.Desk.seen c.feed_in-is_fed.new.desk) (g.D.Desk.keeping c.feed_in-is_fed.new.desk c.feed_in-is_fed.new.keepers)) []
        c.loop-core.invariant.held c.feed_in-is_fed.ensures.leaves.held;
  };
  kept = kept-fed ((g.D.Desk.keeping c.args.desk.now c.args.keepers.now).part c.args.b)
      ((g.D.Desk.keeping c.loop-core.desk c.loop-core.keepers).part c.args.b)
      ((g.D.Desk.keeping c.feed_in-is_fed.new.desk c.feed_in-is_fed.new.keepers).part c.args.b) c.args.core c.feed_in-is_fed.result
      c.loop-core.invariant.kept
      c.feed_in-is_fed.ensures.fed;
  fed = λ done. absurd (cc);
  pace = record {
    steady = λ going. absurd (cc);
    stopped = λ stopped.
        subst (λ n. n < g.P.Pace.stops c.between.new.self) c.loop-core.invariant.steady (c.between.ensures.cause c.if-not-between.true);
    no_fall = subst (λ n. n ≤ g.P.Pace.stops c.between.new.self) c.loop-core.invariant.steady c.between.ensures.no_fall;
  };
}

pub returns-then-is_fed : goal.returns-then-is_fed
returns-then-is_fed g c = record {
  leaves = record {
    layout = c.feed_in-is_fed.ensures.leaves.layout ∙ c.loop-core.invariant.leaves.layout;
    rest = c.feed_in-is_fed.ensures.leaves.rest;
    fits = c.feed_in-is_fed.ensures.leaves.fits;
    seen = c.feed_in-is_fed.ensures.leaves.seen;
    held = held-then c.args.b (known_of (g.D.Desk.seen c.args.desk.now) (g.D.Desk.keeping c.args.desk.now c.args.keepers.now))
        (known_of (g.D.Desk.seen c.loop-core.desk) (g.D.Desk.keeping c.loop-core.desk c.loop-core.keepers))
        (known_of (g.D.Desk.seen c.feed_in-is_fed.new.desk) (g.D.Desk.keeping c.feed_in-is_fed.new.desk c.feed_in-is_fed.new.keepers)) []
        c.loop-core.invariant.held c.feed_in-is_fed.ensures.leaves.held;
  };
  kept = kept-fed ((g.D.Desk.keeping c.args.desk.now c.args.keepers.now).part c.args.b)
      ((g.D.Desk.keeping c.loop-core.desk c.loop-core.keepers).part c.args.b)
      ((g.D.Desk.keeping c.feed_in-is_fed.new.desk c.feed_in-is_fed.new.keepers).part c.args.b) c.args.core c.feed_in-is_fed.result
      c.loop-core.invariant.kept
      c.feed_in-is_fed.ensures.fed;
  fed = λ done names fed.
      fed_names-last ((g.D.Desk.keeping c.loop-core.desk c.loop-core.keepers).part c.args.b)
      ((g.D.Desk.keeping c.feed_in-is_fed.new.desk c.feed_in-is_fed.new.keepers).part c.args.b) c.args.core names
      (subst (IsDistinct is_core) (sym c.requires.first.fed ∙ fed) c.requires.first.once) (c.loop-core.invariant.fed ∙ fed)
      (subst (λ is_done. PartFeeds ((g.D.Desk.keeping c.loop-core.desk c.loop-core.keepers).part c.args.b) c.args.core is_done
      ((g.D.Desk.keeping c.feed_in-is_fed.new.desk c.feed_in-is_fed.new.keepers).part c.args.b)) c.if-is_fed.true
      c.feed_in-is_fed.ensures.fed);
  pace = record {
    steady = λ going. c.between.ensures.steady c.if-not-between.false ∙ c.loop-core.invariant.steady;
    stopped = λ stopped. absurd (cc);
    no_fall = subst (λ n. n ≤ g.P.Pace.stops c.between.new.self) c.loop-core.invariant.steady c.between.ensures.no_fall;
  };
}
