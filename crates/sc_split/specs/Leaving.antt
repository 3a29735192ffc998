-- What a step of a split asks of a desk and its keepers, and how it leaves them and the pace.
use Rattle.std.specs.Prelude.{◌≡◌, ◌<◌, ◌≤◌, ℕ, Bool, List, [], IsTrue, IsFalse}
use Rattle.sc_cluster.specs.declared.plan.SplitPlan.{SplitPlan}
use Rattle.sc_io.specs.declared.hosts.Hosts.{Ghosts as Hosts}
use Rattle.sc_io.specs.declared.pace.Pace.{Ghosts as Pace}
use Rattle.sc_seen.specs.Moments.{view_of}
use Rattle.sc_seen.specs.declared.stop.Stop.{Stop}
use Rattle.sc_collection.specs.declared.desk.Desk.{Ghosts as Desk}
use Rattle.sc_collection.specs.Known.{Known, known_of}
use Rattle.sc_collection.specs.Resting.{Rests}
use Rattle.sc_cores.specs.Cores.{outside_of}
use Rattle.sc_split.specs.Buckets.{IsAllSeen, KeeperHeld}
use Rattle.sc_split.specs.Stages.{OpenSplit, KeepsKnownBoard}
use Rattle.sc_split.specs.Splits.{SplitMoment, split_moment}

module _ {D K : Type 0} (desks : Desk D K) where
  -- what is known of a collection by its desk and its keepers
  abbrev pub known : D → K → Known
  known desk keepers = known_of (desks.seen desk) (desks.keeping desk keepers)

  -- the split of the plan that began on the board when the desk and its keepers were so
  abbrev pub begun_from : D → K → SplitPlan → OpenSplit
  begun_from desk keepers plan = record { plan = plan; base = known desk keepers }

  -- the desk is at rest, and these are its keepers
  pub record RestsWith (desk : D) (keepers : K) : Type 0 where
    pub rest : Rests desks desk
    pub fits : desks.fits desk keepers

  -- A call leaves the desk at rest and its collection laid out as before.
  pub record LeavesDesk (old new : D) : Type 0 where
    pub layout : desks.layout new ≡ desks.layout old
    pub rest : Rests desks new

  -- A call leaves the desk at rest, its collection laid out as before, and these its keepers.
  pub record LeavesWith (old new : D) (keepers : K) : Type 0 where
    pub layout : desks.layout new ≡ desks.layout old
    pub rest : Rests desks new
    pub fits : desks.fits new keepers

  -- Nothing but buckets was held, by their keepers: the call leaves the desk so, and these its keepers, and of the board nothing more was
  -- seen.
  pub record HoldsBuckets (old : D) (kept : K) (new : D) (keeps : K) : Type 0 where
    pub layout : desks.layout new ≡ desks.layout old
    pub rest : Rests desks new
    pub fits : desks.fits new keeps
    pub board : KeepsKnownBoard (known old kept) (known new keeps)

  -- Nothing but the bucket of this number was held, by its keeper, who made no entry there: the call leaves the desk so, and these its
  -- keepers. All that the keeper made there was seen.
  pub record HoldsBucket (number : ℕ) (old : D) (kept : K) (new : D) (keeps : K) : Type 0 where
    pub layout : desks.layout new ≡ desks.layout old
    pub rest : Rests desks new
    pub fits : desks.fits new keeps
    pub seen : IsAllSeen number (known new keeps)
    pub held : KeeperHeld number (known old kept) (known new keeps) []

module _ {D K H P : Type 0} (desks : Desk D K) (of_hosts : Hosts H) (of_pace : Pace P) where
  -- what stands at one moment: what was seen at the desk, these stops, and what is outside by the hosts and the pace
  abbrev pub moment_at : D → H → P → List Stop → SplitMoment
  moment_at desk hosts pace stops = split_moment (view_of (desks.seen desk) stops)
      (outside_of (of_hosts.started hosts) (of_hosts.start_faults hosts) (of_hosts.stop_faults hosts) (of_pace.stops pace) (of_hosts.reached hosts))

-- The pace was asked after each piece: where the call went on to its end the pace never said stop, and where it did not the pace did.
pub record AsksPace {P : Type 0} (of_pace : Pace P) (old new : P) (goes_on : Bool) : Type 0 where
  pub steady : IsTrue goes_on → of_pace.stops new ≡ of_pace.stops old
  pub stopped : IsFalse goes_on → of_pace.stops old < of_pace.stops new
  pub no_fall : of_pace.stops old ≤ of_pace.stops new

-- Cores were started, and the pace was asked: the counts of starts that failed and of stops of the pace did not fall, and the count of
-- cores that failed to stop and the nodes that were not reached are as before.
pub record StartsBeside {H P : Type 0} (of_hosts : Hosts H) (of_pace : Pace P) (old : H) (kept : P) (new : H) (keeps : P) : Type 0 where
  pub start_faults : of_hosts.start_faults old ≤ of_hosts.start_faults new
  pub stops : of_pace.stops kept ≤ of_pace.stops keeps
  pub stop_faults : of_hosts.stop_faults new ≡ of_hosts.stop_faults old
  pub reached : of_hosts.reached new ≡ of_hosts.reached old
