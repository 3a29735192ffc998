-- How workers get their crews from a station, and how the station gets them back.
use Rattle.std.specs.Prelude.{◌≡◌, ◌≤◌, ◌<◌, ℕ, Bool, true, false, List, [], length, slice_get, Option, Some, None, IfSome}
use Rattle.sc_seen.specs.Seen.{Seen}
use Rattle.sc_session.specs.declared.station.Crew.{Crew}
use Rattle.sc_session.specs.declared.station.Station.{Ghosts as Station}
use Rattle.sc_shared.specs.declared.passes.Passes.{Passes}
use Rattle.sc_shared.specs.Passes.{seen_of}
use Rattle.sc_shared.specs.Collections.{Locks}
use Rattle.sc_arguments.specs.declared.asked.Server.{Server}
use Rattle.sc_server.specs.declared.worker.Worker.{Worker}
use Rattle.sc_server.specs.Reports.{with_moment, without_moment}
use Rattle.sc_server.specs.Needs.{AreNew}

-- at each number below this one stands the value, and at every other what stood there
pub record SetsBelow {A : Type 0} (count : ℕ) (value : A) (old new : ℕ → A) : Type 0 where
  pub below : (number : ℕ) → number < count → new number ≡ value
  pub rest : (number : ℕ) → count ≤ number → new number ≡ old number

-- the same of what stands at each number where that is reported, which it goes on to be
abbrev pub SetsReportedBelow : {A : Type 0} → ℕ → A → (old new : Option (ℕ → A)) → Type 0
SetsReportedBelow {A} count value old new = IfSome old (λ before. (after : ℕ → A) × (new ≡ Some after) × SetsBelow count value before after)

-- What a station reports at one moment: the crews that are still to be given, those that are back and those that are out, by the worker's
-- number; how often opening the port has failed; and the port that was opened last, if one was.
pub record StationState (C H P L : Type 0) : Type 0 where
  pub crews : Option (ℕ → Option (Crew C H P L))
  pub crews_back : Option (ℕ → Option (Crew C H P L))
  pub out : ℕ → Bool
  pub faults : ℕ
  pub opened : Option (Option ℕ)

-- what this station reports
abbrev pub station_state : {T C H P L S W : Type 0} → Station T C H P L S W → T → StationState C H P L
station_state of_station station = record {
  crews = of_station.crews station;
  crews_back = of_station.crews_back station;
  out = of_station.out station;
  faults = of_station.faults station;
  opened = of_station.opened station;
}

-- what these passes have seen; none have seen nothing
abbrev pub seen_with : Option Passes → Seen
seen_with None = record { journals = λ lock. []; board = []; own = λ lock. [] }
seen_with (Some passes) = seen_of passes

module _ {R C H P L : Type 0} where
  -- A worker of this number that has not worked yet: its passes have seen nothing, and its crew is the one that a station gives for its
  -- number of these, where they are reported.
  pub record IsEnlisted (server : Server) (locks : Locks) (crews : Option (ℕ → Option (Crew C H P L))) (number : ℕ) (worker : Worker R C H P L) : Type 0 where
    pub given : Crew C H P L
    pub given_is : IfSome crews (λ all. all number ≡ Some given)
    pub crew : worker.crew ≡ with_moment server.clock given
    pub passes : Passes
    pub there : worker.passes ≡ Some passes
    pub new : AreNew locks passes
    pub over : worker.collection.now ≡ locks
    pub most : worker.most ≡ server.max_connections

  -- each of these workers is enlisted, by its number
  abbrev pub AreEnlisted : Server → Locks → Option (ℕ → Option (Crew C H P L)) → List (Worker R C H P L) → Type 0
  AreEnlisted server locks crews workers =
      (number : ℕ) (worker : Worker R C H P L) → slice_get workers number ≡ Some worker → IsEnlisted server locks crews number worker

  -- what the passes of a worker have seen, which is nothing where it has none
  abbrev pub seen_by_worker : Worker R C H P L → Seen
  seen_by_worker worker = seen_with worker.passes

  -- the crew of each of these workers is back at its number, and at every other stands what stood there
  pub record AreBack (workers : List (Worker R C H P L)) (old new : ℕ → Option (Crew C H P L)) : Type 0 where
    pub each : (number : ℕ) (worker : Worker R C H P L) → slice_get workers number ≡ Some worker → new number ≡ Some (without_moment worker.crew)
    pub rest : (number : ℕ) → length workers ≤ number → new number ≡ old number

  -- the same where a station reports those that are back, which it goes on to do
  abbrev pub AreReportedBack : List (Worker R C H P L) → (old new : Option (ℕ → Option (Crew C H P L))) → Type 0
  AreReportedBack workers old new =
      IfSome old (λ before. (after : ℕ → Option (Crew C H P L)) × (new ≡ Some after) × AreBack workers before after)

  -- these workers were given their crews, by their numbers, and all else of the station is as it was
  pub record HaveCrews (server : Server) (locks : Locks) (workers : List (Worker R C H P L)) (old new : StationState C H P L) : Type 0 where
    pub enlisted : AreEnlisted server locks old.crews workers
    pub crews : SetsReportedBelow (length workers) None old.crews new.crews
    pub out : SetsBelow (length workers) true old.out new.out
    pub crews_back : new.crews_back ≡ old.crews_back
    pub faults : new.faults ≡ old.faults
    pub opened : new.opened ≡ old.opened

  -- the crews of these workers are back, and all else of the station is as it was
  pub record HaveGivenBack (workers : List (Worker R C H P L)) (old new : StationState C H P L) : Type 0 where
    pub crews_back : AreReportedBack workers old.crews_back new.crews_back
    pub out : SetsBelow (length workers) false old.out new.out
    pub crews : new.crews ≡ old.crews
    pub faults : new.faults ≡ old.faults
    pub opened : new.opened ≡ old.opened
