-- What is asked of makers in their threads, and what they leave.
use Rattle.std.specs.Prelude.{◌≡◌, ◌≢◌, ◌<◌, ◌≤◌, ◌+◌, ◌-◌, ℕ, Bool, true, false, List, [], ◌∷◌, length, map, slice_get, Option, Some, None, IfSome, All, ⊤}
use Rattle.std.specs.List.{list_any, sum_by}
use Rattle.sc_io.specs.declared.hosts.Host.{Host}
use Rattle.sc_seen.specs.Seen.{Seen}
use Rattle.sc_session.specs.declared.station.Crew.{Crew}
use Rattle.sc_session.specs.Listening.{nothing_kept}
use Rattle.sc_collection.specs.Shapes.{HasShape}
use Rattle.sc_cores.specs.Cores.{cores_of_map, StartsCores}
use Rattle.sc_shared.specs.declared.passes.Passes.{Passes}
use Rattle.sc_shared.specs.Passes.{seen_of}
use Rattle.sc_shared.specs.Collections.{Locks, layout_of}
use Rattle.sc_shared.specs.Sharing.{ArePasses}
use Rattle.sc_arguments.specs.declared.asked.Demo.{Demo}
use Rattle.sc_arguments.specs.Arguments.{most_orders, IsDemo, demo_shape}
use Rattle.sc_server.specs.Crews.{StationState, SetsBelow, SetsReportedBelow, seen_with}
use Rattle.sc_server.specs.Needs.{AreNew}
use Rattle.sc_server.specs.Serving.{IsOneStory}
use Rattle.sc_demo.specs.declared.needs.Kit.{Kit}
use Rattle.sc_demo.specs.declared.needs.Needs.{Needs}
use Rattle.sc_demo.specs.declared.maker.Maker.{Maker}
use Rattle.sc_demo.specs.declared.task.Made.{Made}
use Rattle.sc_demo.specs.declared.task.Outcome.{Outcome}
use Rattle.sc_demo.specs.declared.task.Outcome.TheVariants as outcomes
use Rattle.sc_demo.specs.Together.{own_of_all}
use Rattle.sc_demo.specs.Making.{MakerReports, MakesTask, IsTaskOf, TellsIn, accepted_by, accepted_in, making, ran_out_in, task_at}

-- what one maker needs: new passes, and an empty trail
pub record IsMakerKit (locks : Locks) (kit : Kit) : Type 0 where
  pub passes : AreNew locks kit.passes
  pub trail : kit.trail ≡ nothing_kept

-- What a demonstration needs: a collection of its shape, new passes of it and the cores of its first map, and what each maker needs.
pub record AreDemoNeeds (demo : Demo) (needs : Needs) : Type 0 where
  pub shape : HasShape demo_shape (layout_of needs.collection)
  pub passes : AreNew needs.collection needs.passes
  pub cores : needs.cores ≡ cores_of_map demo_shape.nodes (layout_of needs.collection).first
  pub count : length needs.kits.items ≡ demo.workers + 1
  pub kits : All (IsMakerKit needs.collection) needs.kits.items

module _ {R C H P L : Type 0} where
  -- A maker of this number that has not worked yet: its passes have seen nothing, and its crew is the one that a station gives for its
  -- number of these, where they are reported.
  pub record IsMakerEnlisted (demo : Demo) (locks : Locks) (crews : Option (ℕ → Option (Crew C H P L))) (number : ℕ) (maker : Maker R C H P L) : Type 0 where
    pub given_is : IfSome crews (λ all. all number ≡ Some maker.crew)
    pub passes : Passes
    pub there : maker.passes ≡ Some passes
    pub new : AreNew locks passes
    pub over : maker.collection.now ≡ locks
    pub demo_is : maker.demo ≡ demo
    pub task : maker.task ≡ task_at demo number

  -- each of these makers is enlisted, by its number
  abbrev pub AreMakersEnlisted : Demo → Locks → Option (ℕ → Option (Crew C H P L)) → List (Maker R C H P L) → Type 0
  AreMakersEnlisted demo locks crews makers =
      (number : ℕ) (maker : Maker R C H P L) → slice_get makers number ≡ Some maker → IsMakerEnlisted demo locks crews number maker

  -- the maker is at home over the collection: its passes are there, and of the collection
  pub record IsMakerHome (collection : Locks) (maker : Maker R C H P L) : Type 0 where
    pub passes : Passes
    pub there : maker.passes ≡ Some passes
    pub are : ArePasses collection passes
    pub of_collection : maker.collection.now ≡ collection

  -- and it has a task of a workload that can be made
  pub record IsMakerReady (collection : Locks) (maker : Maker R C H P L) : Type 0 where
    pub home : IsMakerHome collection maker
    pub demo : IsDemo maker.demo
    pub task : IsTaskOf maker.demo maker.task

  -- the same over the collection that the maker itself has
  abbrev pub IsReadyToMake : Maker R C H P L → Type 0
  IsReadyToMake maker = IsMakerReady maker.collection.now maker

  -- what the passes of a maker have seen, which is nothing where it has none
  abbrev pub seen_by_maker : Maker R C H P L → Seen
  seen_by_maker maker = seen_with maker.passes

  -- the crew of each of these makers is back at its number, and at every other stands what stood there
  pub record AreMakersBack (makers : List (Maker R C H P L)) (old new : ℕ → Option (Crew C H P L)) : Type 0 where
    pub each : (number : ℕ) (maker : Maker R C H P L) → slice_get makers number ≡ Some maker → new number ≡ Some maker.crew
    pub rest : (number : ℕ) → length makers ≤ number → new number ≡ old number

  -- the same where a station reports those that are back, which it goes on to do
  abbrev pub AreMakersReportedBack : List (Maker R C H P L) → (old new : Option (ℕ → Option (Crew C H P L))) → Type 0
  AreMakersReportedBack makers old new =
      IfSome old (λ before. (after : ℕ → Option (Crew C H P L)) × (new ≡ Some after) × AreMakersBack makers before after)

  -- these makers were given their crews, by their numbers, and all else of the station is as it was
  pub record MakersHaveCrews (demo : Demo) (locks : Locks) (makers : List (Maker R C H P L)) (old new : StationState C H P L) : Type 0 where
    pub enlisted : AreMakersEnlisted demo locks old.crews makers
    pub crews : SetsReportedBelow (length makers) None old.crews new.crews
    pub out : SetsBelow (length makers) true old.out new.out
    pub crews_back : new.crews_back ≡ old.crews_back
    pub faults : new.faults ≡ old.faults
    pub opened : new.opened ≡ old.opened

  -- the crews of these makers are back, and all else of the station is as it was
  pub record MakersHaveGivenBack (makers : List (Maker R C H P L)) (old new : StationState C H P L) : Type 0 where
    pub crews_back : AreMakersReportedBack makers old.crews_back new.crews_back
    pub out : SetsBelow (length makers) false old.out new.out
    pub crews : new.crews ≡ old.crews
    pub faults : new.faults ≡ old.faults
    pub opened : new.opened ≡ old.opened

  -- the passes have seen what all of these makers have, which is one story, and made what they made
  pub record MakersHaveJoined (collection : Locks) (makers : List (Maker R C H P L)) (passes : Passes) : Type 0 where
    pub are : ArePasses collection passes
    pub story : IsOneStory (layout_of collection) (map seen_by_maker makers) (seen_of passes)
    pub own : (lock : ℕ) → (seen_of passes).own lock ≡ own_of_all (map seen_by_maker makers) lock

  -- the maker with these hosts in its crew
  abbrev pub maker_with_hosts : H → Maker R C H P L → Maker R C H P L
  maker_with_hosts hosts maker = record maker { crew = record maker.crew { hosts = hosts } }

  -- the first of the makers has these hosts in its crew, and all else of them is as it was
  pub record HasFirstMakerHosts (hosts : H) (first : Maker R C H P L) (old new : List (Maker R C H P L)) : Type 0 where
    pub count : length new ≡ length old
    pub old_is : slice_get old 0 ≡ Some first
    pub new_is : slice_get new 0 ≡ Some (maker_with_hosts hosts first)
    pub rest : (number : ℕ) → number ≢ 0 → slice_get new number ≡ slice_get old number

  -- the last of the makers split the shard, and this word tells what that came to
  pub record TellsSplit (makers : List (Maker R C H P L)) (word : List ℕ) : Type 0 where
    pub maker : Maker R C H P L
    pub last : slice_get makers (length makers - 1) ≡ Some maker
    pub tells : TellsIn maker.made word

  -- memory ran out for none of them, so many orders were accepted, and this word tells what the split came to
  pub record IsTold (makers : List (Maker R C H P L)) (accepted : ℕ) (word : List ℕ) : Type 0 where
    pub memory : list_any (λ (maker : Maker R C H P L). ran_out_in maker.made) makers ≡ false
    pub accepted_is : accepted ≡ sum_by (λ (maker : Maker R C H P L). accepted_in maker.made) makers
    pub split : TellsSplit makers word

  -- what came of makers that have worked: memory ran out, or this is told of them
  abbrev pub IsOutcomeOf : List (Maker R C H P L) → Outcome → Type 0
  IsOutcomeOf makers outcomes.HostFailed = ⊥
  IsOutcomeOf makers outcomes.Memory = ⊤
  IsOutcomeOf makers (outcomes.Told accepted split) = IsTold makers accepted split

module _ {R C H P L : Type 0} (reports : MakerReports C H P) where
  -- The maker has worked: from what its passes had seen before, with its crew as it was, to what they have seen since, with its crew
  -- as it is then.
  pub record HasMade (old new : Maker R C H P L) : Type 0 where
    pub before : Passes
    pub after : Passes
    pub did : Made
    pub before_is : old.passes ≡ Some before
    pub after_is : new.passes ≡ Some after
    pub did_is : new.made ≡ Some did
    pub made : MakesTask (record { reports = reports; layout = layout_of old.collection.now }) old.demo old.task (making (seen_of before) old.crew)
        (making (seen_of after) new.crew) did
    pub few : accepted_by did ≤ most_orders
    pub listener : new.crew.listener ≡ old.crew.listener

  -- each of the makers has worked
  pub record HaveMade (old new : List (Maker R C H P L)) : Type 0 where
    pub count : length new ≡ length old
    pub each : (number : ℕ) (before after : Maker R C H P L) → slice_get old number ≡ Some before → slice_get new number ≡ Some after
        → HasMade before after

  -- starting a core failed by the hosts of the first maker, and all else of the makers is as it was
  pub record FirstMakerFails (old new : List (Maker R C H P L)) : Type 0 where
    pub first : Maker R C H P L
    pub hosts : H
    pub is : HasFirstMakerHosts hosts first old new
    pub fault : (reports.outside first.crew.hosts first.crew.pace).start_faults < (reports.outside hosts first.crew.pace).start_faults

  -- the hosts of the first maker have started these cores, and all else of the makers is as it was
  pub record FirstMakerStarts (cores : List Host) (old new : List (Maker R C H P L)) : Type 0 where
    pub first : Maker R C H P L
    pub hosts : H
    pub is : HasFirstMakerHosts hosts first old new
    pub starts : StartsCores cores (reports.outside first.crew.hosts first.crew.pace) (reports.outside hosts first.crew.pace)

  -- the first one's hosts have started these cores, each maker has worked from there, and this is told of them
  pub record MakesTold (cores : List Host) (old new : List (Maker R C H P L)) (accepted : ℕ) (word : List ℕ) : Type 0 where
    pub began : List (Maker R C H P L)
    pub starts : FirstMakerStarts cores old began
    pub have : HaveMade began new
    pub told : IsTold new accepted word

  -- what came of makers that were to begin with these cores
  abbrev pub MakesAll : List Host → (old new : List (Maker R C H P L)) → Outcome → Type 0
  MakesAll cores old new outcomes.HostFailed = FirstMakerFails old new
  MakesAll cores old new outcomes.Memory = ⊤
  MakesAll cores old new (outcomes.Told accepted split) = MakesTold cores old new accepted split
