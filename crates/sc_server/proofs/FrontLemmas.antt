-- What a server leaves of the crews of its station.
use Rattle.std.proofs.Common.{◌≡◌, ◌≤◌, ℕ, Bool, true, false, List, length, Option, Some, None, IfSome, slice_get, refl, sym, ap, subst, ◌∙◌, arith}
use Rattle.sc_session.specs.declared.station.Crew.{Crew}
use Rattle.sc_session.specs.Stations.{AreAsBefore}
use Rattle.sc_shared.specs.Collections.{Locks}
use Rattle.sc_arguments.specs.declared.asked.Server.{Server}
use Rattle.sc_server.specs.declared.worker.Worker.{Worker}
use Rattle.sc_server.specs.Reports.{WorkerCrew, without_moment}
use Rattle.sc_server.specs.Working.{with_hosts, HasFirstHosts}
use Rattle.sc_server.specs.Crews.{SetsBelow, SetsReportedBelow, AreEnlisted, AreReportedBack}
use Rattle.sc_server.specs.Serving.{Front, AreGivenAndBack, AreUnused, HasOpened, NoneBegins}
use Rattle.sc_server.proofs.CrewLemmas.{none_set_reported}
use Rattle.sc_server.proofs.MatchLemmas.{some_at}

-- what stands from this number on is as it was
abbrev pub OthersStay : {A : Type 0} → ℕ → (old new : Option (ℕ → A)) → Type 0
OthersStay {A} count old new = IfSome old (λ all. (some : ℕ → A) × (new ≡ Some some) × ((number : ℕ) → count ≤ number → some number ≡ all number))

all_stay : {A : Type 0} (count : ℕ) (old new : Option (ℕ → A)) → new ≡ old → OthersStay count old new
all_stay count None new same = tt
all_stay count (Some all) new same = (all, same, λ number beyond. refl)

module _ {R C H P L : Type 0} where
  -- the crew of a worker is back
  pub one_back : (workers : List (Worker R C H P L)) (old new : Option (ℕ → Option (Crew C H P L))) (number : ℕ) (worker : Worker R C H P L)
      → AreReportedBack workers old new → slice_get workers number ≡ Some worker
      → IfSome old (λ none. (crews : ℕ → Option (Crew C H P L)) × (new ≡ Some crews) × (crews number ≡ Some (without_moment worker.crew)))
  one_back workers None new number worker back at = tt
  one_back workers (Some before) new number worker (after, is, are) at = (after, is, are.each number worker at)

  others_stay : (workers : List (Worker R C H P L)) (old new : Option (ℕ → Option (Crew C H P L))) (count : ℕ) → length workers ≡ count
      → AreReportedBack workers old new → OthersStay count old new
  others_stay workers None new count same back = tt
  others_stay workers (Some before) new count same (after, is, are) =
      (after, is, λ number beyond. are.rest number (omega (arith, same, beyond)))

module _ {C H P L : Type 0} (before after : Front C H P L) where
  -- no crew was given
  pub none_given_and_back : after.crews ≡ before.crews → after.crews_back ≡ before.crews_back → AreAsBefore before.out after.out
      → AreGivenAndBack before after 0
  none_given_and_back crews back out = record {
    given = subst (λ (new : Option (ℕ → Option (Crew C H P L))). SetsReportedBelow 0 None before.crews new) (sym crews) (none_set_reported None before.crews);
    out = record { below = λ number below. absurd (omega (arith, below)); rest = λ number beyond. out number };
    others = all_stay 0 before.crews_back after.crews_back back;
  }

  -- the crews of workers were given, and are back
  pub given_and_back : {R : Type 0} (workers : List (Worker R C H P L)) (count : ℕ) (between : ℕ → Bool) → length workers ≡ count
      → SetsReportedBelow count None before.crews after.crews → SetsBelow count true before.out between → SetsBelow count false between after.out
      → AreReportedBack workers before.crews_back after.crews_back → AreGivenAndBack before after count
  given_and_back workers count between same crews out back_in back = record {
    given = crews;
    out = record { below = back_in.below; rest = λ number beyond. back_in.rest number beyond ∙ out.rest number beyond };
    others = others_stay workers before.crews_back after.crews_back count same back;
  }

  module _ {R : Type 0} (server : Server) (locks : Locks) (enlisted new : List (Worker R C H P L)) (are : AreEnlisted server locks before.crews enlisted)
      (back : AreReportedBack new before.crews_back after.crews_back) where
    -- workers that are as they were enlisted give their crews back as they were given
    pub unused : (first : ℕ) → ((number : ℕ) → first ≤ number → slice_get new number ≡ slice_get enlisted number)
        → AreUnused before after first (length enlisted)
    unused first same number from below =
        let one = some_at enlisted number below in
        let is = are number one.0 one.1 in (
          is.given,
          record {
            given_is = is.given_is;
            back_is = subst (λ (crew : WorkerCrew C H P L). IfSome before.crews_back (λ none. (crews : ℕ → Option (Crew C H P L)) × (after.crews_back ≡ Some crews)
                × (crews number ≡ Some (without_moment crew)))) is.crew
                (one_back new before.crews_back after.crews_back number one.0 back (same number from ∙ one.1));
          },
        )

    -- and so do those of whom the hosts of the first alone have changed
    pub none_begins : (hosts : H) (first : Worker R C H P L) (is : HasFirstHosts hosts first enlisted new) → length enlisted ≡ server.workers
        → AreGivenAndBack before after server.workers → after.open_faults ≡ before.open_faults → HasOpened before after server.port
        → NoneBegins before after server (are 0 first is.old_is).given (without_moment (with_hosts hosts first).crew)
    none_begins hosts first is count crews open_faults port =
        let enlisted_is = are 0 first is.old_is in
        record {
          crews = crews;
          first = record {
            given_is = enlisted_is.given_is;
            back_is = one_back new before.crews_back after.crews_back 0 (with_hosts hosts first) back is.new_is;
          };
          first_is = ap (λ (crew : WorkerCrew C H P L). record (without_moment crew) { hosts = hosts }) enlisted_is.crew;
          unused = subst (λ (last : ℕ). AreUnused before after 1 last) count
              (unused 1 (λ number from. is.rest number (λ none. absurd (omega (arith, from, none)))));
          open_faults = open_faults;
          port = port;
        }
