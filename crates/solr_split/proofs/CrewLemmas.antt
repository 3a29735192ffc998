-- A crew that was given and taken back was lent: nothing else of the station has changed.
use Rattle.std.proofs.Common.{◌≡◌, ◌∙◌, ℕ, true, false, Option, Some, None, IfSome, sym, subst}
use Rattle.sc_session.specs.declared.station.Crew.{Crew}
use Rattle.sc_session.specs.Stations.{SetsAt, SetsReported}
use Rattle.sc_server.specs.Serving.{Front}
use Rattle.solr_split.specs.Scripts.{LendsFirst}

-- what stands at a number that was set twice is what was set last
set_again : {A : Type 0} (number : ℕ) (value other : A) (old lent new : ℕ → A) → SetsAt number other old lent → SetsAt number value lent new
    → SetsAt number value old new
set_again number value other old lent new first second = record {
  here = second.here;
  elsewhere = λ at differs. second.elsewhere at differs ∙ first.elsewhere at differs;
}

-- the first crew is lent where the station, which is in between as this front says, gave it and then took it back
pub lends_first : {C H P L : Type 0} (before lent after : Front C H P L) (given back : Crew C H P L)
    → IfSome before.crews (λ all. all 0 ≡ Some given) → SetsReported 0 None before.crews lent.crews → after.crews ≡ lent.crews
    → lent.crews_back ≡ before.crews_back → SetsReported 0 (Some back) lent.crews_back after.crews_back
    → SetsAt 0 true before.out lent.out → SetsAt 0 false lent.out after.out
    → back.listener ≡ given.listener → lent.open_faults ≡ before.open_faults → after.open_faults ≡ lent.open_faults
    → lent.opened ≡ before.opened → after.opened ≡ lent.opened
    → LendsFirst before after given back
lends_first {C} {H} {P} {L} before lent after given back given_is taken crews none_back put gone home listener no_fault open_faults stays opened = record {
  given_is = given_is;
  crews = subst (SetsReported 0 None before.crews) (sym crews) taken;
  crews_back = subst (λ (all : Option (ℕ → Option (Crew C H P L))). SetsReported 0 (Some back) all after.crews_back) none_back put;
  out = set_again 0 false true before.out lent.out after.out gone home;
  listener = listener;
  open_faults = open_faults ∙ no_fault;
  opened = opened ∙ stays;
}
