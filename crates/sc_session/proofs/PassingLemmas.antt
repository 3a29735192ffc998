-- A gate is passed in no step, in one or in two.
use Rattle.std.proofs.Common.{◌≡◌, ℕ, zero, suc, ◌+◌, ◌<◌, ◌≤◌, true, false, List, [], ◌∷◌, length, drop, Some, None, Result, Ok, Err, Contains, refl, sym, ap, ◌∙◌, subst, arith}
use Rattle.std.specs.Prelude.{slice_get, OnOk}
use Rattle.std.specs.List.{AllByRecursion}
use Rattle.std.proofs.lemmas.List.{drop_all, drop_more}
use Rattle.std.proofs.lemmas.Option.{slice_get_within, get_or_from_slice_get}
use Rattle.std.proofs.lemmas.List.Elements.{All-contains, All-from_recursion}
use Rattle.std.proofs.ByRecursion.{All-weaker}
use Rattle.sc_io.specs.Counts.{CountsFaults}
use Rattle.sc_seen.specs.Seen.{Layout, Seen}
use Rattle.sc_seen.specs.declared.stop.Stop.{Stop}
use Rattle.sc_seen.proofs.ExtendsLemmas.{IsPrefix-length}
use Rattle.sc_gate.specs.Gates.{Gated, IsOfBucket, IsOfBoard, IsCommit, IsCommitKept, KeepsStops, KeepsCommits, KeepsAll, StandsOpen, StillKeeps, SeesOnly}
use Rattle.sc_gate.specs.declared.gate.GateFault.{GateFault}
use Rattle.sc_gate.specs.declared.gate.GateFault.TheVariants as gates
use Rattle.sc_gate.proofs.GateLemmas.{SeesOnly-self, SeesOnly-then, StillKeeps-self, StillKeeps-then, KeepsStops-on, KeepsCommits-on}
use Rattle.sc_session.specs.Connection.{kept, log_failed, MakeNothing, IsKept}
use Rattle.sc_session.specs.Serving.{GateMoment, PassesGate, NoteNothing, outcome_of}
use Rattle.sc_session.specs.States.{CountsFault}
use Rattle.sc_session.proofs.ServeLemmas.{gate_moment}

-- a count of failures, by what came of the gate
counted : {A : Type 0} (result : Result A GateFault) (old new : ℕ) → CountsFaults (result ≡ Err gates.Failed) old new → CountsFault (outcome_of result ≡ log_failed) old new
counted (Ok passed) old new count =
    record { rises = λ is. absurd (cc); stays = λ none. count.steady (λ is. absurd (cc)) }
counted (Err gates.Failed) old new count = record { rises = λ is. count.cause refl; stays = λ none. absurd (none refl) }
counted (Err gates.Memory) old new count =
    record { rises = λ is. absurd (cc); stays = λ none. count.steady (λ is. absurd (cc)) }

-- where nothing was made on the board, nothing more than what was made is to be kept
noted_none : (layout : Layout) (seen : Seen) (gate : Gated) (stops : List Stop) → NoteNothing layout.buckets stops
    → (stop : Stop) → Contains stops stop → IsOfBoard layout stop → KeepsAll layout seen gate
noted_none layout seen gate stops none stop there noted =
    let unmade : stop.lock ≡ layout.buckets → stop.made ≡ false =
    All-contains (λ (one : Stop). one.lock ≡ layout.buckets → one.made ≡ false) stops stop
    (All-from_recursion (λ (one : Stop). one.lock ≡ layout.buckets → one.made ≡ false) stops none) there in
    let both : false ≡ true = sym (unmade noted.0) ∙ noted.1 in absurd (cc)

-- where nothing was made, nothing is to be kept
kept_nothing : (layout : Layout) (seen : Seen) (gate : Gated) (stops : List Stop) → MakeNothing stops → IsKept layout seen gate stops
kept_nothing layout seen gate stops nothing = record {
  entries = All-weaker (λ (stop : Stop). stop.made ≡ false) (λ (stop : Stop). IsOfBucket layout stop → ¬ IsCommit seen stop → gate.keeps stop.lock stop.place ≡ true)
      (λ stop unmade made other. let both : false ≡ true = sym unmade ∙ made.1 in absurd (cc)) stops nothing;
  commits = All-weaker (λ (stop : Stop). stop.made ≡ false) (λ (stop : Stop). IsOfBucket layout stop → IsCommit seen stop → IsCommitKept seen gate stop)
      (λ stop unmade made commit. let both : false ≡ true = sym unmade ∙ made.1 in absurd (cc)) stops nothing;
  all = noted_none layout seen gate stops (All-weaker (λ (stop : Stop). stop.made ≡ false) (λ (stop : Stop). stop.lock ≡ layout.buckets → stop.made ≡ false)
      (λ stop unmade at. unmade) stops nothing);
}

-- where nothing was made the gate is not passed
pub passes_none : (layout : Layout) (seen : Seen) (gate : Gated) (stops : List Stop) → MakeNothing stops
    → PassesGate layout stops (gate_moment seen gate) (gate_moment seen gate) kept
passes_none layout seen gate stops nothing = record {
  kept_is = λ is. kept_nothing layout seen gate stops nothing;
  stays = StillKeeps-self gate;
  met = SeesOnly-self seen;
  alone = λ none. refl;
  unasked = λ none. (refl, refl);
  faults = record { rises = λ is. absurd (cc); stays = λ none. refl };
}

-- what holds of every stop holds of each of these
of_each : (P : Stop → Type 0) → ((stop : Stop) → P stop) → (stops : List Stop) → AllByRecursion P stops
of_each P all [] = tt
of_each P all (stop ∷ stops) = (all stop, of_each P all stops)

-- where the gate stands open all is kept
kept_open : (layout : Layout) (seen : Seen) (gate : Gated) (stops : List Stop) → StandsOpen gate → IsKept layout seen gate stops
kept_open layout seen gate stops stands = record {
  entries = of_each (λ (stop : Stop). IsOfBucket layout stop → ¬ IsCommit seen stop → gate.keeps stop.lock stop.place ≡ true)
      (λ stop made other. stands.entries stop.lock stop.place) stops;
  commits = of_each (λ (stop : Stop). IsOfBucket layout stop → IsCommit seen stop → IsCommitKept seen gate stop)
      (λ stop made commit. record { writes = λ place below write. stands.entries stop.lock place; commit = stands.commits stop.lock stop.place }) stops;
  all = λ stop there noted lock place below within. stands.entries lock place;
}

-- and it is not passed
pub passes_open : (layout : Layout) (seen : Seen) (gate : Gated) (stops : List Stop) → StandsOpen gate
    → PassesGate layout stops (gate_moment seen gate) (gate_moment seen gate) kept
passes_open layout seen gate stops stands = record {
  kept_is = λ is. kept_open layout seen gate stops stands;
  stays = StillKeeps-self gate;
  met = SeesOnly-self seen;
  alone = λ none. refl;
  unasked = λ none. (refl, refl);
  faults = record { rises = λ is. absurd (cc); stays = λ none. refl };
}

-- ---- which stops made something
-- the stops from a place on are the one that is there, and those after it
from_there : (stops : List Stop) (at : ℕ) (stop : Stop) → slice_get stops at ≡ Some stop → drop at stops ≡ stop ∷ drop (at + 1) stops
from_there stops at stop there =
    drop_more stops at stop (slice_get_within stops at stop there)
    ∙ ap (λ (s : Stop). s ∷ drop (at + 1) stops) (get_or_from_slice_get stops at stop stop there)

-- all from a place on are as is said where the one that is there is, and all after it
pub all_from : (P : Stop → Type 0) (stops : List Stop) (at : ℕ) (stop : Stop) → slice_get stops at ≡ Some stop → P stop
    → AllByRecursion P (drop (at + 1) stops) → AllByRecursion P (drop at stops)
all_from P stops at stop there here rest = subst (AllByRecursion P) (sym (from_there stops at stop there)) (here, rest)

pub all_after : (P : Stop → Type 0) (stops : List Stop) (at : ℕ) (stop : Stop) → slice_get stops at ≡ Some stop
    → AllByRecursion P (drop at stops) → P stop × AllByRecursion P (drop (at + 1) stops)
all_after P stops at stop there all = subst (AllByRecursion P) (from_there stops at stop there) all

-- one stands at each place before the end
not_none : (stops : List Stop) (at : ℕ) → at < length stops → slice_get stops at ≡ None → ⊥
not_none [] at within none = absurd (omega (arith, within))
not_none (stop ∷ stops) zero within none = absurd (cc)
not_none (stop ∷ stops) (suc at) within none = not_none stops at (omega (arith, within)) none

pub one_there : {B : Type 0} (stops : List Stop) (at : ℕ) → at < length stops → slice_get stops at ≡ None → B
one_there stops at within none = absurd (not_none stops at within none)

-- none stands after the last
pub all_of_none : (P : Stop → Type 0) (stops : List Stop) (at : ℕ) → length stops ≤ at → AllByRecursion P (drop at stops)
all_of_none P stops at past = subst (AllByRecursion P) (sym (drop_all at stops past)) tt

-- the gate was passed in one step, or not
pub passes_once : (layout : Layout) (stops : List Stop) (old new : GateMoment) (result : Result (Unit {0}) GateFault) → (MakeNothing stops → ⊥)
    → StillKeeps old.gate new.gate → SeesOnly old.seen new.seen → (old.gate.meets ≡ false → new.seen ≡ old.seen)
    → CountsFaults (result ≡ Err gates.Failed) old.gate.faults new.gate.faults
    → (outcome_of result ≡ kept → IsKept layout old.seen new.gate stops)
    → PassesGate layout stops old new (outcome_of result)
passes_once layout stops old new result made stays met alone count is = record {
  kept_is = is;
  stays = stays;
  met = met;
  alone = alone;
  unasked = λ none. absurd (made none);
  faults = counted result old.gate.faults new.gate.faults count;
}

-- it was passed in one step, after which nothing more was to be kept
pub kept_once : (layout : Layout) (stops : List Stop) (seen : Seen) (gate : Gated) → KeepsStops layout seen gate stops → KeepsCommits layout seen gate stops
    → NoteNothing layout.buckets stops → IsKept layout seen gate stops
kept_once layout stops seen gate entries commits none = record { entries = entries; commits = commits; all = noted_none layout seen gate stops none }

-- all that was seen is kept, where all that is seen is
keeps_seen : (layout : Layout) (old new : Seen) (gate : Gated) → SeesOnly old new → KeepsAll layout new gate → KeepsAll layout old gate
keeps_seen layout old new gate met all lock place below within =
    let grown : length (old.journals lock) ≤ length (new.journals lock) = IsPrefix-length (old.journals lock) (new.journals lock) (met.journals lock) in
    all lock place below (omega (arith, grown, within))

-- what holds where a step was done, by what came of it
pub where_kept : {A : Type 0} (result : Result A GateFault) (K : Type 0) → OnOk result K → outcome_of result ≡ kept → K
where_kept (Ok passed) K holds is = holds
where_kept (Err gates.Failed) K holds is = absurd (cc)
where_kept (Err gates.Memory) K holds is = absurd (cc)

-- it was passed in two steps, in the second of which all was to be kept that had been seen
pub passes_twice : (layout : Layout) (stops : List Stop) (old between new : GateMoment) (result : Result (Unit {0}) GateFault) → (MakeNothing stops → ⊥)
    → StillKeeps old.gate between.gate → SeesOnly old.seen between.seen → (old.gate.meets ≡ false → between.seen ≡ old.seen)
    → between.gate.faults ≡ old.gate.faults → KeepsStops layout old.seen between.gate stops → KeepsCommits layout old.seen between.gate stops
    → StillKeeps between.gate new.gate → SeesOnly between.seen new.seen → (between.gate.meets ≡ false → new.seen ≡ between.seen)
    → CountsFaults (result ≡ Err gates.Failed) between.gate.faults new.gate.faults
    → (outcome_of result ≡ kept → KeepsAll layout between.seen new.gate)
    → PassesGate layout stops old new (outcome_of result)
passes_twice layout stops old between new result made stays met alone steady entries commits stays' met' alone' count all = record {
  kept_is = λ is. record {
    entries = KeepsStops-on layout old.seen between.gate new.gate stops stays' entries;
    commits = KeepsCommits-on layout old.seen between.gate new.gate stops stays' commits;
    all = λ stop there noted. keeps_seen layout old.seen between.seen new.gate met (all is);
  };
  stays = StillKeeps-then old.gate between.gate new.gate stays stays';
  met = SeesOnly-then old.seen between.seen new.seen met met';
  alone = λ none. alone' (stays.meets ∙ none) ∙ alone none;
  unasked = λ none. absurd (made none);
  faults = subst (λ (n : ℕ). CountsFault (outcome_of result ≡ log_failed) n new.gate.faults) steady
      (counted result between.gate.faults new.gate.faults count);
}
