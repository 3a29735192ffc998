-- What stands at the numbers of workers, as their crews are given from the first on and taken back from the last on.
use Rattle.std.proofs.Common.{◌≡◌, ◌≢◌, ◌⊎◌, inl, inr, ◌≤◌, ◌<◌, ℕ, zero, suc, ◌+◌, List, [], ◌∷◌, length, Option, Some, None, IfSome, slice_get, refl, sym, ap, subst, ◌∙◌, arith}
use Rattle.std.proofs.lemmas.Bool.{cases_eq}
use Rattle.std.proofs.lemmas.Option.{same_Some}
use Rattle.sc_session.specs.declared.station.Crew.{Crew}
use Rattle.sc_session.specs.Stations.{SetsAt, SetsReported}
use Rattle.sc_server.specs.declared.worker.Worker.{Worker}
use Rattle.sc_server.specs.Reports.{without_moment}
use Rattle.sc_server.specs.Crews.{SetsBelow, SetsReportedBelow, AreBack, AreReportedBack}

-- ---- from the first on
pub none_set : {A : Type 0} (value : A) (old : ℕ → A) → SetsBelow 0 value old old
none_set value old = record { below = λ number below. absurd (omega (arith, below)); rest = λ number beyond. refl }

pub one_more_set : {A : Type 0} (count : ℕ) (value : A) (old now new : ℕ → A) → SetsBelow count value old now → SetsAt count value now new
    → SetsBelow (count + 1) value old new
one_more_set count value old now new are is = record {
  below = λ number below. by number below (cases_eq number count);
  rest = λ number beyond. is.elsewhere number (λ same. absurd (omega (arith, beyond, same))) ∙ are.rest number (omega (arith, beyond));
} where
  by : (number : ℕ) → number < count + 1 → (number ≡ count) ⊎ (number ≢ count) → new number ≡ value
  by number below (inl here) = ap new here ∙ is.here
  by number below (inr other) = is.elsewhere number other ∙ are.below number (omega (arith, below, other))

pub none_set_reported : {A : Type 0} (value : A) (old : Option (ℕ → A)) → SetsReportedBelow 0 value old old
none_set_reported value None = tt
none_set_reported value (Some before) = (before, refl, none_set value before)

pub one_more_reported : {A : Type 0} (count : ℕ) (value : A) (old now new : Option (ℕ → A)) → SetsReportedBelow count value old now
    → SetsReported count value now new → SetsReportedBelow (count + 1) value old new
one_more_reported count value None now new are is = tt
one_more_reported {A} count value (Some before) now new (between, now_is, are) is =
    let next = subst (λ (one : Option (ℕ → A)). SetsReported count value one new) now_is is in
    (next.0, next.1, one_more_set count value before between next.0 are next.2)

-- what stands at a number at which nothing was set yet stood there from the beginning on
pub as_at_first : {A : Type 0} (count : ℕ) (value found : A) (old now : Option (ℕ → A)) → SetsReportedBelow count value old now
    → IfSome now (λ all. all count ≡ found) → IfSome old (λ all. all count ≡ found)
as_at_first count value found None now are is = tt
as_at_first {A} count value found (Some before) now (between, now_is, are) is =
    sym (are.rest count (omega arith)) ∙ subst (λ (one : Option (ℕ → A)). IfSome one (λ all. all count ≡ found)) now_is is

-- ---- from the last on
-- at each number from the first to below the last stands the value, and at every other what stood there
pub record SetsBetween {A : Type 0} (first last : ℕ) (value : A) (old new : ℕ → A) : Type 0 where
  pub within : (number : ℕ) → first ≤ number → number < last → new number ≡ value
  pub before : (number : ℕ) → number < first → new number ≡ old number
  pub beyond : (number : ℕ) → last ≤ number → new number ≡ old number

pub none_between : {A : Type 0} (last : ℕ) (value : A) (old : ℕ → A) → SetsBetween last last value old old
none_between last value old = record {
  within = λ number from below. absurd (omega (arith, from, below));
  before = λ number below. refl;
  beyond = λ number from. refl;
}

pub one_more_between : {A : Type 0} (first last : ℕ) (value : A) (old now new : ℕ → A) → first < last → SetsBetween (first + 1) last value old now
    → SetsAt first value now new → SetsBetween first last value old new
one_more_between first last value old now new inside are is = record {
  within = λ number from below. by number from below (cases_eq number first);
  before = λ number below. is.elsewhere number (λ same. absurd (omega (arith, below, same))) ∙ are.before number (omega (arith, below));
  beyond = λ number from. is.elsewhere number (λ same. absurd (omega (arith, inside, from, same))) ∙ are.beyond number from;
} where
  by : (number : ℕ) → first ≤ number → number < last → (number ≡ first) ⊎ (number ≢ first) → new number ≡ value
  by number from below (inl here) = ap new here ∙ is.here
  by number from below (inr other) = is.elsewhere number other ∙ are.within number (omega (arith, from, other)) below

pub all_between : {A : Type 0} (last : ℕ) (value : A) (old new : ℕ → A) → SetsBetween 0 last value old new → SetsBelow last value old new
all_between last value old new are = record { below = λ number below. are.within number (omega arith) below; rest = are.beyond }

module _ {R C H P L : Type 0} where
  -- the crew of each of these workers, whose numbers begin with the first, is back at its number, and at every other stands what stood there
  pub record AreBackFrom (first : ℕ) (done : List (Worker R C H P L)) (old new : ℕ → Option (Crew C H P L)) : Type 0 where
    pub each : (place number : ℕ) (worker : Worker R C H P L) → slice_get done place ≡ Some worker → number ≡ first + place
        → new number ≡ Some (without_moment worker.crew)
    pub before : (number : ℕ) → number < first → new number ≡ old number
    pub beyond : (number : ℕ) → first + length done ≤ number → new number ≡ old number

  abbrev pub AreReportedBackFrom : ℕ → List (Worker R C H P L) → (old new : Option (ℕ → Option (Crew C H P L))) → Type 0
  AreReportedBackFrom first done old new =
      IfSome old (λ before. (after : ℕ → Option (Crew C H P L)) × (new ≡ Some after) × AreBackFrom first done before after)

  none_back : (first : ℕ) (old : ℕ → Option (Crew C H P L)) → AreBackFrom first [] old old
  none_back first old = record {
    each = λ place number worker at is. absurd (cc);
    before = λ number below. refl;
    beyond = λ number from. refl;
  }

  one_more_back : (first : ℕ) (worker : Worker R C H P L) (done : List (Worker R C H P L)) (old now new : ℕ → Option (Crew C H P L))
      → AreBackFrom (first + 1) done old now → SetsAt first (Some (without_moment worker.crew)) now new → AreBackFrom first (worker ∷ done) old new
  one_more_back first worker done old now new are is = record {
    each = each;
    before = λ number below. is.elsewhere number (λ same. absurd (omega (arith, below, same))) ∙ are.before number (omega (arith, below));
    beyond = λ number from. is.elsewhere number (λ same. absurd (omega (arith, from, same))) ∙ are.beyond number (omega (arith, from));
  } where
    each : (place number : ℕ) (other : Worker R C H P L) → slice_get (worker ∷ done) place ≡ Some other → number ≡ first + place
        → new number ≡ Some (without_moment other.crew)
    each zero number other at here =
        let same : worker ≡ other = same_Some worker other at in
        let first_is : number ≡ first = omega (arith, here) in
        ap new first_is ∙ is.here ∙ ap (λ (one : Worker R C H P L). Some (without_moment one.crew)) same
    each (suc place) number other at here =
        is.elsewhere number (λ same. absurd (omega (arith, here, same))) ∙ are.each place number other at (omega (arith, here))

  pub one_more_back_reported : (first : ℕ) (worker : Worker R C H P L) (done : List (Worker R C H P L))
      (old now new : Option (ℕ → Option (Crew C H P L))) → AreReportedBackFrom (first + 1) done old now
      → SetsReported first (Some (without_moment worker.crew)) now new → AreReportedBackFrom first (worker ∷ done) old new
  one_more_back_reported first worker done None now new are is = tt
  one_more_back_reported first worker done (Some before) now new (between, now_is, are) is =
      let next = subst (λ (one : Option (ℕ → Option (Crew C H P L))). SetsReported first (Some (without_moment worker.crew)) one new) now_is is in
      (next.0, next.1, one_more_back first worker done before between next.0 are next.2)

  all_back : (workers : List (Worker R C H P L)) (old new : ℕ → Option (Crew C H P L)) → AreBackFrom 0 workers old new → AreBack workers old new
  all_back workers old new are = record {
    each = λ number worker at. are.each number number worker at (omega arith);
    rest = λ number from. are.beyond number (omega (arith, from));
  }

  pub all_back_reported : (workers : List (Worker R C H P L)) (old new : Option (ℕ → Option (Crew C H P L)))
      → AreReportedBackFrom 0 workers old new → AreReportedBack workers old new
  all_back_reported workers None new are = tt
  all_back_reported workers (Some before) new (after, new_is, are) = (after, new_is, all_back workers before after are)

-- none of the crews is back yet
pub none_back_reported : (R C H P L : Type 0) (first : ℕ) (old : Option (ℕ → Option (Crew C H P L)))
    → AreReportedBackFrom {R = R} {C = C} {H = H} {P = P} {L = L} first [] old old
none_back_reported R C H P L first None = tt
none_back_reported R C H P L first (Some before) = (before, refl, none_back first before)
