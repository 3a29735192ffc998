-- How a run of calls on a file goes on.
use Rattle.std.proofs.Common.{inl, inr, ⊎_elim, ℕ, ◌≤◌, List, Option, Some, None, Result, Ok, Err, OnErr, IfSome, refl, sym, ◌∙◌, subst, arith}
use Rattle.sc_io.specs.Counts.{CountsFaults}
use Rattle.sc_files.specs.States.{FileState, Sees, Follows, AreAmong, Elapses, Stays, IsFresh, IsDurable, LeavesOnly}

-- before the first call
pub started : (old : FileState) (P : List ℕ → Type 0) → ((c : List ℕ) → old.left_since old.moment c → P c) → LeavesOnly old old P
started old P here = record { later = omega arith; each = here; before = λ t c le left. inl left }

-- one call more, after which a crash leaves what has P
pub goes_on : (old mid new : FileState) (P : List ℕ → Type 0) → LeavesOnly old mid P → Elapses mid new → AreAmong new.may_leave P → LeavesOnly old new P
goes_on old mid new P so_far time here = record {
  later = omega (arith, so_far.later, time.later);
  each = λ c left. ⊎_elim (so_far.each c) (here c) (time.nothing_else old.moment c so_far.later left);
  before = λ t c le left. ⊎_elim (so_far.before t c le) (λ now. inr (here c now)) (time.nothing_else t c (omega (arith, le, so_far.later)) left);
}

-- one run after another
pub runs_on : (old mid new : FileState) (P Q : List ℕ → Type 0) → LeavesOnly old mid P → LeavesOnly mid new Q → ((c : List ℕ) → P c → Q c) → LeavesOnly old new Q
runs_on old mid new P Q one two weaker = record {
  later = omega (arith, one.later, two.later);
  each = λ c left. ⊎_elim (λ was. weaker c (one.each c was)) (λ q. q) (two.before old.moment c one.later left);
  before = λ t c le left. ⊎_elim (λ was. ⊎_elim (λ still. inl still) (λ p. inr (weaker c p)) (one.before t c le was)) (λ q. inr q) (two.before t c (omega (arith, le, one.later)) left);
}

-- what a read gives, after a step, where it is told
pub sees_then : (old new : Option (List ℕ)) (step : List ℕ → List ℕ → Type 0) (P Q : List ℕ → Type 0) → Sees step old new → IfSome old P → ((d c : List ℕ) → P d → step d c → Q c) → IfSome new Q
sees_then None new step P Q sees was then = subst (λ o. IfSome o Q) (sym sees) tt
sees_then (Some d) new step P Q sees was then = subst (λ o. IfSome o Q) (sym sees.1) (then d sees.0 was sees.2)

-- and so with what a crash may leave
pub leaves_then : (old new : List ℕ → Type 0) (step : List ℕ → List ℕ → Type 0) (P Q : List ℕ → Type 0) → Follows step old new → AreAmong old P → ((d c : List ℕ) → P d → step d c → Q c) → AreAmong new Q
leaves_then old new step P Q follows was then c left = let from = follows c left in then from.0 c (was from.0 from.1) from.2

-- nothing was called
pub stays_same : (a : FileState) → Stays a a
stays_same a = record { seen = refl; crash = λ c now. now; kept = λ c now. now; time = record { later = omega arith; nothing_else = λ t c le since. inl since; keeps = λ t c le since. since } }

-- one call after another that changes nothing
pub stays_then : (a b c : FileState) → ((t : ℕ) (x : List ℕ) → t ≤ a.moment → a.may_leave x → a.left_since t x) → Stays a b → Stays b c → Stays a c
stays_then a b c counts one two = record {
  seen = two.seen ∙ one.seen;
  crash = λ x now. one.crash x (two.crash x now);
  kept = λ x now. one.kept x (two.kept x now);
  time = record {
    later = omega (arith, one.time.later, two.time.later);
    nothing_else = λ t x le since. ⊎_elim
        (λ before. ⊎_elim (λ was. inl was) (λ between. inl (counts t x le (one.crash x between))) (one.time.nothing_else t x le before))
        (λ now. inr now)
        (two.time.nothing_else t x (omega (arith, le, one.time.later)) since);
    keeps = λ t x le was. two.time.keeps t x (omega (arith, le, one.time.later)) (one.time.keeps t x le was);
  };
}

-- what holds of what a read gives goes on to hold
pub still_sees : (a b : FileState) (P : List ℕ → Type 0) → Stays a b → IfSome a.seen P → IfSome b.seen P
still_sees a b P stays was = subst (λ o. IfSome o P) (sym stays.seen) was

-- all of it, or all but what is to be synced, is on the disk as before
pub still_fresh : (a b : FileState) → Stays a b → IsFresh a → IsFresh b
still_fresh a b stays fresh c kept = stays.seen ∙ fresh c (stays.kept c kept)

pub still_durable : (a b : FileState) → Stays a b → IsDurable a → IsDurable b
still_durable a b stays durable c left = stays.seen ∙ durable c (stays.crash c left)

-- two facts of what a read gives make a third
pub both_seen : (o : Option (List ℕ)) (P Q R : List ℕ → Type 0) → IfSome o P → IfSome o Q → ((c : List ℕ) → P c → Q c → R c) → IfSome o R
both_seen None P Q R p q then = tt
both_seen (Some c) P Q R p q then = then c p q

-- a call that reports no fault, and one after it
pub counts_on : (P Q : Type 0) (a b c : ℕ) → ¬ P → CountsFaults P a b → CountsFaults Q b c → CountsFaults Q a c
counts_on P Q a b c none one two = record {
  cause = λ q. omega (arith, one.no_fall, two.cause q);
  steady = λ n. two.steady n ∙ one.steady none;
  no_fall = omega (arith, one.no_fall, two.no_fall);
}

-- the same fault under another name
pub counts_as : (P Q : Type 0) (a b : ℕ) → (P → Q) → (Q → P) → CountsFaults P a b → CountsFaults Q a b
counts_as P Q a b there back one = record { cause = λ q. one.cause (back q); steady = λ n. one.steady (λ p. n (there p)); no_fall = one.no_fall }

-- what holds at an error
pub on_err : {T E : Type 0} (r : Result T E) (P : Type 0) → P → OnErr r P
on_err (Ok value) P p = tt
on_err (Err fault) P p = p
