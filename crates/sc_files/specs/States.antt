-- A file at a moment, and how the calls on it lead from one to the next.
use Rattle.std.specs.Prelude.{◌≡◌, ◌⊎◌, ℕ, ◌≤◌, List, Option, Some, None}

-- What a read gives, where the file tells it. What a crash now may leave, and what it may leave once a sync has succeeded. The moment, as
-- a number that doesn't fall, and what a crash at a moment from one on might have left. How often the file has failed.
pub record FileState : Type 1 where
  pub seen : Option (List ℕ)
  pub may_leave : List ℕ → Type 0
  pub kept : List ℕ → Type 0
  pub moment : ℕ
  pub left_since : ℕ → List ℕ → Type 0
  pub faults : ℕ

-- what a read gives has changed by this step, where it is told, which it goes on to be
abbrev pub Sees : (List ℕ → List ℕ → Type 0) → Option (List ℕ) → Option (List ℕ) → Type 0
Sees step None new = new ≡ None
Sees step (Some old) new = (bytes : List ℕ) × (new ≡ Some bytes) × step old bytes

-- each new outcome is an old outcome after a step
abbrev pub Follows : (List ℕ → List ℕ → Type 0) → (List ℕ → Type 0) → (List ℕ → Type 0) → Type 0
Follows step old new = (c : List ℕ) → new c → (d : List ℕ) × old d × step d c

-- each outcome of the one is an outcome of the other
abbrev pub AreAmong : (List ℕ → Type 0) → (List ℕ → Type 0) → Type 0
AreAmong some all = (c : List ℕ) → some c → all c

-- time goes on: a crash since a moment might have left what it might have left before, or what it may leave now
pub record Elapses (old new : FileState) : Type 0 where
  pub later : old.moment ≤ new.moment
  pub nothing_else : (t : ℕ) (c : List ℕ) → t ≤ old.moment → new.left_since t c → old.left_since t c ⊎ new.may_leave c
  pub keeps : (t : ℕ) (c : List ℕ) → t ≤ old.moment → old.left_since t c → new.left_since t c

-- A call that changes the bytes: `torn` is what a crash within it may do to them, `done` what the call does.
pub record Changes (torn done : List ℕ → List ℕ → Type 0) (old new : FileState) : Type 0 where
  pub seen : Sees done old.seen new.seen
  pub crash : Follows torn old.may_leave new.may_leave
  pub kept : Follows done old.kept new.kept
  pub time : Elapses old new

-- a call that changes no byte, and adds no outcome of a crash
pub record Stays (old new : FileState) : Type 0 where
  pub seen : new.seen ≡ old.seen
  pub crash : AreAmong new.may_leave old.may_leave
  pub kept : AreAmong new.kept old.kept
  pub time : Elapses old new

-- a sync that succeeds: a crash leaves what such a sync was said to keep
pub record Syncs (old new : FileState) : Type 0 where
  pub stays : Stays old new
  pub durable : AreAmong new.may_leave old.kept

-- A sync that fails: what it had to keep may be lost for good, so that one that succeeds later may leave whatever a crash might have left
-- before this one.
pub record FailsToSync (old new : FileState) : Type 0 where
  pub seen : new.seen ≡ old.seen
  pub crash : AreAmong new.may_leave old.may_leave
  pub kept : (c : List ℕ) → new.kept c → old.may_leave c ⊎ old.kept c
  pub time : Elapses old new

-- no sync has failed: one that succeeds keeps what a read gives, which is told
abbrev pub IsFresh : FileState → Type 0
IsFresh file = (c : List ℕ) → file.kept c → file.seen ≡ Some c

-- all is on the disk: a crash leaves what a read gives, which is told
abbrev pub IsDurable : FileState → Type 0
IsDurable file = (c : List ℕ) → file.may_leave c → file.seen ≡ Some c

-- a crash at any moment from the one on until the other leaves what has P
pub record LeavesOnly (old new : FileState) (P : List ℕ → Type 0) : Type 0 where
  pub later : old.moment ≤ new.moment
  pub each : (c : List ℕ) → new.left_since old.moment c → P c
  -- for a run that began earlier
  pub before : (t : ℕ) (c : List ℕ) → t ≤ old.moment → new.left_since t c → old.left_since t c ⊎ P c
