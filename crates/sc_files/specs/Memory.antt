-- What a crash may leave of a file in memory, from the record of its calls: all that the clauses of `LogFile` allow.
use Rattle.std.specs.Prelude.{◌≡◌, ℕ, ◌+◌, ◌≤◌, Bool, true, false, List, [], ◌∷◌, ◌++◌, length, take, drop, Some}
use Rattle.std.proofs.Common.{sym, subst, arith}
use Rattle.std.proofs.lemmas.List.{take_all}
use Rattle.sc_files.specs.Images.{Holds, Torn, IsCut, Cut}
use Rattle.sc_files.specs.States.{FileState}
use Rattle.sc_files.specs.declared.mem_file.Call.{Call}
use Rattle.sc_files.specs.declared.mem_file.Call.TheVariants as call
use Rattle.sc_files.specs.declared.mem_file.MemFile.{MemFile}

-- what a crash may leave, now and once a sync has succeeded
pub record Outcomes : Type 1 where
  pub may_leave : List ℕ → Type 0
  pub kept : List ℕ → Type 0

-- an old outcome leads here by this step
abbrev pub After : (List ℕ → List ℕ → Type 0) → (List ℕ → Type 0) → List ℕ → Type 0
After step old c = (d : List ℕ) × old d × step d c

-- what a call does to the bytes where it was done, and else what is cut short
abbrev pub step_if : Bool → (done torn : List ℕ → List ℕ → Type 0) → List ℕ → List ℕ → Type 0
step_if true done torn = done
step_if false done torn = torn

-- the outcomes after a sync: that it was done keeps what it had to, and that it failed loses that for good
abbrev pub outcomes_synced : Bool → Outcomes → Outcomes
outcomes_synced true o = record { may_leave = λ c. o.may_leave c × o.kept c; kept = o.kept }
outcomes_synced false o = record { may_leave = o.may_leave; kept = o.may_leave }

-- the outcomes after one call more
abbrev pub outcomes_after : Call → Outcomes → Outcomes
outcomes_after (call.Write at bytes done) o =
    record { may_leave = After (Torn at (length bytes)) o.may_leave; kept = After (step_if done (Holds at bytes) (Torn at (length bytes))) o.kept }
outcomes_after (call.Cut len done) o = record { may_leave = After (Cut len) o.may_leave; kept = After (step_if done (IsCut len) (Cut len)) o.kept }
outcomes_after (call.Sync done) o = outcomes_synced done o

-- the outcomes after these calls, in order
abbrev pub outcomes_from : Outcomes → List Call → Outcomes
outcomes_from o [] = o
outcomes_from o (one ∷ calls) = outcomes_from (outcomes_after one o) calls

-- the outcomes after these calls on a file that has these bytes on the disk
abbrev pub outcomes : List ℕ → List Call → Outcomes
outcomes first calls = outcomes_from (record { may_leave = λ c. c ≡ first; kept = λ c. c ≡ first }) calls

-- a crash at a moment from this one on, each call being a moment
abbrev pub LeftSince : List ℕ → List Call → ℕ → List ℕ → Type 0
LeftSince first calls t c = (k : ℕ) × (t ≤ k) × (k ≤ length calls) × (outcomes first (take k calls)).may_leave c

-- a file that has these bytes after these calls, and has failed so often
abbrev pub state_of : (first bytes : List ℕ) → List Call → ℕ → FileState
state_of first bytes calls faults = record {
  seen = Some bytes;
  may_leave = (outcomes first calls).may_leave;
  kept = (outcomes first calls).kept;
  moment = length calls;
  left_since = LeftSince first calls;
  faults = faults;
}

-- a file in memory at this moment
abbrev pub memory_state : MemFile → FileState
memory_state file = state_of file.first file.bytes file.history file.faults

-- the bytes with others over them from a place on
abbrev pub overwritten : List ℕ → ℕ → List ℕ → List ℕ
overwritten old at bytes = take at old ++ bytes ++ drop (at + length bytes) old

-- this moment is one of those from an earlier one on
pub now_counts : (first : List ℕ) (calls : List Call) (t : ℕ) (c : List ℕ) → t ≤ length calls → (outcomes first calls).may_leave c → LeftSince first calls t c
now_counts first calls t c le left = (length calls, le, omega arith, subst (λ (l : List Call). (outcomes first l).may_leave c) (sym (take_all (length calls) calls (omega arith))) left)

-- from this moment on there is no other
pub now_only : (first : List ℕ) (calls : List Call) (c : List ℕ) → LeftSince first calls (length calls) c → (outcomes first calls).may_leave c
now_only first calls c (k, late, early, left) = subst (λ (l : List Call). (outcomes first l).may_leave c) (take_all k calls late) left
