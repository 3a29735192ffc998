-- What a gate keeps of the journals that a desk sees.
use Rattle.std.specs.Prelude.{◌≡◌, ◌<◌, ℕ, Bool, true, false, List, length, slice_get, Some, IsSome}
use Rattle.std.specs.List.{AllByRecursion}
use mathlib.Core.List.{IsPrefix}
use Rattle.sc_record.specs.declared.entry.Entry.TheVariants as entry
use Rattle.sc_journal.specs.Journal.{write_at}
use Rattle.sc_seen.specs.Seen.{Layout, Seen}
use Rattle.sc_seen.specs.declared.stop.Stop.{Stop}

-- What is kept of the buckets' journals, each by the bucket's number and a place: the entry there; each write below it, and after them
-- an entry that commits. How often keeping has failed. And whether a desk may see more of the journals as it passes.
pub record Gated : Type 0 where
  pub keeps : ℕ → ℕ → Bool
  pub keeps_commit : ℕ → ℕ → Bool
  pub faults : ℕ
  pub meets : Bool

-- where there is no gate: all is kept, that never fails, and nothing more is seen
abbrev pub no_gate : Gated
no_gate = record { keeps = λ lock place. true; keeps_commit = λ lock place. true; faults = 0; meets = false }

-- all is kept, whatever is made
pub record StandsOpen (gate : Gated) : Type 0 where
  pub entries : (lock place : ℕ) → gate.keeps lock place ≡ true
  pub commits : (lock place : ℕ) → gate.keeps_commit lock place ≡ true

-- the hold at the stop made an entry of a bucket's journal
abbrev pub IsOfBucket : Layout → Stop → Type 0
IsOfBucket layout stop = (stop.lock < layout.buckets) × (stop.made ≡ true)

-- the hold at the stop made an entry of the board
abbrev pub IsOfBoard : Layout → Stop → Type 0
IsOfBoard layout stop = (stop.lock ≡ layout.buckets) × (stop.made ≡ true)

-- the entry at the stop is a commit
abbrev pub IsCommit : Seen → Stop → Type 0
IsCommit seen stop = slice_get (seen.journals stop.lock) stop.place ≡ Some entry.Committed

-- each of these stops at which an entry of a bucket was made: that entry is kept, unless it is a commit
abbrev pub KeepsStops : Layout → Seen → Gated → List Stop → Type 0
KeepsStops layout seen gate stops =
    AllByRecursion (λ (stop : Stop). IsOfBucket layout stop → ¬ IsCommit seen stop → gate.keeps stop.lock stop.place ≡ true) stops

-- a commit is kept: each write below it is, and after them an entry that commits
pub record IsCommitKept (seen : Seen) (gate : Gated) (stop : Stop) : Type 0 where
  pub writes : (place : ℕ) → place < stop.place → IsSome (write_at (seen.journals stop.lock) place) → gate.keeps stop.lock place ≡ true
  pub commit : gate.keeps_commit stop.lock stop.place ≡ true

-- each of these stops at which a commit of a bucket was made: that commit is kept
abbrev pub KeepsCommits : Layout → Seen → Gated → List Stop → Type 0
KeepsCommits layout seen gate stops = AllByRecursion (λ (stop : Stop). IsOfBucket layout stop → IsCommit seen stop → IsCommitKept seen gate stop) stops

-- each entry that was seen of any bucket's journal is kept
abbrev pub KeepsAll : Layout → Seen → Gated → Type 0
KeepsAll layout seen gate = (lock place : ℕ) → lock < layout.buckets → place < length (seen.journals lock) → gate.keeps lock place ≡ true

-- what was kept is kept, and whether more may be seen is as it was
pub record StillKeeps (old new : Gated) : Type 0 where
  pub entries : (lock place : ℕ) → old.keeps lock place ≡ true → new.keeps lock place ≡ true
  pub commits : (lock place : ℕ) → old.keeps_commit lock place ≡ true → new.keeps_commit lock place ≡ true
  pub meets : new.meets ≡ old.meets

-- More is seen of the buckets' journals, which others wrote: of the board, and of the entries that are one's own, nothing more.
pub record SeesOnly (old new : Seen) : Type 0 where
  pub journals : (lock : ℕ) → IsPrefix (old.journals lock) (new.journals lock)
  pub board : new.board ≡ old.board
  pub own : (lock : ℕ) → new.own lock ≡ old.own lock
