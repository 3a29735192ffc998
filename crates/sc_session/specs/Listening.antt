-- What a listener gives, and what stands between two of its links.
use Rattle.std.specs.Prelude.{◌≡◌, ◌↔◌, ◌+◌, ◌-◌, ◌^◌, ℕ, min, List, [], ◌∷◌, Contains, Option, Some, None, Result, Ok, Err}
use Rattle.sc_collection.specs.Kept.{Kept}

-- What was given is the first of the links that were to come, and what is reported then are those after it. Nothing was given
-- exactly where no link was to come.
abbrev pub GivesFirst : {Link : Type 0} → Option Link → List Link → Option (List Link) → Type 0
GivesFirst None links after = (links ≡ []) × (after ≡ Some [])
GivesFirst {Link} (Some link) links after = (more : List Link) × (links ≡ link ∷ more) × (after ≡ Some more)

-- how many links a call gave
abbrev pub links_given : {Link Fault : Type 0} → Result (Option Link) Fault → ℕ
links_given (Ok (Some link)) = 1
links_given (Ok None) = 0
links_given (Err fault) = 0

-- the calls of a listener in memory: the numbers of those that fail, and the number of the next
pub record Calls : Type 0 where
  pub fails : List ℕ
  pub next : ℕ

-- A call failed exactly where its number is one of those that fail. The next call has the number after it, up to the greatest of 64 bits,
-- and those that fail are the same.
pub record CountsCall (failed : Type 0) (old new : Calls) : Type 0 where
  pub fails : failed ↔ Contains old.fails old.next
  pub counted : new.next ≡ min (old.next + 1) (2 ^ 64 - 1)
  pub kept_fails : new.fails ≡ old.fails

-- no call was counted
pub record CountsNoCall (old new : Calls) : Type 0 where
  pub kept_calls : new.next ≡ old.next
  pub kept_fails : new.fails ≡ old.fails

-- what an empty trail keeps
abbrev pub nothing_kept : Kept
nothing_kept = record { stops = []; requests = 0 }
