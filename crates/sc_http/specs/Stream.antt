-- What a call took from a source, where the source reports its bytes.
use Rattle.std.specs.Prelude.{◌≡◌, ◌<◌, ◌≤◌, ℕ, List, [], ◌++◌, length, take, max, Option, Some, IfSome}
use Rattle.sc_io.specs.Pieces.{TakesPrefix}
use Rattle.sc_model.specs.Messages.{HasNoMessage}

-- the source gave these bytes, by what it had to give before and what it has then
abbrev pub Gives : List ℕ → Option (List ℕ) → Option (List ℕ) → Type 0
Gives piece old new = IfSome old (λ bytes. TakesPrefix piece bytes new)

-- the bytes grew by some that the source gave
pub record TakesMore (before after : List ℕ) (old new : Option (List ℕ)) : Type 0 where
  pub piece : List ℕ
  pub some : 0 < length piece
  pub whole : after ≡ before ++ piece
  pub gives : Gives piece old new

-- the first bytes of a buffer stand, and it got no smaller, and no longer than the limit where it was not longer before
pub record KeepsFilled (filled limit : ℕ) (old new : List ℕ) : Type 0 where
  pub kept : take filled new ≡ take filled old
  pub longer : length old ≤ length new
  pub size : length new ≤ max (length old) limit

-- more of a buffer is filled than before, within the limit
pub record FillsMore (filled limit : ℕ) (bytes : List ℕ) (now : ℕ) : Type 0 where
  pub further : filled < now
  pub bounded : now ≤ limit
  pub inside : now ≤ length bytes

-- what was given out and what is left are the bytes that were there, and then some that the source gave
pub record KeepsBytes (out left before : List ℕ) (old new : Option (List ℕ)) : Type 0 where
  pub piece : List ℕ
  pub whole : out ++ left ≡ before ++ piece
  pub gives : Gives piece old new

-- the bytes that were there and those that the source gave are fewer than were wanted
pub record FallsShort (before : List ℕ) (wanted : ℕ) (old new : Option (List ℕ)) : Type 0 where
  pub piece : List ℕ
  pub short : length (before ++ piece) < wanted
  pub gives : Gives piece old new

-- what is left comes last of the bytes that were there and those that the source gave
abbrev pub LeavesSuffix : List ℕ → List ℕ → Option (List ℕ) → Option (List ℕ) → Type 0
LeavesSuffix left before old new = (out : List ℕ) × KeepsBytes out left before old new

-- a source that reports its bytes has no more of them
abbrev pub HasEnded : Option (List ℕ) → Option (List ℕ) → Type 0
HasEnded old new = IfSome old (λ bytes. new ≡ Some [])

-- the source gave bytes of which this holds, and then one piece more
pub record ReadsWhile (holds : List ℕ → Type 0) (old new : Option (List ℕ)) : Type 0 where
  pub before : List ℕ
  pub piece : List ℕ
  pub held : holds before
  pub gives : Gives (before ++ piece) old new

-- the most bytes that a reader takes after the end of a request
abbrev pub reader_limit : ℕ
reader_limit = 69632

-- no request is whole in the bytes before these last ones
abbrev pub HasNoMessageBefore : List ℕ → List ℕ → Type 0
HasNoMessageBefore last bytes = (taken : List ℕ) × (bytes ≡ taken ++ last) × HasNoMessage taken
