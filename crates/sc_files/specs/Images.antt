-- What a call on a file does to its bytes, and what a crash within that call may do to them.
use Rattle.std.specs.Prelude.{◌≡◌, ℕ, ◌+◌, ◌≤◌, ◌-◌, min, max, List, ◌++◌, length, take, drop}

-- new is old with these bytes at this place
abbrev pub Holds : ℕ → List ℕ → List ℕ → List ℕ → Type 0
Holds at bytes old new = new ≡ take at old ++ bytes ++ drop (at + length bytes) old

-- after a write of n bytes that a crash cuts short: any bytes in the range and past the old end, the same elsewhere
pub record Torn (at n : ℕ) (old new : List ℕ) : Type 0 where
  pub before : take at new ≡ take at old
  pub after : drop (at + n) new ≡ drop (at + n) old
  pub no_shorter : length old ≤ length new
  pub no_longer : length new ≤ max (length old) (at + n)

-- new is the first n bytes of old
abbrev pub IsCut : ℕ → List ℕ → List ℕ → Type 0
IsCut n old new = new ≡ take n old

-- after a cut to n bytes that a crash cuts short: some length between
pub record Cut (n : ℕ) (old new : List ℕ) : Type 0 where
  pub no_shorter : min n (length old) ≤ length new
  pub front : take (length new) old ≡ new

-- nothing has changed
abbrev pub IsSame : List ℕ → List ℕ → Type 0
IsSame old new = new ≡ old

-- what a read of n bytes from a place on gives: the bytes there, and none at the end alone
pub record ReadsAt (at n : ℕ) (bytes got : List ℕ) : Type 0 where
  pub piece : got ≡ take n (drop at bytes)
  pub there : n ≤ length bytes - at
  pub end : n ≡ 0 → length bytes ≤ at
