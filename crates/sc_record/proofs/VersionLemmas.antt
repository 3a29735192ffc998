-- What follows of the version that a new write gets.
use Rattle.std.proofs.Common.{ℕ, ◌*◌, min, ℤ, pos, ◌+ℤ◌, ◌<ℤ◌, ◌≤ℤ◌, arith}
use Rattle.std.specs.Int.{int_max}
use Rattle.std.proofs.lemmas.Int.{ints, clamps}
use Rattle.sc_record.specs.Versions.{last_timestamp, versions_a_millisecond, version_after, last_timed_version}

-- it is above the clock
pub version_after-above_clock : (now : ℕ) (clock : ℤ) → clock <ℤ version_after now clock
version_after-above_clock now clock = omega (arith, ints, clamps)

-- it is above 0
pub version_after-above_zero : (now : ℕ) (clock : ℤ) → pos 0 ≤ℤ clock → pos 0 <ℤ version_after now clock
version_after-above_zero now clock h = omega (arith, ints, clamps)

-- it is at least the timestamp's number
pub version_after-from_moment : (now : ℕ) (clock : ℤ) → pos (min now last_timestamp * versions_a_millisecond) ≤ℤ version_after now clock
version_after-from_moment now clock = omega (arith, ints, clamps)

-- it is at most the last timestamp's number, or the clock's next
pub version_after-at_most : (now : ℕ) (clock : ℤ) → version_after now clock ≤ℤ int_max (pos last_timed_version) (clock +ℤ pos 1)
version_after-at_most now clock = omega (arith, ints, clamps)
