-- Where a binary search by an id ends.
use Rattle.std.specs.Prelude.{◌≡◌, ◌<◌, ◌≤◌, ℕ, length, List, MatchResult, Result}
use Rattle.std.specs.Cmp.Lexicographic.{slice_cmp}
use Rattle.std.specs.List.{AllWithin, HoldsAt}
use Rattle.std.specs.Ordering.{nat_cmp}
use Rattle.std.specs.declared.cmp.Ordering.{Ordering}
use Rattle.std.specs.declared.cmp.Ordering.TheVariants.{Less, Equal, Greater}
use Rattle.sc_record.specs.Writes.{Write}

-- how a write's id compares with an id, byte by byte
abbrev pub compared : List ℕ → Write → Ordering
compared id write = slice_cmp nat_cmp write.id id

-- the place of the id's write, or else the place before which the ids are lower and from which on they are higher
abbrev pub IsSearchedPlace : List Write → List ℕ → Result ℕ ℕ → Type 0
IsSearchedPlace writes id result =
    MatchResult result (λ place. (place < length writes) × HoldsAt (λ write. compared id write ≡ Equal) writes place)
    (λ place. (place ≤ length writes) × AllWithin (λ write. compared id write ≡ Less) writes 0 place
    × AllWithin (λ write. compared id write ≡ Greater) writes place (length writes))
