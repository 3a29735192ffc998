-- What is found of a part's first `/`.
use Rattle.std.specs.Prelude.{◌≡◌, ℕ, ◌<◌, List, length, Option, MatchOption}
use Rattle.sc_hash.specs.Hash.{murmur3}
use Rattle.sc_router.specs.Parts.{before_mark, occurrences}
use Rattle.sc_router.specs.declared.part.Slash.{Slash}

-- a part has no `/`, or the first one's place and the hash of what stands before it are these
abbrev pub IsFirstSlash : Option Slash → List ℕ → Type 0
IsFirstSlash found part =
    let key = before_mark 47 part in
    MatchOption found (occurrences 47 part ≡ 0)
    (λ slash. (0 < occurrences 47 part) × (slash.at ≡ length key) × (slash.hash ≡ murmur3 key 0))
