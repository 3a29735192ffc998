-- The cells of a core: of each id the greatest write that came to the core, ascending by the ids' bytes.
use Rattle.std.specs.Prelude.{◌-◌, ℕ, Bool, true, if◌then◌else◌, int_lt, is_some, List, [], ◌∷◌, Option, Some, None}
use Rattle.std.specs.Cmp.Lexicographic.{slice_cmp}
use Rattle.std.specs.Ordering.{nat_cmp, match_ordering}
use Rattle.sc_record.specs.Writes.{Write, write_of}

-- cells as contracts see them: the writes, and how many more ids they have room for
pub record CellsState : Type 0 where
  pub writes : List Write
  pub spare : ℕ

-- the cells with the write in the place of its id's cell, or put in in order where its id has none
abbrev pub put : List Write → Write → List Write
put [] write = write ∷ []
put (cell ∷ cells) write =
    match_ordering (slice_cmp nat_cmp write.id cell.id) (write ∷ cell ∷ cells) (write ∷ cells) (cell ∷ put cells write)

-- the write's version is greater than that of a cell, where there is one
abbrev pub is_above : Option Write → Write → Bool
is_above None write = true
is_above (Some cell) write = int_lt cell.version write.version

-- the write's version is greater than that of its id's cell, or its id has no cell
abbrev pub is_newer : List Write → Write → Bool
is_newer cells write = is_above (write_of cells write.id) write

-- the cells once the write was applied: a write that isn't newer is dropped
abbrev pub applied : List Write → Write → List Write
applied cells write = if is_newer cells write then put cells write else cells

-- the room that is left once the write was put in: a new id takes one place
abbrev pub spare_after : List Write → ℕ → Write → ℕ
spare_after cells spare write = if is_some (write_of cells write.id) then spare else spare - 1
