-- How changes go into the rows of a snapshot.
use Rattle.std.specs.Prelude.{◌≡◌, ℕ, ◌+◌, ◌-◌, ◌≤◌, if◌then◌else◌, List, [], ◌∷◌, ◌++◌, map, length, take, drop}
use Rattle.std.specs.Cmp.Lexicographic.{slice_cmp}
use Rattle.std.specs.List.{AllByRecursion}
use Rattle.std.specs.Ordering.{nat_cmp}
use Rattle.std.specs.declared.cmp.Ordering.TheVariants.{Less}
use Rattle.sc_record.specs.Writes.{Write}
use Rattle.sc_snapshot.specs.declared.edits.Edit.{Edit}
use Rattle.sc_snapshot.specs.Rows.{lent}

-- the write that an edit puts in
abbrev pub put_in : Edit → Write
put_in edit = lent edit.cell

-- the number of the first old row after an edit: a row that is replaced is none
abbrev pub next_of : Edit → ℕ
next_of edit = edit.at + (if edit.replaces then 1 else 0)

-- what the edits make of the old rows from this number on
abbrev pub edited : List Write → ℕ → List Edit → List Write
edited old from [] = drop from old
edited old from (edit ∷ edits) = take (edit.at - from) (drop from old) ++ put_in edit ∷ edited old (next_of edit) edits

-- the edits follow one another from this number on, up to the number of rows
abbrev pub AreInOrder : ℕ → ℕ → List Edit → Type 0
AreInOrder rows from [] = from ≤ rows
AreInOrder rows from (edit ∷ edits) = (from ≤ edit.at) × AreInOrder rows (next_of edit) edits

-- these ids are below that id
abbrev pub AreBelow : List ℕ → List Write → Type 0
AreBelow id rows = AllByRecursion (λ (row : Write). slice_cmp nat_cmp row.id id ≡ Less) rows

-- these ids are above that id
abbrev pub AreAbove : List ℕ → List Write → Type 0
AreAbove id rows = AllByRecursion (λ (row : Write). slice_cmp nat_cmp id row.id ≡ Less) rows

-- an id's place in the rows: what is before it is below the id, what is after it is above, and what is there has the id
pub record IsPlace (rows : List Write) (at next : ℕ) (id : List ℕ) : Type 0 where
  pub before : AreBelow id (take at rows)
  pub there : AllByRecursion (λ (row : Write). row.id ≡ id) (take (next - at) (drop at rows))
  pub after : AreAbove id (drop next rows)

-- each edit puts one of the changes in the place of its id
pub record AreEdits (old changes : List Write) (edits : List Edit) : Type 0 where
  pub put_in_all : map put_in edits ≡ changes
  pub in_order : AreInOrder (length old) 0 edits
  pub places : AllByRecursion (λ (edit : Edit). IsPlace old edit.at (next_of edit) (put_in edit).id) edits

-- the rest of the new rows is what the rest of the edits makes of the rest of the old ones
pub record IsRest (old new : List Write) (from number : ℕ) (edits : List Edit) : Type 0 where
  pub rest : drop number new ≡ edited old from edits
  pub within : number ≤ length new
  pub in_order : AreInOrder (length old) from edits
