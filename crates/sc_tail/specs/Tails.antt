-- A file to which frames are appended, and the reading of one.
use Rattle.std.specs.Prelude.{◌≡◌, ℕ, ◌≤◌, List, length, map, IfSome}
use Rattle.std.specs.List.{AllByRecursion}
use Rattle.sc_files.specs.States.{FileState}
use Rattle.sc_tail.specs.Frames.{frames}
use Rattle.sc_tail.specs.Files.{Fits, IsTailAt, HasRead}
use Rattle.sc_tail.specs.declared.tail.Tail.{Tail}
use Rattle.sc_tail.specs.declared.reading.Reading.{Reading}

-- the bodies of the frames, in order
abbrev pub bodies_of : {F : Type 0} → Tail F → List (List ℕ)
bodies_of tail = map (λ one. one.0) tail.bodies.items

-- the same, and after them that of an append that was cut short at its mark
abbrev pub staged_of : {F : Type 0} → Tail F → List (List ℕ)
staged_of tail = map (λ one. one.0) tail.staged.items

-- the file holds the frames of its bodies, or those of its staged bodies as far as the last one's mark
abbrev pub IsTail : {F : Type 0} → (F → FileState) → Tail F → Type 0
IsTail state tail = IsTailAt (state tail.file) tail.end tail.half (bodies_of tail) (staged_of tail)

-- the bodies that were read
abbrev pub read_bodies : Reading → List (List ℕ)
read_bodies reading = map (λ one. one.0) reading.bodies.items

-- What was read: each body's length has a spelling, their frames end at the place, and where the file tells what a read gives, that begins
-- with their frames.
pub record IsReading (file : FileState) (reading : Reading) : Type 0 where
  pub fits : AllByRecursion Fits (read_bodies reading)
  pub place : reading.at ≡ length (frames (read_bodies reading))
  pub within : reading.at ≤ reading.len
  pub seen : IfSome file.seen (HasRead (read_bodies reading) reading.at reading.len)
