-- What stands in a file whose frames are at rest, or whose last append was cut short.
use Rattle.std.specs.Prelude.{◌≡◌, ◌≢◌, ◌⊎◌, ℕ, ◌+◌, ◌^◌, ◌<◌, List, [], ◌∷◌, ◌++◌, length, take, drop, Option, Some, None, IfSome}
use Rattle.std.specs.Int.{w64, to_le_bytes}
use Rattle.std.specs.List.{AllByRecursion}
use Rattle.sc_files.specs.States.{FileState, AreAmong}
use Rattle.sc_tail.specs.Frames.{frames, opened}

-- the body's length has a spelling
abbrev pub Fits : List ℕ → Type 0
Fits body = length body < 2 ^ 64

-- after the frames of these bodies stands a mark, of which P holds, and after it these bytes
pub record Behind (bodies : List (List ℕ)) (P : ℕ → Type 0) (bytes file : List ℕ) : Type 0 where
  pub mark : ℕ
  pub rest : List ℕ
  pub split : file ≡ frames bodies ++ mark ∷ (bytes ++ rest)
  pub is : P mark

-- a mark that opens nothing
abbrev pub IsShut : ℕ → Type 0
IsShut mark = mark ≢ 1

-- a mark that was being written when a crash came, or none that is known
abbrev pub IsAny : ℕ → Type 0
IsAny mark = Unit {0}

-- what an append writes behind the mark: the length, the body, and a mark that is closed
abbrev pub behind_mark : List ℕ → List ℕ
behind_mark body = (to_le_bytes w64 (length body) ++ body) ++ 0 ∷ []

-- opening finds the one list of bodies or the other
abbrev pub OpensToEither : (one other : List (List ℕ)) → List ℕ → Type 0
OpensToEither one other file = (opened file ≡ one) ⊎ (opened file ≡ other)

-- the frames of these bodies end in a mark that is closed, in what a read gives and in all that a crash may leave
pub record IsWhole (file : FileState) (place : ℕ) (bodies : List (List ℕ)) : Type 0 where
  pub fits : AllByRecursion Fits bodies
  pub end : place ≡ length (frames bodies)
  pub seen : IfSome file.seen (Behind bodies IsShut [])
  pub crash : AreAmong file.may_leave (Behind bodies IsShut [])
  pub kept : AreAmong file.kept (Behind bodies IsShut [])

-- the last of all the bodies stands behind the mark, with a closed mark after it, while its own mark may be any byte
pub record IsHalf (file : FileState) (place size : ℕ) (bodies all : List (List ℕ)) : Type 0 where
  pub body : List ℕ
  pub staged : all ≡ bodies ++ body ∷ []
  pub fits : AllByRecursion Fits bodies
  pub len : size ≡ length body
  pub room : place + (9 + size) < 2 ^ 64
  pub end : place ≡ length (frames bodies)
  pub seen : IfSome file.seen (Behind bodies IsAny (behind_mark body))
  pub crash : AreAmong file.may_leave (Behind bodies IsAny (behind_mark body))
  pub kept : AreAmong file.kept (Behind bodies IsAny (behind_mark body))

-- no append was cut short at its mark, or one was, of a body of this length
abbrev pub IsTailAt : FileState → ℕ → Option ℕ → (bodies staged : List (List ℕ)) → Type 0
IsTailAt file end None bodies staged = IsWhole file end bodies
IsTailAt file end (Some len) bodies staged = IsHalf file end len bodies staged

-- the file begins with the frames of these bodies, which end at this place, and goes on to be opened there; it has so many bytes
pub record HasRead (bodies : List (List ℕ)) (place size : ℕ) (file : List ℕ) : Type 0 where
  pub rest : List ℕ
  pub split : file ≡ frames bodies ++ rest
  pub at : place ≡ length (frames bodies)
  pub len : size ≡ length file
  pub opens : opened file ≡ bodies ++ opened rest

-- where the file has come to stands a frame with a body of this length: read with that body, it goes on to be opened behind the frame
abbrev pub GoesOn : List (List ℕ) → (place size told : ℕ) → List ℕ → Type 0
GoesOn bodies place size told file = (body : List ℕ) → length body ≡ told → body ≡ take told (drop (place + 9) file) → HasRead (bodies ++ body ∷ []) (place + (9 + told)) size file
