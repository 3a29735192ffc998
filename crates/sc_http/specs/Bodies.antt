-- A body, by its framing, as it is taken from a source.
use Rattle.std.specs.Prelude.{◌≡◌, ◌<◌, ℕ, List, ◌++◌, length, Option}
use Rattle.sc_chunks.specs.Endings.{CodingEnd, partial as partial_coding, malformed as malformed_coding, too_large as too_large_coding, EndsCoding}
use Rattle.sc_model.specs.Heads.{Framing, of_length, chunked}
use Rattle.sc_model.specs.Messages.{ReadsBody, Ending, cut, bad_head, too_large}
use Rattle.sc_http.specs.Stream.{Gives}

-- the bytes begin with no whole body of the framing
abbrev pub HasNoBody : Framing → List ℕ → Type 0
HasNoBody framing bytes = (body rest : List ℕ) → ¬ (ReadsBody framing bytes body rest)

-- how a request ends whose coding ends so
abbrev pub ending_in_coding : CodingEnd → Ending
ending_in_coding partial_coding = cut
ending_in_coding malformed_coding = bad_head
ending_in_coding too_large_coding = too_large

-- the bytes begin with no whole body of the framing, and end so
abbrev pub EndsBody : Framing → List ℕ → Ending → Type 0
EndsBody (of_length whole) bytes ending = (ending ≡ cut) × (length bytes < whole)
EndsBody chunked bytes ending = (end : CodingEnd) × EndsCoding bytes end × (ending ≡ ending_in_coding end)

-- the body comes first of the bytes that were there and those that the source gave, and the rest is left
pub record GivesBody (framing : Framing) (body left before : List ℕ) (old new : Option (List ℕ)) : Type 0 where
  pub piece : List ℕ
  pub reads : ReadsBody framing (before ++ piece) body left
  pub gives : Gives piece old new

-- the bytes that were there and those that the source gave begin with no whole body
pub record LacksBody (framing : Framing) (before : List ℕ) (old new : Option (List ℕ)) : Type 0 where
  pub piece : List ℕ
  pub none : HasNoBody framing (before ++ piece)
  pub gives : Gives piece old new
