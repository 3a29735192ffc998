-- How bytes end that begin with no chunked coding.
use Rattle.std.specs.Prelude.{◌≡◌, ◌<◌, ◌≤◌, ◌⊎◌, ℕ, ◌+◌, List, [], ◌++◌, length, take, All}
use mathlib.Core.List.{IsPrefix}
use Rattle.httparse.specs.Ascii.{crlf_bytes}
use Rattle.httparse.specs.Grammar.{ChunkLine, print_chunk_line, IsChunkLine, chunk_size}
use Rattle.sc_chunks.specs.Coding.{coding_limit, data_limit, trailer_limit, Chunk, IsChunk, print_chunks, data_of, HasNoLineEnd, IsTrailer, print_lines, Coding, ReadsCoding}

-- the bytes begin with no coding
abbrev pub HasNoCoding : List ℕ → Type 0
HasNoCoding bytes = (coding : Coding) (rest : List ℕ) → ¬ (ReadsCoding bytes coding rest)

-- no bytes can follow that make a prefix a coding
abbrev pub NeverHasCoding : List ℕ → Type 0
NeverHasCoding bytes = (more : List ℕ) → HasNoCoding (bytes ++ more)

-- some bytes can follow that make the bytes a coding
abbrev pub MayBecomeCoding : List ℕ → Type 0
MayBecomeCoding bytes = (more : List ℕ) × (coding : Coding) × ReadsCoding (bytes ++ more) coding []

-- the bytes are these chunks, then this chunk line, and then the rest
pub record HasLine (bytes : List ℕ) (chunks : List Chunk) (line : ChunkLine) (rest : List ℕ) : Type 0 where
  pub all : All IsChunk chunks
  pub is_line : IsChunkLine line
  pub whole : bytes ≡ print_chunks chunks ++ (print_chunk_line line ++ rest)

-- a chunk line states more bytes than the data may still have
pub record StatesTooMuch (bytes : List ℕ) : Type 0 where
  pub chunks : List Chunk
  pub line : ChunkLine
  pub rest : List ℕ
  pub has : HasLine bytes chunks line rest
  pub much : data_limit < length (data_of chunks) + chunk_size line

-- whatever follows, the bytes don't begin with CR LF
abbrev pub NeverBeginsLineEnd : List ℕ → Type 0
NeverBeginsLineEnd bytes = (more : List ℕ) → ¬ (IsPrefix crlf_bytes (bytes ++ more))

-- Whole trailer lines and a part of the next are more bytes than trailer lines may have. That part belongs to a line, and not to
-- the empty line after them.
pub record PassesTrailers (bytes : List ℕ) : Type 0 where
  pub chunks : List Chunk
  pub last : ChunkLine
  pub lines : List (List ℕ)
  pub text : List ℕ
  pub part : List ℕ
  pub rest : List ℕ
  pub has : HasLine bytes chunks last (print_lines lines ++ (part ++ rest))
  pub ends : chunk_size last ≡ 0
  pub trailers : All IsTrailer lines
  pub one_line : HasNoLineEnd text
  pub of_line : IsPrefix part (text ++ crlf_bytes)
  pub not_empty : NeverBeginsLineEnd part
  pub many : trailer_limit < length (print_lines lines) + length part

-- the bytes end before a coding is whole, which more bytes could make whole, and no limit of data or trailers is passed
pub record IsOpenCoding (bytes : List ℕ) : Type 0 where
  pub none : HasNoCoding bytes
  pub open_ : MayBecomeCoding bytes
  pub little : ¬ (StatesTooMuch bytes)
  pub few : ¬ (PassesTrailers bytes)

-- how bytes that begin with no whole coding end
pub data CodingEnd : Type 0 where
  partial malformed too_large : CodingEnd

-- the part of the bytes in which a coding has to be whole
abbrev pub coding_window : List ℕ → List ℕ
coding_window bytes = take coding_limit bytes

-- A prefix within the limit of a coding decides that no coding comes, or that its trailer lines are too many bytes, and no chunk
-- line in it states too much.
pub record HasMalformedCoding (bytes : List ℕ) : Type 0 where
  pub prefix : List ℕ
  pub begins : IsPrefix prefix bytes
  pub within : length prefix ≤ coding_limit
  pub decides : NeverHasCoding prefix ⊎ PassesTrailers prefix
  pub little : ¬ (StatesTooMuch prefix)

-- a chunk line within the limit of a coding states too much, or the bytes go on past that limit and the coding is not whole there
abbrev pub HasTooLargeCoding : List ℕ → Type 0
HasTooLargeCoding bytes = StatesTooMuch (coding_window bytes) ⊎ ((coding_limit < length bytes) × IsOpenCoding (coding_window bytes))

-- the bytes begin with no whole coding within its limits, and this is why
abbrev pub EndsCoding : List ℕ → CodingEnd → Type 0
EndsCoding bytes partial = (length bytes ≤ coding_limit) × IsOpenCoding bytes
EndsCoding bytes malformed = HasMalformedCoding bytes
EndsCoding bytes too_large = HasTooLargeCoding bytes
