-- What holds of codings and of how they end, whatever decodes them.
use Rattle.std.specs.Prelude.{◌≡◌, ◌≤◌, List, ℕ, ◌++◌, length, map, All}
use Rattle.std.specs.List.{flat_map}
use Rattle.httparse.specs.Grammar.{IsChunkLine, chunk_size}
use Rattle.sc_chunks.specs.Coding.{coding_limit, data_limit, trailer_limit, Chunk, IsChunk, data_of, IsTrailer, print_lines, Coding, print_coding, ReadsCoding, HasCoding}
use Rattle.sc_chunks.specs.Endings.{CodingEnd, malformed, too_large, EndsCoding}

-- Data in pieces have each coding that the grammar gives them, within the limits: the pieces as chunks, each with a line that states its
-- length, a last chunk line and trailer lines. Whatever follows, that coding comes first, and it carries the pieces joined.
abbrev pub PiecesHaveTheirCodings : Type 0
PiecesHaveTheirCodings =
    (pieces : List (List ℕ)) (coding : Coding) (rest : List ℕ)
    → map (λ (chunk : Chunk). chunk.content) coding.chunks ≡ pieces → All IsChunk coding.chunks
    → IsChunkLine coding.last → chunk_size coding.last ≡ 0 → All IsTrailer coding.trailers
    → length (print_coding coding) ≤ coding_limit → length (data_of coding.chunks) ≤ data_limit → length (print_lines coding.trailers) ≤ trailer_limit
    → HasCoding (print_coding coding ++ rest) coding rest × (data_of coding.chunks ≡ flat_map (λ (piece : List ℕ). piece) pieces)

-- Bytes begin with at most one coding, with one rest, and the bytes that follow don't change it: a coding has one data, and no
-- coding is a proper prefix of another.
abbrev pub OneCoding : Type 0
OneCoding =
    (bytes more : List ℕ) (coding other : Coding) (rest others : List ℕ)
    → ReadsCoding bytes coding rest → ReadsCoding (bytes ++ more) other others → (coding ≡ other) × (others ≡ rest ++ more)

-- bytes that end in some way begin with no coding within its limits
abbrev pub NoEndOfCoding : Type 0
NoEndOfCoding = (bytes : List ℕ) (end : CodingEnd) (coding : Coding) (rest : List ℕ) → EndsCoding bytes end → ¬ (HasCoding bytes coding rest)

-- bytes end in at most one way
abbrev pub OneCodingEnd : Type 0
OneCodingEnd = (bytes : List ℕ) (end other : CodingEnd) → EndsCoding bytes end → EndsCoding bytes other → end ≡ other

-- what follows a whole coding is its rest
abbrev pub CodingStays : Type 0
CodingStays = (bytes more : List ℕ) (coding : Coding) (rest : List ℕ) → HasCoding bytes coding rest → HasCoding (bytes ++ more) coding (rest ++ more)

-- what follows malformed bytes leaves them malformed
abbrev pub MalformedStays : Type 0
MalformedStays = (bytes more : List ℕ) → EndsCoding bytes malformed → EndsCoding (bytes ++ more) malformed

-- what follows bytes that are too large leaves them so
abbrev pub TooLargeStays : Type 0
TooLargeStays = (bytes more : List ℕ) → EndsCoding bytes too_large → EndsCoding (bytes ++ more) too_large
