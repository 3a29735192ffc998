-- The chunked coding of a body (RFC 9112, section 7.1; the grammar of chunk lines is that of `httparse`).
use Rattle.std.specs.Prelude.{◌≡◌, ◌<◌, ◌≤◌, ℕ, ◌==◌, Bool, true, List, ◌++◌, length, drop, All}
use Rattle.std.specs.List.{flat_map, list_any}
use Rattle.httparse.specs.Ascii.{colon, crlf_bytes}
use Rattle.httparse.specs.Grammar.{ChunkLine, print_chunk_line, IsChunkLine, chunk_size}

-- the most bytes of a coding, of the data of its chunks, and of its trailer lines with their line ends
abbrev pub coding_limit : ℕ
coding_limit = 33554432

abbrev pub data_limit : ℕ
data_limit = 16777216

abbrev pub trailer_limit : ℕ
trailer_limit = 65536

-- chunk = chunk-size [ chunk-ext ] CR LF chunk-data CR LF
pub record Chunk : Type 0 where
  pub line : ChunkLine
  pub content : List ℕ

-- the bytes of a chunk
abbrev pub print_chunk : Chunk → List ℕ
print_chunk chunk = print_chunk_line chunk.line ++ (chunk.content ++ crlf_bytes)

-- the line states how many bytes of data there are, and there are some
pub record IsChunk (chunk : Chunk) : Type 0 where
  pub line : IsChunkLine chunk.line
  pub some : 0 < length chunk.content
  pub size : chunk_size chunk.line ≡ length chunk.content

-- the bytes of chunks, one after another
abbrev pub print_chunks : List Chunk → List ℕ
print_chunks chunks = flat_map print_chunk chunks

-- the data that chunks carry
abbrev pub data_of : List Chunk → List ℕ
data_of chunks = flat_map (λ (chunk : Chunk). chunk.content) chunks

-- CR LF stands nowhere in the text
abbrev pub HasNoLineEnd : List ℕ → Type 0
HasNoLineEnd text = (before after : List ℕ) → ¬ (text ≡ before ++ (crlf_bytes ++ after))

-- a colon stands after the first byte
abbrev pub has_name : List ℕ → Bool
has_name text = list_any (λ b. b == colon) (drop 1 text)

-- the text of a trailer line
pub record IsTrailer (text : List ℕ) : Type 0 where
  pub one_line : HasNoLineEnd text
  pub named : has_name text ≡ true

-- lines with their line ends
abbrev pub print_lines : List (List ℕ) → List ℕ
print_lines lines = flat_map (λ text. text ++ crlf_bytes) lines

-- chunked-body = *chunk last-chunk trailer-section CR LF
pub record Coding : Type 0 where
  pub chunks : List Chunk
  pub last : ChunkLine
  pub trailers : List (List ℕ)

-- the bytes of a coding
abbrev pub print_coding : Coding → List ℕ
print_coding coding = print_chunks coding.chunks ++ (print_chunk_line coding.last ++ (print_lines coding.trailers ++ crlf_bytes))

-- each part is of its class, and the last chunk line states the size 0
pub record IsCoding (coding : Coding) : Type 0 where
  pub chunks : All IsChunk coding.chunks
  pub last : IsChunkLine coding.last
  pub ends : chunk_size coding.last ≡ 0
  pub trailers : All IsTrailer coding.trailers

-- the bytes are this coding, and then the rest
abbrev pub ReadsCoding : List ℕ → Coding → List ℕ → Type 0
ReadsCoding bytes coding rest = IsCoding coding × (bytes ≡ print_coding coding ++ rest)

-- the bytes begin with this coding, within its limits, and the rest follows
pub record HasCoding (bytes : List ℕ) (coding : Coding) (rest : List ℕ) : Type 0 where
  pub reads : ReadsCoding bytes coding rest
  pub coding_within : length (print_coding coding) ≤ coding_limit
  pub data_within : length (data_of coding.chunks) ≤ data_limit
  pub trailers_within : length (print_lines coding.trailers) ≤ trailer_limit
