-- How far a coding was taken, by its bytes so far.
use Rattle.std.specs.Prelude.{◌≡◌, ◌<◌, ◌≤◌, ◌⊎◌, ℕ, Bool, true, false, ◌+◌, List, [], ◌∷◌, ◌++◌, length, take, All, Some, None, Result, Ok, Err, ⊤}
use Rattle.std.specs.Char.{is_ascii_hexdigit}
use Rattle.std.specs.Str.Parse.{digits_value}
use Rattle.httparse.specs.Ascii.{carriage_return}
use Rattle.httparse.specs.Grammar.{AllPass, ChunkLine, print_chunk_line, print_extension, IsChunkLine, chunk_size}
use Rattle.sc_chunks.specs.Coding.{coding_limit, data_limit, trailer_limit, Chunk, IsChunk, print_chunks, data_of, HasNoLineEnd, has_name, IsTrailer, print_lines, Coding, HasCoding}
use Rattle.sc_chunks.specs.Endings.{malformed, too_large, EndsCoding, NeverHasCoding, PassesTrailers, StatesTooMuch}
use Rattle.sc_chunks.specs.declared.decoder.Decoder.{Decoder}
use Rattle.sc_chunks.specs.declared.error.DecodeError.{DecodeError}
use Rattle.sc_chunks.specs.declared.error.DecodeError.TheVariants as errors
use Rattle.sc_chunks.specs.declared.place.Place.{Place}
use Rattle.sc_chunks.specs.declared.place.Place.TheVariants as places

-- whole chunks were taken, which carry this data
pub record AtLine (coded content : List ℕ) : Type 0 where
  pub chunks : List Chunk
  pub all : All IsChunk chunks
  pub whole : coded ≡ print_chunks chunks
  pub carried : content ≡ data_of chunks
  pub within : length content ≤ data_limit

-- the size that the digits give, or both are more than data may have
abbrev pub IsSizeSoFar : ℕ → List ℕ → Type 0
IsSizeSoFar size digits = (size ≡ digits_value 16 digits) ⊎ ((data_limit < size) × (data_limit < digits_value 16 digits))

-- whole chunks were taken, and so many digits of a chunk line
pub record InDigits (coded content : List ℕ) (size count : ℕ) : Type 0 where
  pub before : List ℕ
  pub digits : List ℕ
  pub at : AtLine before content
  pub all : AllPass is_ascii_hexdigit digits
  pub count_is : count ≡ length digits
  pub few : count ≤ 16
  pub size_is : IsSizeSoFar size digits
  pub whole : coded ≡ before ++ digits

-- a chunk line without its line end
abbrev pub line_text : ChunkLine → List ℕ
line_text line = line.digits ++ (line.pad ++ print_extension line.extension)

-- whole chunks were taken, and a chunk line but for its line end
pub record InLine (coded content : List ℕ) (size : ℕ) : Type 0 where
  pub before : List ℕ
  pub line : ChunkLine
  pub at : AtLine before content
  pub is_line : IsChunkLine line
  pub size_is : IsSizeSoFar size line.digits
  pub whole : coded ≡ before ++ line_text line

-- the same, where the line ends in white space
abbrev pub InPad : List ℕ → List ℕ → ℕ → Type 0
InPad coded content size = (l : InLine coded content size) × (l.line.extension ≡ None) × (0 < length l.line.pad)

-- the same, where the line ends in an extension
abbrev pub InExtension : List ℕ → List ℕ → ℕ → Type 0
InExtension coded content size = (l : InLine coded content size) × (text : List ℕ) × (l.line.extension ≡ Some text)

-- the fact held before a CR
abbrev pub BeforeReturn : (List ℕ → Type 0) → List ℕ → Type 0
BeforeReturn Fact coded = (earlier : List ℕ) × Fact earlier × (coded ≡ earlier ++ carriage_return ∷ [])

-- chunks were taken, and of one more its line and its data but for this many bytes
pub record InChunk (coded content : List ℕ) (left : ℕ) : Type 0 where
  pub chunks : List Chunk
  pub line : ChunkLine
  pub part : List ℕ
  pub all : All IsChunk chunks
  pub is_line : IsChunkLine line
  pub some : 0 < chunk_size line
  pub size : chunk_size line ≡ length part + left
  pub whole : coded ≡ print_chunks chunks ++ (print_chunk_line line ++ part)
  pub carried : content ≡ data_of chunks ++ part
  pub within : length content + left ≤ data_limit

-- all chunks were taken, the last chunk line, and trailer lines of so many bytes
pub record InTrailers (coded content : List ℕ) (size : ℕ) : Type 0 where
  pub chunks : List Chunk
  pub last : ChunkLine
  pub lines : List (List ℕ)
  pub all : All IsChunk chunks
  pub is_line : IsChunkLine last
  pub ends : chunk_size last ≡ 0
  pub trailers : All IsTrailer lines
  pub whole : coded ≡ print_chunks chunks ++ (print_chunk_line last ++ print_lines lines)
  pub carried : content ≡ data_of chunks
  pub within : length content ≤ data_limit
  pub size_is : size ≡ length (print_lines lines)
  pub few : size ≤ trailer_limit

-- the bytes are too few to say whether they begin with CR LF
abbrev pub MayBeLineEnd : List ℕ → Type 0
MayBeLineEnd bytes = (bytes ≡ []) ⊎ (bytes ≡ carriage_return ∷ [])

-- the text ends in a CR, by a flag
pub record EndsInReturn (text : List ℕ) (flag : Bool) : Type 0 where
  pub yes : flag ≡ true → (start : List ℕ) × (text ≡ start ++ carriage_return ∷ [])
  pub no : flag ≡ false → (start : List ℕ) → ¬ (text ≡ start ++ carriage_return ∷ [])

-- trailer lines of so many bytes were taken, and so many bytes of the next line or of the empty line after them
pub record InTrailer (coded content : List ℕ) (size count : ℕ) (named returned : Bool) : Type 0 where
  pub before : List ℕ
  pub part : List ℕ
  pub at : InTrailers before content size
  pub one_line : HasNoLineEnd part
  pub count_is : count ≡ length part
  pub named_is : named ≡ has_name part
  pub returned_is : EndsInReturn part returned
  pub few : (size + count ≤ trailer_limit) ⊎ MayBeLineEnd part
  pub whole : coded ≡ before ++ part

-- the bytes are a coding within its limits that carries this data
abbrev pub IsCodingOf : List ℕ → List ℕ → Type 0
IsCodingOf content coded = (coding : Coding) × HasCoding coded coding [] × (content ≡ data_of coding.chunks)

-- what was taken, by the place
abbrev pub ReachesPlace : List ℕ → List ℕ → Place → Type 0
ReachesPlace coded content (places.Digits size count) = InDigits coded content size count
ReachesPlace coded content (places.Pad size) = InPad coded content size
ReachesPlace coded content (places.Extension size) = InExtension coded content size
ReachesPlace coded content (places.LineFeed size) = BeforeReturn (λ earlier. InLine earlier content size) coded
ReachesPlace coded content (places.Data left) = InChunk coded content left
ReachesPlace coded content places.DataFeed = BeforeReturn (λ earlier. InChunk earlier content 0) coded
ReachesPlace coded content (places.Trailer size count named returned) = InTrailer coded content size count named returned
ReachesPlace coded content places.End = IsCodingOf content coded

-- the decoder took these bytes of a coding, and no more
pub record Reaches (coded : List ℕ) (decoder : Decoder) : Type 0 where
  pub place : ReachesPlace coded decoder.content.items decoder.place
  pub room : length coded + decoder.room ≡ coding_limit

-- the coding is whole
abbrev pub IsWhole : Decoder → Type 0
IsWhole decoder = decoder.place ≡ places.End

-- how the bytes end, by why they were not decoded
abbrev pub EndsBy : DecodeError → List ℕ → Type 0
EndsBy errors.Malformed bytes = EndsCoding bytes malformed
EndsBy errors.TooLarge bytes = EndsCoding bytes too_large
EndsBy errors.Memory bytes = ⊤

-- the bytes begin with no coding, and this is why
abbrev pub IsRefusedCoding : DecodeError → List ℕ → Type 0
IsRefusedCoding errors.Malformed bytes = (NeverHasCoding bytes ⊎ PassesTrailers bytes) × ¬ (StatesTooMuch bytes)
IsRefusedCoding errors.TooLarge bytes = StatesTooMuch bytes
IsRefusedCoding errors.Memory bytes = ⊤

-- the byte that comes next is no data
abbrev pub NeedsByte : Place → Type 0
NeedsByte (places.Data left) = left ≡ 0
NeedsByte places.End = ⊥
NeedsByte place = ⊤

-- One byte more after these coded bytes: it leads to a place, with the same content, or the bytes begin with no coding.
abbrev pub IsStepOf : List ℕ → ℕ → List ℕ → Result Place DecodeError → Type 0
IsStepOf coded byte content (Ok place) = ReachesPlace (coded ++ byte ∷ []) content place
IsStepOf coded byte content (Err error) = IsRefusedCoding error (coded ++ byte ∷ [])

-- Bytes more after these coded bytes: as many as were taken lead to a place, with this content, or some of them lead to none.
abbrev pub IsAdvanceOf : List ℕ → List ℕ → List ℕ → Place → Result ℕ DecodeError → Type 0
IsAdvanceOf coded bytes content place (Ok count) = ReachesPlace (coded ++ take count bytes) content place
IsAdvanceOf coded bytes content place (Err error) = (count : ℕ) × IsRefusedCoding error (coded ++ take count bytes)
