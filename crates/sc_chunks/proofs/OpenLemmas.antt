-- Bytes that end inside a part of a coding become a coding by some that follow.
use Rattle.std.proofs.Common.{◌≡◌, ℕ, zero, suc, ◌==◌, ◌+◌, ◌-◌, ◌<◌, ◌≤◌, All, true, false, Bool, ◌||◌, List, [], ◌∷◌, ◌++◌, length, None, refl, sym, ap, ◌∙◌, subst, arith, append_assoc, append-nil, length-append}
use Rattle.std.specs.List.{list_any}
use Rattle.std.proofs.lemmas.Grind.{flat_map-append}
use Rattle.std.proofs.lemmas.List.Elements.{All-append, All-cons, All-nil}
use Rattle.std.specs.Char.{is_ascii_hexdigit}
use Rattle.httparse.specs.Ascii.{crlf_bytes}
use Rattle.httparse.specs.Grammar.{is_ows, ChunkLine, print_chunk_line, IsChunkLine, chunk_size}
use Rattle.sc_chunks.specs.Coding.{Chunk, print_chunk, IsChunk, print_chunks, HasNoLineEnd, IsTrailer, has_name, print_lines, Coding, print_coding, ReadsCoding}
use Rattle.sc_chunks.specs.Endings.{MayBecomeCoding}
use Rattle.sc_chunks.proofs.ChunkLemmas.{chunks_then}
use Rattle.sc_chunks.proofs.LineLemmas.{no_end_before, lines_then}

-- the last chunk line 0
abbrev pub last_zero : ChunkLine
last_zero = record { digits = 48 ∷ []; pad = []; extension = None }

pub zero_is_line : IsChunkLine last_zero
zero_is_line = record {
  digits = (omega arith, omega arith, All-cons (λ b. is_ascii_hexdigit b ≡ true) 48 [] refl (All-nil (λ b. is_ascii_hexdigit b ≡ true)));
  pad = All-nil (λ b. is_ows b ≡ true);
  extension = tt;
}

zero_ends : chunk_size last_zero ≡ 0
zero_ends = refl

-- the shortest end of a coding
abbrev pub closing : List ℕ
closing = print_chunk_line last_zero ++ crlf_bytes

-- a coding of these parts
abbrev pub coding_of : List Chunk → ChunkLine → List (List ℕ) → Coding
coding_of chunks last trailers = record { chunks = chunks; last = last; trailers = trailers }

-- a chunk of these parts
abbrev pub chunk_of : ChunkLine → List ℕ → Chunk
chunk_of line content = record { line = line; content = content }

-- a chunk more, and the end
pub chunk_closes : (cs : List Chunk) (line : ChunkLine) (content : List ℕ) → All IsChunk cs → IsChunkLine line → 0 < length content → chunk_size line ≡ length content
    → (coding : Coding) × ReadsCoding (print_chunks cs ++ (print_chunk_line line ++ (content ++ (crlf_bytes ++ closing)))) coding []
chunk_closes cs line content all is some size =
    let one : All IsChunk (chunk_of line content ∷ []) = All-cons IsChunk (chunk_of line content) [] (record { line = is; some = some; size = size }) (All-nil IsChunk) in (
      coding_of (cs ++ chunk_of line content ∷ []) last_zero [],
      (
        record { chunks = All-append IsChunk cs (chunk_of line content ∷ []) all one; last = zero_is_line; ends = zero_ends; trailers = All-nil IsTrailer },
        sym (append-nil (print_coding (coding_of (cs ++ chunk_of line content ∷ []) last_zero []))
            ∙ ap (λ xs. xs ++ closing) (flat_map-append print_chunk cs (chunk_of line content ∷ []))
            ∙ append_assoc (print_chunks cs) (print_chunks (chunk_of line content ∷ [])) closing
            ∙ ap (λ xs. print_chunks cs ++ xs) (chunks_then (chunk_of line content) [] closing)),
      ),
    )

-- the empty line after trailer lines
pub trailers_close : (cs : List Chunk) (last : ChunkLine) (lines : List (List ℕ)) → All IsChunk cs → IsChunkLine last → chunk_size last ≡ 0 → All IsTrailer lines
    → ReadsCoding (print_chunks cs ++ (print_chunk_line last ++ (print_lines lines ++ crlf_bytes))) (coding_of cs last lines) []
trailers_close cs last lines all is ends trailers = (
  record { chunks = all; last = is; ends = ends; trailers = trailers },
  sym (append-nil (print_coding (coding_of cs last lines))),
)

-- so many zeros
zeros : ℕ → List ℕ
zeros zero = []
zeros (suc n) = 0 ∷ zeros n

length-zeros : (n : ℕ) → length (zeros n) ≡ n
unfolding zeros
length-zeros zero = refl
length-zeros (suc n) = let rest = length-zeros n in omega (arith, rest)

-- where a chunk line comes next
pub may_with_line : (cs : List Chunk) (line : ChunkLine) (left more : List ℕ) → All IsChunk cs → IsChunkLine line → left ++ more ≡ print_chunk_line line
    → MayBecomeCoding (print_chunks cs ++ left)
may_with_line cs line left more all is made = by_size (chunk_size line) refl
  where
    whole : (xs : List ℕ) → (print_chunks cs ++ left) ++ (more ++ xs) ≡ print_chunks cs ++ (print_chunk_line line ++ xs)
    whole xs = append_assoc (print_chunks cs) left (more ++ xs) ∙ ap (λ ys. print_chunks cs ++ ys) (sym (append_assoc left more xs) ∙ ap (λ ys. ys ++ xs) made)

    by_size : (size : ℕ) → chunk_size line ≡ size → MayBecomeCoding (print_chunks cs ++ left)
    by_size zero is_size =
        let close = trailers_close cs line [] all is is_size (All-nil IsTrailer) in
        (more ++ crlf_bytes, coding_of cs line [], subst (λ xs. ReadsCoding xs (coding_of cs line []) []) (sym (whole crlf_bytes)) close)
    by_size (suc n) is_size =
        let long = length-zeros (suc n) in
        let close = chunk_closes cs line (zeros (suc n)) all is (omega (arith, long)) (is_size ∙ sym long) in
        let end = zeros (suc n) ++ (crlf_bytes ++ closing) in
        (more ++ end, close.0, subst (λ xs. ReadsCoding xs close.0 []) (sym (whole end)) close.1)

-- where data of a chunk or its line end come next
pub may_with_data : (cs : List Chunk) (line : ChunkLine) (part tail : List ℕ) (left : ℕ) → All IsChunk cs → IsChunkLine line → 0 < chunk_size line
    → chunk_size line ≡ length part + left → (more : List ℕ) → (content : List ℕ) → length content ≡ chunk_size line
    → part ++ (tail ++ more) ≡ content ++ (crlf_bytes ++ closing) → MayBecomeCoding ((print_chunks cs ++ (print_chunk_line line ++ part)) ++ tail)
may_with_data cs line part tail left all is some size more content long made =
    let close = chunk_closes cs line content all is (omega (arith, some, long)) (sym long) in
    let whole : ((print_chunks cs ++ (print_chunk_line line ++ part)) ++ tail) ++ more ≡ print_chunks cs ++ (print_chunk_line line ++ (content ++ (crlf_bytes ++ closing))) =
    append_assoc (print_chunks cs ++ (print_chunk_line line ++ part)) tail more
    ∙ append_assoc (print_chunks cs) (print_chunk_line line ++ part) (tail ++ more)
    ∙ ap (λ xs. print_chunks cs ++ xs) (append_assoc (print_chunk_line line) part (tail ++ more) ∙ ap (λ xs. print_chunk_line line ++ xs) made) in
    (more, close.0, subst (λ xs. ReadsCoding xs close.0 []) (sym whole) close.1)

-- data that is not whole
pub may_with_part : (cs : List Chunk) (line : ChunkLine) (part tail : List ℕ) (left : ℕ) → All IsChunk cs → IsChunkLine line → 0 < chunk_size line
    → chunk_size line ≡ length part + left → length tail ≤ left → MayBecomeCoding ((print_chunks cs ++ (print_chunk_line line ++ part)) ++ tail)
may_with_part cs line part tail left all is some size short =
    let n = left - length tail in
    let content = part ++ (tail ++ zeros n) in
    let long : length content ≡ chunk_size line =
    (let a = length-append part (tail ++ zeros n) in let b = length-append tail (zeros n) in let c = length-zeros n in omega (arith, a, b, c, size, short)) in
    may_with_data cs line part tail left all is some size (zeros n ++ (crlf_bytes ++ closing)) content long
    (sym (append_assoc part (tail ++ zeros n) (crlf_bytes ++ closing) ∙ ap (λ xs. part ++ xs) (append_assoc tail (zeros n) (crlf_bytes ++ closing))))

-- the line end of a chunk that is not whole
pub may_with_end : (cs : List Chunk) (line : ChunkLine) (part tail made : List ℕ) → All IsChunk cs → IsChunkLine line → 0 < chunk_size line
    → chunk_size line ≡ length part + 0 → tail ++ made ≡ crlf_bytes → MayBecomeCoding ((print_chunks cs ++ (print_chunk_line line ++ part)) ++ tail)
may_with_end cs line part tail made all is some size whole =
    may_with_data cs line part tail 0 all is some size (made ++ closing) part (omega (arith, size))
    (ap (λ xs. part ++ xs) (sym (append_assoc tail made closing) ∙ ap (λ xs. xs ++ closing) whole))

-- a text with a colon after it
named_by : (text : List ℕ) → list_any (λ b. b == 58) (text ++ 97 ∷ 58 ∷ []) ≡ true
named_by [] = refl
named_by (b ∷ text) = or_true (b == 58) _ (named_by text)
  where
    or_true : (a c : Bool) → c ≡ true → (a || c) ≡ true
    or_true true c is = refl
    or_true false c is = is

named_text : (text : List ℕ) → has_name (text ++ 97 ∷ 58 ∷ []) ≡ true
named_text [] = refl
named_text (b ∷ text) = named_by text

-- where a trailer line comes next
pub may_with_trailer : (cs : List Chunk) (last : ChunkLine) (lines : List (List ℕ)) (left : List ℕ) → All IsChunk cs → IsChunkLine last → chunk_size last ≡ 0
    → All IsTrailer lines → HasNoLineEnd left → MayBecomeCoding ((print_chunks cs ++ (print_chunk_line last ++ print_lines lines)) ++ left)
may_with_trailer cs last lines left all is ends trailers none =
    let text = left ++ 97 ∷ 58 ∷ [] in
    let one_line : HasNoLineEnd text = subst HasNoLineEnd (append_assoc left (97 ∷ []) (58 ∷ []))
    (no_end_before (left ++ 97 ∷ []) 58 (λ e. omega (arith, e)) (no_end_before left 97 (λ e. omega (arith, e)) none)) in
    let more = All-append IsTrailer lines (text ∷ []) trailers (All-cons IsTrailer text [] (record { one_line = one_line; named = named_text left }) (All-nil IsTrailer)) in
    let close = trailers_close cs last (lines ++ text ∷ []) all is ends more in
    let end = 97 ∷ 58 ∷ (crlf_bytes ++ crlf_bytes) in
    let lines_whole : print_lines (lines ++ text ∷ []) ++ crlf_bytes ≡ print_lines lines ++ (left ++ end) =
    ap (λ xs. xs ++ crlf_bytes) (flat_map-append (λ t. t ++ crlf_bytes) lines (text ∷ []))
    ∙ append_assoc (print_lines lines) (print_lines (text ∷ [])) crlf_bytes
    ∙ ap (λ xs. print_lines lines ++ xs) (lines_then text [] crlf_bytes ∙ append_assoc left (97 ∷ 58 ∷ []) (crlf_bytes ++ crlf_bytes)) in
    let whole : ((print_chunks cs ++ (print_chunk_line last ++ print_lines lines)) ++ left) ++ end ≡ print_chunks cs ++ (print_chunk_line last ++ (print_lines (lines ++ text ∷ []) ++ crlf_bytes)) =
    append_assoc (print_chunks cs ++ (print_chunk_line last ++ print_lines lines)) left end
    ∙ append_assoc (print_chunks cs) (print_chunk_line last ++ print_lines lines) (left ++ end)
    ∙ ap (λ xs. print_chunks cs ++ xs) (append_assoc (print_chunk_line last) (print_lines lines) (left ++ end) ∙ ap (λ xs. print_chunk_line last ++ xs) (sym lines_whole)) in
    (end, coding_of cs last (lines ++ text ∷ []), subst (λ xs. ReadsCoding xs (coding_of cs last (lines ++ text ∷ [])) []) (sym whole) close)
