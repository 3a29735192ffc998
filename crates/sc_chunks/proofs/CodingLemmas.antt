-- A coding is a chunk line after chunks, and bytes begin with one coding.
use Rattle.std.proofs.Common.{◌≡◌, ℕ, ◌<◌, inl, inr, All, List, [], ◌∷◌, ◌++◌, length, refl, sym, ap, ◌∙◌, subst, arith, append_assoc, append-nil}
use Rattle.std.proofs.lemmas.Bool.{false≢true}
use Rattle.std.proofs.lemmas.List.Elements.{All-head, All-tail}
use Rattle.httparse.specs.Ascii.{crlf_bytes}
use Rattle.httparse.specs.Grammar.{ChunkLine, print_chunk_line, IsChunkLine, chunk_size}
use Rattle.httparse.proofs.ChunkLemmas.{chunk_line_unique}
use Rattle.sc_chunks.specs.Coding.{Chunk, IsChunk, print_chunks, IsTrailer, print_lines, Coding, ReadsCoding}
use Rattle.sc_chunks.specs.Endings.{HasLine}
use Rattle.sc_chunks.specs.Laws.{OneCoding}
use Rattle.sc_chunks.proofs.ChunkLemmas.{chunks_then, peel}
use Rattle.sc_chunks.proofs.LineLemmas.{no_end_in_nothing, same_line, lines_then}

-- the last chunk line of a coding, after its chunks
pub coding_line : (bytes : List ℕ) (coding : Coding) (rest : List ℕ) → ReadsCoding bytes coding rest
    → HasLine bytes coding.chunks coding.last (print_lines coding.trailers ++ (crlf_bytes ++ rest))
coding_line bytes coding rest reads = record {
  all = reads.0.chunks;
  is_line = reads.0.last;
  whole = reads.1
      ∙ append_assoc (print_chunks coding.chunks) (print_chunk_line coding.last ++ (print_lines coding.trailers ++ crlf_bytes)) rest
      ∙ ap (λ xs. print_chunks coding.chunks ++ xs) (append_assoc (print_chunk_line coding.last) (print_lines coding.trailers ++ crlf_bytes) rest
      ∙ ap (λ xs. print_chunk_line coding.last ++ xs) (append_assoc (print_lines coding.trailers) crlf_bytes rest));
}

-- a chunk line that begins bytes is the only one, since no chunk is whole in what follows it
abbrev pub Only : List ℕ → ChunkLine → List ℕ → Type 0
Only left line tail =
    (chunks : List Chunk) (other : ChunkLine) (rest : List ℕ) → HasLine left chunks other rest → (chunks ≡ []) × (other ≡ line) × (rest ≡ tail)

-- what follows a chunk line is no data of its size with a line end
abbrev pub NoData : ChunkLine → List ℕ → Type 0
NoData line tail = (content after : List ℕ) → 0 < length content → length content ≡ chunk_size line → tail ≡ content ++ (crlf_bytes ++ after) → ⊥

pub only_line : (line : ChunkLine) (tail : List ℕ) → IsChunkLine line → NoData line tail → Only (print_chunk_line line ++ tail) line tail
only_line line tail is stuck [] other rest has =
    let same = chunk_line_unique _ line other tail rest (is, refl) (has.is_line, has.whole) in
    (refl, sym same.0, sym same.1)
only_line line tail is stuck (e ∷ es) other rest has =
    let chunk = All-head IsChunk e es has.all in
    let same = chunk_line_unique _ line e.line tail _ (is, refl) (chunk.line, has.whole ∙ chunks_then e es (print_chunk_line other ++ rest)) in
    absurd (stuck e.content _ chunk.some (sym chunk.size ∙ ap chunk_size (sym same.0)) same.1)

-- a last chunk line has no data
pub no_data_of_last : (line : ChunkLine) (tail : List ℕ) → chunk_size line ≡ 0 → NoData line tail
no_data_of_last line tail ends content after some size same = omega (arith, some, size, ends)

no_name_in_nothing : IsTrailer [] → ⊥
no_name_in_nothing is = false≢true is.named

-- trailer lines before an empty line
same_trailers : (ts us : List (List ℕ)) (x y : List ℕ) → All IsTrailer ts → All IsTrailer us
    → print_lines ts ++ (crlf_bytes ++ x) ≡ print_lines us ++ (crlf_bytes ++ y) → (ts ≡ us) × (x ≡ y)
same_trailers [] [] x y all also same = (refl, cc)
same_trailers [] (u ∷ us) x y all also same =
    let is = All-head IsTrailer u us also in
    let lines = same_line [] u x _ no_end_in_nothing is.one_line (same ∙ lines_then u us (crlf_bytes ++ y)) in
    absurd (no_name_in_nothing (subst IsTrailer (sym lines.0) is))
same_trailers (t ∷ ts) [] x y all also same =
    let is = All-head IsTrailer t ts all in
    let lines = same_line t [] _ y is.one_line no_end_in_nothing (sym (lines_then t ts (crlf_bytes ++ x)) ∙ same) in
    absurd (no_name_in_nothing (subst IsTrailer lines.0 is))
same_trailers (t ∷ ts) (u ∷ us) x y all also same =
    let is = All-head IsTrailer t ts all in
    let is' = All-head IsTrailer u us also in
    let heads = same_line t u _ _ is.one_line is'.one_line (sym (lines_then t ts (crlf_bytes ++ x)) ∙ same ∙ lines_then u us (crlf_bytes ++ y)) in
    let later = same_trailers ts us x y (All-tail IsTrailer t ts all) (All-tail IsTrailer u us also) heads.1 in
    (ap (λ z. z ∷ ts) heads.0 ∙ ap (λ zs. u ∷ zs) later.0, later.1)

coding_of : List Chunk → ChunkLine → List (List ℕ) → Coding
coding_of chunks last trailers = record { chunks = chunks; last = last; trailers = trailers }

same_parts : (a b : Coding) → a.chunks ≡ b.chunks → a.last ≡ b.last → a.trailers ≡ b.trailers → a ≡ b
unfolding coding_of
same_parts a b chunks last trailers =
    ap (λ cs. coding_of cs a.last a.trailers) chunks ∙ ap (λ l. coding_of b.chunks l a.trailers) last ∙ ap (λ ts. coding_of b.chunks b.last ts) trailers

pub one_coding : OneCoding
one_coding bytes more coding other rest others reads reads' =
    let first = coding_line bytes coding rest reads in
    let second = coding_line (bytes ++ more) other others reads' in
    let tail = print_lines coding.trailers ++ (crlf_bytes ++ rest) in
    let whole : bytes ++ more ≡ print_chunks coding.chunks ++ (print_chunk_line coding.last ++ (tail ++ more)) =
    ap (λ xs. xs ++ more) first.whole ∙ append_assoc (print_chunks coding.chunks) (print_chunk_line coding.last ++ tail) more
    ∙ ap (λ xs. print_chunks coding.chunks ++ xs) (append_assoc (print_chunk_line coding.last) tail more) in
    let has : HasLine (print_chunks coding.chunks ++ (print_chunk_line coding.last ++ (tail ++ more))) other.chunks other.last (print_lines other.trailers ++ (crlf_bytes ++ others)) =
    record { all = second.all; is_line = second.is_line; whole = sym whole ∙ second.whole } in
    elim (peel coding.chunks other.chunks (print_chunk_line coding.last ++ (tail ++ more)) other.last _ first.all has) [
      | inl there ↦
          let o = only_line coding.last (tail ++ more) first.is_line (no_data_of_last coding.last (tail ++ more) reads.0.ends) there.0 other.last _ there.2 in
          let chunks : other.chunks ≡ coding.chunks = there.1 ∙ ap (λ es. coding.chunks ++ es) o.0 ∙ append-nil coding.chunks in
          let after : tail ++ more ≡ print_lines coding.trailers ++ (crlf_bytes ++ (rest ++ more)) =
          append_assoc (print_lines coding.trailers) (crlf_bytes ++ rest) more ∙ ap (λ xs. print_lines coding.trailers ++ xs) (append_assoc crlf_bytes rest more) in
          let trailers = same_trailers other.trailers coding.trailers others (rest ++ more) reads'.0.trailers reads.0.trailers (o.2 ∙ after) in
          (same_parts coding other (sym chunks) (sym o.1) (sym trailers.0), trailers.1)
      | inr within ↦ absurd (omega (arith, within.0, reads'.0.ends))
    ]
