-- Bytes that begin with chunks are taken apart in one way.
use Rattle.std.proofs.Common.{◌≡◌, ℕ, ◌+◌, ◌<◌, ◌≤◌, ◌⊎◌, inl, inr, All, List, [], ◌∷◌, ◌++◌, length, refl, sym, ap, ◌∙◌, arith, append_assoc, length-append}
use Rattle.std.proofs.lemmas.List.Elements.{All-head, All-tail}
use Rattle.httparse.specs.Ascii.{crlf_bytes}
use Rattle.httparse.specs.Grammar.{ChunkLine, print_chunk_line, chunk_size}
use Rattle.httparse.proofs.ChunkLemmas.{chunk_line_unique}
use Rattle.sc_chunks.specs.Coding.{Chunk, print_chunk, IsChunk, print_chunks, data_of}
use Rattle.sc_chunks.specs.Endings.{HasLine}

-- lists whose first parts are as long have the same parts
pub same_split : (a b x y : List ℕ) → length a ≡ length b → a ++ x ≡ b ++ y → (a ≡ b) × (x ≡ y)
same_split [] [] x y long same = (refl, same)
same_split [] (c ∷ b) x y long same = absurd (omega (arith, long))
same_split (c ∷ a) [] x y long same = absurd (omega (arith, long))
same_split (c ∷ a) (d ∷ b) x y long same =
    let first : c ≡ d = cc in
    let later = same_split a b x y (omega (arith, long)) (cc) in
    (ap (λ z. z ∷ a) first ∙ ap (λ zs. d ∷ zs) later.0, later.1)

pub data_of-append : (a b : List Chunk) → length (data_of (a ++ b)) ≡ length (data_of a) + length (data_of b)
data_of-append [] b = omega arith
data_of-append (c ∷ a) b =
    let left = length-append c.content (data_of (a ++ b)) in
    let right = length-append c.content (data_of a) in
    omega (arith, left, right, data_of-append a b)

-- the first chunk, before what follows it
chunk_then : (c : Chunk) (x : List ℕ) → print_chunk c ++ x ≡ print_chunk_line c.line ++ (c.content ++ (crlf_bytes ++ x))
chunk_then c x = append_assoc (print_chunk_line c.line) (c.content ++ crlf_bytes) x ∙ ap (λ xs. print_chunk_line c.line ++ xs) (append_assoc c.content crlf_bytes x)

pub chunks_then : (c : Chunk) (cs : List Chunk) (x : List ℕ) → print_chunks (c ∷ cs) ++ x ≡ print_chunk_line c.line ++ (c.content ++ (crlf_bytes ++ (print_chunks cs ++ x)))
chunks_then c cs x = append_assoc (print_chunk c) (print_chunks cs) x ∙ chunk_then c (print_chunks cs ++ x)

chunk_of : ChunkLine → List ℕ → Chunk
chunk_of line content = record { line = line; content = content }

-- bytes begin with one chunk
same_chunk : (c d : Chunk) (x y : List ℕ) → IsChunk c → IsChunk d
    → print_chunk_line c.line ++ (c.content ++ (crlf_bytes ++ x)) ≡ print_chunk_line d.line ++ (d.content ++ (crlf_bytes ++ y)) → (c ≡ d) × (x ≡ y)
unfolding chunk_of
same_chunk c d x y is other same =
    let lines = chunk_line_unique _ c.line d.line _ _ (is.line, refl) (other.line, same) in
    let size = ap chunk_size lines.0 in
    let rest = same_split c.content d.content _ _ (sym is.size ∙ size ∙ other.size) lines.1 in
    let after : x ≡ y = cc in
    (ap (λ l. chunk_of l c.content) lines.0 ∙ ap (λ xs. chunk_of d.line xs) rest.0, (same_split crlf_bytes crlf_bytes x y refl rest.1).1)

-- a chunk line after chunks, of bytes that begin with other chunks: it comes after these too, or it is the line of one of these
abbrev pub Peeled : List Chunk → List Chunk → List ℕ → ChunkLine → List ℕ → Type 0
Peeled cs ds left line rest =
    ((es : List Chunk) × (ds ≡ cs ++ es) × HasLine left es line rest)
    ⊎ ((0 < chunk_size line) × (length (data_of ds) + chunk_size line ≤ length (data_of cs)))

pub peel : (cs ds : List Chunk) (left : List ℕ) (line : ChunkLine) (rest : List ℕ) → All IsChunk cs → HasLine (print_chunks cs ++ left) ds line rest
    → Peeled cs ds left line rest
peel [] ds left line rest all has = inl (ds, refl, has)
peel (c ∷ cs) [] left line rest all has =
    let is = All-head IsChunk c cs all in
    let lines = chunk_line_unique _ c.line line _ rest (is.line, refl) (has.is_line, sym (chunks_then c cs left) ∙ has.whole) in
    let size = ap chunk_size lines.0 in
    let parts = length-append c.content (data_of cs) in
    inr (omega (arith, size, is.size, is.some), omega (arith, size, is.size, parts))
peel (c ∷ cs) (d ∷ ds) left line rest all has =
    let heads = same_chunk c d (print_chunks cs ++ left) (print_chunks ds ++ (print_chunk_line line ++ rest)) (All-head IsChunk c cs all) (All-head IsChunk d ds has.all)
    (sym (chunks_then c cs left) ∙ has.whole ∙ chunks_then d ds (print_chunk_line line ++ rest)) in
    let later : HasLine (print_chunks cs ++ left) ds line rest = record { all = All-tail IsChunk d ds has.all; is_line = has.is_line; whole = heads.1 } in
    elim (peel cs ds left line rest (All-tail IsChunk c cs all) later) [
      | inl there ↦ inl (there.0, ap (λ z. z ∷ ds) (sym heads.0) ∙ ap (λ zs. c ∷ zs) there.1, there.2)
      | inr within ↦
          let one = length-append c.content (data_of cs) in
          let two = length-append d.content (data_of ds) in
          let same = ap (λ (k : Chunk). length k.content) heads.0 in
          inr (within.0, omega (arith, within.1, one, two, same))
    ]
