-- Bytes that end inside a part of a coding begin with no coding, state no size above the most, and pass no limit of trailers.
use Rattle.std.proofs.Common.{◌≡◌, ℕ, ◌+◌, ◌<◌, ◌≤◌, ◌⊎◌, inl, inr, All, List, [], ◌∷◌, ◌++◌, length, refl, sym, ap, ◌∙◌, subst, arith, append_assoc, append-nil, length-append}
use Rattle.std.proofs.lemmas.Bool.{cases_lt}
use Rattle.std.proofs.lemmas.List.Elements.{All-head, All-tail}
use Rattle.httparse.specs.Ascii.{crlf_bytes}
use Rattle.httparse.specs.Grammar.{ChunkLine, print_chunk_line, chunk_size, HasNoChunkLine}
use Rattle.sc_chunks.specs.Coding.{data_limit, trailer_limit, Chunk, IsChunk, print_chunks, data_of, HasNoLineEnd, IsTrailer, print_lines}
use Rattle.sc_chunks.specs.Endings.{HasNoCoding, HasLine, StatesTooMuch, PassesTrailers}
use Rattle.sc_chunks.specs.Progress.{MayBeLineEnd}
use Rattle.sc_chunks.proofs.ChunkLemmas.{chunks_then, peel}
use Rattle.sc_chunks.proofs.CodingLemmas.{coding_line, Only}
use Rattle.sc_chunks.proofs.LineLemmas.{no_end_in_nothing, same_line, lines_then, peel_lines, empty_line_after}

-- no chunk line comes first
abbrev pub NoLine : List ℕ → Type 0
NoLine left = (chunks : List Chunk) (line : ChunkLine) (rest : List ℕ) → HasLine left chunks line rest → ⊥

pub no_line : (left : List ℕ) → HasNoChunkLine left → NoLine left
no_line left none [] line rest has = none line rest (has.is_line, has.whole)
no_line left none (e ∷ es) line rest has = none e.line _ ((All-head IsChunk e es has.all).line, has.whole ∙ chunks_then e es (print_chunk_line line ++ rest))

pub line_none : (cs : List Chunk) (left : List ℕ) → All IsChunk cs → NoLine left → HasNoCoding (print_chunks cs ++ left)
line_none cs left all none coding rest reads =
    elim (peel cs coding.chunks left coding.last _ all (coding_line _ coding rest reads)) [
      | inl there ↦ none there.0 coding.last _ there.2
      | inr within ↦ omega (arith, within.0, reads.0.ends)
    ]

pub line_little : (cs : List Chunk) (left : List ℕ) → All IsChunk cs → NoLine left → length (data_of cs) ≤ data_limit → ¬ (StatesTooMuch (print_chunks cs ++ left))
line_little cs left all none little states =
    elim (peel cs states.chunks left states.line states.rest all states.has) [
      | inl there ↦ none there.0 states.line states.rest there.2
      | inr within ↦ omega (arith, within.1, states.much, little)
    ]

pub line_few : (cs : List Chunk) (left : List ℕ) → All IsChunk cs → NoLine left → ¬ (PassesTrailers (print_chunks cs ++ left))
line_few cs left all none passes =
    elim (peel cs passes.chunks left passes.last _ all passes.has) [
      | inl there ↦ none there.0 passes.last _ there.2
      | inr within ↦ omega (arith, within.0, passes.ends)
    ]

-- inside a chunk
pub only_none : (cs : List Chunk) (line : ChunkLine) (left tail : List ℕ) → All IsChunk cs → 0 < chunk_size line → Only left line tail
    → HasNoCoding (print_chunks cs ++ left)
only_none cs line left tail all some only coding rest reads =
    elim (peel cs coding.chunks left coding.last _ all (coding_line _ coding rest reads)) [
      | inl there ↦ let o = only there.0 coding.last _ there.2 in omega (arith, some, ap chunk_size o.1, reads.0.ends)
      | inr within ↦ omega (arith, within.0, reads.0.ends)
    ]

pub only_few : (cs : List Chunk) (line : ChunkLine) (left tail : List ℕ) → All IsChunk cs → 0 < chunk_size line → Only left line tail
    → ¬ (PassesTrailers (print_chunks cs ++ left))
only_few cs line left tail all some only passes =
    elim (peel cs passes.chunks left passes.last _ all passes.has) [
      | inl there ↦ let o = only there.0 passes.last _ there.2 in omega (arith, some, ap chunk_size o.1, passes.ends)
      | inr within ↦ omega (arith, within.0, passes.ends)
    ]

-- inside a chunk whose size is no too much, or after the last chunk line
pub only_little : (cs : List Chunk) (line : ChunkLine) (left tail : List ℕ) → All IsChunk cs → length (data_of cs) + chunk_size line ≤ data_limit → Only left line tail
    → ¬ (StatesTooMuch (print_chunks cs ++ left))
only_little cs line left tail all little only states =
    elim (peel cs states.chunks left states.line states.rest all states.has) [
      | inl there ↦
          let o = only there.0 states.line states.rest there.2 in
          let chunks : states.chunks ≡ cs = there.1 ∙ ap (λ es. cs ++ es) o.0 ∙ append-nil cs in
          omega (arith, states.much, ap (λ ds. length (data_of ds)) chunks, ap chunk_size o.1, little)
      | inr within ↦ omega (arith, within.1, states.much, little)
    ]

pub all_after : (a b : List (List ℕ)) → All IsTrailer (a ++ b) → All IsTrailer b
all_after [] b all = all
all_after (t ∷ a) b all = all_after a b (All-tail IsTrailer t (a ++ b) all)

-- no empty line comes next
abbrev pub NoEmptyLine : List ℕ → Type 0
NoEmptyLine left = (more : List (List ℕ)) (rest : List ℕ) → All IsTrailer more → left ≡ print_lines more ++ (crlf_bytes ++ rest) → ⊥

-- after the last chunk line and trailer lines
pub last_none : (cs : List Chunk) (last : ChunkLine) (lines : List (List ℕ)) (bytes left : List ℕ) → All IsChunk cs → All IsTrailer lines
    → Only bytes last (print_lines lines ++ left) → NoEmptyLine left → HasNoCoding (print_chunks cs ++ bytes)
last_none cs last lines bytes left all trailers only none coding rest reads =
    elim (peel cs coding.chunks bytes coding.last _ all (coding_line _ coding rest reads)) [
      | inl there ↦
          let o = only there.0 coding.last _ there.2 in
          let e = empty_line_after lines coding.trailers left rest trailers reads.0.trailers (sym o.2) in
          none e.0 rest (all_after lines e.0 (subst (λ ts. All IsTrailer ts) e.1 reads.0.trailers)) e.2
      | inr within ↦ omega (arith, within.0, reads.0.ends)
    ]

pub no_empty_line : (left : List ℕ) → HasNoLineEnd left → NoEmptyLine left
no_empty_line left none [] rest all same = none [] rest same
no_empty_line left none (m ∷ more) rest all same = none m _ (same ∙ lines_then m more (crlf_bytes ++ rest))

pub no_empty_line_after : (text rest : List ℕ) → HasNoLineEnd text → 0 < length text → (IsTrailer text → ⊥) → NoEmptyLine (text ++ (crlf_bytes ++ rest))
no_empty_line_after text rest none some bad [] rest' all same =
    let lines = same_line text [] rest rest' none no_end_in_nothing same in omega (arith, some, ap length lines.0)
no_empty_line_after text rest none some bad (m ∷ more) rest' all same =
    let is = All-head IsTrailer m more all in
    let lines = same_line text m rest _ none is.one_line (same ∙ lines_then m more (crlf_bytes ++ rest')) in
    bad (subst IsTrailer (sym lines.0) is)

-- of two lists with one whole, the longer first part begins with the shorter
pub longer_split : (a b x y : List ℕ) → length b ≤ length a → a ++ x ≡ b ++ y → (more : List ℕ) × (a ≡ b ++ more)
longer_split a [] x y long same = (a, refl)
longer_split [] (c ∷ b) x y long same = absurd (omega (arith, long))
longer_split (d ∷ a) (c ∷ b) x y long same =
    let first : d ≡ c = cc in
    let later = longer_split a b x y (omega (arith, long)) (cc) in
    (later.0, ap (λ z. z ∷ a) first ∙ ap (λ zs. c ∷ zs) later.1)

nothing_left : (a b : List ℕ) → a ++ b ≡ [] → a ≡ []
nothing_left [] b same = refl
nothing_left (c ∷ a) b same = absurd (omega (arith, ap length same))

-- a part of a line that comes before a whole line is no longer than that
pub part_within : (part text whole rest after : List ℕ) → HasNoLineEnd text → HasNoLineEnd whole → (more : List ℕ) → part ++ more ≡ text ++ crlf_bytes
    → part ++ rest ≡ whole ++ (crlf_bytes ++ after) → length part ≤ length whole + 2
part_within part text whole rest after none also more of same =
    elim (cases_lt (length whole + 2) (length part)) [
      | inl longer ↦
          let parts = length-append whole crlf_bytes in
          let split = longer_split part (whole ++ crlf_bytes) rest after (omega (arith, longer, parts)) (same ∙ sym (append_assoc whole crlf_bytes after)) in
          let one : text ++ (crlf_bytes ++ []) ≡ whole ++ (crlf_bytes ++ (split.0 ++ more)) =
          sym of ∙ ap (λ xs. xs ++ more) split.1 ∙ append_assoc (whole ++ crlf_bytes) split.0 more ∙ append_assoc whole crlf_bytes (split.0 ++ more) in
          let lines = same_line text whole [] (split.0 ++ more) none also one in
          let e : split.0 ≡ [] = nothing_left split.0 more (sym lines.1) in
          let size = ap length split.1 in
          let sum = length-append (whole ++ crlf_bytes) split.0 in
          omega (arith, longer, size, sum, parts, ap length e)
      | inr within ↦ within
    ]

-- a part of an empty line, made whole
pub made_whole : (left : List ℕ) → MayBeLineEnd left → (more : List ℕ) × (left ++ more ≡ crlf_bytes)
made_whole left (inl none) = (crlf_bytes, ap (λ xs. xs ++ crlf_bytes) none)
made_whole left (inr one) = (10 ∷ [], ap (λ xs. xs ++ 10 ∷ []) one)

-- so few bytes after the trailer lines that these pass no limit
abbrev pub FewLeft : ℕ → List ℕ → Type 0
FewLeft size left = (size + length left ≤ trailer_limit) ⊎ MayBeLineEnd left

pub last_few : (cs : List Chunk) (last : ChunkLine) (lines : List (List ℕ)) (bytes left : List ℕ) → All IsChunk cs → All IsTrailer lines
    → Only bytes last (print_lines lines ++ left) → HasNoLineEnd left → length (print_lines lines) ≤ trailer_limit → FewLeft (length (print_lines lines)) left
    → ¬ (PassesTrailers (print_chunks cs ++ bytes))
last_few cs last lines bytes left all trailers only none few fits passes =
    elim (peel cs passes.chunks bytes passes.last _ all passes.has) [
      | inl there ↦
          let o = only there.0 passes.last _ there.2 in
          elim (peel_lines lines passes.lines left (passes.part ++ passes.rest) trailers passes.trailers (sym o.2)) [
            | inl on ↦ after_lines on.0 on.1 on.2
            | inr in_line ↦
                let short = part_within passes.part passes.text in_line.0 passes.rest in_line.1 passes.one_line in_line.2.one_line passes.of_line.0 passes.of_line.1 in_line.3 in
                omega (arith, short, in_line.4, passes.many, few)
          ]
      | inr within ↦ omega (arith, within.0, passes.ends)
    ]
  where
    after_lines : (more : List (List ℕ)) → passes.lines ≡ lines ++ more → left ≡ print_lines more ++ (passes.part ++ passes.rest) → ⊥
    after_lines [] same whole =
        let count = ap (λ ts. length (print_lines ts)) (same ∙ append-nil lines) in
        let size = ap length whole in
        let parts = length-append passes.part passes.rest in
        elim fits [
          | inl short ↦ omega (arith, short, count, size, parts, passes.many)
          | inr may ↦
              let made = made_whole left may in
              passes.not_empty (passes.rest ++ made.0)
              ([], sym (sym (append_assoc passes.part passes.rest made.0) ∙ ap (λ xs. xs ++ made.0) (sym whole) ∙ made.1))
        ]
    after_lines (m ∷ more) same whole = none m _ (whole ∙ lines_then m more (passes.part ++ passes.rest))
