-- Bytes that end in some way begin with no coding, and what follows a coding or an end leaves it.
use Rattle.std.proofs.Common.{◌≡◌, ℕ, ◌+◌, ◌-◌, ◌≤◌, ◌⊎◌, inl, inr, All, List, [], ◌∷◌, ◌++◌, length, take, drop, refl, sym, ap, ◌∙◌, subst, arith, append_assoc, append-nil, length-append}
use Rattle.std.proofs.lemmas.Bool.{cases_lt}
use Rattle.std.proofs.lemmas.Grind.{flat_map-append}
use Rattle.std.proofs.lemmas.List.{take-append-drop, take_all, take-append-le}
use Rattle.std.proofs.lemmas.List.Elements.{All-head}
use Rattle.std.proofs.Math.Seq.{take-append-add}
use Rattle.httparse.specs.Ascii.{crlf_bytes}
use Rattle.httparse.specs.Grammar.{print_chunk_line, chunk_size}
use Rattle.sc_chunks.specs.Coding.{coding_limit, data_limit, trailer_limit, print_chunks, data_of, IsTrailer, print_lines, Coding, print_coding, ReadsCoding, HasCoding}
use Rattle.sc_chunks.specs.Endings.{NeverHasCoding, MayBecomeCoding, HasLine, StatesTooMuch, PassesTrailers, IsOpenCoding, partial, malformed, too_large, coding_window, HasMalformedCoding, HasTooLargeCoding}
use Rattle.sc_chunks.specs.Laws.{NoEndOfCoding, OneCodingEnd, CodingStays, MalformedStays, TooLargeStays}
use Rattle.sc_chunks.proofs.LineLemmas.{empty_line_after}
use Rattle.sc_chunks.proofs.ChunkLemmas.{peel}
use Rattle.sc_chunks.proofs.CodingLemmas.{coding_line, only_line, no_data_of_last}
use Rattle.sc_chunks.proofs.StuckLemmas.{only_little, all_after, longer_split, part_within}
use Rattle.sc_chunks.proofs.OpenLemmas.{may_with_line}

-- ---- what follows

line_stays : (bytes more : List ℕ) (chunks : List _) (line : _) (rest : List ℕ) → HasLine bytes chunks line rest → HasLine (bytes ++ more) chunks line (rest ++ more)
line_stays bytes more chunks line rest has = record {
  all = has.all;
  is_line = has.is_line;
  whole = ap (λ xs. xs ++ more) has.whole ∙ append_assoc (print_chunks chunks) (print_chunk_line line ++ rest) more
      ∙ ap (λ xs. print_chunks chunks ++ xs) (append_assoc (print_chunk_line line) rest more);
}

pub states_stays : (bytes more : List ℕ) → StatesTooMuch bytes → StatesTooMuch (bytes ++ more)
states_stays bytes more states = record {
  chunks = states.chunks;
  line = states.line;
  rest = states.rest ++ more;
  has = line_stays bytes more states.chunks states.line states.rest states.has;
  much = states.much;
}

pub passes_stays : (bytes more : List ℕ) → PassesTrailers bytes → PassesTrailers (bytes ++ more)
passes_stays bytes more passes =
    let tail : (print_lines passes.lines ++ (passes.part ++ passes.rest)) ++ more ≡ print_lines passes.lines ++ (passes.part ++ (passes.rest ++ more)) =
    append_assoc (print_lines passes.lines) (passes.part ++ passes.rest) more ∙ ap (λ xs. print_lines passes.lines ++ xs) (append_assoc passes.part passes.rest more) in
    record {
      chunks = passes.chunks;
      last = passes.last;
      lines = passes.lines;
      text = passes.text;
      part = passes.part;
      rest = passes.rest ++ more;
      has = subst (λ xs. HasLine (bytes ++ more) passes.chunks passes.last xs) tail (line_stays bytes more passes.chunks passes.last _ passes.has);
      ends = passes.ends;
      trailers = passes.trailers;
      one_line = passes.one_line;
      of_line = passes.of_line;
      not_empty = passes.not_empty;
      many = passes.many;
    }

may_never : (bytes more : List ℕ) → NeverHasCoding bytes → ¬ (MayBecomeCoding (bytes ++ more))
may_never bytes more never may = never (more ++ may.0) may.1 [] (subst (λ xs. ReadsCoding xs may.1 []) (append_assoc bytes more may.0) may.2)

-- the window of more bytes begins with that of the first
pub window_then : (bytes more : List ℕ) → coding_window (bytes ++ more) ≡ coding_window bytes ++ take (coding_limit - length bytes) more
window_then bytes more =
    elim (cases_lt coding_limit (length bytes)) [
      | inl long ↦
          let none : coding_limit - length bytes ≡ 0 = omega (arith, long) in
          take-append-le coding_limit bytes more (omega (arith, long)) ∙ sym (append-nil (coding_window bytes)) ∙ ap (λ n. coding_window bytes ++ take n more) (sym none)
      | inr short ↦
          let sum : coding_limit ≡ length bytes + (coding_limit - length bytes) = omega (arith, short) in
          ap (λ n. take n (bytes ++ more)) sum ∙ take-append-add bytes more (coding_limit - length bytes)
          ∙ ap (λ xs. xs ++ take (coding_limit - length bytes) more) (sym (take_all coding_limit bytes short))
    ]

-- ---- a coding within its limits has no end

coding_little : (bytes : List ℕ) (coding : Coding) (rest : List ℕ) → ReadsCoding bytes coding rest → length (data_of coding.chunks) ≤ data_limit → ¬ (StatesTooMuch bytes)
coding_little bytes coding rest reads within =
    let has = coding_line bytes coding rest reads in
    let tail = print_lines coding.trailers ++ (crlf_bytes ++ rest) in
    subst (λ xs. ¬ (StatesTooMuch xs)) (sym has.whole)
    (only_little coding.chunks coding.last (print_chunk_line coding.last ++ tail) tail has.all (omega (arith, within, reads.0.ends))
    (only_line coding.last tail has.is_line (no_data_of_last coding.last tail reads.0.ends)))

coding_few : (bytes : List ℕ) (coding : Coding) (rest : List ℕ) → ReadsCoding bytes coding rest → length (print_lines coding.trailers) ≤ trailer_limit → ¬ (PassesTrailers bytes)
coding_few bytes coding rest reads within passes =
    let has = coding_line bytes coding rest reads in
    let tail = print_lines coding.trailers ++ (crlf_bytes ++ rest) in
    let other : HasLine (print_chunks coding.chunks ++ (print_chunk_line coding.last ++ tail)) passes.chunks passes.last (print_lines passes.lines ++ (passes.part ++ passes.rest)) =
    subst (λ xs. HasLine xs passes.chunks passes.last (print_lines passes.lines ++ (passes.part ++ passes.rest))) has.whole passes.has in
    elim (peel coding.chunks passes.chunks (print_chunk_line coding.last ++ tail) passes.last _ has.all other) [
      | inl there ↦
          let o = only_line coding.last tail has.is_line (no_data_of_last coding.last tail reads.0.ends) there.0 passes.last _ there.2 in
          let e = empty_line_after passes.lines coding.trailers (passes.part ++ passes.rest) rest passes.trailers reads.0.trailers o.2 in
          after_lines e.0 (all_after passes.lines e.0 (subst (λ ts. All IsTrailer ts) e.1 reads.0.trailers)) e.1 e.2
      | inr within_data ↦ omega (arith, within_data.0, passes.ends)
    ]
  where
    after_lines : (more : List (List ℕ)) → All IsTrailer more → coding.trailers ≡ passes.lines ++ more → passes.part ++ passes.rest ≡ print_lines more ++ (crlf_bytes ++ rest) → ⊥
    after_lines [] all same whole = passes.not_empty passes.rest (rest, sym whole)
    after_lines (m ∷ more) all same whole =
        let is = All-head IsTrailer m more all in
        let lines = append_assoc (m ++ crlf_bytes) (print_lines more) (crlf_bytes ++ rest) ∙ append_assoc m crlf_bytes (print_lines more ++ (crlf_bytes ++ rest)) in
        let short = part_within passes.part passes.text m passes.rest (print_lines more ++ (crlf_bytes ++ rest)) passes.one_line is.one_line passes.of_line.0 passes.of_line.1 (whole ∙ lines) in
        let sum = ap length (ap print_lines same ∙ flat_map-append (λ text. text ++ crlf_bytes) passes.lines (m ∷ more)) in
        let parts = length-append (print_lines passes.lines) (print_lines (m ∷ more)) in
        let line = length-append (m ++ crlf_bytes) (print_lines more) in
        let one = length-append m crlf_bytes in
        omega (arith, short, sum, parts, line, one, passes.many, within)

-- a window as long as a coding begins with it
coding_in_window : (bytes : List ℕ) (coding : Coding) (rest : List ℕ) → HasCoding bytes coding rest
    → ReadsCoding (coding_window bytes) coding (take (coding_limit - length (print_coding coding)) rest)
coding_in_window bytes coding rest has =
    let n = coding_limit - length (print_coding coding) in
    let sum : coding_limit ≡ length (print_coding coding) + n = omega (arith, has.coding_within) in (
      has.reads.0,
      ap (λ xs. take coding_limit xs) has.reads.1 ∙ ap (λ k. take k (print_coding coding ++ rest)) sum ∙ take-append-add (print_coding coding) rest n,
    )

malformed_has_none : (bytes : List ℕ) (coding : Coding) (rest : List ℕ) → HasMalformedCoding bytes → ¬ (HasCoding bytes coding rest)
malformed_has_none bytes coding rest bad has =
    elim bad.decides [
      | inl never ↦ never bad.begins.0 coding rest (subst (λ xs. ReadsCoding xs coding rest) (sym bad.begins.1) has.reads)
      | inr passes ↦ coding_few bytes coding rest has.reads has.trailers_within (subst PassesTrailers bad.begins.1 (passes_stays bad.prefix bad.begins.0 passes))
    ]

states_in_window : (bytes : List ℕ) → StatesTooMuch (coding_window bytes) → StatesTooMuch bytes
states_in_window bytes states = subst StatesTooMuch (take-append-drop coding_limit bytes) (states_stays (coding_window bytes) (drop coding_limit bytes) states)

too_large_has_none : (bytes : List ℕ) (coding : Coding) (rest : List ℕ) → HasTooLargeCoding bytes → ¬ (HasCoding bytes coding rest)
too_large_has_none bytes coding rest (inl states) has = coding_little bytes coding rest has.reads has.data_within (states_in_window bytes states)
too_large_has_none bytes coding rest (inr long) has = long.1.none coding _ (coding_in_window bytes coding rest has)

pub no_end_of_coding : NoEndOfCoding
no_end_of_coding bytes partial coding rest ends has = ends.1.none coding rest has.reads
no_end_of_coding bytes malformed coding rest ends has = malformed_has_none bytes coding rest ends has
no_end_of_coding bytes too_large coding rest ends has = too_large_has_none bytes coding rest ends has

-- ---- one end

-- bytes that a prefix decides are not open
open_undecided : (prefix more : List ℕ) → IsOpenCoding (prefix ++ more) → ¬ (NeverHasCoding prefix ⊎ PassesTrailers prefix)
open_undecided prefix more is (inl never) = may_never prefix more never is.open_
open_undecided prefix more is (inr passes) = is.few (passes_stays prefix more passes)

-- where a prefix decides and states no size above the most, no line after it does
decided_states : (prefix more : List ℕ) → NeverHasCoding prefix ⊎ PassesTrailers prefix → StatesTooMuch (prefix ++ more) → StatesTooMuch prefix
decided_states prefix more (inl never) states =
    let front = print_chunks states.chunks ++ print_chunk_line states.line in
    let whole : prefix ++ more ≡ front ++ states.rest = states.has.whole ∙ sym (append_assoc (print_chunks states.chunks) (print_chunk_line states.line) states.rest) in
    elim (cases_lt (length prefix) (length front)) [
      | inl shorter ↦
          let split = longer_split front prefix states.rest more (omega (arith, shorter)) (sym whole) in
          absurd (may_never prefix split.0 never (subst MayBecomeCoding split.1
          (may_with_line states.chunks states.line (print_chunk_line states.line) [] states.has.all states.has.is_line (append-nil (print_chunk_line states.line)))))
      | inr longer ↦
          let split = longer_split prefix front more states.rest longer whole in
          record {
            chunks = states.chunks;
            line = states.line;
            rest = split.0;
            has = record {
              all = states.has.all;
              is_line = states.has.is_line;
              whole = split.1 ∙ append_assoc (print_chunks states.chunks) (print_chunk_line states.line) split.0;
            };
            much = states.much;
          }
    ]
decided_states prefix more (inr passes) states =
    elim (cases_lt data_limit (length (data_of passes.chunks) + chunk_size passes.last)) [
      | inl much ↦ record { chunks = passes.chunks; line = passes.last; rest = print_lines passes.lines ++ (passes.part ++ passes.rest); has = passes.has; much = much }
      | inr little ↦
          let tail = (print_lines passes.lines ++ (passes.part ++ passes.rest)) ++ more in
          let has = line_stays prefix more passes.chunks passes.last (print_lines passes.lines ++ (passes.part ++ passes.rest)) passes.has in
          absurd (only_little passes.chunks passes.last (print_chunk_line passes.last ++ tail) tail has.all little
          (only_line passes.last tail has.is_line (no_data_of_last passes.last tail passes.ends)) (subst StatesTooMuch has.whole states))
    ]

partial_not_malformed : (bytes : List ℕ) → IsOpenCoding bytes → ¬ (HasMalformedCoding bytes)
partial_not_malformed bytes is bad = open_undecided bad.prefix bad.begins.0 (subst IsOpenCoding (sym bad.begins.1) is) bad.decides

partial_not_too_large : (bytes : List ℕ) → length bytes ≤ coding_limit → IsOpenCoding bytes → ¬ (HasTooLargeCoding bytes)
partial_not_too_large bytes within is (inl states) = is.little (states_in_window bytes states)
partial_not_too_large bytes within is (inr long) = omega (arith, within, long.0)

-- a prefix within the limit is one of the window
pub prefix_in_window : (prefix more bytes : List ℕ) → length prefix ≤ coding_limit → prefix ++ more ≡ bytes
    → coding_window bytes ≡ prefix ++ take (coding_limit - length prefix) more
prefix_in_window prefix more bytes within same =
    ap (λ xs. take coding_limit xs) (sym same) ∙ window_then prefix more ∙ ap (λ xs. xs ++ take (coding_limit - length prefix) more) (take_all coding_limit prefix within)

malformed_not_too_large : (bytes : List ℕ) → HasMalformedCoding bytes → ¬ (HasTooLargeCoding bytes)
malformed_not_too_large bytes bad (inl states) =
    bad.little (decided_states bad.prefix bad.begins.0 bad.decides (subst StatesTooMuch (sym bad.begins.1) (states_in_window bytes states)))
malformed_not_too_large bytes bad (inr long) =
    open_undecided bad.prefix _ (subst IsOpenCoding (prefix_in_window bad.prefix bad.begins.0 bytes bad.within bad.begins.1) long.1) bad.decides

pub one_coding_end : OneCodingEnd
one_coding_end bytes partial partial ends also = refl
one_coding_end bytes partial malformed ends also = absurd (partial_not_malformed bytes ends.1 also)
one_coding_end bytes partial too_large ends also = absurd (partial_not_too_large bytes ends.0 ends.1 also)
one_coding_end bytes malformed partial ends also = absurd (partial_not_malformed bytes also.1 ends)
one_coding_end bytes malformed malformed ends also = refl
one_coding_end bytes malformed too_large ends also = absurd (malformed_not_too_large bytes ends also)
one_coding_end bytes too_large partial ends also = absurd (partial_not_too_large bytes also.0 also.1 ends)
one_coding_end bytes too_large malformed ends also = absurd (malformed_not_too_large bytes also ends)
one_coding_end bytes too_large too_large ends also = refl

-- ---- what follows leaves it

pub coding_stays : CodingStays
coding_stays bytes more coding rest has = record {
  reads = (has.reads.0, ap (λ xs. xs ++ more) has.reads.1 ∙ append_assoc (print_coding coding) rest more);
  coding_within = has.coding_within;
  data_within = has.data_within;
  trailers_within = has.trailers_within;
}

pub malformed_stays : MalformedStays
malformed_stays bytes more bad = record {
  prefix = bad.prefix;
  begins = (bad.begins.0 ++ more, sym (append_assoc bad.prefix bad.begins.0 more) ∙ ap (λ xs. xs ++ more) bad.begins.1);
  within = bad.within;
  decides = bad.decides;
  little = bad.little;
}

pub too_large_stays : TooLargeStays
too_large_stays bytes more (inl states) = inl (subst StatesTooMuch (sym (window_then bytes more)) (states_stays (coding_window bytes) _ states))
too_large_stays bytes more (inr long) =
    let parts = length-append bytes more in
    inr (omega (arith, long.0, parts), subst IsOpenCoding (sym (take-append-le coding_limit bytes more (omega (arith, long.0)))) long.1)
