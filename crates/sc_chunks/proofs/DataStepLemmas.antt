-- Data of a chunk and the line end after it, after what was taken before.
use Rattle.std.proofs.Common.{◌≡◌, ◌≢◌, ℕ, ◌+◌, ◌-◌, ◌<◌, ◌≤◌, inl, List, [], ◌∷◌, ◌++◌, length, refl, sym, ap, ◌∙◌, subst, arith, append_assoc, append-nil, length-append}
use Rattle.std.proofs.lemmas.Grind.{flat_map-append}
use Rattle.std.proofs.lemmas.List.Elements.{All-append, All-cons, All-nil}
use Rattle.httparse.specs.Ascii.{crlf_bytes}
use Rattle.httparse.specs.Grammar.{print_chunk_line, chunk_size}
use Rattle.sc_chunks.specs.Coding.{data_limit, Chunk, print_chunk, IsChunk, print_chunks, data_of}
use Rattle.sc_chunks.specs.Endings.{HasNoCoding, StatesTooMuch, NeverBeginsLineEnd, PassesTrailers, MayBecomeCoding, IsOpenCoding}
use Rattle.sc_chunks.specs.Progress.{AtLine, InDigits, BeforeReturn, InChunk, IsRefusedCoding}
use Rattle.sc_chunks.specs.declared.error.DecodeError.TheVariants as errors
use Rattle.sc_chunks.proofs.ChunkLemmas.{same_split}
use Rattle.sc_chunks.proofs.CodingLemmas.{Only, NoData, only_line}
use Rattle.sc_chunks.proofs.StuckLemmas.{only_none, only_few, only_little}
use Rattle.sc_chunks.proofs.OpenLemmas.{chunk_of, may_with_part, may_with_end}
use Rattle.sc_chunks.proofs.LineStepLemmas.{nothing_of_line}

-- a chunk's line and data so far, before what follows
in_chunk_then : (coded content : List ℕ) (left : ℕ) (c : InChunk coded content left) (x : List ℕ)
    → coded ++ x ≡ print_chunks c.chunks ++ (print_chunk_line c.line ++ (c.part ++ x))
in_chunk_then coded content left c x =
    ap (λ xs. xs ++ x) c.whole ∙ append_assoc (print_chunks c.chunks) (print_chunk_line c.line ++ c.part) x
    ∙ ap (λ xs. print_chunks c.chunks ++ xs) (append_assoc (print_chunk_line c.line) c.part x)

in_chunk_little : (coded content : List ℕ) (left : ℕ) (c : InChunk coded content left) → length (data_of c.chunks) + chunk_size c.line ≤ data_limit
in_chunk_little coded content left c = let parts = length-append (data_of c.chunks) c.part in omega (arith, parts, ap length c.carried, c.within, c.size)

in_chunk_only : (coded content : List ℕ) (left : ℕ) (c : InChunk coded content left) (x : List ℕ) → NoData c.line (c.part ++ x)
    → Only (print_chunk_line c.line ++ (c.part ++ x)) c.line (c.part ++ x)
in_chunk_only coded content left c x none = only_line c.line (c.part ++ x) c.is_line none

no_data_of_few : (coded content : List ℕ) (left : ℕ) (c : InChunk coded content left) (x : List ℕ) → length x < left + 2 → NoData c.line (c.part ++ x)
no_data_of_few coded content left c x few text after some long same =
    let a = length-append c.part x in
    let b = length-append text (crlf_bytes ++ after) in
    omega (arith, a, b, ap length same, long, c.size, few)

in_chunk_open : (coded content : List ℕ) (left : ℕ) (c : InChunk coded content left) (x : List ℕ) → NoData c.line (c.part ++ x)
    → MayBecomeCoding ((print_chunks c.chunks ++ (print_chunk_line c.line ++ c.part)) ++ x) → IsOpenCoding (coded ++ x)
in_chunk_open coded content left c x none may =
    let whole = in_chunk_then coded content left c x in
    let only = in_chunk_only coded content left c x none in
    let tail = print_chunk_line c.line ++ (c.part ++ x) in
    record {
      none = subst HasNoCoding (sym whole) (only_none c.chunks c.line tail (c.part ++ x) c.all c.some only);
      open_ = subst MayBecomeCoding (ap (λ xs. xs ++ x) (sym c.whole)) may;
      little = subst (λ xs. ¬ (StatesTooMuch xs)) (sym whole) (only_little c.chunks c.line tail (c.part ++ x) c.all (in_chunk_little coded content left c) only);
      few = subst (λ xs. ¬ (PassesTrailers xs)) (sym whole) (only_few c.chunks c.line tail (c.part ++ x) c.all c.some only);
    }

pub data_open : (coded content : List ℕ) (left : ℕ) → InChunk coded content left → IsOpenCoding coded
data_open coded content left c =
    subst IsOpenCoding (append-nil coded) (in_chunk_open coded content left c [] (no_data_of_few coded content left c [] (omega arith))
    (may_with_part c.chunks c.line c.part [] left c.all c.is_line c.some c.size (omega arith)))

pub data_return_open : (coded content : List ℕ) → BeforeReturn (λ earlier. InChunk earlier content 0) coded → IsOpenCoding coded
data_return_open coded content (earlier, c, same) =
    subst IsOpenCoding (sym same) (in_chunk_open earlier content 0 c (13 ∷ []) (no_data_of_few earlier content 0 c (13 ∷ []) (omega arith))
    (may_with_end c.chunks c.line c.part (13 ∷ []) (10 ∷ []) c.all c.is_line c.some c.size refl))

pub data_taken : (coded content taken : List ℕ) (left : ℕ) → InChunk coded content left → length taken ≤ left
    → InChunk (coded ++ taken) (content ++ taken) (left - length taken)
data_taken coded content taken left c fits =
    let parts = length-append c.part taken in
    let sums = length-append content taken in
    record {
      chunks = c.chunks;
      line = c.line;
      part = c.part ++ taken;
      all = c.all;
      is_line = c.is_line;
      some = c.some;
      size = omega (arith, c.size, parts, fits);
      whole = in_chunk_then coded content left c taken;
      carried = ap (λ xs. xs ++ taken) c.carried ∙ append_assoc (data_of c.chunks) c.part taken;
      within = omega (arith, c.within, sums, fits);
    }

pub data_returned : (coded content : List ℕ) (b : ℕ) → InChunk coded content 0 → b ≡ 13 → BeforeReturn (λ earlier. InChunk earlier content 0) (coded ++ b ∷ [])
data_returned coded content b c return = (coded, c, ap (λ d. coded ++ d ∷ []) return)

pub data_ended : (coded content : List ℕ) (b : ℕ) → BeforeReturn (λ earlier. InChunk earlier content 0) coded → b ≡ 10 → InDigits (coded ++ b ∷ []) content 0 0
data_ended coded content b (earlier, c, same) feed =
    let chunk = chunk_of c.line c.part in
    let is : IsChunk chunk = record { line = c.is_line; some = omega (arith, c.some, c.size); size = omega (arith, c.size) } in
    let at : AtLine (coded ++ b ∷ []) content = record {
      chunks = c.chunks ++ chunk ∷ [];
      all = All-append IsChunk c.chunks (chunk ∷ []) c.all (All-cons IsChunk chunk [] is (All-nil IsChunk));
      whole = ap (λ xs. xs ++ b ∷ []) same ∙ append_assoc earlier (13 ∷ []) (b ∷ []) ∙ ap (λ d. earlier ++ 13 ∷ d ∷ []) feed
          ∙ in_chunk_then earlier content 0 c crlf_bytes
          ∙ ap (λ xs. print_chunks c.chunks ++ xs) (sym (append-nil (print_chunk chunk)))
          ∙ sym (flat_map-append print_chunk c.chunks (chunk ∷ []));
      carried = c.carried ∙ ap (λ xs. data_of c.chunks ++ xs) (sym (append-nil c.part)) ∙ sym (flat_map-append (λ (k : Chunk). k.content) c.chunks (chunk ∷ []));
      within = omega (arith, c.within);
    } in
    nothing_of_line (coded ++ b ∷ []) content at

end_is_bad : (coded content bytes : List ℕ) → InChunk coded content 0 → NeverBeginsLineEnd bytes → IsRefusedCoding errors.Malformed (coded ++ bytes)
end_is_bad coded content bytes c never =
    let little = only_little c.chunks c.line _ (c.part ++ bytes) c.all (in_chunk_little coded content 0 c)
    (in_chunk_only coded content 0 c bytes (subst (λ xs. NoData c.line (c.part ++ xs)) (append-nil bytes) (stuck []))) in (
      inl (λ more. subst HasNoCoding (sym (append_assoc coded bytes more ∙ in_chunk_then coded content 0 c (bytes ++ more)))
          (only_none c.chunks c.line _ (c.part ++ (bytes ++ more)) c.all c.some (in_chunk_only coded content 0 c (bytes ++ more) (stuck more)))),
      subst (λ xs. ¬ (StatesTooMuch xs)) (sym (in_chunk_then coded content 0 c bytes)) little,
    )
  where
    stuck : (more : List ℕ) → NoData c.line (c.part ++ (bytes ++ more))
    stuck more text after some long same =
        let split = same_split c.part text (bytes ++ more) (crlf_bytes ++ after) (omega (arith, long, c.size)) same in
        never more (after, sym split.1)

pub no_return_after_data : (coded content : List ℕ) (b : ℕ) → InChunk coded content 0 → b ≢ 13 → IsRefusedCoding errors.Malformed (coded ++ b ∷ [])
no_return_after_data coded content b c other = end_is_bad coded content (b ∷ []) c never
  where
    never : NeverBeginsLineEnd (b ∷ [])
    never more (rest, begins) = let e : b ≡ 13 = cc in other e

pub no_feed_after_data : (coded content : List ℕ) (b : ℕ) → BeforeReturn (λ earlier. InChunk earlier content 0) coded → b ≢ 10
    → IsRefusedCoding errors.Malformed (coded ++ b ∷ [])
no_feed_after_data coded content b (earlier, c, same) other =
    subst (λ xs. IsRefusedCoding errors.Malformed xs) (sym (ap (λ xs. xs ++ b ∷ []) same ∙ append_assoc earlier (13 ∷ []) (b ∷ []))) (end_is_bad earlier content (13 ∷ b ∷ []) c never)
  where
    never : NeverBeginsLineEnd (13 ∷ b ∷ [])
    never more (rest, begins) = let e : b ≡ 10 = cc in other e
