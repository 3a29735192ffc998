-- Which bytes have more header lines than a head may have, by the lines that have ended.
use Rattle.std.proofs.Common.{◌≡◌, ℕ, ◌+◌, ◌<◌, ◌≤◌, ◌⊎◌, inl, inr, List, [], ◌∷◌, ◌++◌, length, take, drop, refl, sym, ap, ◌∙◌, subst, arith, append_assoc, append-nil, length-append}
use Rattle.std.proofs.lemmas.List.{take_at, take-append-le, take-append-drop}
use Rattle.std.proofs.lemmas.Bool.{cases_lt}
use Rattle.httparse.specs.Grammar.{RequestHead, print_request, ReadsRequest, NeverHasRequest}
use Rattle.httparse.specs.Spans.{RequestExceeds}
use Rattle.httparse.proofs.GrammarLemmas.{request_unique}
use Rattle.sc_model.specs.Heads.{line_limit}
use Rattle.sc_model.specs.Messages.{HasHead, HasTooManyLines}
use Rattle.sc_http.specs.LineEnds.{line_ends, EndsLine}
use Rattle.sc_http.proofs.HeadEndLemmas.{but_last, head_splits}
use Rattle.sc_http.proofs.LineEndLemmas.{feeds, feeds-append, ends_more, ends-append, ends_one_more, ends_but_last}
use Rattle.sc_http.proofs.MessageLemmas.{same_split}

-- of two lists that begin the same list the shorter one begins the longer one
pub begins_longer : (xs ys zs ws : List ℕ) → xs ++ ys ≡ zs ++ ws → length zs ≤ length xs → (more : List ℕ) × (xs ≡ zs ++ more)
begins_longer xs ys zs ws same short = (
  drop (length zs) xs,
  sym (take-append-drop (length zs) xs)
      ∙ ap (λ k. k ++ drop (length zs) xs) (sym (take-append-le (length zs) xs ys short) ∙ ap (take (length zs)) same ∙ take_at zs ws (length zs) refl),
)

same_but_last : (xs ys : List ℕ) → xs ++ 10 ∷ [] ≡ ys ++ 10 ∷ [] → xs ≡ ys
same_but_last xs ys same =
    let a = length-append xs (10 ∷ []) in
    let b = length-append ys (10 ∷ []) in
    let c = ap length same in
    (same_split xs ys (10 ∷ []) (10 ∷ []) (omega (arith, a, b, c)) same).0

-- bytes with more header lines than the room have as many line ends
pub exceeds_ends : (room : ℕ) (bytes : List ℕ) → RequestExceeds room bytes → room + 2 ≤ line_ends bytes
exceeds_ends room bytes (prefix, rest, split, h, reads, many) =
    let same : prefix ≡ but_last h = same_but_last prefix (but_last h) (reads.1 ∙ append-nil (print_request h) ∙ head_splits h) in
    let a = ends_but_last h reads.0 in
    let b = ends_more prefix rest in
    let c : line_ends prefix ≡ line_ends (but_last h) = ap line_ends same in
    let d : line_ends bytes ≡ line_ends (prefix ++ rest) = ap line_ends split in
    omega (arith, a, b, c, d, many)

pub few_by_ends : (bytes : List ℕ) → line_ends bytes < 130 → ¬ (HasTooManyLines bytes)
few_by_ends bytes few exceeds = omega (arith, few, exceeds_ends line_limit bytes exceeds)

-- bytes that end with the end of a line have no more line ends
pub ends_judged : (bytes : List ℕ) → EndsLine 130 bytes → line_ends bytes ≤ 130
ends_judged bytes last =
    let a : line_ends bytes ≡ line_ends (last.before ++ 10 ∷ []) = ap line_ends last.is in
    omega (arith, a, ends_one_more last.before 10, last.ended)

-- a head in bytes with no more line ends has no more header lines than may be
pub few_fields : (bytes : List ℕ) (h : RequestHead) (rest : List ℕ) → ReadsRequest bytes h rest → line_ends bytes ≤ 130 → length h.fields ≤ line_limit
few_fields bytes h rest reads few =
    let whole : bytes ≡ but_last h ++ (10 ∷ rest) = reads.1 ∙ ap (λ xs. xs ++ rest) (head_splits h) ∙ append_assoc (but_last h) (10 ∷ []) rest in
    let a = ends_but_last h reads.0 in
    let some : 0 < line_ends (but_last h) = omega (arith, a) in
    let b = ends-append (but_last h) (10 ∷ rest) some in
    let c : line_ends bytes ≡ line_ends (but_last h ++ (10 ∷ rest)) = ap line_ends whole in
    let d : feeds (10 ∷ rest) ≡ 1 + feeds rest = feeds-append (10 ∷ []) rest in
    omega (arith, a, b, c, d, few)

-- where the last line feed shows that no head comes, the lines were not too many before it
pub few_where_never : (bytes : List ℕ) → EndsLine 130 bytes → NeverHasRequest bytes → ¬ (HasTooManyLines bytes)
few_where_never bytes last never (prefix, [], split, h, reads, many) =
    never (10 ∷ []) h [] (subst (λ (xs : List ℕ). ReadsRequest (xs ++ 10 ∷ []) h []) (sym (split ∙ append-nil prefix)) reads)
few_where_never bytes last never (prefix, r ∷ rest, split, h, reads, many) =
    let same : last.before ++ 10 ∷ [] ≡ prefix ++ (r ∷ rest) = sym last.is ∙ split in
    let lengths : length last.before + 1 ≡ length prefix + (1 + length rest) = sym (length-append last.before (10 ∷ [])) ∙ ap length same ∙ length-append prefix (r ∷ rest) ∙ omega arith in
    let part = begins_longer last.before (10 ∷ []) prefix (r ∷ rest) same (omega (arith, lengths)) in
    let a = ends_more prefix part.0 in
    let b : line_ends last.before ≡ line_ends (prefix ++ part.0) = ap line_ends part.1 in
    let c = exceeds_ends line_limit prefix (prefix, [], sym (append-nil prefix), h, reads, many) in
    omega (arith, a, b, c, last.ended)

-- a head within its limits has no more header lines than may be
pub few_in_head : (bytes : List ℕ) (h : RequestHead) (rest : List ℕ) → HasHead bytes h rest → ¬ (HasTooManyLines bytes)
few_in_head bytes h rest has (prefix, more, split, k, reads, many) = by_length (cases_lt (length prefix) (length (print_request h)))
  where
    by_length : (length prefix < length (print_request h)) ⊎ (length (print_request h) ≤ length prefix) → ⊥
    by_length (inl less) =
        let whole : but_last h ++ (10 ∷ rest) ≡ prefix ++ more = sym (has.reads.1 ∙ ap (λ xs. xs ++ rest) (head_splits h) ∙ append_assoc (but_last h) (10 ∷ []) rest) ∙ split in
        let long = ap length (head_splits h) ∙ length-append (but_last h) (10 ∷ []) in
        let part = begins_longer (but_last h) (10 ∷ rest) prefix more whole (omega (arith, less, long)) in
        let a = ends_more prefix part.0 in
        let b : line_ends (but_last h) ≡ line_ends (prefix ++ part.0) = ap line_ends part.1 in
        let c = exceeds_ends line_limit prefix (prefix, [], sym (append-nil prefix), k, reads, many) in
        omega (arith, a, b, c, ends_but_last h has.reads.0, has.lines_within)
    by_length (inr more_of) =
        let part = begins_longer prefix more (print_request h) rest (sym split ∙ has.reads.1) more_of in
        let same = request_unique (prefix ++ 10 ∷ []) h k (part.0 ++ 10 ∷ []) []
        (has.reads.0, ap (λ xs. xs ++ 10 ∷ []) part.1 ∙ append_assoc (print_request h) part.0 (10 ∷ [])) reads in
        let a = ap length same.1 in
        let b = length-append part.0 (10 ∷ []) in
        omega (arith, a, b)
