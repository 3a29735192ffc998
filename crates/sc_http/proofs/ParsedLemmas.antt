-- What the spans of a parsed head say of it.
use Rattle.std.proofs.Common.{◌≡◌, ◌≢◌, ℕ, ◌<◌, ◌≤◌, ◌⊎◌, inl, inr, Bool, true, false, List, ◌++◌, length, take, drop, map, min, Ok, Err, Option, Some, None, Result, codes, refl, sym, ap, ◌∙◌, subst, arith, length-take, length-append, append_assoc}
use Rattle.std.specs.Prelude.{IfErr, IfSome, ◌==◌, ◌+◌, filter, not}
use Rattle.std.specs.Option.{unwrap_or, is_some}
use Rattle.std.specs.List.{list_any}
use Rattle.std.proofs.lemmas.Bool.{cases_lt, eq-eqb, ne_eqb, false≢true}
use Rattle.std.proofs.lemmas.List.{length-map, length-take-le, take_all, take-append-drop, drop-append-le}
use Rattle.httparse.specs.Grammar.{RequestHead, HasNoRequest, NeverHasRequest, MayBecomeRequest}
use Rattle.httparse.specs.Outcome.{IfComplete, OnPartial}
use Rattle.httparse.specs.declared.Error.{Error}
use Rattle.httparse.specs.declared.Error.TheVariants as errors
use Rattle.httparse.specs.declared.Status.{Status}
use Rattle.httparse.specs.declared.Status.TheVariants as statuses
use Rattle.httparse.specs.Spans.{header_bytes, name_and_value, IsRequestAt, IsRequestOf, IsRequestWithin, RequestExceeds}
use Rattle.httparse.specs.declared.spans.HeaderSpan.{HeaderSpan}
use Rattle.httparse.specs.declared.spans.RequestSpans.{RequestSpans}
use Rattle.sc_model.specs.Heads.{head_limit, line_limit, is_framing, framing_by, body_framing, is_lengthless, is_head, asks_close, says_close, is_coding, is_encoded}
use Rattle.sc_model.specs.Messages.{HasHead, window, HasTooManyLines, EndsInHead, EndsSo, bad_head, too_large}
use Rattle.sc_http.specs.Ends.{ending_of}
use Rattle.sc_http.specs.Lines.{line_values, IsHeadOf}
use Rattle.sc_http.specs.LineEnds.{line_ends, EndsLine}
use Rattle.sc_http.specs.declared.head.Head.{Head}
use Rattle.sc_http.specs.declared.end.MessageEnd.{MessageEnd}
use Rattle.sc_http.specs.declared.end.MessageEnd.TheVariants as ends
use Rattle.sc_http.proofs.HeaderLemmas.{values_of_head}
use Rattle.sc_http.proofs.MessageLemmas.{HasHead-append, ends-append, exceeds-append}
use Rattle.sc_http.proofs.LineLimitLemmas.{exceeds_ends, few_by_ends, ends_judged, few_fields, few_where_never}
use Rattle.sc_http.proofs.LineSplitLemmas.{many_where_open}

module _ (bytes : List ℕ) (headers : List HeaderSpan) (spans : RequestSpans) (h : RequestHead) (at : IsRequestAt bytes headers spans h) where
  -- the lines are those of the head
  pub lines_are : (lines : List HeaderSpan) → lines ≡ take spans.headers headers → map (header_bytes bytes) lines ≡ map name_and_value h.fields
  lines_are lines e = ap (map (header_bytes bytes)) e ∙ at.fields

  pub framing_said : (lines : List HeaderSpan) → lines ≡ take spans.headers headers
      → framing_by (filter is_framing (map (header_bytes bytes) lines)) ≡ body_framing h
  framing_said lines e = ap (λ ps. framing_by (filter is_framing ps)) (lines_are lines e)

  pub lengthless_said : (lines : List HeaderSpan) → lines ≡ take spans.headers headers → (r : Bool)
      → r ≡ list_any is_framing (map (header_bytes bytes) lines) → not r ≡ is_lengthless h
  lengthless_said lines e r is = ap not (is ∙ ap (list_any is_framing) (lines_are lines e))

  pub encoded_said : (lines : List HeaderSpan) → lines ≡ take spans.headers headers → (r : Bool)
      → r ≡ list_any is_coding (line_values (codes "content-encoding") (map (header_bytes bytes) lines)) → r ≡ is_encoded h
  encoded_said lines e r is =
      is ∙ ap (λ ps. list_any is_coding (line_values (codes "content-encoding") ps)) (lines_are lines e)
      ∙ ap (list_any is_coding) (sym (values_of_head (codes "content-encoding") h))

  -- HTTP/1.0 closes
  pub old_closes : spans.version ≡ 0 → true ≡ asks_close h
  old_closes zero = let e : (h.minor == 0) ≡ true = eq-eqb h.minor 0 (sym at.version ∙ zero) in rw (e) refl

  later_version : spans.version ≢ 0 → (h.minor == 0) ≡ false
  later_version other = ne_eqb h.minor 0 (λ z. other (at.version ∙ z))

  -- an answer to HEAD closes
  pub head_closes : spans.version ≢ 0 → is_head h.method ≡ true → true ≡ asks_close h
  head_closes other e = rw (later_version other, e) refl

  pub close_said : (lines : List HeaderSpan) → lines ≡ take spans.headers headers → spans.version ≢ 0 → is_head h.method ≡ false → (r : Bool)
      → r ≡ list_any says_close (line_values (codes "connection") (map (header_bytes bytes) lines)) → r ≡ asks_close h
  close_said lines same other e r is =
      rw (later_version other, e) (is ∙ ap (λ ps. list_any says_close (line_values (codes "connection") ps)) (lines_are lines same)
      ∙ ap (list_any says_close) (sym (values_of_head (codes "connection") h)))

  -- the head comes first, within its limits
  pub head_is : IsRequestWithin bytes headers spans → length bytes ≤ head_limit → spans.headers ≤ line_limit → HasHead bytes h (drop spans.len bytes)
  head_is within size room =
      let count = sym (length-map h.fields name_and_value) ∙ ap length (sym at.fields) ∙ length-map (take spans.headers headers) (header_bytes bytes) in
      record {
        reads = at.reads;
        bytes_within = omega (arith, at.len, within.section.len_fits);
        lines_within = omega (arith, count, length-take spans.headers headers);
      }

-- the window of bytes, as it is cut
pub window_is : (bytes : List ℕ) (n : ℕ) → n ≡ min (length bytes) head_limit → take n bytes ≡ window bytes
window_is bytes n is = by_length (cases_lt (length bytes) head_limit)
  where
    by_length : (length bytes < head_limit) ⊎ (head_limit ≤ length bytes) → take n bytes ≡ window bytes
    by_length (inl less) =
        let all : length bytes ≤ n = omega arith in
        let fits : length bytes ≤ head_limit = omega arith in
        take_all n bytes all ∙ sym (take_all head_limit bytes fits)
    by_length (inr full) = let same : n ≡ head_limit = omega arith in ap (λ k. take k bytes) same

-- what begins more bytes
pub head_in_more : (bytes more : List ℕ) (kept : Head) → IsHeadOf bytes kept → IsHeadOf (bytes ++ more) kept
head_in_more bytes more kept of = record {
  head = of.head;
  has = subst (λ (xs : List ℕ). HasHead (bytes ++ more) of.head xs) (sym (drop-append-le kept.size bytes more of.fits))
      (HasHead-append bytes of.head (drop kept.size bytes) more of.has);
  fits = omega (arith, of.fits, length-append bytes more);
  describes = of.describes;
}

-- an error that no more bytes can mend
pub end_in_more : (r : Result Head MessageEnd) (bytes more : List ℕ) → IfErr r (λ end. IfSome (ending_of end) (EndsSo bytes))
    → r ≢ Err ends.Done → r ≢ Err ends.Cut → IfErr r (λ end. IfSome (ending_of end) (EndsSo (bytes ++ more)))
end_in_more (Ok head) bytes more e not_done not_cut = tt
end_in_more (Err ends.Done) bytes more e not_done not_cut = absurd (not_done refl)
end_in_more (Err ends.Cut) bytes more e not_done not_cut = absurd (not_cut refl)
end_in_more (Err ends.BadHead) bytes more e not_done not_cut = ends-append bytes more bad_head (λ same. cc) (λ same. cc) e
end_in_more (Err ends.TooLarge) bytes more e not_done not_cut = ends-append bytes more too_large (λ same. cc) (λ same. cc) e
end_in_more (Err ends.ReadFault) bytes more e not_done not_cut = tt
end_in_more (Err ends.Memory) bytes more e not_done not_cut = tt

-- what a clause says where the parse is partial
pub partial_says : {r : Result (Status RequestSpans) Error} {P : Type 0} → r ≡ Ok statuses.Partial → OnPartial r P → P
partial_says {r} {P} e says = subst (λ (x : Result (Status RequestSpans) Error). OnPartial x P) e says

-- what a clause says where the parse is complete
pub complete_says : {r : Result (Status RequestSpans) Error} (P : RequestSpans → Type 0) {spans : RequestSpans} → r ≡ Ok (statuses.Complete spans) → IfComplete r P → P spans
complete_says {r} P e says = subst (λ (x : Result (Status RequestSpans) Error). IfComplete x P) e says

-- ---- the part of the bytes that is judged

-- it ends with the first header line above the most, or it is the whole window, which has no such line
abbrev pub IsJudgedBy : Option ℕ → List ℕ → List ℕ → Type 0
IsJudgedBy excess window judged =
    (EndsLine 130 judged × (excess ≢ None)) ⊎ ((judged ≡ window) × (line_ends judged < 130) × (excess ≡ None))

pub judged_by : (window : List ℕ) (excess : Option ℕ) (n : ℕ) → n ≡ unwrap_or excess (length window)
    → IfSome excess (λ end. EndsLine 130 (take end window)) → (excess ≡ None → line_ends window < 130) → IsJudgedBy excess window (take n window)
judged_by window None n is found fewer =
    let all : take n window ≡ window = take_all n window (omega (arith, is)) in
    inr (all, subst (λ (xs : List ℕ). line_ends xs < 130) (sym all) (fewer refl), refl)
judged_by window (Some end) n is found fewer = inl (subst (λ k. EndsLine 130 (take k window)) (sym is) found, (λ e. cc))

pub judged_all : (bytes : List ℕ) (m n : ℕ) → take n (take m bytes) ++ (drop n (take m bytes) ++ drop m bytes) ≡ bytes
judged_all bytes m n =
    sym (append_assoc (take n (take m bytes)) (drop n (take m bytes)) (drop m bytes)) ∙ ap (λ xs. xs ++ drop m bytes) (take-append-drop n (take m bytes)) ∙ take-append-drop m bytes

pub is_there : {X : Type 0} (o : Option X) → is_some o ≡ true → o ≢ None
is_there None some = absurd (false≢true some)
is_there (Some x) some = λ e. cc

pub is_not_there : {X : Type 0} (o : Option X) → is_some o ≡ false → o ≡ None
is_not_there None none = refl
is_not_there (Some x) none = absurd (false≢true (sym none))

abbrev pub IsJudged : Option ℕ → List ℕ → List ℕ → List ℕ → Type 0
IsJudged excess bytes judged after = IsJudgedBy excess (window bytes) judged × (window bytes ≡ judged ++ after)

-- as it is cut from the bytes
pub judged_is : (bytes : List ℕ) (excess : Option ℕ) (m n : ℕ) → m ≡ min (length bytes) head_limit → n ≡ unwrap_or excess (length (take m bytes))
    → IfSome excess (λ end. EndsLine 130 (take end (take m bytes))) → (excess ≡ None → line_ends (take m bytes) < 130)
    → IsJudged excess bytes (take n (take m bytes)) (drop n (take m bytes))
judged_is bytes excess m n is at found fewer =
    let same = window_is bytes m is in (
      subst (λ (w : List ℕ). IsJudgedBy excess w (take n (take m bytes))) same (judged_by (take m bytes) excess n at found fewer),
      sym same ∙ sym (take-append-drop n (take m bytes)),
    )

module _ (excess : Option ℕ) (bytes judged after : List ℕ) (is : IsJudged excess bytes judged after) where
  by : IsJudgedBy excess (window bytes) judged
  by = is.0

  whole : window bytes ≡ judged ++ after
  whole = is.1

  judged_ends : line_ends judged ≤ 130
  judged_ends = elim by [ inl over ↦ ends_judged judged over.0 | inr all ↦ omega (arith, all.1) ]

  -- no more header lines come than may be
  pub lines_few : (headers : List HeaderSpan) (spans : RequestSpans) → IsRequestOf judged headers spans → IsRequestWithin judged headers spans
      → spans.headers ≤ line_limit
  lines_few headers spans (h, at) within =
      let count = sym (length-map h.fields name_and_value) ∙ ap length (sym at.fields) ∙ length-map (take spans.headers headers) (header_bytes judged) in
      let kept = length-take-le spans.headers headers within.section.count_fits in
      omega (arith, count, kept, few_fields judged h (drop spans.len judged) at.reads judged_ends)

  -- the input is too large where no head is whole and it goes on
  pub partial_large : (excess ≢ None) ⊎ (head_limit < length bytes) → HasNoRequest judged → MayBecomeRequest judged → EndsSo bytes too_large
  partial_large past none may = elim by [
    | inl over ↦
        inr (inl (subst HasTooManyLines (sym whole) (exceeds-append judged after (many_where_open judged over.0 none may))))
    | inr all ↦ elim past [
      | inl some ↦ absurd (some all.2)
      | inr long ↦ inl (record { more = long; partial = subst HasNoRequest all.0 none; open_ = subst MayBecomeRequest all.0 may })
    ]
  ]

  -- it is cut where it ends before a limit
  pub partial_cut : excess ≡ None → 0 < length bytes → length bytes ≤ head_limit → HasNoRequest judged → MayBecomeRequest judged → EndsInHead bytes
  partial_cut none some short partial may = elim by [
    | inl over ↦ absurd (over.1 none)
    | inr all ↦
        let same : judged ≡ bytes = all.0 ∙ take_all head_limit bytes short in
        record {
          some = some;
          within = short;
          few_lines = subst (λ (xs : List ℕ). ¬ (HasTooManyLines xs)) same (few_by_ends judged all.1);
          partial = subst HasNoRequest same partial;
          open_ = subst MayBecomeRequest same may;
        }
  ]

  -- an error of the parser is a malformed head
  pub refused_malformed : (error : Error) → (error ≡ errors.TooManyHeaders → RequestExceeds (line_limit + 1) judged) → (error ≢ errors.TooManyHeaders → NeverHasRequest judged)
      → EndsSo bytes bad_head
  refused_malformed error exceeds never =
      let other : error ≢ errors.TooManyHeaders = λ e. omega (arith, exceeds_ends (line_limit + 1) judged (exceeds e), judged_ends) in
      let none = never other in
      let short = length-take head_limit bytes in
      let parts = ap length whole ∙ length-append judged after in
      inl (record {
        prefix = judged;
        begins = (after ++ drop head_limit bytes, sym (append_assoc judged after (drop head_limit bytes)) ∙ ap (λ xs. xs ++ drop head_limit bytes) (sym whole) ∙ take-append-drop head_limit bytes);
        never = none;
        within = omega (arith, short, parts);
        few_lines = elim by [ inl over ↦ few_where_never judged over.0 none | inr all ↦ few_by_ends judged all.1 ];
      })
