-- The search for the end of a head comes to it after the head's last byte, and not before.
use Rattle.std.proofs.Common.{◌≡◌, ◌≢◌, inl, inr, ℕ, ◌+◌, ◌<◌, Bool, true, false, IsTrue, All, List, [], ◌∷◌, ◌++◌, length, refl, sym, ap, ◌∙◌, subst, arith, append_assoc, append-nil, length-append, ◌-◌, take, drop}
use Rattle.std.proofs.Math.Seq.{take-append-add}
use Rattle.std.proofs.lemmas.List.{take_rest, take_at, take-append-drop}
use Rattle.std.specs.List.{fold, flat_map}
use Rattle.std.proofs.lemmas.List.Sums.{fold-append}
use Rattle.std.proofs.lemmas.List.Folds.{fold_stays}
use Rattle.std.proofs.lemmas.List.Elements.{All-head, All-tail, All-weaker}
use Rattle.std.proofs.lemmas.Bool.{ne_eqb}
use Rattle.httparse.specs.Grammar.{AllPass, LineEnd, crlf, lf, print_end, print_blank, print_version, Field, IsField, print_field, RequestHead, print_request, ReadsRequest, IsRequestHead, HasNoRequest, MayBecomeRequest, is_token_byte, is_uri_byte, is_value_byte}
use Rattle.httparse.specs.Pieces.{is_newline}
use Rattle.httparse.proofs.GrammarLemmas.{print_request-append}
use Rattle.httparse.proofs.PieceLemmas.{token_is_no_newline}
use Rattle.sc_http.specs.HeadEnd.{next_progress}
use Rattle.sc_http.specs.declared.head_end.HeadProgress.{HeadProgress}
use Rattle.sc_http.specs.declared.head_end.HeadProgress.TheVariants as stages

-- the progress after these bytes
abbrev pub progress_after : HeadProgress → List ℕ → HeadProgress
progress_after progress bytes = fold next_progress progress bytes

-- the byte ends no line
abbrev pub IsPlain : ℕ → Type 0
IsPlain b = (b ≢ 10) × (b ≢ 13)

after-append : (progress between : HeadProgress) (xs ys : List ℕ) → progress_after progress xs ≡ between → progress_after progress (xs ++ ys) ≡ progress_after between ys
after-append progress between xs ys e = fold-append next_progress progress xs ys ∙ ap (λ p. progress_after p ys) e

-- after the end nothing more is looked at
pub end_stays : (bytes : List ℕ) → progress_after stages.End bytes ≡ stages.End
end_stays bytes = fold_stays next_progress stages.End (λ b. refl) bytes

step_plain : (progress : HeadProgress) (b : ℕ) → IsPlain b → progress ≢ stages.End → next_progress progress b ≡ stages.Text
step_plain stages.Before b plain open_ = rw (ne_eqb b 10 plain.0, ne_eqb b 13 plain.1)
step_plain stages.Text b plain open_ = rw (ne_eqb b 10 plain.0)
step_plain stages.LineStart b plain open_ = rw (ne_eqb b 10 plain.0, ne_eqb b 13 plain.1)
step_plain stages.LineStartReturn b plain open_ = rw (ne_eqb b 10 plain.0)
step_plain stages.End b plain open_ = absurd (open_ refl)

text_stays : (bytes : List ℕ) → All IsPlain bytes → progress_after stages.Text bytes ≡ stages.Text
text_stays [] plain = refl
text_stays (b ∷ bytes) plain =
    ap (λ p. progress_after p bytes) (step_plain stages.Text b (All-head IsPlain b bytes plain) (λ e. cc))
    ∙ text_stays bytes (All-tail IsPlain b bytes plain)

text_begins : (progress : HeadProgress) (bytes : List ℕ) → progress ≢ stages.End → 0 < length bytes → All IsPlain bytes → progress_after progress bytes ≡ stages.Text
text_begins progress [] open_ some plain = absurd (omega arith)
text_begins progress (b ∷ bytes) open_ some plain =
    ap (λ p. progress_after p bytes) (step_plain progress b (All-head IsPlain b bytes plain) open_)
    ∙ text_stays bytes (All-tail IsPlain b bytes plain)

-- what passes a test that no line end passes is plain
pub plain_by : (test : ℕ → Bool) → test 10 ≡ false → test 13 ≡ false → (bytes : List ℕ) → AllPass test bytes → All IsPlain bytes
plain_by test feed return bytes pass =
    All-weaker (λ b. IsTrue (test b)) IsPlain
    (λ b yes. (
      (λ e. let at : test 10 ≡ true = subst (λ v. test v ≡ true) e yes in cc),
      (λ e. let at : test 13 ≡ true = subst (λ v. test v ≡ true) e yes in cc),
    )) bytes pass

pub plain_token : (bytes : List ℕ) → AllPass is_token_byte bytes → All IsPlain bytes
plain_token bytes pass =
    All-weaker (λ b. IsTrue (is_token_byte b)) IsPlain
    (λ b yes. (
      (λ e. let at : is_newline 10 ≡ false = subst (λ v. is_newline v ≡ false) e (token_is_no_newline b yes) in cc),
      (λ e. let at : is_newline 13 ≡ false = subst (λ v. is_newline v ≡ false) e (token_is_no_newline b yes) in cc),
    )) bytes pass

plain_version : (minor : ℕ) → minor < 2 → progress_after stages.Text (print_version minor) ≡ stages.Text
plain_version minor small = step_plain stages.Text (48 + minor) ((λ e. omega arith), (λ e. omega arith)) (λ e. cc)

blank_stays : (ends : List LineEnd) → progress_after stages.Before (print_blank ends) ≡ stages.Before
blank_stays [] = refl
blank_stays (crlf ∷ ends) = blank_stays ends
blank_stays (lf ∷ ends) = blank_stays ends

line_ends : (end : LineEnd) → progress_after stages.Text (print_end end) ≡ stages.LineStart
line_ends crlf = refl
line_ends lf = refl

field_ends : (field : Field) → IsField field → progress_after stages.LineStart (print_field field) ≡ stages.LineStart
field_ends field is =
    ap (progress_after stages.LineStart) (append_assoc field.name (58 ∷ field.raw) (print_end field.end))
    ∙ (after-append stages.LineStart stages.Text field.name (58 ∷ (field.raw ++ print_end field.end))
    (text_begins stages.LineStart field.name (λ e. cc) is.name.0 (plain_token field.name is.name.1)))
    ∙ (after-append stages.Text stages.Text field.raw (print_end field.end) (text_stays field.raw (plain_by is_value_byte refl refl field.raw is.raw)))
    ∙ line_ends field.end

fields_end : (fields : List Field) → All IsField fields → progress_after stages.LineStart (flat_map print_field fields) ≡ stages.LineStart
fields_end [] all = refl
fields_end (field ∷ fields) all =
    after-append stages.LineStart stages.LineStart (print_field field) (flat_map print_field fields) (field_ends field (All-head IsField field fields all))
    ∙ fields_end fields (All-tail IsField field fields all)

-- what stands before the line feed of a line's end
abbrev pub before_feed : LineEnd → List ℕ
before_feed crlf = 13 ∷ []
before_feed lf = []

pub feed_splits : (end : LineEnd) → print_end end ≡ before_feed end ++ 10 ∷ []
feed_splits crlf = refl
feed_splits lf = refl

feed_closes : (end : LineEnd) → next_progress (progress_after stages.LineStart (before_feed end)) 10 ≡ stages.End
feed_closes crlf = refl
feed_closes lf = refl

-- the bytes of a head before its last one
abbrev pub but_last : RequestHead → List ℕ
but_last h =
    print_blank h.blank ++ (h.method ++ 32 ∷ (h.target ++ 32 ∷ (print_version h.minor
    ++ (print_end h.line_end ++ (flat_map print_field h.fields ++ before_feed h.last)))))

cons-append : (x : ℕ) (a b : List ℕ) → (x ∷ a) ++ b ≡ x ∷ (a ++ b)
cons-append x a b = refl

pub head_splits : (h : RequestHead) → print_request h ≡ but_last h ++ 10 ∷ []
head_splits h =
    sym (append-nil (print_request h)) ∙ print_request-append h []
    ∙ regroup (print_blank h.blank) h.method h.target (print_version h.minor) (print_end h.line_end)
    (flat_map print_field h.fields) (print_end h.last) (before_feed h.last) (feed_splits h.last)
  where
    regroup : (a b c d e f g k : List ℕ) → g ≡ k ++ 10 ∷ []
        → a ++ (b ++ 32 ∷ (c ++ 32 ∷ (d ++ (e ++ ((f ++ g) ++ [])))))
        ≡ (a ++ (b ++ 32 ∷ (c ++ 32 ∷ (d ++ (e ++ (f ++ k)))))) ++ 10 ∷ []
    regroup a b c d e f g k split = rw split (simp (append_assoc, append-nil, cons-append))

-- after all but the last byte of a head the progress is that before the last line feed
but_last_progress : (h : RequestHead) → IsRequestHead h → progress_after stages.Before (but_last h) ≡ progress_after stages.LineStart (before_feed h.last)
but_last_progress h is =
    let headers = flat_map print_field h.fields ++ before_feed h.last in
    let line = print_end h.line_end ++ headers in
    let version = print_version h.minor ++ line in
    let target = h.target ++ 32 ∷ version in
    after-append stages.Before stages.Before (print_blank h.blank) (h.method ++ 32 ∷ target) (blank_stays h.blank)
    ∙ after-append stages.Before stages.Text h.method (32 ∷ target) (text_begins stages.Before h.method (λ e. cc) is.method.0 (plain_token h.method is.method.1))
    ∙ after-append stages.Text stages.Text h.target (32 ∷ version) (text_stays h.target (plain_by is_uri_byte refl refl h.target is.target.1))
    ∙ after-append stages.Text stages.Text (print_version h.minor) line (plain_version h.minor (omega arith))
    ∙ after-append stages.Text stages.LineStart (print_end h.line_end) headers (line_ends h.line_end)
    ∙ after-append stages.LineStart stages.LineStart (flat_map print_field h.fields) (before_feed h.last) (fields_end h.fields is.fields)

-- the search finds the end of a head that comes first
pub end_of_head : (bytes : List ℕ) (h : RequestHead) (rest : List ℕ) → ReadsRequest bytes h rest → progress_after stages.Before bytes ≡ stages.End
end_of_head bytes h rest reads =
    let split : bytes ≡ but_last h ++ (10 ∷ rest) = rw (reads.1, head_splits h, append_assoc) refl in
    ap (progress_after stages.Before) split
    ∙ after-append stages.Before _ (but_last h) (10 ∷ rest) (but_last_progress h reads.0)
    ∙ ap (λ p. progress_after p rest) (feed_closes h.last)
    ∙ end_stays rest

-- a search that goes on from where it stopped has searched all
pub search_goes_on : (progress result : HeadProgress) (bytes same : List ℕ) (searched : ℕ) → same ≡ bytes → progress ≡ progress_after stages.Before (take searched bytes)
    → result ≡ progress_after progress (take (length same - searched) (drop searched same)) → result ≡ progress_after stages.Before bytes
search_goes_on progress result bytes same searched is before next =
    next ∙ ap (λ xs. progress_after progress (take (length xs - searched) (drop searched xs))) is
    ∙ ap (progress_after progress) (take_rest bytes searched)
    ∙ ap (λ p. progress_after p (drop searched bytes)) before
    ∙ sym (fold-append next_progress stages.Before (take searched bytes) (drop searched bytes))
    ∙ ap (progress_after stages.Before) (take-append-drop searched bytes)

-- the same once more bytes have come
pub progress_kept : (result : HeadProgress) (bytes more after : List ℕ) (searched : ℕ) → result ≡ progress_after stages.Before bytes → searched ≡ length bytes
    → after ≡ bytes ++ more → result ≡ progress_after stages.Before (take searched after)
progress_kept result bytes more after searched here all grown =
    here ∙ ap (progress_after stages.Before) (sym (take_at bytes more searched (sym all)) ∙ ap (take searched) (sym grown))

feed_open : (end : LineEnd) → progress_after stages.LineStart (before_feed end) ≡ stages.End → ⊥
feed_open crlf e = apart e
  where
    apart : stages.LineStartReturn ≡ stages.End → ⊥
    apart same = cc
feed_open lf e = apart e
  where
    apart : stages.LineStart ≡ stages.End → ⊥
    apart same = cc

-- a part of a head that lacks its last byte has no end
part_is_open : (h : RequestHead) (bytes more : List ℕ) → IsRequestHead h → bytes ++ more ≡ but_last h ++ 10 ∷ [] → 0 < length more
    → progress_after stages.Before bytes ≡ stages.End → ⊥
part_is_open h bytes more is whole some found =
    let total = length-append (but_last h) (10 ∷ []) in
    let parts = length-append bytes more in
    let same = ap length whole in
    let n = length (but_last h) - length bytes in
    let split : length (but_last h) ≡ length bytes + n = omega (arith, total, parts, same) in
    let prefix : but_last h ≡ bytes ++ take n more =
    sym (take_at (but_last h) (10 ∷ []) (length (but_last h)) refl) ∙ ap (take (length (but_last h))) (sym whole)
    ∙ ap (λ k. take k (bytes ++ more)) split ∙ take-append-add bytes more n in
    feed_open h.last (sym (but_last_progress h is) ∙ ap (progress_after stages.Before) prefix ∙ after-append stages.Before stages.End bytes (take n more) found ∙ end_stays (take n more))

-- bytes that are no head yet, and may become one, have no end of a head
pub open_not_found : (bytes : List ℕ) → HasNoRequest bytes → MayBecomeRequest bytes → progress_after stages.Before bytes ≡ stages.End → ⊥
open_not_found bytes none (inl ([], h, reads)) found = none h [] (subst (λ (xs : List ℕ). ReadsRequest xs h []) (append-nil bytes) reads)
open_not_found bytes none (inl (m ∷ more, h, reads)) found =
    let some : 0 < length (m ∷ more) = omega arith in
    part_is_open h bytes (m ∷ more) reads.0 (reads.1 ∙ append-nil (print_request h) ∙ head_splits h) some found
open_not_found bytes none (inr (blank, method, target, token, uri, split)) found =
    apart (sym (ap (progress_after stages.Before) (split ∙ append_assoc (print_blank blank) method (32 ∷ target))
    ∙ after-append stages.Before stages.Before (print_blank blank) (method ++ 32 ∷ target) (blank_stays blank)
    ∙ after-append stages.Before stages.Text method (32 ∷ target) (text_begins stages.Before method (λ e. cc) token.0 (plain_token method token.1))
    ∙ text_stays target (plain_by is_uri_byte refl refl target uri)) ∙ found)
  where
    apart : stages.Text ≡ stages.End → ⊥
    apart same = cc
