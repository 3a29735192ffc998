-- Bytes that may become a head and end with a header line above the most have too many of them.
use Rattle.std.proofs.Common.{◌≡◌, ℕ, ◌+◌, ◌<◌, ◌⊎◌, inl, inr, true, All, List, [], ◌∷◌, ◌++◌, length, refl, sym, ap, ◌∙◌, subst, arith, append_assoc, append-nil, length-append}
use Rattle.std.specs.List.{flat_map}
use Rattle.std.proofs.lemmas.List.Elements.{All-head, All-tail, All-cons, All-nil}
use Rattle.httparse.specs.Grammar.{LineEnd, crlf, lf, print_end, print_blank, print_version, Field, IsField, print_field, RequestHead, print_request, ReadsRequest, IsRequestHead, HasNoRequest, MayBecomeRequest, is_value_byte, is_uri_byte}
use Rattle.httparse.specs.Pieces.{is_newline}
use Rattle.httparse.proofs.GrammarLemmas.{print_request-append}
use Rattle.sc_model.specs.Heads.{line_limit}
use Rattle.sc_model.specs.Messages.{HasTooManyLines}
use Rattle.sc_http.specs.LineEnds.{line_ends, EndsLine}
use Rattle.sc_http.proofs.HeadEndLemmas.{plain_by, plain_token, before_feed, feed_splits}
use Rattle.sc_http.proofs.LineEndLemmas.{feeds, feeds-append, feeds_plain, feeds_before_feed, ends_blank, ends_more, ends_after_blank, ends_method, line_of, feeds_line}

cons-append : (x : ℕ) (a b : List ℕ) → (x ∷ a) ++ b ≡ x ∷ (a ++ b)
cons-append x a b = refl

-- the first line feed is the one that was meant, or it comes before that one
line_split : (line after before more : List ℕ) → feeds line ≡ 0 → before ++ 10 ∷ more ≡ line ++ 10 ∷ after
    → ((before ≡ line) × (more ≡ after)) ⊎ ((left : List ℕ) × (before ≡ line ++ 10 ∷ left) × (left ++ 10 ∷ more ≡ after))
line_split [] after [] more none same = inl (refl, cc)
line_split [] after (b ∷ before) more none same = let feed : b ≡ 10 = cc in let left : before ++ 10 ∷ more ≡ after = cc in inr (before, ap (λ x. x ∷ before) feed, left)
line_split (x ∷ line) after [] more none same =
    let feed : 10 ≡ x = cc in
    let one : feeds (10 ∷ line) ≡ 0 = subst (λ (n : ℕ). feeds (n ∷ line) ≡ 0) (sym feed) none in
    let parts = feeds-append (10 ∷ []) line in
    absurd (omega (arith, one, parts))
line_split (x ∷ line) after (b ∷ before) more none same =
    let first : b ≡ x = cc in
    let later : before ++ 10 ∷ more ≡ line ++ 10 ∷ after = cc in
    let parts = feeds-append (x ∷ []) line in
    elim (line_split line after before more (omega (arith, none, parts)) later) [
      | inl here ↦ let e : before ≡ line = here.0 in inl (ap (λ y. y ∷ before) first ∙ ap (λ ys. x ∷ ys) e, here.1)
      | inr there ↦ let e : before ≡ line ++ 10 ∷ there.0 = there.1 in inr (there.0, ap (λ y. y ∷ before) first ∙ ap (λ ys. x ∷ ys) e, there.2)
    ]

-- a field line before its line feed
abbrev field_line : Field → List ℕ
field_line f = f.name ++ 58 ∷ (f.raw ++ before_feed f.end)

field_splits : (f : Field) → print_field f ≡ field_line f ++ 10 ∷ []
field_splits f = regroup f.name f.raw (print_end f.end) (before_feed f.end) (feed_splits f.end)
  where
    regroup : (a b c d : List ℕ) → c ≡ d ++ 10 ∷ [] → (a ++ 58 ∷ b) ++ c ≡ (a ++ 58 ∷ (b ++ d)) ++ 10 ∷ []
    regroup a b c d split = rw split (simp (append_assoc, cons-append))

feeds_field_line : (f : Field) → IsField f → feeds (field_line f) ≡ 0
feeds_field_line f is =
    let a = feeds-append f.name (58 ∷ (f.raw ++ before_feed f.end)) in
    let b = feeds-append f.raw (before_feed f.end) in
    let c = feeds_plain f.name (plain_token f.name is.name.1) in
    let d = feeds_plain f.raw (plain_by is_value_byte refl refl f.raw is.raw) in
    let e = feeds_before_feed f.end in
    let g = feeds-append (58 ∷ []) (f.raw ++ before_feed f.end) in
    omega (arith, a, b, c, d, e, g)

-- the header lines up to the end of one of them
abbrev KeptLines : List ℕ → Type 0
KeptLines before = (kept : List Field) × All IsField kept × (length kept ≡ feeds before + 1) × (before ++ 10 ∷ [] ≡ flat_map print_field kept)

one_kept : (f : Field) (before : List ℕ) → IsField f → before ≡ field_line f → KeptLines before
one_kept f before is same = (
  f ∷ [],
  All-cons IsField f [] is (All-nil IsField),
  (let none : feeds before ≡ 0 = ap feeds same ∙ feeds_field_line f is in omega (arith, none)),
  ap (λ xs. xs ++ 10 ∷ []) same ∙ sym (field_splits f) ∙ sym (append-nil (print_field f)),
)

one_more_kept : (f : Field) (before left : List ℕ) → IsField f → before ≡ field_line f ++ 10 ∷ left → KeptLines left → KeptLines before
one_more_kept f before left is same (kept, all, count, lines) = (
  f ∷ kept,
  All-cons IsField f kept is all,
  (let a : feeds before ≡ feeds (field_line f ++ 10 ∷ left) = ap feeds same in
      let b = feeds-append (field_line f) (10 ∷ left) in
      let c = feeds-append (10 ∷ []) left in
      omega (arith, a, b, c, feeds_field_line f is, count)),
  ap (λ xs. xs ++ 10 ∷ []) same ∙ append_assoc (field_line f) (10 ∷ left) (10 ∷ [])
      ∙ ap (λ xs. field_line f ++ 10 ∷ xs) lines
      ∙ sym (append_assoc (field_line f) (10 ∷ []) (flat_map print_field kept))
      ∙ ap (λ xs. xs ++ flat_map print_field kept) (sym (field_splits f)),
)

-- a line feed among the header lines is the head's last byte, or it ends one of them
lines_split : (fields : List Field) (last : LineEnd) (before more : List ℕ) → All IsField fields
    → before ++ 10 ∷ more ≡ flat_map print_field fields ++ print_end last → (more ≡ []) ⊎ KeptLines before
lines_split [] last before more all same =
    elim (line_split (before_feed last) [] before more (feeds_before_feed last) (same ∙ feed_splits last)) [
      | inl here ↦ inl here.1
      | inr there ↦ let long = ap length there.2 in let parts = length-append there.0 (10 ∷ more) in absurd (omega (arith, long, parts))
    ]
lines_split (f ∷ fields) last before more all same =
    let is = All-head IsField f fields all in
    let next = flat_map print_field fields ++ print_end last in
    let whole : before ++ 10 ∷ more ≡ field_line f ++ 10 ∷ next =
    same ∙ append_assoc (print_field f) (flat_map print_field fields) (print_end last) ∙ ap (λ xs. xs ++ next) (field_splits f) ∙ append_assoc (field_line f) (10 ∷ []) next in
    elim (line_split (field_line f) next before more (feeds_field_line f is) whole) [
      | inl here ↦ inr (one_kept f before is here.0)
      | inr there ↦ elim (lines_split fields last there.0 more (All-tail IsField f fields all) there.2) [
        | inl none ↦ inl none
        | inr kept ↦ inr (one_more_kept f before there.0 is there.1 kept)
      ]
    ]

-- the empty lines before a request line, taken off
strip_one : (b : ℕ) (text before tail : List ℕ) → is_newline b ≡ true → b ∷ text ≡ before ++ tail → 0 < line_ends before
    → (left : List ℕ) × (before ≡ b ∷ left) × (text ≡ left ++ tail) × (line_ends left ≡ line_ends before)
strip_one b text [] tail newline same some = absurd (omega arith)
strip_one b text (c ∷ before) tail newline same some =
    let first : b ≡ c = cc in
    let later : text ≡ before ++ tail = cc in
    let is : is_newline c ≡ true = subst (λ (n : ℕ). is_newline n ≡ true) first newline in
    (before, ap (λ x. x ∷ before) (sym first), later, sym (ends_blank c before is))

abbrev Stripped : List LineEnd → List ℕ → List ℕ → List ℕ → Type 0
Stripped ends text before tail = (left : List ℕ) × (before ≡ print_blank ends ++ left) × (text ≡ left ++ tail) × (line_ends left ≡ line_ends before)

strip : (ends : List LineEnd) (text before tail : List ℕ) → print_blank ends ++ text ≡ before ++ tail → 0 < line_ends before → Stripped ends text before tail
strip [] text before tail same some = (before, refl, same, refl)
strip (crlf ∷ ends) text before tail same some =
    let return = strip_one 13 (10 ∷ (print_blank ends ++ text)) before tail refl same some in
    let feed = strip_one 10 (print_blank ends ++ text) return.0 tail refl return.2 (omega (arith, some, return.3)) in
    let later = strip ends text feed.0 tail feed.2 (omega (arith, some, return.3, feed.3)) in
    (later.0, return.1 ∙ ap (λ xs. 13 ∷ xs) (feed.1 ∙ ap (λ xs. 10 ∷ xs) later.1), later.2, later.3 ∙ feed.3 ∙ return.3)
strip (lf ∷ ends) text before tail same some =
    let feed = strip_one 10 (print_blank ends ++ text) before tail refl same some in
    let later = strip ends text feed.0 tail feed.2 (omega (arith, some, feed.3)) in
    (later.0, feed.1 ∙ ap (λ xs. 10 ∷ xs) later.1, later.2, later.3 ∙ feed.3)

-- ---- the head

-- a head is its empty lines, its request line and the lines after that
head_lines : (h : RequestHead) → print_request h ≡ print_blank h.blank ++ (line_of h ++ 10 ∷ (flat_map print_field h.fields ++ print_end h.last))
head_lines h =
    sym (append-nil (print_request h)) ∙ print_request-append h []
    ∙ regroup (print_blank h.blank) h.method h.target (print_version h.minor) (print_end h.line_end)
    (flat_map print_field h.fields ++ print_end h.last) (before_feed h.line_end) (feed_splits h.line_end)
  where
    regroup : (a b c d e s k : List ℕ) → e ≡ k ++ 10 ∷ []
        → a ++ (b ++ 32 ∷ (c ++ 32 ∷ (d ++ (e ++ (s ++ []))))) ≡ a ++ ((b ++ 32 ∷ (c ++ 32 ∷ (d ++ k))) ++ 10 ∷ s)
    regroup a b c d e s k split = rw split (simp (append_assoc, append-nil, cons-append))

-- the lines that have ended in a request line and bytes after it
ends_line_and : (h : RequestHead) (after : List ℕ) → IsRequestHead h → line_ends (line_of h ++ 10 ∷ after) ≡ 1 + feeds after
ends_line_and h after is =
    let rest = 32 ∷ (h.target ++ 32 ∷ (print_version h.minor ++ before_feed h.line_end)) in
    let a : line_ends (line_of h ++ 10 ∷ after) ≡ line_ends (h.method ++ (rest ++ 10 ∷ after)) = ap line_ends (append_assoc h.method rest (10 ∷ after)) in
    let b = ends_method h.method (rest ++ 10 ∷ after) is.method.0 is.method.1 in
    let c = feeds-append rest (10 ∷ after) in
    let d = feeds-append (10 ∷ []) after in
    omega (arith, a, b, c, d, feeds_line h is)

-- the lines kept are those of a head with more of them than may be
many_kept : (bytes : List ℕ) (last : EndsLine 130 bytes) (h : RequestHead) (left after : List ℕ) → IsRequestHead h
    → last.before ≡ print_blank h.blank ++ left → line_ends left ≡ line_ends last.before → left ≡ line_of h ++ 10 ∷ after
    → KeptLines after → HasTooManyLines bytes
many_kept bytes last h left after is split ended line (kept, all, count, lines) =
    let k : RequestHead = record h { fields = kept; last = lf } in
    let a : line_ends left ≡ line_ends (line_of h ++ 10 ∷ after) = ap line_ends line in
    let whole : bytes ++ 10 ∷ [] ≡ print_request k ++ [] =
    ap (λ xs. xs ++ 10 ∷ []) (last.is ∙ ap (λ xs. xs ++ 10 ∷ []) (split ∙ ap (λ xs. print_blank h.blank ++ xs) line))
    ∙ regroup (print_blank h.blank) (line_of h) after
    ∙ ap (λ xs. print_blank h.blank ++ (line_of h ++ 10 ∷ (xs ++ 10 ∷ []))) lines
    ∙ sym (head_lines k) ∙ sym (append-nil (print_request k)) in
    let valid : IsRequestHead k = record { method = is.method; target = is.target; target_text = is.target_text; minor = is.minor; fields = all } in
    let many : line_limit < length kept = omega (arith, a, ends_line_and h after is, count, ended, last.ended) in
    (bytes, [], sym (append-nil bytes), k, (valid, whole), many)
  where
    regroup : (a l t : List ℕ) → ((a ++ (l ++ 10 ∷ t)) ++ 10 ∷ []) ++ 10 ∷ [] ≡ a ++ (l ++ 10 ∷ ((t ++ 10 ∷ []) ++ 10 ∷ []))
    regroup a l t = simp (append_assoc, cons-append)

-- bytes that end with a line above the most, and may become a head, have too many header lines
pub many_where_open : (bytes : List ℕ) → EndsLine 130 bytes → HasNoRequest bytes → MayBecomeRequest bytes → HasTooManyLines bytes
many_where_open bytes last none (inl (more, h, reads)) =
    let lines = flat_map print_field h.fields ++ print_end h.last in
    let whole : print_blank h.blank ++ (line_of h ++ 10 ∷ lines) ≡ last.before ++ (10 ∷ more) =
    sym (head_lines h) ∙ sym (append-nil (print_request h)) ∙ sym reads.1 ∙ ap (λ xs. xs ++ more) last.is ∙ append_assoc last.before (10 ∷ []) more in
    let stripped = strip h.blank (line_of h ++ 10 ∷ lines) last.before (10 ∷ more) whole (omega (arith, last.ended)) in
    let plain : feeds (line_of h) ≡ 0 =
    (let a = feeds-append h.method (32 ∷ (h.target ++ 32 ∷ (print_version h.minor ++ before_feed h.line_end))) in
    let b = feeds_plain h.method (plain_token h.method reads.0.method.1) in
    omega (arith, a, b, feeds_line h reads.0)) in
    elim (line_split (line_of h) lines stripped.0 more plain (sym stripped.2)) [
      | inl here ↦
          let a : line_ends stripped.0 ≡ line_ends (line_of h) = ap line_ends here.0 in
          let b = ends_method h.method (32 ∷ (h.target ++ 32 ∷ (print_version h.minor ++ before_feed h.line_end))) reads.0.method.0 reads.0.method.1 in
          absurd (omega (arith, a, b, feeds_line h reads.0, stripped.3, last.ended))
      | inr there ↦ elim (lines_split h.fields h.last there.0 more reads.0.fields there.2) [
        | inl nothing ↦ absurd (none h [] (subst (λ (xs : List ℕ). ReadsRequest xs h []) (ap (λ xs. bytes ++ xs) nothing ∙ append-nil bytes) reads))
        | inr kept ↦ many_kept bytes last h stripped.0 there.0 reads.0 stripped.1 stripped.3 there.1 kept
      ]
    ]
many_where_open bytes last none (inr (blank, method, target, token, uri, split)) =
    let a : line_ends bytes ≡ line_ends (print_blank blank ++ (method ++ 32 ∷ target)) = ap line_ends (split ∙ append_assoc (print_blank blank) method (32 ∷ target)) in
    let b = ends_after_blank blank (method ++ 32 ∷ target) in
    let c = ends_method method (32 ∷ target) token.0 token.1 in
    let d = feeds-append (32 ∷ []) target in
    let e = feeds_plain target (plain_by is_uri_byte refl refl target uri) in
    let f = ends_more last.before (10 ∷ []) in
    let g : line_ends bytes ≡ line_ends (last.before ++ 10 ∷ []) = ap line_ends last.is in
    absurd (omega (arith, a, b, c, d, e, f, g, last.ended))
