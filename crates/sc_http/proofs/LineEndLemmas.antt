-- How many lines of a head have ended.
use Rattle.std.proofs.Common.{◌≡◌, ℕ, ◌+◌, ◌<◌, ◌≤◌, suc, Bool, IsTrue, ◌==◌, cond, true, false, All, List, [], ◌∷◌, ◌++◌, length, take, drop, get_or, zero, refl, sym, ap, ◌∙◌, arith, append_assoc}
use Rattle.std.specs.List.{flat_map, count_by, prefix_len}
use Rattle.std.proofs.lemmas.List.{take_all, take_more, drop-take, get_or-drop, length-drop}
use Rattle.std.proofs.lemmas.List.Sums.{sum_by-append}
use Rattle.std.proofs.lemmas.List.Elements.{All-head, All-tail}
use Rattle.std.proofs.lemmas.Bool.{ne_eqb}
use Rattle.httparse.specs.Grammar.{AllPass, LineEnd, crlf, lf, print_end, print_blank, print_version, Field, IsField, print_field, RequestHead, IsRequestHead, is_token_byte, is_uri_byte, is_value_byte}
use Rattle.httparse.specs.Pieces.{is_newline}
use Rattle.httparse.proofs.PieceLemmas.{token_is_no_newline}
use Rattle.sc_http.specs.LineEnds.{line_ends, EndsLine}
use Rattle.sc_http.proofs.HeadEndLemmas.{IsPlain, plain_by, plain_token, but_last, before_feed}

-- how many line feeds there are
abbrev pub feeds : List ℕ → ℕ
feeds bytes = count_by (λ b. b == 10) bytes

pub feeds-append : (xs ys : List ℕ) → feeds (xs ++ ys) ≡ feeds xs + feeds ys
feeds-append xs ys = sum_by-append (λ b. cond (b == 10) 1 0) xs ys

-- plain bytes have none
pub feeds_plain : (bytes : List ℕ) → All IsPlain bytes → feeds bytes ≡ 0
feeds_plain [] plain = refl
feeds_plain (b ∷ bytes) plain =
    rw (ne_eqb b 10 (All-head IsPlain b bytes plain).0) (feeds_plain bytes (All-tail IsPlain b bytes plain))

-- a byte of an empty line before the request line is of no matter
pub ends_blank : (b : ℕ) (bytes : List ℕ) → is_newline b ≡ true → line_ends (b ∷ bytes) ≡ line_ends bytes
ends_blank b bytes newline = rw (newline) (ap (λ n. count_by (λ x. x == 10) (drop n (b ∷ bytes))) one_more)
  where
    one_more : 1 + prefix_len is_newline bytes ≡ suc (prefix_len is_newline bytes)
    one_more = omega arith

-- from the first byte of the request line on each line feed counts
ends_begun : (b : ℕ) (bytes : List ℕ) → is_newline b ≡ false → line_ends (b ∷ bytes) ≡ feeds (b ∷ bytes)
ends_begun b bytes text = rw (text) refl

-- more bytes end no fewer lines
pub ends_more : (bytes more : List ℕ) → line_ends bytes ≤ line_ends (bytes ++ more)
ends_more [] more = omega arith
ends_more (b ∷ bytes) more = by_byte (ends_more bytes more) (is_newline b) refl
  where
    by_byte : line_ends bytes ≤ line_ends (bytes ++ more) → (newline : Bool) → is_newline b ≡ newline → line_ends (b ∷ bytes) ≤ line_ends ((b ∷ bytes) ++ more)
    by_byte later true e = omega (arith, ends_blank b bytes e, ends_blank b (bytes ++ more) e, later)
    by_byte later false e = omega (arith, ends_begun b bytes e, ends_begun b (bytes ++ more) e, feeds-append (b ∷ bytes) more)

one_feed : (b : ℕ) → feeds (b ∷ []) ≤ 1
one_feed b = by_byte (b == 10) refl
  where
    by_byte : (feed : Bool) → (b == 10) ≡ feed → feeds (b ∷ []) ≤ 1
    by_byte true e = rw e (omega arith)
    by_byte false e = rw e (omega arith)

-- after the first line end each line feed counts
pub ends-append : (xs ys : List ℕ) → 0 < line_ends xs → line_ends (xs ++ ys) ≡ line_ends xs + feeds ys
ends-append [] ys some = absurd (omega arith)
ends-append (b ∷ xs) ys some = by_byte (ends-append xs ys) (is_newline b) refl
  where
    by_byte : (0 < line_ends xs → line_ends (xs ++ ys) ≡ line_ends xs + feeds ys) → (newline : Bool) → is_newline b ≡ newline
        → line_ends (b ∷ (xs ++ ys)) ≡ line_ends (b ∷ xs) + feeds ys
    by_byte later true e =
        let here = ends_blank b xs e in
        omega (arith, here, ends_blank b (xs ++ ys) e, later (omega (arith, some, here)))
    by_byte later false e = omega (arith, ends_begun b xs e, ends_begun b (xs ++ ys) e, feeds-append (b ∷ xs) ys)

-- one byte more ends one line more at most
pub ends_one_more : (bytes : List ℕ) (b : ℕ) → line_ends (bytes ++ b ∷ []) ≤ line_ends bytes + 1
ends_one_more [] b = by_byte (is_newline b) refl
  where
    by_byte : (newline : Bool) → is_newline b ≡ newline → line_ends (b ∷ []) ≤ line_ends [] + 1
    by_byte true e = omega (arith, ends_blank b [] e)
    by_byte false e = omega (arith, ends_begun b [] e, one_feed b)
ends_one_more (x ∷ bytes) b = by_byte (ends_one_more bytes b) (is_newline x) refl
  where
    by_byte : line_ends (bytes ++ b ∷ []) ≤ line_ends bytes + 1 → (newline : Bool) → is_newline x ≡ newline
        → line_ends ((x ∷ bytes) ++ b ∷ []) ≤ line_ends (x ∷ bytes) + 1
    by_byte later true e = omega (arith, ends_blank x bytes e, ends_blank x (bytes ++ b ∷ []) e, later)
    by_byte later false e = omega (arith, ends_begun x bytes e, ends_begun x (bytes ++ b ∷ []) e, feeds-append (x ∷ bytes) (b ∷ []), one_feed b)

-- ---- heads

pub ends_after_blank : (ends : List LineEnd) (bytes : List ℕ) → line_ends (print_blank ends ++ bytes) ≡ line_ends bytes
ends_after_blank [] bytes = refl
ends_after_blank (crlf ∷ ends) bytes = ends_blank 13 (10 ∷ (print_blank ends ++ bytes)) refl ∙ ends_blank 10 (print_blank ends ++ bytes) refl ∙ ends_after_blank ends bytes
ends_after_blank (lf ∷ ends) bytes = ends_blank 10 (print_blank ends ++ bytes) refl ∙ ends_after_blank ends bytes

-- a method begins the request line
pub ends_method : (method bytes : List ℕ) → 0 < length method → AllPass is_token_byte method → line_ends (method ++ bytes) ≡ feeds bytes
ends_method [] bytes some pass = absurd (omega arith)
ends_method (m ∷ method) bytes some pass =
    let a = ends_begun m (method ++ bytes) (token_is_no_newline m (All-head (λ b. IsTrue (is_token_byte b)) m method pass)) in
    let b = feeds-append (m ∷ method) bytes in
    let c = feeds_plain (m ∷ method) (plain_token (m ∷ method) pass) in
    omega (arith, a, b, c)

feeds_end : (end : LineEnd) → feeds (print_end end) ≡ 1
feeds_end crlf = refl
feeds_end lf = refl

pub feeds_before_feed : (end : LineEnd) → feeds (before_feed end) ≡ 0
feeds_before_feed crlf = refl
feeds_before_feed lf = refl

feeds_version : (minor : ℕ) → feeds (print_version minor) ≡ 0
feeds_version minor = rw (ne_eqb (48 + minor) 10 (λ e. omega arith)) refl

-- the bytes of a request line before its line feed
abbrev pub line_of : RequestHead → List ℕ
line_of h = h.method ++ 32 ∷ (h.target ++ 32 ∷ (print_version h.minor ++ before_feed h.line_end))

pub feeds_line : (h : RequestHead) → IsRequestHead h → feeds (32 ∷ (h.target ++ 32 ∷ (print_version h.minor ++ before_feed h.line_end))) ≡ 0
feeds_line h is =
    let version = print_version h.minor ++ before_feed h.line_end in
    let a = feeds-append h.target (32 ∷ version) in
    let b = feeds-append (print_version h.minor) (before_feed h.line_end) in
    let c = feeds_plain h.target (plain_by is_uri_byte refl refl h.target is.target.1) in
    let d = feeds_version h.minor in
    let e = feeds_before_feed h.line_end in
    let f : feeds (32 ∷ version) ≡ feeds version = refl in
    let g : feeds (32 ∷ (h.target ++ 32 ∷ version)) ≡ feeds (h.target ++ 32 ∷ version) = refl in
    omega (arith, a, b, c, d, e, f, g)

feeds_field : (field : Field) → IsField field → feeds (print_field field) ≡ 1
feeds_field field is =
    let a = feeds-append field.name (58 ∷ (field.raw ++ print_end field.end)) in
    let b = feeds-append field.raw (print_end field.end) in
    let c = feeds_plain field.name (plain_token field.name is.name.1) in
    let d = feeds_plain field.raw (plain_by is_value_byte refl refl field.raw is.raw) in
    let e = feeds_end field.end in
    let f : feeds (58 ∷ (field.raw ++ print_end field.end)) ≡ feeds (field.raw ++ print_end field.end) = refl in
    let g : feeds (print_field field) ≡ feeds (field.name ++ (58 ∷ (field.raw ++ print_end field.end))) = ap feeds (append_assoc field.name (58 ∷ field.raw) (print_end field.end)) in
    omega (arith, a, b, c, d, e, f, g)

feeds_fields : (fields : List Field) → All IsField fields → feeds (flat_map print_field fields) ≡ length fields
feeds_fields [] all = refl
feeds_fields (field ∷ fields) all =
    let a = feeds-append (print_field field) (flat_map print_field fields) in
    let b = feeds_field field (All-head IsField field fields all) in
    let c = feeds_fields fields (All-tail IsField field fields all) in
    omega (arith, a, b, c)

-- in all but the last byte of a head its request line and its header lines have ended
pub ends_but_last : (h : RequestHead) → IsRequestHead h → line_ends (but_last h) ≡ length h.fields + 1
ends_but_last h is =
    let headers = flat_map print_field h.fields ++ before_feed h.last in
    let line = print_end h.line_end ++ headers in
    let version = print_version h.minor ++ line in
    let target = h.target ++ 32 ∷ version in
    let a = ends_after_blank h.blank (h.method ++ 32 ∷ target) in
    let b = ends_method h.method (32 ∷ target) is.method.0 is.method.1 in
    let c = feeds-append h.target (32 ∷ version) in
    let d = feeds-append (print_version h.minor) line in
    let e = feeds-append (print_end h.line_end) headers in
    let f = feeds-append (flat_map print_field h.fields) (before_feed h.last) in
    let g = feeds_fields h.fields is.fields in
    let i = feeds_end h.line_end in
    let j = feeds_before_feed h.last in
    let k = feeds_plain h.target (plain_by is_uri_byte refl refl h.target is.target.1) in
    let l = feeds_version h.minor in
    let m : feeds (32 ∷ target) ≡ feeds target = refl in
    let n : feeds (32 ∷ version) ≡ feeds version = refl in
    omega (arith, a, b, c, d, e, f, g, i, j, k, l, m, n)

-- ---- the search for a line's end

prefix_len_take : (p : ℕ → Bool) (xs : List ℕ) (i : ℕ) → prefix_len p (take (prefix_len p xs + i) xs) ≡ prefix_len p xs
prefix_len_take p [] i = ap (prefix_len p) (take_all (prefix_len p [] + i) [] (omega arith))
prefix_len_take p (x ∷ xs) i = by_test (prefix_len_take p xs i) (p x) refl
  where
    first : (n : ℕ) → p x ≡ false → prefix_len p (take n (x ∷ xs)) ≡ 0
    first zero e = refl
    first (suc n) e = rw e refl

    by_test : prefix_len p (take (prefix_len p xs + i) xs) ≡ prefix_len p xs → (b : Bool) → p x ≡ b
        → prefix_len p (take (prefix_len p (x ∷ xs) + i) (x ∷ xs)) ≡ prefix_len p (x ∷ xs)
    by_test later true e =
        let long : prefix_len p (x ∷ xs) ≡ 1 + prefix_len p xs = rw e refl in
        let more : prefix_len p (x ∷ xs) + i ≡ suc (prefix_len p xs + i) = omega (arith, long) in
        ap (λ n. prefix_len p (take n (x ∷ xs))) more ∙ inside ∙ ap (λ n. 1 + n) later ∙ sym long
      where
        inside : prefix_len p (x ∷ take (prefix_len p xs + i) xs) ≡ 1 + prefix_len p (take (prefix_len p xs + i) xs)
        inside = rw e refl
    by_test later false e = let none : prefix_len p (x ∷ xs) ≡ 0 = rw e refl in first (prefix_len p (x ∷ xs) + i) e ∙ sym none

-- the lines that have ended in the first bytes, which go past the start of the request line
ends_take : (bytes : List ℕ) (i : ℕ) → line_ends (take (prefix_len is_newline bytes + i) bytes) ≡ feeds (take i (drop (prefix_len is_newline bytes) bytes))
ends_take bytes i =
    ap (λ n. feeds (drop n (take (prefix_len is_newline bytes + i) bytes))) (prefix_len_take is_newline bytes i)
    ∙ ap feeds (drop-take (prefix_len is_newline bytes) i bytes)

-- the line feed that ends the line of this number is found
pub line_found : (bytes items : List ℕ) (start i number ended : ℕ) → start ≡ prefix_len is_newline bytes → items ≡ drop start bytes → i < length items
    → ended ≡ feeds (take i items) → get_or items i 0 ≡ 10 → ended + 1 ≡ number → EndsLine number (take (start + i + 1) bytes)
line_found bytes items start i number ended at are inside counted feed last = record {
  before = take (start + i) bytes;
  is = take_more bytes (start + i) 0 (omega (arith, ap length are, length-drop start bytes))
      ∙ ap (λ b. take (start + i) bytes ++ b ∷ []) (sym (get_or-drop start bytes i 0) ∙ ap (λ xs. get_or xs i 0) (sym are) ∙ feed);
  ended = (let a : line_ends (take (start + i) bytes) ≡ feeds (take i items) =
      ap (λ n. line_ends (take (n + i) bytes)) at ∙ ends_take bytes i ∙ ap (λ n. feeds (take i (drop n bytes))) (sym at) ∙ ap (λ xs. feeds (take i xs)) (sym are) in
      omega (arith, a, counted, last));
}

-- all lines are counted
pub lines_counted : (bytes items : List ℕ) (start i ended : ℕ) → start ≡ prefix_len is_newline bytes → items ≡ drop start bytes → length items ≤ i
    → ended ≡ feeds (take i items) → line_ends bytes ≡ ended
lines_counted bytes items start i ended at are all counted =
    sym (counted ∙ ap feeds (take_all i items all ∙ are ∙ ap (λ n. drop n bytes) at))
