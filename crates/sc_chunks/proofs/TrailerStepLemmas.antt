-- A byte of a trailer line, or of the empty line after them, after what was taken before.
use Rattle.std.proofs.Common.{◌≡◌, ◌≢◌, ℕ, ◌==◌, ◌+◌, ◌<◌, ◌≤◌, ◌⊎◌, inl, inr, true, false, Bool, ◌||◌, List, [], ◌∷◌, ◌++◌, length, refl, sym, ap, ◌∙◌, subst, arith, nat_lt, append_assoc, append-nil, length-append}
use Rattle.std.specs.List.{list_any}
use Rattle.std.proofs.lemmas.Grind.{flat_map-append}
use Rattle.std.proofs.lemmas.Bool.{false≢true}
use Rattle.std.proofs.lemmas.Bool.Decides.{nat_tests}
use Rattle.std.proofs.lemmas.List.Folds.{list_any-append}
use Rattle.std.proofs.lemmas.List.Elements.{All-append, All-cons, All-nil}
use Rattle.httparse.specs.Ascii.{crlf_bytes}
use Rattle.httparse.specs.Grammar.{print_chunk_line}
use Rattle.sc_chunks.specs.Coding.{coding_limit, trailer_limit, print_chunks, HasNoLineEnd, has_name, IsTrailer, print_lines, print_coding}
use Rattle.sc_chunks.specs.Endings.{HasNoCoding, StatesTooMuch, NeverBeginsLineEnd, PassesTrailers, MayBecomeCoding, IsOpenCoding}
use Rattle.sc_chunks.specs.Progress.{InTrailers, EndsInReturn, InTrailer, IsCodingOf, IsRefusedCoding}
use Rattle.sc_chunks.specs.declared.error.DecodeError.TheVariants as errors
use Rattle.sc_chunks.proofs.LineLemmas.{no_end_in_nothing, no_end_in_tail, same_line, no_end_before}
use Rattle.sc_chunks.proofs.CodingLemmas.{Only, only_line, no_data_of_last}
use Rattle.sc_chunks.proofs.StuckLemmas.{NoEmptyLine, FewLeft, only_little, last_none, last_few, no_empty_line, no_empty_line_after}
use Rattle.sc_chunks.proofs.OpenLemmas.{coding_of, trailers_close, may_with_trailer}
use Rattle.sc_chunks.proofs.LineStepLemmas.{nothing_of_trailer}

in_trailers_then : (coded content : List ℕ) (size : ℕ) (t : InTrailers coded content size) (x : List ℕ)
    → coded ++ x ≡ print_chunks t.chunks ++ (print_chunk_line t.last ++ (print_lines t.lines ++ x))
in_trailers_then coded content size t x =
    ap (λ xs. xs ++ x) t.whole ∙ append_assoc (print_chunks t.chunks) (print_chunk_line t.last ++ print_lines t.lines) x
    ∙ ap (λ xs. print_chunks t.chunks ++ xs) (append_assoc (print_chunk_line t.last) (print_lines t.lines) x)

in_trailers_only : (coded content : List ℕ) (size : ℕ) (t : InTrailers coded content size) (x : List ℕ)
    → Only (print_chunk_line t.last ++ (print_lines t.lines ++ x)) t.last (print_lines t.lines ++ x)
in_trailers_only coded content size t x = only_line t.last (print_lines t.lines ++ x) t.is_line (no_data_of_last t.last (print_lines t.lines ++ x) t.ends)

in_trailers_little : (coded content : List ℕ) (size : ℕ) (t : InTrailers coded content size) (x : List ℕ) → ¬ (StatesTooMuch (coded ++ x))
in_trailers_little coded content size t x =
    subst (λ xs. ¬ (StatesTooMuch xs)) (sym (in_trailers_then coded content size t x))
    (only_little t.chunks t.last _ (print_lines t.lines ++ x) t.all (omega (arith, t.within, ap length t.carried, t.ends)) (in_trailers_only coded content size t x))

in_trailers_none : (coded content : List ℕ) (size : ℕ) (t : InTrailers coded content size) (x : List ℕ) → NoEmptyLine x → HasNoCoding (coded ++ x)
in_trailers_none coded content size t x none =
    subst HasNoCoding (sym (in_trailers_then coded content size t x))
    (last_none t.chunks t.last t.lines _ x t.all t.trailers (in_trailers_only coded content size t x) none)

pub trailer_open : (coded content : List ℕ) (size count : ℕ) (named returned : Bool) → InTrailer coded content size count named returned → IsOpenCoding coded
trailer_open coded content size count named returned r =
    let t = r.at in
    let only = in_trailers_only r.before content size t r.part in
    let few : FewLeft size r.part = elim r.few [ inl short ↦ inl (omega (arith, short, r.count_is)) | inr may ↦ inr may ] in
    let here : IsOpenCoding (r.before ++ r.part) = record {
      none = in_trailers_none r.before content size t r.part (no_empty_line r.part r.one_line);
      open_ = subst MayBecomeCoding (ap (λ xs. xs ++ r.part) (sym t.whole)) (may_with_trailer t.chunks t.last t.lines r.part t.all t.is_line t.ends t.trailers r.one_line);
      little = in_trailers_little r.before content size t r.part;
      few = subst (λ xs. ¬ (PassesTrailers xs)) (sym (in_trailers_then r.before content size t r.part))
          (last_few t.chunks t.last t.lines _ r.part t.all t.trailers only r.one_line (omega (arith, t.few, t.size_is)) (subst (λ n. FewLeft n r.part) t.size_is few));
    } in
    subst IsOpenCoding (sym r.whole) here

-- ---- a line that ends

-- the text before a CR has no line end
no_end_before_return : (text : List ℕ) → HasNoLineEnd (text ++ 13 ∷ []) → HasNoLineEnd text
no_end_before_return text none before after same =
    none before (after ++ 13 ∷ []) (ap (λ xs. xs ++ 13 ∷ []) same ∙ append_assoc before (crlf_bytes ++ after) (13 ∷ []))

-- a byte more
name_more : (text : List ℕ) (b : ℕ) → 0 < length text → has_name (text ++ b ∷ []) ≡ (has_name text || (b == 58))
name_more [] b some = absurd (omega (arith, some))
name_more (c ∷ text) b some = list_any-append (λ d. d == 58) text (b ∷ []) ∙ ap (λ x. list_any (λ d. d == 58) text || x) (or_false (b == 58))
  where
    or_false : (x : Bool) → (x || false) ≡ x
    or_false true = refl
    or_false false = refl

name_with_return : (text : List ℕ) → 0 < length text → has_name (text ++ 13 ∷ []) ≡ has_name text
name_with_return text some = name_more text 13 some ∙ or_false (has_name text)
  where
    or_false : (x : Bool) → (x || false) ≡ x
    or_false true = refl
    or_false false = refl

-- a line with its line end, after trailer lines
line_taken : (before content text : List ℕ) (size : ℕ) → InTrailers before content size → IsTrailer text → size + (length text + 2) ≤ trailer_limit
    → InTrailers (before ++ (text ++ crlf_bytes)) content (size + (length text + 2))
line_taken before content text size t is fits =
    let parts = length-append text crlf_bytes in
    let one : print_lines (t.lines ++ text ∷ []) ≡ print_lines t.lines ++ (text ++ crlf_bytes) =
    flat_map-append (λ line. line ++ crlf_bytes) t.lines (text ∷ []) ∙ ap (λ xs. print_lines t.lines ++ xs) (append-nil (text ++ crlf_bytes)) in
    let sums = length-append (print_lines t.lines) (text ++ crlf_bytes) in
    record {
      chunks = t.chunks;
      last = t.last;
      lines = t.lines ++ text ∷ [];
      all = t.all;
      is_line = t.is_line;
      ends = t.ends;
      trailers = All-append IsTrailer t.lines (text ∷ []) t.trailers (All-cons IsTrailer text [] is (All-nil IsTrailer));
      whole = in_trailers_then before content size t (text ++ crlf_bytes) ∙ ap (λ xs. print_chunks t.chunks ++ (print_chunk_line t.last ++ xs)) (sym one);
      carried = t.carried;
      within = t.within;
      size_is = omega (arith, t.size_is, ap length one, sums, parts);
      few = fits;
    }

empty_taken : (before content : List ℕ) (size : ℕ) → InTrailers before content size → length before + 2 ≤ coding_limit → IsCodingOf content (before ++ crlf_bytes)
empty_taken before content size t fits =
    let close = trailers_close t.chunks t.last t.lines t.all t.is_line t.ends t.trailers in
    let whole : before ++ crlf_bytes ≡ print_coding (coding_of t.chunks t.last t.lines) =
    in_trailers_then before content size t crlf_bytes ∙ close.1 ∙ append-nil (print_coding (coding_of t.chunks t.last t.lines)) in
    let long = ap length whole in
    let sum = length-append before crlf_bytes in (
      coding_of t.chunks t.last t.lines,
      record {
        reads = (close.0, whole ∙ sym (append-nil (print_coding (coding_of t.chunks t.last t.lines))));
        coding_within = omega (arith, long, sum, fits);
        data_within = omega (arith, t.within, ap length t.carried);
        trailers_within = omega (arith, t.few, t.size_is);
      },
      t.carried,
    )

-- a LF after a CR ends the line
ended : (coded content : List ℕ) (size count : ℕ) (named : Bool) (r : InTrailer coded content size count named true) (text : List ℕ) → r.part ≡ text ++ 13 ∷ []
    → coded ++ 10 ∷ [] ≡ r.before ++ (text ++ crlf_bytes)
ended coded content size count named r text same =
    ap (λ xs. xs ++ 10 ∷ []) (r.whole ∙ ap (λ xs. r.before ++ xs) same) ∙ append_assoc r.before (text ++ 13 ∷ []) (10 ∷ [])
    ∙ ap (λ xs. r.before ++ xs) (append_assoc text (13 ∷ []) (10 ∷ []))

no_text : (text : List ℕ) → length text ≡ 0 → text ≡ []
no_text [] none = refl
no_text (b ∷ text) none = absurd (omega (arith, none))

pub coding_ends : (coded content : List ℕ) (size count : ℕ) (named : Bool) → InTrailer coded content size count named true → length coded < coding_limit → count ≡ 1
    → IsCodingOf content (coded ++ 10 ∷ [])
coding_ends coded content size count named r room one =
    let start = r.returned_is.yes refl in
    let parts = length-append start.0 (13 ∷ []) in
    let none = no_text start.0 (omega (arith, parts, ap length start.1, r.count_is, one)) in
    let sum = length-append r.before r.part in
    subst (λ xs. IsCodingOf content xs) (sym (ended coded content size count named r start.0 start.1 ∙ ap (λ xs. r.before ++ (xs ++ crlf_bytes)) none))
    (empty_taken r.before content size r.at (omega (arith, room, ap length r.whole, sum, r.count_is, one)))

-- a trailer line that has no name, or is too much
bad_line : (before content text : List ℕ) (size : ℕ) → InTrailers before content size → HasNoLineEnd text → 0 < length text → (IsTrailer text → ⊥)
    → IsRefusedCoding errors.Malformed (before ++ (text ++ crlf_bytes))
bad_line before content text size t none some bad = (
  inl (λ more. subst HasNoCoding (sym (append_assoc before (text ++ crlf_bytes) more))
      (in_trailers_none before content size t ((text ++ crlf_bytes) ++ more)
      (subst NoEmptyLine (sym (append_assoc text crlf_bytes more)) (no_empty_line_after text more none some bad)))),
  in_trailers_little before content size t (text ++ crlf_bytes),
)

long_part : (before content text part : List ℕ) (size : ℕ) → InTrailers before content size → HasNoLineEnd text → (more : List ℕ) → part ++ more ≡ text ++ crlf_bytes
    → NeverBeginsLineEnd part → trailer_limit < size + length part → IsRefusedCoding errors.Malformed (before ++ part)
long_part before content text part size t none more of not_empty many = (
  inr record {
    chunks = t.chunks;
    last = t.last;
    lines = t.lines;
    text = text;
    part = part;
    rest = [];
    has = record {
      all = t.all;
      is_line = t.is_line;
      whole = in_trailers_then before content size t part ∙ ap (λ xs. print_chunks t.chunks ++ (print_chunk_line t.last ++ (print_lines t.lines ++ xs))) (sym (append-nil part));
    };
    ends = t.ends;
    trailers = t.trailers;
    one_line = none;
    of_line = (more, of);
    not_empty = not_empty;
    many = omega (arith, many, t.size_is);
  },
  in_trailers_little before content size t part,
)

-- a line with text is not the empty line
never_empty : (text : List ℕ) → HasNoLineEnd text → 0 < length text → NeverBeginsLineEnd (text ++ crlf_bytes)
never_empty text none some more (rest, begins) =
    let lines = same_line [] text rest more no_end_in_nothing none (begins ∙ append_assoc text crlf_bytes more) in
    omega (arith, some, ap length lines.0)

pub line_ends : (coded content : List ℕ) (size count : ℕ) (named : Bool) → InTrailer coded content size count named true → count ≢ 1 → size + count < trailer_limit → named ≡ true
    → InTrailer (coded ++ 10 ∷ []) content (size + count + 1) 0 false false
line_ends coded content size count named r some short is_named =
    let start = r.returned_is.yes refl in
    let text = start.0 in
    let parts = length-append text (13 ∷ []) in
    let long : count ≡ length text + 1 = omega (arith, parts, ap length start.1, r.count_is) in
    let none = no_end_before_return text (subst HasNoLineEnd start.1 r.one_line) in
    let name : has_name text ≡ true = sym (name_with_return text (omega (arith, long, some))) ∙ ap has_name (sym start.1) ∙ sym r.named_is ∙ is_named in
    let is : IsTrailer text = record { one_line = none; named = name } in
    let next : size + (length text + 2) ≡ size + count + 1 = omega (arith, long) in
    let at : InTrailers (coded ++ 10 ∷ []) content (size + count + 1) =
    subst (λ n. InTrailers (coded ++ 10 ∷ []) content n) next
    (subst (λ xs. InTrailers xs content (size + (length text + 2))) (sym (ended coded content size count named r text start.1))
    (line_taken r.before content text size r.at is (omega (arith, long, short)))) in
    nothing_of_trailer (coded ++ 10 ∷ []) content (size + count + 1) at

pub line_has_no_name : (coded content : List ℕ) (size count : ℕ) (named : Bool) → InTrailer coded content size count named true → count ≢ 1 → named ≡ false
    → IsRefusedCoding errors.Malformed (coded ++ 10 ∷ [])
line_has_no_name coded content size count named r some unnamed =
    let start = r.returned_is.yes refl in
    let text = start.0 in
    let parts = length-append text (13 ∷ []) in
    let long : 0 < length text = omega (arith, parts, ap length start.1, r.count_is, some) in
    let none = no_end_before_return text (subst HasNoLineEnd start.1 r.one_line) in
    let name : has_name text ≡ false = sym (name_with_return text long) ∙ ap has_name (sym start.1) ∙ sym r.named_is ∙ unnamed in
    subst (λ xs. IsRefusedCoding errors.Malformed xs) (sym (ended coded content size count named r text start.1))
    (bad_line r.before content text size r.at none long (λ is. false≢true (sym name ∙ is.named)))

pub line_is_long : (coded content : List ℕ) (size count : ℕ) (named : Bool) → InTrailer coded content size count named true → count ≢ 1 → trailer_limit ≤ size + count
    → IsRefusedCoding errors.Malformed (coded ++ 10 ∷ [])
line_is_long coded content size count named r some much =
    let start = r.returned_is.yes refl in
    let text = start.0 in
    let parts = length-append text (13 ∷ []) in
    let long : count ≡ length text + 1 = omega (arith, parts, ap length start.1, r.count_is) in
    let ends = length-append text crlf_bytes in
    let none = no_end_before_return text (subst HasNoLineEnd start.1 r.one_line) in
    subst (λ xs. IsRefusedCoding errors.Malformed xs) (sym (ended coded content size count named r text start.1))
    (long_part r.before content text (text ++ crlf_bytes) size r.at none [] (append-nil (text ++ crlf_bytes)) (never_empty text none (omega (arith, long, some))) (omega (arith, much, long, ends)))

-- ---- a line that goes on

-- a LF after no CR ends no line
no_end_before_feed : (text : List ℕ) → HasNoLineEnd text → ((start : List ℕ) → ¬ (text ≡ start ++ 13 ∷ [])) → HasNoLineEnd (text ++ 10 ∷ [])
no_end_before_feed [] none other before after same =
    let long = ap length same in let parts = length-append before (13 ∷ 10 ∷ after) in absurd (omega (arith, long, parts))
no_end_before_feed (c ∷ []) none other [] after same = let one : c ≡ 13 = cc in other [] (ap (λ z. z ∷ []) one)
no_end_before_feed (c ∷ d ∷ text) none other [] after same =
    let one : c ≡ 13 = cc in
    let two : d ≡ 10 = cc in
    none [] text (ap (λ z. z ∷ d ∷ text) one ∙ ap (λ z. 13 ∷ z ∷ text) two)
no_end_before_feed (c ∷ text) none other (z ∷ before) after same =
    no_end_before_feed text (no_end_in_tail c text none) (λ start ends. other (c ∷ start) (ap (λ xs. c ∷ xs) ends)) before after (cc)

no_end_more : (part : List ℕ) (b : ℕ) (returned : Bool) → HasNoLineEnd part → EndsInReturn part returned → ¬ ((returned ≡ true) × (b ≡ 10)) → HasNoLineEnd (part ++ b ∷ [])
no_end_more part b true none ends other = no_end_before part b (λ feed. other (refl, feed)) none
no_end_more part b false none ends other = by_feed (b == 10) refl
  where
    by_feed : (t : Bool) → (b == 10) ≡ t → HasNoLineEnd (part ++ b ∷ [])
    by_feed true feed = subst (λ c. HasNoLineEnd (part ++ c ∷ [])) (sym (grind (arith, nat_tests, feed))) (no_end_before_feed part none (ends.no refl))
    by_feed false feed = no_end_before part b (grind (arith, nat_tests, feed)) none

-- the last bytes of equal texts are equal
same_last : (part start : List ℕ) (b c : ℕ) → part ++ b ∷ [] ≡ start ++ c ∷ [] → b ≡ c
same_last [] [] b c same = cc
same_last [] (d ∷ start) b c same = let parts = length-append start (c ∷ []) in absurd (omega (arith, ap length same, parts))
same_last (d ∷ part) [] b c same = let parts = length-append part (b ∷ []) in absurd (omega (arith, ap length same, parts))
same_last (d ∷ part) (e ∷ start) b c same = same_last part start b c (cc)

ends_by : (part : List ℕ) (b : ℕ) → EndsInReturn (part ++ b ∷ []) (b == 13)
ends_by part b = record {
  yes = λ is. (part, (let e : b ≡ 13 = grind (arith, nat_tests, is) in ap (λ c. part ++ c ∷ []) e));
  no = λ is start same. (let e = same_last part start b 13 same in let other : b ≢ 13 = grind (arith, nat_tests, is) in other e);
}

-- a text with no line end is no part of one, unless it is CR
never_begins : (text : List ℕ) → HasNoLineEnd text → 1 < length text → NeverBeginsLineEnd text
never_begins [] none some more begins = absurd (omega (arith, some))
never_begins (c ∷ []) none some more begins = absurd (omega (arith, some))
never_begins (c ∷ d ∷ text) none some more (rest, begins) =
    let one : c ≡ 13 = cc in
    let two : d ≡ 10 = cc in
    none [] text (ap (λ z. z ∷ d ∷ text) one ∙ ap (λ z. 13 ∷ z ∷ text) two)

never_begins_with : (b : ℕ) → b ≢ 13 → NeverBeginsLineEnd (b ∷ [])
never_begins_with b other more (rest, begins) = let e : b ≡ 13 = cc in other e

more_whole : (coded content : List ℕ) (size count b : ℕ) (named returned : Bool) (r : InTrailer coded content size count named returned)
    → coded ++ b ∷ [] ≡ r.before ++ (r.part ++ b ∷ [])
more_whole coded content size count b named returned r = ap (λ xs. xs ++ b ∷ []) r.whole ∙ append_assoc r.before r.part (b ∷ [])

pub return_comes_first : (coded content : List ℕ) (size count b : ℕ) (named returned : Bool) → InTrailer coded content size count named returned → count ≡ 0 → b ≡ 13
    → InTrailer (coded ++ b ∷ []) content size 1 false true
return_comes_first coded content size count b named returned r none return =
    let nothing = no_text r.part (omega (arith, none, r.count_is)) in
    let one : r.part ++ b ∷ [] ≡ 13 ∷ [] = ap (λ xs. xs ++ b ∷ []) nothing ∙ ap (λ c. c ∷ []) return in
    record {
      before = r.before;
      part = 13 ∷ [];
      at = r.at;
      one_line = no_end_before [] 13 (λ e. omega (arith, e)) no_end_in_nothing;
      count_is = refl;
      named_is = refl;
      returned_is = record { yes = λ is. ([], refl); no = λ is. absurd (false≢true (sym is)) };
      few = inr (inr refl);
      whole = more_whole coded content size count b named returned r ∙ ap (λ xs. r.before ++ xs) one;
    }

pub text_goes_on : (coded content : List ℕ) (size count b : ℕ) (named returned next : Bool) → InTrailer coded content size count named returned
    → ¬ ((returned ≡ true) × (b ≡ 10)) → size + count < trailer_limit → ((part : List ℕ) → length part ≡ count → named ≡ has_name part → next ≡ has_name (part ++ b ∷ []))
    → InTrailer (coded ++ b ∷ []) content size (count + 1) next (b == 13)
text_goes_on coded content size count b named returned next r other short name =
    let parts = length-append r.part (b ∷ []) in
    record {
      before = r.before;
      part = r.part ++ b ∷ [];
      at = r.at;
      one_line = no_end_more r.part b returned r.one_line r.returned_is other;
      count_is = omega (arith, parts, r.count_is);
      named_is = name r.part (sym r.count_is) r.named_is;
      returned_is = ends_by r.part b;
      few = inl (omega (arith, short));
      whole = more_whole coded content size count b named returned r;
    }

pub text_is_long : (coded content : List ℕ) (size count b : ℕ) (named returned : Bool) → InTrailer coded content size count named returned
    → ¬ ((returned ≡ true) × (b ≡ 10)) → trailer_limit ≤ size + count → (0 < count) ⊎ (b ≢ 13) → IsRefusedCoding errors.Malformed (coded ++ b ∷ [])
text_is_long coded content size count b named returned r other much what =
    let part = r.part ++ b ∷ [] in
    let parts = length-append r.part (b ∷ []) in
    let none = no_end_more r.part b returned r.one_line r.returned_is other in
    subst (λ xs. IsRefusedCoding errors.Malformed xs) (sym (more_whole coded content size count b named returned r))
    (long_part r.before content part part size r.at none crlf_bytes refl (never r.part refl) (omega (arith, much, parts, r.count_is)))
  where
    none_here : HasNoLineEnd (r.part ++ b ∷ [])
    none_here = no_end_more r.part b returned r.one_line r.returned_is other

    never : (text : List ℕ) → r.part ≡ text → NeverBeginsLineEnd (r.part ++ b ∷ [])
    never [] same =
        let empty : 0 ≡ count = omega (arith, ap length same, r.count_is) in
        let no_return : b ≢ 13 = elim what [ inl some ↦ absurd (omega (arith, some, empty)) | inr is ↦ is ] in
        subst (λ xs. NeverBeginsLineEnd (xs ++ b ∷ [])) (sym same) (never_begins_with b no_return)
    never (c ∷ text) same = never_begins (r.part ++ b ∷ []) none_here (let parts = length-append r.part (b ∷ []) in omega (arith, parts, ap length same))

-- the name of a text with one byte more
pub name_goes_on : (part : List ℕ) (count b : ℕ) (named next : Bool) → length part ≡ count → named ≡ has_name part → ((0 < count) → next ≡ (named || (b == 58)))
    → (count ≡ 0 → next ≡ named) → next ≡ has_name (part ++ b ∷ [])
name_goes_on [] count b named next long name some none = none (sym long) ∙ name
name_goes_on (c ∷ part) count b named next long name some none =
    some (omega (arith, long)) ∙ ap (λ n. n || (b == 58)) name ∙ sym (name_more (c ∷ part) b (omega arith))

pub no_bytes : (count : ℕ) → count ≡ 0 → nat_lt 0 count ≡ false
no_bytes count none = grind (arith, nat_tests)
