-- A byte of a chunk line after what was taken before.
use Rattle.std.proofs.Common.{◌≡◌, ◌≢◌, ℕ, ◌+◌, ◌*◌, ◌<◌, ◌≤◌, ◌⊎◌, inl, inr, true, false, List, [], ◌∷◌, ◌++◌, length, Some, None, refl, sym, ap, ◌∙◌, subst, arith, append_assoc, append-nil, length-append}
use Rattle.std.proofs.lemmas.Bool.{false≢true}
use Rattle.std.proofs.lemmas.List.Elements.{All-append, All-cons, All-nil}
use Rattle.std.specs.Char.{is_ascii_hexdigit, digit_value}
use Rattle.std.specs.Str.Parse.{digits_value}
use Rattle.httparse.specs.Ascii.{crlf_bytes}
use Rattle.httparse.specs.Grammar.{is_ows, is_extension_byte, AllPass, print_extension, ChunkLine, print_chunk_line, IsExtension, IsChunkLine, NeverHasChunkLine, HasNoChunkLine}
use Rattle.httparse.proofs.ChunkLemmas.{digits_value_after_push}
use Rattle.sc_chunks.specs.Coding.{data_limit, print_chunks, data_of, IsTrailer}
use Rattle.sc_chunks.specs.Endings.{HasNoCoding, StatesTooMuch, IsOpenCoding}
use Rattle.sc_chunks.specs.Progress.{AtLine, IsSizeSoFar, InDigits, line_text, InLine, InPad, InExtension, BeforeReturn, InChunk, InTrailers, InTrailer, IsRefusedCoding}
use Rattle.sc_chunks.specs.declared.error.DecodeError.TheVariants as errors
use Rattle.sc_chunks.proofs.LineLemmas.{no_end_in_nothing}
use Rattle.sc_chunks.proofs.StuckLemmas.{no_line, line_none, line_little, line_few}
use Rattle.sc_chunks.proofs.OpenLemmas.{last_zero, zero_is_line, may_with_line}
use Rattle.sc_chunks.proofs.ChunkLineLemmas.{line_whole, part_has_none, never_without_digit, never_with_more_digits, never_after_size, never_in_extension, never_after_return}

-- ---- a part of a chunk line is open

part_open : (coded content before part more : List ℕ) (line : ChunkLine) → AtLine before content → coded ≡ before ++ part → IsChunkLine line
    → part ++ more ≡ print_chunk_line line → 0 < length more → IsOpenCoding coded
part_open coded content before part more line at whole is same some =
    let little : length (data_of at.chunks) ≤ data_limit = omega (arith, at.within, ap length at.carried) in
    let none = no_line part (part_has_none part more line is same some) in
    let here : IsOpenCoding (print_chunks at.chunks ++ part) = record {
      none = line_none at.chunks part at.all none;
      open_ = may_with_line at.chunks line part more at.all is same;
      little = line_little at.chunks part at.all none little;
      few = line_few at.chunks part at.all none;
    } in
    subst IsOpenCoding (sym (whole ∙ ap (λ xs. xs ++ part) at.whole)) here

-- the line of some digits alone
abbrev pub line_of : List ℕ → ChunkLine
line_of digits = record { digits = digits; pad = []; extension = None }

pub is_line_of : (digits : List ℕ) → AllPass is_ascii_hexdigit digits → 0 < length digits → length digits ≤ 16 → IsChunkLine (line_of digits)
is_line_of digits all some few = record { digits = (some, few, all); pad = All-nil (λ b. is_ows b ≡ true); extension = tt }

pub digits_open : (coded content : List ℕ) (size count : ℕ) → InDigits coded content size count → IsOpenCoding coded
digits_open coded content size count d = by_digits d.digits refl
  where
    by_digits : (digits : List ℕ) → d.digits ≡ digits → IsOpenCoding coded
    by_digits [] same = part_open coded content d.before [] (48 ∷ crlf_bytes) last_zero d.at (d.whole ∙ ap (λ xs. d.before ++ xs) same) zero_is_line (sym (line_whole last_zero)) (omega arith)
    by_digits (b ∷ digits) same =
        let some : 0 < length d.digits = omega (arith, ap length same) in
        part_open coded content d.before d.digits crlf_bytes (line_of d.digits) d.at d.whole (is_line_of d.digits d.all some (omega (arith, d.count_is, d.few)))
        (sym (line_whole (line_of d.digits) ∙ ap (λ xs. xs ++ crlf_bytes) (append-nil d.digits))) (omega arith)

pub line_open : (coded content : List ℕ) (size : ℕ) → InLine coded content size → IsOpenCoding coded
line_open coded content size l = part_open coded content l.before (line_text l.line) crlf_bytes l.line l.at l.whole l.is_line (sym (line_whole l.line)) (omega arith)

pub return_open : (coded content : List ℕ) (size : ℕ) → BeforeReturn (λ earlier. InLine earlier content size) coded → IsOpenCoding coded
return_open coded content size (earlier, l, same) =
    part_open coded content l.before (line_text l.line ++ 13 ∷ []) (10 ∷ []) l.line l.at
    (same ∙ ap (λ xs. xs ++ 13 ∷ []) l.whole ∙ append_assoc l.before (line_text l.line) (13 ∷ []))
    l.is_line (append_assoc (line_text l.line) (13 ∷ []) (10 ∷ []) ∙ sym (line_whole l.line)) (omega arith)

-- ---- a byte that belongs to no chunk line

byte_is_bad : (coded content before part : List ℕ) (b : ℕ) → AtLine before content → coded ≡ before ++ part → NeverHasChunkLine (part ++ b ∷ [])
    → IsRefusedCoding errors.Malformed (coded ++ b ∷ [])
byte_is_bad coded content before part b at whole never =
    let bytes = part ++ b ∷ [] in
    let all : coded ++ b ∷ [] ≡ print_chunks at.chunks ++ bytes = ap (λ xs. xs ++ b ∷ []) (whole ∙ ap (λ xs. xs ++ part) at.whole) ∙ append_assoc (print_chunks at.chunks) part (b ∷ []) in
    let little : length (data_of at.chunks) ≤ data_limit = omega (arith, at.within, ap length at.carried) in
    let none = no_line bytes (subst HasNoChunkLine (append-nil bytes) (never [])) in (
      inl (λ more. subst HasNoCoding (sym (ap (λ xs. xs ++ more) all ∙ append_assoc (print_chunks at.chunks) bytes more))
          (line_none at.chunks (bytes ++ more) at.all (no_line (bytes ++ more) (never more)))),
      subst (λ xs. ¬ (StatesTooMuch xs)) (sym all) (line_little at.chunks bytes at.all none little),
    )

pub digit_too_many : (coded content : List ℕ) (size count b : ℕ) → InDigits coded content size count → 16 ≤ count → is_ascii_hexdigit b ≡ true
    → IsRefusedCoding errors.Malformed (coded ++ b ∷ [])
digit_too_many coded content size count b d many digit =
    byte_is_bad coded content d.before d.digits b d.at d.whole (never_with_more_digits d.digits b d.all (omega (arith, many, d.count_is)) digit)

pub no_digit_at_all : (coded content : List ℕ) (size count b : ℕ) → InDigits coded content size count → count ≡ 0 → is_ascii_hexdigit b ≡ false
    → IsRefusedCoding errors.Malformed (coded ++ b ∷ [])
no_digit_at_all coded content size count b d none no_digit = by_digits d.digits refl
  where
    by_digits : (digits : List ℕ) → d.digits ≡ digits → IsRefusedCoding errors.Malformed (coded ++ b ∷ [])
    by_digits [] same = byte_is_bad coded content d.before [] b d.at (d.whole ∙ ap (λ xs. d.before ++ xs) same) (never_without_digit b no_digit)
    by_digits (c ∷ digits) same = absurd (omega (arith, ap length same, d.count_is, none))

pub bad_after_size : (coded content : List ℕ) (size b : ℕ) (l : InLine coded content size) → l.line.extension ≡ None
    → (is_ascii_hexdigit b ≡ false) ⊎ (0 < length l.line.pad) → is_ows b ≡ false → b ≢ 59 → b ≢ 13 → IsRefusedCoding errors.Malformed (coded ++ b ∷ [])
bad_after_size coded content size b l none stops no_space no_semicolon no_return =
    byte_is_bad coded content l.before (line_text l.line) b l.at l.whole (never_after_size l.line b l.is_line none stops no_space no_semicolon no_return)

pub feed_in_extension : (coded content : List ℕ) (size b : ℕ) → InExtension coded content size → b ≡ 10 → IsRefusedCoding errors.Malformed (coded ++ b ∷ [])
feed_in_extension coded content size b (l, text, some) feed =
    subst (λ c. IsRefusedCoding errors.Malformed (coded ++ c ∷ [])) (sym feed)
    (byte_is_bad coded content l.before (line_text l.line) 10 l.at l.whole (never_in_extension l.line text l.is_line some))

pub no_feed_after_return : (coded content : List ℕ) (size b : ℕ) → BeforeReturn (λ earlier. InLine earlier content size) coded → b ≢ 10
    → IsRefusedCoding errors.Malformed (coded ++ b ∷ [])
no_feed_after_return coded content size b (earlier, l, same) no_feed =
    byte_is_bad coded content l.before (line_text l.line ++ 13 ∷ []) b l.at
    (same ∙ ap (λ xs. xs ++ 13 ∷ []) l.whole ∙ append_assoc l.before (line_text l.line) (13 ∷ [])) (never_after_return l.line b l.is_line no_feed)

-- ---- a byte that goes on with a chunk line

pub nothing_of_line : (coded content : List ℕ) → AtLine coded content → InDigits coded content 0 0
nothing_of_line coded content at = record {
  before = coded;
  digits = [];
  at = at;
  all = All-nil (λ b. is_ascii_hexdigit b ≡ true);
  count_is = refl;
  few = omega arith;
  size_is = inl refl;
  whole = sym (append-nil coded);
}

pub digit_taken : (coded content : List ℕ) (size count next b : ℕ) (d : InDigits coded content size count) → count < 16 → is_ascii_hexdigit b ≡ true
    → IsSizeSoFar next (d.digits ++ b ∷ []) → InDigits (coded ++ b ∷ []) content next (count + 1)
digit_taken coded content size count next b d few digit size_is = record {
  before = d.before;
  digits = d.digits ++ b ∷ [];
  at = d.at;
  all = All-append (λ v. is_ascii_hexdigit v ≡ true) d.digits (b ∷ []) d.all (All-cons (λ v. is_ascii_hexdigit v ≡ true) b [] digit (All-nil (λ v. is_ascii_hexdigit v ≡ true)));
  count_is = let parts = length-append d.digits (b ∷ []) in omega (arith, parts, d.count_is);
  few = omega (arith, few);
  size_is = size_is;
  whole = ap (λ xs. xs ++ b ∷ []) d.whole ∙ append_assoc d.before d.digits (b ∷ []);
}

pub size_kept : (size : ℕ) (digits : List ℕ) (b : ℕ) → IsSizeSoFar size digits → data_limit < size → IsSizeSoFar size (digits ++ b ∷ [])
size_kept size digits b so_far much =
    let push = digits_value_after_push 16 0 digits b in
    elim so_far [
      | inl same ↦ inr (much, omega (arith, push, same, much))
      | inr both ↦ inr (much, omega (arith, push, both.1))
    ]

pub size_pushed : (size digit : ℕ) (digits : List ℕ) (b : ℕ) → IsSizeSoFar size digits → size ≤ data_limit → digit ≡ digit_value b
    → IsSizeSoFar (size * 16 + digit) (digits ++ b ∷ [])
size_pushed size digit digits b so_far little value =
    let push = digits_value_after_push 16 0 digits b in
    elim so_far [
      | inl same ↦ inl (omega (arith, push, same, value))
      | inr both ↦ absurd (omega (arith, both.0, little))
    ]

abbrev pub line_of_digits : (coded content : List ℕ) (size count : ℕ) → InDigits coded content size count → 0 < count → InLine coded content size
line_of_digits coded content size count d some = record {
  before = d.before;
  line = line_of d.digits;
  at = d.at;
  is_line = is_line_of d.digits d.all (omega (arith, some, d.count_is)) (omega (arith, d.count_is, d.few));
  size_is = d.size_is;
  whole = d.whole ∙ ap (λ xs. d.before ++ xs) (sym (append-nil d.digits));
}

-- the text with one more byte
text_more : (coded before text next : List ℕ) (b : ℕ) → coded ≡ before ++ text → text ++ b ∷ [] ≡ next → coded ++ b ∷ [] ≡ before ++ next
text_more coded before text next b whole same = ap (λ xs. xs ++ b ∷ []) whole ∙ append_assoc before text (b ∷ []) ∙ ap (λ xs. before ++ xs) same

pub space_taken : (coded content : List ℕ) (size b : ℕ) (l : InLine coded content size) → l.line.extension ≡ None → is_ows b ≡ true → InPad (coded ++ b ∷ []) content size
space_taken coded content size b l none space =
    let pad = l.line.pad ++ b ∷ [] in
    let parts = length-append l.line.pad (b ∷ []) in (
      record {
        before = l.before;
        line = record { digits = l.line.digits; pad = pad; extension = None };
        at = l.at;
        is_line = record {
          digits = l.is_line.digits;
          pad = All-append (λ v. is_ows v ≡ true) l.line.pad (b ∷ []) l.is_line.pad (All-cons (λ v. is_ows v ≡ true) b [] space (All-nil (λ v. is_ows v ≡ true)));
          extension = tt;
        };
        size_is = l.size_is;
        whole = text_more coded l.before (line_text l.line) (l.line.digits ++ (pad ++ [])) b l.whole
            (ap (λ e. (l.line.digits ++ (l.line.pad ++ print_extension e)) ++ b ∷ []) none
            ∙ ap (λ xs. (l.line.digits ++ xs) ++ b ∷ []) (append-nil l.line.pad) ∙ append_assoc l.line.digits l.line.pad (b ∷ []) ∙ ap (λ xs. l.line.digits ++ xs) (sym (append-nil pad)));
      },
      refl,
      omega (arith, parts),
    )

pub semicolon_taken : (coded content : List ℕ) (size b : ℕ) (l : InLine coded content size) → l.line.extension ≡ None → b ≡ 59 → InExtension (coded ++ b ∷ []) content size
semicolon_taken coded content size b l none semicolon = (
  record {
    before = l.before;
    line = record { digits = l.line.digits; pad = l.line.pad; extension = Some [] };
    at = l.at;
    is_line = record { digits = l.is_line.digits; pad = l.is_line.pad; extension = All-nil (λ v. is_extension_byte v ≡ true) };
    size_is = l.size_is;
    whole = text_more coded l.before (line_text l.line) (l.line.digits ++ (l.line.pad ++ 59 ∷ [])) b l.whole
        (ap (λ e. (l.line.digits ++ (l.line.pad ++ print_extension e)) ++ b ∷ []) none
        ∙ ap (λ xs. (l.line.digits ++ xs) ++ b ∷ []) (append-nil l.line.pad) ∙ append_assoc l.line.digits l.line.pad (b ∷ [])
        ∙ ap (λ c. l.line.digits ++ (l.line.pad ++ c ∷ [])) semicolon);
  },
  [],
  refl,
)

pub extension_taken : (coded content : List ℕ) (size b : ℕ) → InExtension coded content size → is_extension_byte b ≡ true → InExtension (coded ++ b ∷ []) content size
extension_taken coded content size b (l, text, some) passes =
    let all : AllPass is_extension_byte (text ++ b ∷ []) =
    All-append (λ v. is_extension_byte v ≡ true) text (b ∷ []) (subst IsExtension some l.is_line.extension)
    (All-cons (λ v. is_extension_byte v ≡ true) b [] passes (All-nil (λ v. is_extension_byte v ≡ true))) in (
      record {
        before = l.before;
        line = record { digits = l.line.digits; pad = l.line.pad; extension = Some (text ++ b ∷ []) };
        at = l.at;
        is_line = record { digits = l.is_line.digits; pad = l.is_line.pad; extension = all };
        size_is = l.size_is;
        whole = text_more coded l.before (line_text l.line) (l.line.digits ++ (l.line.pad ++ (59 ∷ (text ++ b ∷ [])))) b l.whole
            (ap (λ e. (l.line.digits ++ (l.line.pad ++ print_extension e)) ++ b ∷ []) some
            ∙ append_assoc l.line.digits (l.line.pad ++ (59 ∷ text)) (b ∷ []) ∙ ap (λ xs. l.line.digits ++ xs) (append_assoc l.line.pad (59 ∷ text) (b ∷ [])));
      },
      text ++ b ∷ [],
      refl,
    )

pub return_taken : (coded content : List ℕ) (size b : ℕ) → InLine coded content size → b ≡ 13 → BeforeReturn (λ earlier. InLine earlier content size) (coded ++ b ∷ [])
return_taken coded content size b l return = (coded, l, ap (λ c. coded ++ c ∷ []) return)

-- ---- the end of a chunk line

line_ended : (coded content : List ℕ) (size b : ℕ) (r : BeforeReturn (λ earlier. InLine earlier content size) coded) → b ≡ 10
    → coded ++ b ∷ [] ≡ print_chunks r.1.at.chunks ++ print_chunk_line r.1.line
line_ended coded content size b (earlier, l, same) feed =
    ap (λ xs. xs ++ b ∷ []) same ∙ append_assoc earlier (13 ∷ []) (b ∷ []) ∙ ap (λ c. earlier ++ 13 ∷ c ∷ []) feed
    ∙ ap (λ xs. xs ++ crlf_bytes) (l.whole ∙ ap (λ xs. xs ++ line_text l.line) l.at.whole)
    ∙ append_assoc (print_chunks l.at.chunks) (line_text l.line) crlf_bytes ∙ ap (λ xs. print_chunks l.at.chunks ++ xs) (sym (line_whole l.line))

pub size_is_much : (coded content : List ℕ) (size b : ℕ) → BeforeReturn (λ earlier. InLine earlier content size) coded → b ≡ 10
    → data_limit < length content + size → StatesTooMuch (coded ++ b ∷ [])
size_is_much coded content size b r feed much =
    let l = r.1 in
    let carried = ap length l.at.carried in
    record {
      chunks = l.at.chunks;
      line = l.line;
      rest = [];
      has = record {
        all = l.at.all;
        is_line = l.is_line;
        whole = line_ended coded content size b r feed ∙ ap (λ xs. print_chunks l.at.chunks ++ xs) (sym (append-nil (print_chunk_line l.line)));
      };
      much = elim l.size_is [ inl same ↦ omega (arith, same, much, carried) | inr both ↦ omega (arith, both.1) ];
    }

-- a size that data may still have is exact
exact : (size have : ℕ) (digits : List ℕ) → IsSizeSoFar size digits → have + size ≤ data_limit → digits_value 16 digits ≡ size
exact size have digits so_far little = elim so_far [ inl same ↦ sym same | inr both ↦ absurd (omega (arith, both.0, little)) ]

pub chunk_begins : (coded content : List ℕ) (size b : ℕ) → BeforeReturn (λ earlier. InLine earlier content size) coded → b ≡ 10
    → length content + size ≤ data_limit → 0 < size → InChunk (coded ++ b ∷ []) content size
chunk_begins coded content size b r feed little some =
    let l = r.1 in
    let same = exact size (length content) l.line.digits l.size_is little in
    record {
      chunks = l.at.chunks;
      line = l.line;
      part = [];
      all = l.at.all;
      is_line = l.is_line;
      some = omega (arith, some, same);
      size = omega (arith, same);
      whole = line_ended coded content size b r feed ∙ ap (λ xs. print_chunks l.at.chunks ++ xs) (sym (append-nil (print_chunk_line l.line)));
      carried = l.at.carried ∙ sym (append-nil (data_of l.at.chunks));
      within = little;
    }

-- before the first byte of a trailer line, or of the empty line after them
pub nothing_of_trailer : (coded content : List ℕ) (size : ℕ) → InTrailers coded content size → InTrailer coded content size 0 false false
nothing_of_trailer coded content size at = record {
  before = coded;
  part = [];
  at = at;
  one_line = no_end_in_nothing;
  count_is = refl;
  named_is = refl;
  returned_is = record {
    yes = λ same. absurd (false≢true same);
    no = λ same start whole. (let parts = length-append start (13 ∷ []) in omega (arith, ap length whole, parts));
  };
  few = inr (inl refl);
  whole = sym (append-nil coded);
}

pub trailers_begin : (coded content : List ℕ) (size b : ℕ) → BeforeReturn (λ earlier. InLine earlier content size) coded → b ≡ 10
    → length content + size ≤ data_limit → size ≡ 0 → InTrailer (coded ++ b ∷ []) content 0 0 false false
trailers_begin coded content size b r feed little none =
    let l = r.1 in
    let same = exact size (length content) l.line.digits l.size_is little in
    let at : InTrailers (coded ++ b ∷ []) content 0 = record {
      chunks = l.at.chunks;
      last = l.line;
      lines = [];
      all = l.at.all;
      is_line = l.is_line;
      ends = same ∙ none;
      trailers = All-nil IsTrailer;
      whole = line_ended coded content size b r feed ∙ ap (λ xs. print_chunks l.at.chunks ++ xs) (sym (append-nil (print_chunk_line l.line)));
      carried = l.at.carried;
      within = l.at.within;
      size_is = refl;
      few = omega arith;
    } in
    nothing_of_trailer (coded ++ b ∷ []) content 0 at
