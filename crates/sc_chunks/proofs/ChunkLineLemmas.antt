-- A chunk line, as far as it came: it is open, and a byte goes on with it, ends it or belongs to none.
use Rattle.std.proofs.Common.{◌≡◌, ◌≢◌, ℕ, ◌<◌, ◌≤◌, ◌⊎◌, inl, inr, true, false, List, [], ◌∷◌, ◌++◌, length, Option, Some, None, refl, sym, ap, ◌∙◌, subst, arith, append_assoc, append-nil, length-append}
use Rattle.std.proofs.lemmas.Bool.Decides.{nat_tests}
use Rattle.std.proofs.lemmas.List.Elements.{All-head, All-append, All-cons, All-nil, All-get_or}
use Rattle.std.specs.Char.{is_ascii_hexdigit}
use Rattle.httparse.specs.Ascii.{crlf_bytes}
use Rattle.httparse.specs.Grammar.{is_ows, is_extension_byte, AllPass, print_extension, ChunkLine, print_chunk_line, IsExtension, IsChunkLine, ReadsChunkLine, HasNoChunkLine, NeverHasChunkLine}
use Rattle.httparse.specs.Pieces.{Stops}
use Rattle.httparse.proofs.ChunkLemmas.{chunk_line_unique, chunk_pieces, HexDigits_long}
use Rattle.httparse.proofs.PieceLemmas.{Never_elim}
use Rattle.httparse.proofs.RunLemmas.{run_unique}
use Rattle.sc_chunks.specs.Progress.{line_text}

pub line_whole : (line : ChunkLine) → print_chunk_line line ≡ line_text line ++ crlf_bytes
unfolding print_chunk_line
line_whole line = simp append_assoc

-- bytes that are only a part of a chunk line begin with none
pub part_has_none : (part more : List ℕ) (line : ChunkLine) → IsChunkLine line → part ++ more ≡ print_chunk_line line → 0 < length more → HasNoChunkLine part
part_has_none part more line is same some other rest reads =
    let lines = chunk_line_unique (part ++ more) line other [] (rest ++ more) (is, same ∙ sym (append-nil (print_chunk_line line)))
    (reads.0, ap (λ xs. xs ++ more) reads.1 ∙ append_assoc (print_chunk_line other) rest more) in
    let parts = length-append rest more in
    omega (arith, some, ap length lines.1, parts)

-- ---- bytes that are no part of a chunk line

space_is_no_digit : (b : ℕ) → is_ows b ≡ true → is_ascii_hexdigit b ≡ false
space_is_no_digit b space = grind (arith, nat_tests)

-- white space before what is no digit
stops_pad : (pad rest : List ℕ) → AllPass is_ows pad → Stops is_ascii_hexdigit rest → Stops is_ascii_hexdigit (pad ++ rest)
stops_pad [] rest all stops = stops
stops_pad (b ∷ pad) rest all stops = space_is_no_digit b (All-head (λ v. is_ows v ≡ true) b pad all)

-- white space, and then what need not be white space
stops_some_pad : (pad rest : List ℕ) → AllPass is_ows pad → 0 < length pad → Stops is_ascii_hexdigit (pad ++ rest)
stops_some_pad [] rest all some = absurd (omega (arith, some))
stops_some_pad (b ∷ pad) rest all some = space_is_no_digit b (All-head (λ v. is_ows v ≡ true) b pad all)

-- what follows the digits and the white space of a chunk line is an extension and a line end
after_pad : (line : ChunkLine) (tail : List ℕ) (other : ChunkLine) (rest : List ℕ) → IsChunkLine line → Stops is_ascii_hexdigit (line.pad ++ tail) → Stops is_ows tail
    → ReadsChunkLine (line.digits ++ (line.pad ++ tail)) other rest → IsExtension other.extension × (tail ≡ print_extension other.extension ++ (crlf_bytes ++ rest))
after_pad line tail other rest is digits_stop pad_stops reads =
    let pieces = chunk_pieces (line.digits ++ (line.pad ++ tail)) other rest reads in
    let digits = run_unique is_ascii_hexdigit line.digits other.digits (line.pad ++ tail) pieces.0 is.digits.2 pieces.1.0.0 digits_stop pieces.1.0.2 pieces.1.0.1 in
    let pads = run_unique is_ows line.pad other.pad tail pieces.2.0 is.pad pieces.2.1.0 pad_stops pieces.2.1.2 (digits.1 ∙ pieces.2.1.1) in
    (pieces.2.2.0, pads.1 ∙ pieces.2.2.1)

-- an extension or a line end begins with a semicolon or a CR
extension_begins : (extension : Option (List ℕ)) (b : ℕ) (tail rest : List ℕ) → b ≢ 59 → b ≢ 13 → ¬ (b ∷ tail ≡ print_extension extension ++ (crlf_bytes ++ rest))
extension_begins None b tail rest no_semicolon no_return same = let e : b ≡ 13 = cc in no_return e
extension_begins (Some text) b tail rest no_semicolon no_return same = let e : b ≡ 59 = cc in no_semicolon e

-- what follows the text of a line, by its parts
text_then : (line : ChunkLine) (tail : List ℕ) → line_text line ++ tail ≡ line.digits ++ (line.pad ++ (print_extension line.extension ++ tail))
text_then line tail =
    append_assoc line.digits (line.pad ++ print_extension line.extension) tail
    ∙ ap (λ xs. line.digits ++ xs) (append_assoc line.pad (print_extension line.extension) tail)

-- no digit at all
pub never_without_digit : (b : ℕ) → is_ascii_hexdigit b ≡ false → NeverHasChunkLine (b ∷ [])
never_without_digit b no_digit more other rest reads =
    let pieces = chunk_pieces (b ∷ more) other rest reads in
    let digits = run_unique is_ascii_hexdigit [] other.digits (b ∷ more) pieces.0 (All-nil (λ v. is_ascii_hexdigit v ≡ true)) pieces.1.0.0 no_digit pieces.1.0.2 pieces.1.0.1 in
    omega (arith, ap length digits.0, pieces.1.1)

-- a digit too many
pub never_with_more_digits : (digits : List ℕ) (b : ℕ) → AllPass is_ascii_hexdigit digits → 16 ≤ length digits → is_ascii_hexdigit b ≡ true
    → NeverHasChunkLine (digits ++ b ∷ [])
never_with_more_digits digits b all many digit more other rest reads =
    let parts = length-append digits (b ∷ []) in
    let whole : AllPass is_ascii_hexdigit (digits ++ b ∷ []) =
    All-append (λ v. is_ascii_hexdigit v ≡ true) digits (b ∷ []) all (All-cons (λ v. is_ascii_hexdigit v ≡ true) b [] digit (All-nil (λ v. is_ascii_hexdigit v ≡ true))) in
    let never = HexDigits_long (digits ++ b ∷ []) (omega (arith, parts, many))
    (λ k below. All-get_or (λ v. is_ascii_hexdigit v ≡ true) (digits ++ b ∷ []) k 0 (omega (arith, parts, many, below)) whole) in
    let pieces = chunk_pieces ((digits ++ b ∷ []) ++ more) other rest reads in
    Never_elim never more (other.digits, pieces.0, pieces.1)

-- after the size and white space, a byte that is neither that nor a semicolon nor CR
pub never_after_size : (line : ChunkLine) (b : ℕ) → IsChunkLine line → line.extension ≡ None → (is_ascii_hexdigit b ≡ false) ⊎ (0 < length line.pad)
    → is_ows b ≡ false → b ≢ 59 → b ≢ 13 → NeverHasChunkLine (line_text line ++ b ∷ [])
never_after_size line b is none stops no_space no_semicolon no_return more other rest reads =
    let whole : (line_text line ++ b ∷ []) ++ more ≡ line.digits ++ (line.pad ++ (b ∷ more)) =
    append_assoc (line_text line) (b ∷ []) more ∙ text_then line (b ∷ more) ∙ ap (λ e. line.digits ++ (line.pad ++ (print_extension e ++ (b ∷ more)))) none in
    let digits_stop : Stops is_ascii_hexdigit (line.pad ++ (b ∷ more)) = elim stops [
      | inl no_digit ↦ stops_pad line.pad (b ∷ more) is.pad no_digit
      | inr some ↦ stops_some_pad line.pad (b ∷ more) is.pad some
    ] in
    let after = after_pad line (b ∷ more) other rest is digits_stop no_space (reads.0, sym whole ∙ reads.1) in
    extension_begins other.extension b more rest no_semicolon no_return after.1

-- LF in an extension
feed_in_text : (extension : Option (List ℕ)) (text more rest : List ℕ) → IsExtension extension → AllPass is_extension_byte text
    → ¬ (59 ∷ (text ++ (10 ∷ more)) ≡ print_extension extension ++ (crlf_bytes ++ rest))
feed_in_text None text more rest is all same = let e : ◌≡◌ {A = ℕ} 59 13 = cc in omega (arith, e)
feed_in_text (Some other) text more rest is all same =
    let runs = run_unique is_extension_byte text other (10 ∷ more) (13 ∷ 10 ∷ rest) all is refl refl (cc) in
    let tails = runs.1 in
    let e : ◌≡◌ {A = ℕ} 10 13 = cc in
    omega (arith, e)

pub never_in_extension : (line : ChunkLine) (text : List ℕ) → IsChunkLine line → line.extension ≡ Some text → NeverHasChunkLine (line_text line ++ 10 ∷ [])
never_in_extension line text is some more other rest reads =
    let tail = 59 ∷ (text ++ (10 ∷ more)) in
    let whole : (line_text line ++ 10 ∷ []) ++ more ≡ line.digits ++ (line.pad ++ tail) =
    append_assoc (line_text line) (10 ∷ []) more ∙ text_then line (10 ∷ more) ∙ ap (λ e. line.digits ++ (line.pad ++ (print_extension e ++ (10 ∷ more)))) some in
    let after = after_pad line tail other rest is (stops_pad line.pad tail is.pad refl) refl (reads.0, sym whole ∙ reads.1) in
    feed_in_text other.extension text more rest after.0 (subst IsExtension some is.extension) after.1

-- CR and then no LF
stops_extension : (test : ℕ → _) → test 59 ≡ false → test 13 ≡ false → (extension : Option (List ℕ)) (tail : List ℕ) → Stops test (print_extension extension ++ (13 ∷ tail))
stops_extension test semicolon return None tail = return
stops_extension test semicolon return (Some text) tail = semicolon

no_feed_after_return : (extension other : Option (List ℕ)) (b : ℕ) (more rest : List ℕ) → IsExtension extension → IsExtension other → b ≢ 10
    → ¬ (print_extension extension ++ (13 ∷ b ∷ more) ≡ print_extension other ++ (crlf_bytes ++ rest))
no_feed_after_return None None b more rest is also no_feed same = let e : b ≡ 10 = cc in no_feed e
no_feed_after_return None (Some text) b more rest is also no_feed same = let e : ◌≡◌ {A = ℕ} 13 59 = cc in omega (arith, e)
no_feed_after_return (Some text) None b more rest is also no_feed same = let e : ◌≡◌ {A = ℕ} 59 13 = cc in omega (arith, e)
no_feed_after_return (Some text) (Some other) b more rest is also no_feed same =
    let runs = run_unique is_extension_byte text other (13 ∷ b ∷ more) (13 ∷ 10 ∷ rest) is also refl refl (cc) in
    let tails = runs.1 in
    let e : b ≡ 10 = cc in
    no_feed e

pub never_after_return : (line : ChunkLine) (b : ℕ) → IsChunkLine line → b ≢ 10 → NeverHasChunkLine ((line_text line ++ 13 ∷ []) ++ b ∷ [])
never_after_return line b is no_feed more other rest reads =
    let tail = print_extension line.extension ++ (13 ∷ b ∷ more) in
    let whole : ((line_text line ++ 13 ∷ []) ++ b ∷ []) ++ more ≡ line.digits ++ (line.pad ++ tail) =
    append_assoc (line_text line ++ 13 ∷ []) (b ∷ []) more ∙ append_assoc (line_text line) (13 ∷ []) (b ∷ more) ∙ text_then line (13 ∷ b ∷ more) in
    let after = after_pad line tail other rest is (stops_pad line.pad tail is.pad (stops_extension is_ascii_hexdigit refl refl line.extension (b ∷ more)))
    (stops_extension is_ows refl refl line.extension (b ∷ more)) (reads.0, sym whole ∙ reads.1) in
    no_feed_after_return line.extension other.extension b more rest is.extension after.0 no_feed after.1
