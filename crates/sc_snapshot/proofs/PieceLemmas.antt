-- The piece in which a row lies.
use Rattle.std.proofs.Common.{◌≡◌, ℕ, ◌+◌, ◌-◌, ◌<◌, ◌≤◌, List, [], ◌∷◌, ◌++◌, take, drop, length, slice_get, get_or, Some, refl, sym, ap, ◌∙◌, arith, append-nil, ⊎_elim, length-append}
use Rattle.std.proofs.Math.Seq.{take-add, take-append_seam, drop-append_seam}
use Rattle.std.proofs.lemmas.List.{take_all, take_more, take-take, drop_more, drop-drop, drop-take, take-append-drop, take-append-le, get_or-drop, get_or-take}
use Rattle.std.proofs.lemmas.List.Concat.{flat_map-append}
use Rattle.std.proofs.lemmas.Option.{slice_get_within, slice_get_read, get_or_from_slice_get}
use Rattle.sc_record.specs.Writes.{Write}
use Rattle.sc_snapshot.specs.declared.pieces.Piece.{Piece}
use Rattle.sc_snapshot.specs.Pieces.{rows_in, rows_of, start_of, HaveEnds, HasRow}
use Rattle.sc_snapshot.proofs.ChangeLemmas.{at-push}

-- the rows of one piece more
pub rows_of-next : (pieces : List Piece) (place : ℕ) (piece : Piece) → slice_get pieces place ≡ Some piece
    → rows_of (take (place + 1) pieces) ≡ rows_of (take place pieces) ++ rows_in piece
rows_of-next pieces place piece is =
    ap rows_of (take_more pieces place piece (slice_get_within pieces place piece is))
    ∙ flat_map-append rows_in (take place pieces) (get_or pieces place piece ∷ [])
    ∙ ap (λ (p : Piece). rows_of (take place pieces) ++ (rows_in p ++ [])) (get_or_from_slice_get pieces place piece piece is)
    ∙ ap (λ (rows : List Write). rows_of (take place pieces) ++ rows) (append-nil (rows_in piece))

-- a piece ends after the rows before it and its own
pub ends-after : (pieces : List Piece) (place : ℕ) (piece : Piece) → HaveEnds pieces → slice_get pieces place ≡ Some piece
    → piece.end ≡ length (rows_of (take place pieces)) + length (rows_in piece)
ends-after pieces place piece ends is =
    ends place piece is ∙ ap (λ (rows : List Write). length rows) (rows_of-next pieces place piece is)
    ∙ length-append (rows_of (take place pieces)) (rows_in piece)

-- the rows are those before a piece, its own and those after it
rows_of-split : (pieces : List Piece) (place : ℕ) (piece : Piece) → slice_get pieces place ≡ Some piece
    → rows_of pieces ≡ rows_of (take place pieces) ++ (rows_in piece ++ rows_of (drop (place + 1) pieces))
rows_of-split pieces place piece is =
    ap rows_of (sym (take-append-drop place pieces))
    ∙ flat_map-append rows_in (take place pieces) (drop place pieces)
    ∙ ap (λ (ps : List Piece). rows_of (take place pieces) ++ rows_of ps)
    (drop_more pieces place piece (slice_get_within pieces place piece is)
    ∙ ap (λ (p : Piece). p ∷ drop (place + 1) pieces) (get_or_from_slice_get pieces place piece piece is))

-- the piece that ends after a row, and before which there are no more rows than that, has the row
pub has_row : (pieces : List Piece) (place at : ℕ) (piece : Piece) → HaveEnds pieces → slice_get pieces place ≡ Some piece
    → length (rows_of (take place pieces)) ≤ at → at < length (rows_of (take (place + 1) pieces)) → HasRow (rows_of pieces) at piece
has_row pieces place at piece ends is from within =
    let before = rows_of (take place pieces) in
    let rest = rows_of (drop (place + 1) pieces) in
    let own = rows_in piece in
    let end : piece.end ≡ length (rows_of (take (place + 1) pieces)) = ends place piece is in
    let more : length (rows_of (take (place + 1) pieces)) ≡ length before + length own =
    ap (λ (rows : List Write). length rows) (rows_of-next pieces place piece is) ∙ length-append before own in
    let split : rows_of pieces ≡ before ++ (own ++ rest) = rows_of-split pieces place piece is in
    let size : length (rows_of pieces) ≡ length before + (length own + length rest) =
    ap (λ (rows : List Write). length rows) split ∙ length-append before (own ++ rest) ∙ ap (λ n. length before + n) (length-append own rest) in
    let start : start_of piece ≡ length before = omega (arith, end, more) in
    record {
      fits = omega (arith, end, more);
      start = omega (arith, start, from);
      within = omega (arith, end, within);
      bounded = omega (arith, end, more, size);
      part = sym (ap (λ n. take (length own) (drop n (rows_of pieces))) start
          ∙ ap (λ (rows : List Write). take (length own) (drop (length before) rows)) split
          ∙ ap (take (length own)) (drop-append_seam before (own ++ rest))
          ∙ take-append_seam own rest);
    }

-- all pieces up to past the last are all
pub rows_of-all : (pieces : List Piece) (place : ℕ) → length pieces ≤ place → rows_of (take place pieces) ≡ rows_of pieces
rows_of-all pieces place past = ap rows_of (take_all place pieces past)

-- the rows with one piece more at the end
pub rows_of-push : (pieces : List Piece) (piece : Piece) → rows_of (pieces ++ piece ∷ []) ≡ rows_of pieces ++ rows_in piece
rows_of-push pieces piece =
    flat_map-append rows_in pieces (piece ∷ []) ∙ ap (λ (rows : List Write). rows_of pieces ++ rows) (append-nil (rows_in piece))

-- pieces of which one more ends after its rows have ends
pub HaveEnds-push : (pieces : List Piece) (piece : Piece) → HaveEnds pieces → piece.end ≡ length (rows_of pieces) + length (rows_in piece)
    → HaveEnds (pieces ++ piece ∷ [])
HaveEnds-push pieces piece ends end place other is = ⊎_elim
    (λ before.
    let within = slice_get_within pieces place other before in
    ends place other before ∙ ap (λ (ps : List Piece). length (rows_of ps)) (sym (take-append-le (place + 1) pieces (piece ∷ []) (omega (arith, within)))))
    (λ last.
    let long : length (pieces ++ piece ∷ []) ≤ place + 1 =
    let size = length-append pieces (piece ∷ []) in omega (arith, size, last.0) in
    ap (λ (p : Piece). p.end) (sym last.1) ∙ end
    ∙ sym (ap (λ (rows : List Write). length rows) (rows_of-push pieces piece) ∙ length-append (rows_of pieces) (rows_in piece))
    ∙ ap (λ (rows : List Write). length rows) (sym (rows_of-all (pieces ++ piece ∷ []) (place + 1) long)))
    (at-push pieces piece other place is)

-- a row of the piece is one of the rows
pub row-in : (rows : List Write) (at : ℕ) (piece : Piece) (row : Write) → HasRow rows at piece
    → slice_get (rows_in piece) (at - start_of piece) ≡ Some row → slice_get rows at ≡ Some row
row-in rows at piece row has is =
    let n = at - start_of piece in
    let short = slice_get_within (rows_in piece) n row is in
    let read : get_or (rows_in piece) n row ≡ row = get_or_from_slice_get (rows_in piece) n row row is in
    let there : get_or (rows_in piece) n row ≡ get_or rows (start_of piece + n) row =
    ap (λ (ws : List Write). get_or ws n row) has.part
    ∙ get_or-take (length (rows_in piece)) (drop (start_of piece) rows) n row short
    ∙ get_or-drop (start_of piece) rows n row in
    let place : start_of piece + n ≡ at = let start = has.start in omega (arith, start) in
    let whole : row ≡ get_or rows at row = sym read ∙ there ∙ ap (λ i. get_or rows i row) place in
    let bound : at < length rows = let end = has.within in let all = has.bounded in omega (arith, end, all) in
    slice_get_read rows (length rows) at row refl bound whole

-- the rows of a piece from this one on, up to one that it has
pub part-of : (rows : List Write) (at to : ℕ) (piece : Piece) → HasRow rows at piece → at ≤ to → to ≤ piece.end
    → take (to - start_of piece - (at - start_of piece)) (drop (at - start_of piece) (rows_in piece)) ≡ take (to - at) (drop at rows)
part-of rows at to piece has from bounded =
    let size = length (rows_in piece) in
    let start = start_of piece in
    let skip = at - start in
    let first = has.start in
    let fits = has.fits in
    let within = has.within in
    let count : to - start - skip ≡ to - at = omega (arith, first, from) in
    let sum : size ≡ skip + (size - skip) = omega (arith, first, fits, within) in
    let place : start + skip ≡ at = omega (arith, first) in
    let few : to - at ≤ size - skip = omega (arith, first, fits, bounded) in
    ap (λ n. take n (drop skip (rows_in piece))) count
    ∙ ap (λ (ws : List Write). take (to - at) (drop skip ws)) (has.part ∙ ap (λ n. take n (drop start rows)) sum)
    ∙ ap (take (to - at)) (drop-take skip (size - skip) (drop start rows) ∙ ap (take (size - skip)) (drop-drop skip start rows ∙ ap (λ n. drop n rows) place))
    ∙ take-take (to - at) (size - skip) (drop at rows) few

-- all rows of a piece
pub whole-of : (rows : List Write) (at : ℕ) (piece : Piece) → HasRow rows at piece → at ≡ start_of piece
    → rows_in piece ≡ take (piece.end - at) (drop at rows)
whole-of rows at piece has first =
    let fits = has.fits in
    let size : length (rows_in piece) ≡ piece.end - at = omega (arith, fits, first) in
    has.part ∙ ap (λ n. take n (drop (start_of piece) rows)) size ∙ ap (λ n. take (piece.end - at) (drop n rows)) (sym first)

-- rows that follow one another
pub take-on : (rows : List Write) (from at to : ℕ) → from ≤ at → at ≤ to
    → take (at - from) (drop from rows) ++ take (to - at) (drop at rows) ≡ take (to - from) (drop from rows)
take-on rows from at to one other =
    let there : drop at rows ≡ drop (at - from) (drop from rows) =
    sym (drop-drop (at - from) from rows ∙ ap (λ n. drop n rows) (let sum : from + (at - from) ≡ at = omega (arith, one) in sum)) in
    ap (λ (ws : List Write). take (at - from) (drop from rows) ++ take (to - at) ws) there
    ∙ sym (take-add (at - from) (to - at) (drop from rows))
    ∙ ap (λ n. take n (drop from rows)) (let sum : (at - from) + (to - at) ≡ to - from = omega (arith, one, other) in sum)
