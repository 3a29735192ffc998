-- A row is live by its bit.
use Rattle.std.proofs.Common.{◌<◌, ◌/◌, ◌%◌, ◌^◌, ◌==◌, length, Some, sym, ap, ◌∙◌, arith, bit_and}
use Rattle.std.proofs.lemmas.List.{get_or_default}
use Rattle.std.specs.List.{slice_get}
use Rattle.sc_rows.proofs.BitsLemmas.{row_within, place_within, slice_get-live_rows}
use Rattle.sc_rows.proofs.live_bits.LiveBits.is_live.Goals as goal

pub index-word-requires : goal.index-word-requires
index-word-requires c =
    place_within c.self.inside.rows c.args.row _ (row_within c.self.inside.rows c.args.row _ _ c.self.view_is c.requires) c.self.invariant

pub returns : goal.returns
returns c =
    let words = c.self.inside.words.items in
    let below = row_within c.self.inside.rows c.args.row words _ c.self.view_is c.requires in
    let within : c.args.row / 64 < length words = omega (arith, place_within c.self.inside.rows c.args.row _ below c.self.invariant) in
    let read = c.index-word.ensures ∙ get_or_default words (c.args.row / 64) c.index-word.result.now 0 within in
    ap (λ live. slice_get live c.args.row) (sym c.self.view_is)
    ∙ slice_get-live_rows c.self.inside.rows words c.args.row below
    ∙ ap (λ word. Some (bit_and (word / 2 ^ (c.args.row % 64)) 1 == 1)) (sym read)
