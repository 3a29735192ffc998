-- A cleared bit takes that row alone.
use Rattle.std.proofs.Common.{◌≤◌, ◌*◌, ◌/◌, ◌%◌, ◌^◌, length, set, false, ap, ◌∙◌, arith, bit_and, w64}
use Rattle.std.proofs.lemmas.List.{get_or_default}
use Rattle.std.specs.Int.{bit_not}
use Rattle.sc_rows.proofs.BitsLemmas.{row_within, place_within, live_rows-set}
use Rattle.sc_rows.specs.Live.{live_rows}
use Rattle.sc_rows.proofs.live_bits.LiveBits.clear.Goals as goal

pub index-word-requires : goal.index-word-requires
index-word-requires c =
    place_within c.self.inside.rows c.args.row _ (row_within c.self.inside.rows c.args.row _ _ c.self.view_is c.requires) c.self.invariant

pub index_mut-requires : goal.index_mut-requires
index_mut-requires c =
    place_within c.self.inside.rows c.args.row _ (row_within c.self.inside.rows c.args.row _ _ c.self.view_is c.requires) c.self.invariant

pub returns : goal.returns
returns c =
    let words = c.self.inside.words.items in
    let below = row_within c.self.inside.rows c.args.row words _ c.self.view_is c.requires in
    let enough : c.self.inside.rows ≤ 64 * length words = omega (arith, c.self.invariant) in
    let read = c.index-word.ensures ∙ get_or_default words (c.args.row / 64) c.index-word.result.now 0 (place_within c.self.inside.rows c.args.row (length words) below enough) in
    ap (λ word. live_rows c.self.inside.rows (set words (c.args.row / 64) (bit_and word (bit_not w64 (1 * 2 ^ (c.args.row % 64) % 2 ^ 64))))) read
    ∙ live_rows-set c.self.inside.rows words c.args.row below enough
    ∙ ap (λ live. set live c.args.row false) c.self.view_is
