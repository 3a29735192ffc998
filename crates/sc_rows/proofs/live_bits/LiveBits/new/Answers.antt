-- Words of ones make all rows live.
use Rattle.std.proofs.Common.{◌≤◌, ◌*◌, ap, ◌∙◌, arith}
use Rattle.sc_rows.proofs.BitsLemmas.{live_rows-ones}
use Rattle.sc_rows.specs.Live.{live_rows}
use Rattle.sc_rows.proofs.live_bits.LiveBits.new.Goals as goal

pub returns : goal.returns
returns c =
    let items = c.in_ok-words.ensures.items_if_clones_equal (λ y same. same) in
    let enough : c.args.rows ≤ 64 * c.div_ceil-count.result = omega (arith, c.div_ceil-count.ensures) in
    ap (live_rows c.args.rows) items ∙ live_rows-ones c.args.rows c.div_ceil-count.result enough
