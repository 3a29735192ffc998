-- One more slice is in recovery.
use Rattle.std.proofs.Common.{◌∙◌, sym, ap, set, arith}
use Rattle.std.proofs.lemmas.List.Edits.{map_over_more}
use Rattle.sc_cluster.specs.Changes.{recovering_slice}
use Rattle.sc_cluster.proofs.state.start_recovery.Goals as goal

pub loop-slice-preserved : goal.loop-slice-preserved
loop-slice-preserved c =
    let i = c.loop-slice.slice-index in
    ap (set c.loop-slice.slice-items i) (c.recover.ensures ∙ ap recovering_slice (sym c.slice-item.is))
    ∙ map_over_more recovering_slice c.args.slices.now c.loop-slice.slice-items i c.slice-item.result (omega arith) c.loop-slice.invariant c.slice-item.is
