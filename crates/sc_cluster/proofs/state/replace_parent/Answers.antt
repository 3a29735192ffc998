-- One more slice is switched.
use Rattle.std.proofs.Common.{◌∙◌, sym, ap, set, arith}
use Rattle.std.proofs.lemmas.List.Edits.{map_over_more}
use Rattle.sc_cluster.specs.Changes.{switched_slice}
use Rattle.sc_cluster.proofs.state.replace_parent.Goals as goal

pub loop-slice-preserved : goal.loop-slice-preserved
loop-slice-preserved c =
    let i = c.loop-slice.slice-index in
    let step = switched_slice c.args.parent in
    ap (set c.loop-slice.slice-items i) (c.switch.ensures ∙ ap step (sym c.slice-item.is))
    ∙ map_over_more step c.args.slices.now c.loop-slice.slice-items i c.slice-item.result (omega arith) c.loop-slice.invariant c.slice-item.is
