-- As many values are lent as are left.
use Rattle.std.proofs.Common.{length, sym, ap, ◌∙◌}
use Rattle.sc_spelling.proofs.LoopLemmas.{values_count}
use Rattle.sc_spelling.proofs.value.Values.len.Goals as goal

pub returns : goal.returns
returns c =
    let at = c.self.inside in
    sym (values_count at.kind at.left at.rest.now c.self.invariant) ∙ ap length c.self.view_is
