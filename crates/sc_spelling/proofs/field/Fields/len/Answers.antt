-- As many fields are lent as are left.
use Rattle.std.proofs.Common.{length, sym, ap, ◌∙◌}
use Rattle.sc_spelling.proofs.LoopLemmas.{fields_count}
use Rattle.sc_spelling.proofs.field.Fields.len.Goals as goal

pub returns : goal.returns
returns c =
    let at = c.self.inside in
    sym (fields_count at.before.now at.left at.rest.now c.self.invariant) ∙ ap length c.self.view_is
