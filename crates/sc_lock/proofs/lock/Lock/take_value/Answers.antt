-- `take_value`: the slot that the seat has may be read.
use Rattle.std.proofs.Common.{rules, ap, sym, ◌∙◌, Some, ◌∷◌}
use Rattle.atomic_table.specs.Table.{rest}
use Rattle.sc_lock.proofs.lock.Lock.take_value.Goals as goal

pub exchange-requires : goal.exchange-requires
exchange-requires g c = let holds = c.requires.holds in
    (search rules, (Some holds.0, holds.1 ∙ ap (λ r. (0, Some holds.0) ∷ r) (sym (ap rest holds.1))))
