-- At the place of the id the write is set or put in, unless it isn't newer.
use Rattle.std.proofs.Common.{arith, ap, sym, ◌∙◌}
use Rattle.std.specs.Arc.{arc_value}
use Rattle.std.specs.Prelude.{int_lt}
use Rattle.std.proofs.lemmas.List.{get_or_default}
use Rattle.sc_record.specs.Writes.{Write}
use Rattle.sc_replica.proofs.PlaceLemmas.{within-at, ascends-at, ascends-nowhere, applied-state-at, applied-state-older, applied-state-nowhere}
use Rattle.sc_replica.proofs.cells.Cells.apply.Goals as goal

pub index-requires : goal.index-requires
index-requires c =
    let placed = rw c.in-Ok.is at c.place.ensures in
    omega (arith, within-at arc_value c.self.inside.cells.items c.id.result.now c.in-Ok.place placed, c.self.inside.cells.ok.0)

pub index_mut-requires : goal.index_mut-requires
index_mut-requires c =
    let placed = rw c.in-Ok.is at c.place.ensures in
    omega (arith, within-at arc_value c.self.inside.cells.items c.id.result.now c.in-Ok.place placed, c.self.inside.cells.ok.0)

pub invariant_of-self : goal.invariant_of-self
invariant_of-self c =
    let placed = rw (c.in-Ok.is, c.id.ensures, c.deref.ensures) at c.place.ensures in
    (ascends-at arc_value c.self.inside.cells.items c.args.write c.in-Ok.place c.self.invariant.0 placed, omega (arith, c.self.invariant.1))

pub invariant_of-self-in-Err : goal.invariant_of-self-in-Err
invariant_of-self-in-Err c =
    let placed = rw (c.in-Err.is, c.id.ensures, c.deref.ensures) at c.place.ensures in (
      rw c.insert_reserved.ensures.items (ascends-nowhere arc_value c.self.inside.cells.items c.args.write c.in-Err.place c.self.invariant.0 placed),
      omega (arith, c.self.invariant.1),
    )

pub returns-then-is_above : goal.returns-then-is_above
returns-then-is_above c =
    let placed = rw (c.in-Ok.is, c.id.ensures, c.deref.ensures) at c.place.ensures in
    let items = c.self.inside.cells.items in
    let read = c.index.ensures ∙ get_or_default items c.in-Ok.place c.index.result.now c.args.write (within-at arc_value items c.args.write.value.id c.in-Ok.place placed) in
    let newer = ap (λ cell. int_lt (arc_value {X = Write} cell).version c.args.write.value.version) (sym read) ∙ sym c.is_above.ensures ∙ c.if-is_above.true in
    rw (← c.self.view_is) (applied-state-at arc_value items c.args.write c.in-Ok.place c.self.inside.spare c.self.invariant.0 placed newer)

pub returns-else-is_above : goal.returns-else-is_above
returns-else-is_above c =
    let placed = rw (c.in-Ok.is, c.id.ensures, c.deref.ensures) at c.place.ensures in
    let items = c.self.inside.cells.items in
    let read = c.index.ensures ∙ get_or_default items c.in-Ok.place c.index.result.now c.args.write (within-at arc_value items c.args.write.value.id c.in-Ok.place placed) in
    let older = ap (λ cell. int_lt (arc_value {X = Write} cell).version c.args.write.value.version) (sym read) ∙ sym c.is_above.ensures ∙ c.if-is_above.false in
    rw (← c.self.view_is) (applied-state-older arc_value items c.args.write c.in-Ok.place c.self.inside.spare c.self.invariant.0 placed older)

pub returns-in-Err : goal.returns-in-Err
returns-in-Err c =
    let placed = rw (c.in-Err.is, c.id.ensures, c.deref.ensures) at c.place.ensures in
    rw (← c.self.view_is, c.insert_reserved.ensures.items, c.insert_reserved.ensures.spare)
    (applied-state-nowhere arc_value c.self.inside.cells.items c.args.write c.in-Err.place c.self.inside.spare c.self.invariant.0 placed)
