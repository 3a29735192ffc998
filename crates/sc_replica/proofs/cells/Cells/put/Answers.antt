-- At the place of the id the write is set or put in.
use Rattle.std.proofs.Common.{arith}
use Rattle.std.specs.Arc.{arc_value}
use Rattle.sc_replica.proofs.PlaceLemmas.{within-at, ascends-at, ascends-nowhere, put-state-at, put-state-nowhere}
use Rattle.sc_replica.proofs.cells.Cells.put.Goals as goal

pub index_mut-requires : goal.index_mut-requires
index_mut-requires c =
    let placed = rw c.in-Ok.is at c.place.ensures in
    omega (arith, within-at arc_value c.self.inside.cells.items c.id.result.now c.in-Ok.place placed, c.self.inside.cells.ok.0)

pub invariant_of-self : goal.invariant_of-self
invariant_of-self c =
    let placed = rw (c.in-Ok.is, c.id.ensures, c.deref.ensures) at c.place.ensures in
    (ascends-at arc_value c.self.inside.cells.items c.args.write c.in-Ok.place c.self.invariant.0 placed, omega (arith, c.self.invariant.1))

pub invariant_of-self-in-Err : goal.invariant_of-self-in-Err
invariant_of-self-in-Err c =
    let placed = rw (c.in-Err.is, c.id.ensures, c.deref.ensures) at c.place.ensures in (
      rw c.insert_reserved.ensures.items (ascends-nowhere arc_value c.self.inside.cells.items c.args.write c.in-Err.place c.self.invariant.0 placed),
      omega (arith, c.self.invariant.1),
    )

pub returns-in-Ok : goal.returns-in-Ok
returns-in-Ok c =
    let placed = rw (c.in-Ok.is, c.id.ensures, c.deref.ensures) at c.place.ensures in
    rw (← c.self.view_is) (put-state-at arc_value c.self.inside.cells.items c.args.write c.in-Ok.place c.self.inside.spare c.self.invariant.0 placed)

pub returns-in-Err : goal.returns-in-Err
returns-in-Err c =
    let placed = rw (c.in-Err.is, c.id.ensures, c.deref.ensures) at c.place.ensures in
    rw (← c.self.view_is, c.insert_reserved.ensures.items, c.insert_reserved.ensures.spare)
    (put-state-nowhere arc_value c.self.inside.cells.items c.args.write c.in-Err.place c.self.inside.spare c.self.invariant.0 placed)
