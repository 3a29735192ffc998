-- So far the orders of the first batches were made.
use Rattle.std.proofs.Common.{◌≡◌, ◌≤◌, length, take}
use Rattle.sc_collection.specs.Desks.{IsDeskAtRest}
use Rattle.sc_workload.specs.Batches.{contents}
use Rattle.sc_demo.specs.Writing.{MakesOrders, writing}
use Rattle.sc_demo.proofs.writing.write_batches.Given as goal

abbrev pub invariant-loop-batch : goal.invariant-loop-batch
invariant-loop-batch g l = record {
  made : MakesOrders g.C.Clock.gives (g.D.Desk.layout l.fn.desk) (writing (g.D.Desk.seen l.fn.desk) l.fn.clock) (writing (g.D.Desk.seen l.desk) l.clock)
      (contents (take l.batch-index l.batches)) l.written;
  few : l.written.accepted ≤ length (contents (take l.batch-index l.batches));
  layout : g.D.Desk.layout l.desk ≡ g.D.Desk.layout l.fn.desk;
  rest : IsDeskAtRest (g.D.Desk.layout l.desk) (g.D.Desk.out l.desk) (g.D.Desk.seen l.desk);
}
