-- Each hold so far made no entry, and its bucket was given back.
use Rattle.std.proofs.Common.{◌≡◌}
use Rattle.sc_collection.specs.Desks.{nothing_out}
use Rattle.sc_update.specs.Steps.{MakeNoEntry}
use Rattle.sc_update.proofs.order.hold_delivered.Given as goal

abbrev pub invariant-loop-delivery : goal.invariant-loop-delivery
invariant-loop-delivery g l = record {
  quiet : MakeNoEntry (g.D.Desk.seen l.fn.desk) (g.D.Desk.seen l.desk) l.lock;
  nothing_out : g.D.Desk.out l.desk ≡ nothing_out;
  layout : g.D.Desk.layout l.desk ≡ g.D.Desk.layout l.fn.desk;
}
