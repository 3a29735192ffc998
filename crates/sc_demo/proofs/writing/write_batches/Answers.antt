-- One batch more is made.
use Rattle.std.proofs.Common.{◌≡◌, ◌∙◌, ◌≤◌, ◌<◌, ◌+◌, ◌++◌, ◌^◌, ℕ, List, length, map, take, sym, ap, subst, arith, length-append, refl}
use Rattle.std.proofs.lemmas.List.{length-map}
use Rattle.sc_collection.specs.Desks.{IsDeskAtRest}
use Rattle.sc_schema.specs.Documents.{OrderContent, content_of}
use Rattle.sc_seen.specs.Seen.{Layout}
use Rattle.sc_workload.specs.Batches.{contents}
use Rattle.sc_demo.specs.declared.made.Written.{Written}
use Rattle.sc_demo.specs.Writing.{MakesOrders, both, writing, IsPlain}
use Rattle.sc_demo.proofs.WritingLemmas.{contents_next, contents_within, makes_both, makes_none}
use Rattle.sc_demo.proofs.writing.write_batches.Goals as goal

pub loop-batch-init : goal.loop-batch-init
loop-batch-init g c = record {
  made = makes_none g.C.Clock.gives (g.D.Desk.layout c.args.desk.now) (writing (g.D.Desk.seen c.args.desk.now) c.args.clock.now);
  few = omega arith;
  layout = refl;
  rest = c.requires.rest;
}

pub then-written-requires : goal.then-written-requires
then-written-requires g c =
    let place = c.loop-batch.batch-index in
    let next = ap length (contents_next c.args.batches.now place c.batch-item.result c.loop-batch-test.true c.batch-item.is) in
    let parts = length-append (contents (take place c.args.batches.now)) (map content_of c.batch-item.result.orders) in
    let orders = length-map c.batch-item.result.orders content_of in
    let within = contents_within (place + 1) c.args.batches.now in
    omega (arith, next, parts, orders, within, c.loop-batch.invariant.few, c.write_batch.ensures.few, c.requires.few)

pub loop-batch-preserved : goal.loop-batch-preserved
loop-batch-preserved g c =
    let place = c.loop-batch.batch-index in
    let batches = c.args.batches.now in
    let batch = c.batch-item.result in
    let next = contents_next batches place batch c.loop-batch-test.true c.batch-item.is in
    let made : MakesOrders g.C.Clock.gives (g.D.Desk.layout c.args.desk.now) (writing (g.D.Desk.seen c.args.desk.now) c.args.clock.now)
    (writing (g.D.Desk.seen c.write_batch.new.desk) c.write_batch.new.clock) (contents (take place batches) ++ map content_of batch.orders)
    (both c.loop-batch.written c.write_batch.result) =
    makes_both g.C.Clock.gives (g.D.Desk.layout c.args.desk.now) (writing (g.D.Desk.seen c.args.desk.now) c.args.clock.now)
    (writing (g.D.Desk.seen c.loop-batch.desk) c.loop-batch.clock) (writing (g.D.Desk.seen c.write_batch.new.desk) c.write_batch.new.clock)
    (contents (take place batches)) (map content_of batch.orders) c.loop-batch.written c.write_batch.result c.loop-batch.invariant.made
    (subst (λ (layout : Layout). MakesOrders g.C.Clock.gives layout (writing (g.D.Desk.seen c.loop-batch.desk) c.loop-batch.clock)
    (writing (g.D.Desk.seen c.write_batch.new.desk) c.write_batch.new.clock) (map content_of batch.orders) c.write_batch.result)
    c.loop-batch.invariant.layout c.write_batch.ensures.made) in
    record {
      made = subst (λ (written : Written). MakesOrders g.C.Clock.gives (g.D.Desk.layout c.args.desk.now) (writing (g.D.Desk.seen c.args.desk.now) c.args.clock.now)
          (writing (g.D.Desk.seen c.write_batch.new.desk) c.write_batch.new.clock) (contents (take (place + 1) batches)) written) (sym c.then-written.ensures)
          (subst (λ (orders : List OrderContent). MakesOrders g.C.Clock.gives (g.D.Desk.layout c.args.desk.now) (writing (g.D.Desk.seen c.args.desk.now) c.args.clock.now)
          (writing (g.D.Desk.seen c.write_batch.new.desk) c.write_batch.new.clock) orders (both c.loop-batch.written c.write_batch.result)) (sym next) made);
      few =
          let sum = ap (λ (written : Written). written.accepted) c.then-written.ensures in
          let all = ap length next in
          let parts = length-append (contents (take place batches)) (map content_of batch.orders) in
          let orders = length-map batch.orders content_of in
          omega (arith, sum, all, parts, orders, c.loop-batch.invariant.few, c.write_batch.ensures.few);
      layout = c.write_batch.ensures.layout ∙ c.loop-batch.invariant.layout;
      rest = c.write_batch.ensures.rest;
    }
