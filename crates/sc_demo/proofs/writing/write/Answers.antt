-- The batches are those of the workload.
use Rattle.std.proofs.Common.{◌≡◌, ◌∙◌, ◌≤◌, ◌<◌, ℕ, List, length, sym, ap, subst, arith}
use Rattle.sc_commands.specs.declared.batch.Batch.{Batch}
use Rattle.sc_schema.specs.Documents.{OrderContent}
use Rattle.sc_workload.specs.Workload.{worker_orders}
use Rattle.sc_workload.specs.Batches.{AreBatchesOf, contents}
use Rattle.sc_demo.specs.Writing.{ArePlain, MakesOrders, writing}
use Rattle.sc_demo.proofs.WritingLemmas.{batches_plain, makes_nothing, orders_few}
use Rattle.sc_demo.proofs.writing.write.Goals as goal

pub returns-in_default-clause-made : goal.returns-in_default-clause-made
returns-in_default-clause-made g c =
    makes_nothing g.C.Clock.gives (g.D.Desk.layout c.args.desk.now) (writing (g.D.Desk.seen c.args.desk.now) c.args.clock.now)
    (worker_orders (record { seed = c.args.seed; count = c.args.count }) c.args.worker c.args.workers)

pub write_batches-requires-clause-batches : goal.write_batches-requires-clause-batches
write_batches-requires-clause-batches g c =
    subst ArePlain (sym c.as_slice.ensures)
    (batches_plain (record { seed = c.args.seed; count = c.args.count }) c.args.worker c.args.workers c.in-Ok.batches c.in-Ok.ensures)

pub write_batches-requires-clause-few : goal.write_batches-requires-clause-few
write_batches-requires-clause-few g c =
    let same = ap (λ (batches : List Batch). length (contents batches)) c.as_slice.ensures in
    let few = orders_few (record { seed = c.args.seed; count = c.args.count }) c.args.worker c.args.workers c.in-Ok.batches c.in-Ok.ensures in
    omega (arith, same, few, c.requires.share.most)

pub returns-clause-few : goal.returns-clause-few
returns-clause-few g c =
    let same = ap (λ (batches : List Batch). length (contents batches)) c.as_slice.ensures in
    let few = orders_few (record { seed = c.args.seed; count = c.args.count }) c.args.worker c.args.workers c.in-Ok.batches c.in-Ok.ensures in
    omega (arith, same, few, c.write_batches.ensures.few)
