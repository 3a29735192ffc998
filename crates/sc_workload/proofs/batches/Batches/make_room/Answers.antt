-- The last batch is full, and has its orders among the others.
use Rattle.std.proofs.Common.{◌≡◌, ◌∙◌, ◌++◌, List, [], map, ap}
use Rattle.std.proofs.lemmas.List.{append-nil}
use Rattle.sc_record.specs.declared.order.Order.{Order}
use Rattle.sc_schema.specs.Documents.{content_of}
use Rattle.sc_workload.specs.Batches.{contents}
use Rattle.sc_workload.proofs.BatchLemmas.{filled-closed, full_batch}
use Rattle.sc_workload.proofs.batches.Batches.make_room.Goals as goal

pub returns-clause-same : goal.returns-clause-same
returns-clause-same c =
    let none : c.replace-full.new.dest ≡ [] = c.replace-full.ensures.after ∙ c.new.ensures in
    ap (λ (last : List Order). contents c.push.new.self ++ map content_of last) none ∙ append-nil (contents c.push.new.self)
    ∙ filled-closed c.args.self.now.full c.args.self.now.last c.push.new.self c.batch_of.result c.in_ok-push.ensures.ok
    (c.batch_of.ensures ∙ ap full_batch c.replace-full.ensures.value)
