-- The last batch comes after those that are full.
use Rattle.std.proofs.Common.{◌≡◌, ◌∙◌, ◌++◌, ◌∷◌, [], sym, subst, ap, List}
use Rattle.std.proofs.lemmas.Bool.{false≢true}
use Rattle.sc_commands.specs.declared.batch.Batch.{Batch}
use Rattle.sc_workload.specs.Batches.{AreSmall}
use Rattle.sc_workload.proofs.BatchLemmas.{filled-closed, full_batch, small-more, some_orders}
use Rattle.sc_workload.proofs.batches.Batches.into_list.Goals as goal

pub returns-clause-orders : goal.returns-clause-orders
returns-clause-orders c = filled-closed c.args.self.full c.args.self.last c.push.new.self c.batch_of.result c.in_ok-push.ensures.ok c.batch_of.ensures

pub returns-clause-small : goal.returns-clause-small
returns-clause-small c =
    let all : c.push.new.self ≡ c.args.self.full ++ full_batch c.args.self.last ∷ [] =
    c.in_ok-push.ensures.ok ∙ ap (λ (batch : Batch). c.args.self.full ++ batch ∷ []) c.batch_of.ensures in
    let P : List Batch → Type 0 = AreSmall in
    subst P (sym all) (small-more c.args.self.full c.args.self.last c.requires.full
    (some_orders c.args.self.last (λ none. false≢true (c.if-is_empty.ensures.1 none))) c.requires.last)
