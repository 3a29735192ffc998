-- Each turn delivers the first message of the write, until none is in flight.
use Rattle.std.proofs.Common.{refl, sym, ap, ◌∙◌, subst, All, ◌≢◌}
use Rattle.std.specs.Prelude.{◌≡◌, IsSome, false}
use Rattle.sc_journal.specs.Journal.{write_at, is_settled}
use Rattle.sc_bucket.proofs.DeliverAllLemmas.{DeliversAll, DeliversAll-none, fewer_in_flight}
use Rattle.sc_bucket.proofs.SettleLemmas.{none_of_write, DeliversAll-of_write, Settles-noted, delivered_some, delivered_none}
use Rattle.sc_bucket.specs.Flight.{is_of_write}
use Rattle.sc_bucket.specs.declared.bucket.Bucket.{Bucket}
use Rattle.sc_bucket.specs.Kept.{Sent}
use Rattle.sc_bucket.proofs.bucket.Bucket.settle.Goals as goal

pub loop-init : goal.loop-init
loop-init c = record { sound = c.requires.sound; entries = refl; rest = λ new all. all }

pub deliver-requires : goal.deliver-requires
deliver-requires c = record { sound = c.loop.invariant.sound }

pub loop-smaller : goal.loop-smaller
loop-smaller c =
    let (core, first) = delivered_some c.loop.self c.args.place c.deliver.result c.deliver.new.self (sym c.loop-test.true ∙ c.is_some.ensures) c.deliver.ensures.delivered in
    fewer_in_flight c.loop.self first.at first.message c.deliver.new.self first.delivers

pub loop-preserved : goal.loop-preserved
loop-preserved c =
    let (core, first) = delivered_some c.loop.self c.args.place c.deliver.result c.deliver.new.self (sym c.loop-test.true ∙ c.is_some.ensures) c.deliver.ensures.delivered in
    record {
      sound = c.deliver.ensures.sound;
      entries = first.delivers.entries ∙ c.loop.invariant.entries;
      rest = λ new all. c.loop.invariant.rest new (DeliversAll-of_write c.loop.self c.args.place core c.deliver.new.self new first all);
    }

pub note_settled-requires-clause-written : goal.note_settled-requires-clause-written
note_settled-requires-clause-written c =
    let (same, none) = delivered_none c.loop.self c.args.place c.deliver.result c.deliver.new.self (sym c.loop-test.false ∙ c.is_some.ensures) c.deliver.ensures.delivered in
    subst (λ entries. IsSome (write_at entries c.args.place))
    (sym (ap (λ (b : Bucket). b.journal.entries) same ∙ c.loop.invariant.entries)) c.requires.written

pub note_settled-requires-clause-unsettled : goal.note_settled-requires-clause-unsettled
note_settled-requires-clause-unsettled c =
    let (same, none) = delivered_none c.loop.self c.args.place c.deliver.result c.deliver.new.self (sym c.loop-test.false ∙ c.is_some.ensures) c.deliver.ensures.delivered in
    subst (λ entries. is_settled entries c.args.place ≡ false)
    (sym (ap (λ (b : Bucket). b.journal.entries) same ∙ c.loop.invariant.entries)) c.requires.unsettled

pub note_settled-requires-clause-delivered : goal.note_settled-requires-clause-delivered
note_settled-requires-clause-delivered c =
    let (same, none) = delivered_none c.loop.self c.args.place c.deliver.result c.deliver.new.self (sym c.loop-test.false ∙ c.is_some.ensures) c.deliver.ensures.delivered in
    subst (λ (b : Bucket). All (λ (message : Sent). message.place ≢ c.args.place) b.flight.messages) (sym same) none

pub returns-clause-settled : goal.returns-clause-settled
returns-clause-settled c =
    let (same, none) = delivered_none c.loop.self c.args.place c.deliver.result c.deliver.new.self (sym c.loop-test.false ∙ c.is_some.ensures) c.deliver.ensures.delivered in
    let all = c.loop.invariant.rest c.deliver.new.self (subst (DeliversAll c.loop.self (is_of_write c.args.place)) (sym same)
    (DeliversAll-none c.loop.self (is_of_write c.args.place) (none_of_write c.args.place c.loop.self.flight.messages none))) in
    Settles-noted c.args.self.now c.args.place c.deliver.new.self c.note_settled.new.self all c.note_settled.ensures.noted
