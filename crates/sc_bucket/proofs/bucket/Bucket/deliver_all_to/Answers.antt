-- Each turn delivers the first message to the core, until none is in flight.
use Rattle.std.proofs.lemmas.Option.{slice_get_within}
use Rattle.sc_bucket.specs.Flight.{is_to}
use Rattle.sc_bucket.proofs.ArrivedLemmas.{DeliversAllTo-all}
use Rattle.sc_bucket.proofs.DeliverAllLemmas.{DeliversAll-none, DeliversAll-found, fewer_in_flight}
use Rattle.sc_bucket.proofs.bucket.Bucket.deliver_all_to.Goals as goal

pub loop-at-init : goal.loop-at-init
loop-at-init c = record { sound = c.requires.sound; rest = λ new all. all }

pub deliver_at-requires-clause-sound : goal.deliver_at-requires-clause-sound
deliver_at-requires-clause-sound c = c.loop-at.invariant.sound

pub deliver_at-requires-clause-within : goal.deliver_at-requires-clause-within
deliver_at-requires-clause-within c =
    let (message, found, meets, before) = c.in-Some.ensures in
    slice_get_within c.loop-at.self.flight.messages c.in-Some.at message found

pub loop-at-smaller : goal.loop-at-smaller
loop-at-smaller c =
    let (message, delivers, to) = c.deliver_at.ensures.delivered in
    fewer_in_flight c.loop-at.self c.in-Some.at message c.deliver_at.new.self delivers

pub loop-at-preserved : goal.loop-at-preserved
loop-at-preserved c = record {
  sound = c.deliver_at.ensures.sound;
  rest = λ new all. c.loop-at.invariant.rest new
      (DeliversAll-found c.loop-at.self (is_to c.args.core) c.in-Some.at c.deliver_at.result c.deliver_at.new.self new c.in-Some.ensures
      c.deliver_at.ensures.delivered all);
}

pub returns-clause-sound : goal.returns-clause-sound
returns-clause-sound c = c.loop-at.invariant.sound

pub returns-clause-delivered : goal.returns-clause-delivered
returns-clause-delivered c =
    DeliversAllTo-all c.args.self.now c.args.core c.loop-at.self
    (c.loop-at.invariant.rest c.loop-at.self (DeliversAll-none c.loop-at.self (is_to c.args.core) c.in_default.ensures))
