-- Holds that make no entry, one after another, and the one that hands the bucket on.
use Rattle.std.proofs.Common.{◌<◌, false, refl, sym, ◌∙◌, subst}
use mathlib.Core.List.{IsPrefix}
use Rattle.sc_seen.specs.Seen.{Layout, Seen}
use Rattle.sc_collection.specs.Desks.{IsBucketOf}
use Rattle.sc_update.specs.Steps.{MakeNoEntry, Holds}
use Rattle.sc_update.proofs.HoldLemmas.{MakeNoEntry-none, MakeNoEntry-then}
use Rattle.sc_collection.proofs.StopLemmas.{taken-alone}
use Rattle.sc_update.proofs.order.hold_delivered.Goals as goal

pub loop-delivery-init : goal.loop-delivery-init
loop-delivery-init g c = record {
  quiet = MakeNoEntry-none (g.D.Desk.seen c.args.desk.now) c.args.lock;
  nothing_out = c.requires.nothing_out;
  layout = refl;
}

pub deliver_one-requires-clause-within : goal.deliver_one-requires-clause-within
deliver_one-requires-clause-within g c =
    subst (λ (layout : Layout). c.args.lock < layout.buckets) (sym c.loop-delivery.invariant.layout) c.requires.within

pub returns-in-Idle-clause-quiet : goal.returns-in-Idle-clause-quiet
returns-in-Idle-clause-quiet g c =
    MakeNoEntry-then (g.D.Desk.seen c.args.desk.now) (g.D.Desk.seen c.loop-delivery.desk) (g.D.Desk.seen c.deliver_one.new.desk) c.args.lock
    c.loop-delivery.invariant.quiet c.in-Idle.ensures.quiet

pub returns-in-Idle-clause-held : goal.returns-in-Idle-clause-held
returns-in-Idle-clause-held g c =
    subst (λ (layout : Layout). Holds layout (g.D.Desk.seen c.deliver_one.new.desk) (g.D.Desk.out c.deliver_one.new.desk) c.args.lock c.in-Idle.bucket)
    c.loop-delivery.invariant.layout c.in-Idle.ensures.held

pub loop-delivery-preserved : goal.loop-delivery-preserved
loop-delivery-preserved g c = record {
  quiet = MakeNoEntry-then (g.D.Desk.seen c.args.desk.now) (g.D.Desk.seen c.loop-delivery.desk) (g.D.Desk.seen c.deliver_one.new.desk) c.args.lock
      c.loop-delivery.invariant.quiet c.in_default.ensures.quiet;
  nothing_out = c.in_default.ensures.held;
  layout = c.in_default.ensures.layout ∙ c.loop-delivery.invariant.layout;
}

pub hold-requires-clause-within : goal.hold-requires-clause-within
hold-requires-clause-within g c =
    subst (λ (layout : Layout). c.args.lock < layout.buckets) (sym c.loop-delivery.invariant.layout) c.requires.within

pub returns-clause-quiet : goal.returns-clause-quiet
returns-clause-quiet g c =
    subst (λ (seen : Seen). MakeNoEntry (g.D.Desk.seen c.args.desk.now) seen c.args.lock) (sym c.hold.ensures.handed.seen) c.loop-delivery.invariant.quiet

pub returns-clause-held : goal.returns-clause-held
returns-clause-held g c = record {
  out_is = taken-alone (g.D.Desk.out c.loop-delivery.desk) (g.D.Desk.out c.hold.new.self) (record { number = c.args.lock; bucket = c.hold.result; by_keeper = false })
      c.loop-delivery.invariant.nothing_out c.hold.ensures.handed.out;
  sound = c.hold.ensures.handed.sound;
  is_of = subst (λ (layout : Layout). IsBucketOf layout c.args.lock c.hold.result) c.loop-delivery.invariant.layout c.hold.ensures.handed.is_of;
  extends = subst (λ (seen : Seen). IsPrefix (seen.journals c.args.lock) c.hold.result.journal.entries) (sym c.hold.ensures.handed.seen) c.hold.ensures.handed.extends;
}
