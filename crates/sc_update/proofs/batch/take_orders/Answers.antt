-- Orders are taken one after another.
use Rattle.std.proofs.Common.{◌≡◌, ◌+◌, ◌<◌, List, length, drop, Some, refl, sym, ap, ◌∙◌, subst, arith}
use Rattle.std.specs.Prelude.{slice_get}
use Rattle.sc_record.specs.declared.order.Order.{Order}
use Rattle.sc_seen.specs.Seen.{Layout}
use Rattle.sc_update.specs.Updated.{update_moment}
use Rattle.sc_update.specs.Steps.{Takes, HasRoomToShow}
use Rattle.sc_update.proofs.BatchLemmas.{going_on, SoFar-none, SoFar-more, SoFar-stop, SoFar-end, answers-none, HasRoomToShow-one, HasRoomToShow-rest}
use Rattle.sc_update.proofs.TakeLemmas.{at_place, drop_place}
use Rattle.sc_update.proofs.batch.take_orders.Goals as goal

pub returns-in-Err-clause-answers : goal.returns-in-Err-clause-answers
returns-in-Err-clause-answers g c =
    answers-none g.C.Clock.gives (g.D.Desk.layout c.args.desk.now) c.args.batch.now
    (update_moment (g.D.Desk.seen c.args.desk.now) c.args.trail.now.stops c.args.clock.now (g.H.Hosts.reached c.args.hosts.now)) c.end.result
    (c.end.ensures.adds ∙ c.none.ensures.adds) (c.end.ensures.deletes ∙ c.none.ensures.deletes) c.end.ensures.fault

pub loop-at-init : goal.loop-at-init
loop-at-init g c = record {
  far = SoFar-none g.C.Clock.gives (g.D.Desk.layout c.args.desk.now) c.args.batch.now
      (update_moment (g.D.Desk.seen c.args.desk.now) c.args.trail.now.stops c.args.clock.now (g.H.Hosts.reached c.args.hosts.now)) c.in-Ok.shown
      c.in-Ok.ensures.adds c.in-Ok.ensures.deletes;
  leaves = record { layout = refl; rest = c.requires.rest; requests = refl };
  cores = record { cores = refl; start_faults = refl; stop_faults = refl };
  stops = omega arith;
  room = c.in-Ok.ensures.room;
}

pub returns-in-Some-clause-answers : goal.returns-in-Some-clause-answers
returns-in-Some-clause-answers g c =
    let below : c.loop-at.at < length c.as_slice-orders.result.now = omega arith in
    let next : slice_get c.args.batch.now.orders c.loop-at.at ≡ Some c.index-orders-at.result =
    ap (λ (xs : List Order). slice_get xs c.loop-at.at) (sym c.as_slice-orders.ensures)
    ∙ at_place c.as_slice-orders.result.now c.loop-at.at c.index-orders-at.result below ∙ ap Some (sym c.index-orders-at.is) in
    let between = going_on (update_moment (g.D.Desk.seen c.loop-at.desk) c.loop-at.trail.stops c.loop-at.clock (g.H.Hosts.reached c.loop-at.hosts)) c.loop-at.shown in
    let moment = update_moment (g.D.Desk.seen c.take_order-end.new.desk) c.take_order-end.new.trail.stops c.take_order-end.new.clock (g.H.Hosts.reached c.take_order-end.new.hosts) in
    SoFar-stop g.C.Clock.gives (g.D.Desk.layout c.args.desk.now) c.args.batch.now c.index-orders-at.result
    (update_moment (g.D.Desk.seen c.args.desk.now) c.args.trail.now.stops c.args.clock.now (g.H.Hosts.reached c.args.hosts.now)) between
    (record { moment = moment; shown = c.take_order-end.new.shown; ended = c.take_order-end.result }) c.loop-at.at c.loop-at.invariant.far next
    (subst (λ (layout : Layout). Takes g.C.Clock.gives layout c.args.batch.now.flags c.index-orders-at.result between
    (record { moment = moment; shown = c.take_order-end.new.shown; ended = c.take_order-end.result })) c.loop-at.invariant.leaves.layout c.take_order-end.ensures.takes)
    c.end-in-Some.result c.in-Some.fault c.order_fault.result c.in-Some.is c.end-in-Some.ensures.adds c.end-in-Some.ensures.deletes
    c.end-in-Some.ensures.fault c.order_fault.ensures

pub take_order-end-requires-clause-shows : goal.take_order-end-requires-clause-shows
take_order-end-requires-clause-shows g c = λ asked.
    let below : c.loop-at.at < length c.as_slice-orders.result.now = omega arith in
    HasRoomToShow-one c.loop-at.shown c.index-orders-at.result (drop (c.loop-at.at + 1) c.as_slice-orders.result.now)
    (subst (HasRoomToShow c.loop-at.shown) (drop_place c.as_slice-orders.result.now c.loop-at.at c.index-orders-at.result below c.index-orders-at.is) (c.loop-at.invariant.room asked))

pub loop-at-preserved : goal.loop-at-preserved
loop-at-preserved g c =
    let below : c.loop-at.at < length c.as_slice-orders.result.now = omega arith in
    let next : slice_get c.args.batch.now.orders c.loop-at.at ≡ Some c.index-orders-at.result =
    ap (λ (xs : List Order). slice_get xs c.loop-at.at) (sym c.as_slice-orders.ensures)
    ∙ at_place c.as_slice-orders.result.now c.loop-at.at c.index-orders-at.result below ∙ ap Some (sym c.index-orders-at.is) in
    let between = going_on (update_moment (g.D.Desk.seen c.loop-at.desk) c.loop-at.trail.stops c.loop-at.clock (g.H.Hosts.reached c.loop-at.hosts)) c.loop-at.shown in
    let moment = update_moment (g.D.Desk.seen c.take_order-end.new.desk) c.take_order-end.new.trail.stops c.take_order-end.new.clock (g.H.Hosts.reached c.take_order-end.new.hosts) in
    let takes : Takes g.C.Clock.gives (g.D.Desk.layout c.args.desk.now) c.args.batch.now.flags c.index-orders-at.result between
    (record { moment = moment; shown = c.take_order-end.new.shown; ended = c.take_order-end.result }) =
    subst (λ (layout : Layout). Takes g.C.Clock.gives layout c.args.batch.now.flags c.index-orders-at.result between
    (record { moment = moment; shown = c.take_order-end.new.shown; ended = c.take_order-end.result })) c.loop-at.invariant.leaves.layout c.take_order-end.ensures.takes in
    record {
      far = SoFar-more g.C.Clock.gives (g.D.Desk.layout c.args.desk.now) c.args.batch.now c.index-orders-at.result
          (update_moment (g.D.Desk.seen c.args.desk.now) c.args.trail.now.stops c.args.clock.now (g.H.Hosts.reached c.args.hosts.now)) between
          (record { moment = moment; shown = c.take_order-end.new.shown; ended = c.take_order-end.result }) c.loop-at.at c.loop-at.invariant.far next
          takes c.in_default.is;
      leaves = record {
        layout = c.take_order-end.ensures.leaves.layout ∙ c.loop-at.invariant.leaves.layout;
        rest = c.take_order-end.ensures.leaves.rest;
        requests = c.take_order-end.ensures.leaves.requests ∙ c.loop-at.invariant.leaves.requests;
      };
      cores = record {
        cores = c.take_order-end.ensures.cores.cores ∙ c.loop-at.invariant.cores.cores;
        start_faults = c.take_order-end.ensures.cores.start_faults ∙ c.loop-at.invariant.cores.start_faults;
        stop_faults = c.take_order-end.ensures.cores.stop_faults ∙ c.loop-at.invariant.cores.stop_faults;
      };
      stops = omega (arith, c.take_order-end.ensures.stops, c.loop-at.invariant.stops);
      room = λ asked. HasRoomToShow-rest c.loop-at.shown c.take_order-end.new.shown c.index-orders-at.result (drop (c.loop-at.at + 1) c.as_slice-orders.result.now)
          (subst (HasRoomToShow c.loop-at.shown) (drop_place c.as_slice-orders.result.now c.loop-at.at c.index-orders-at.result below c.index-orders-at.is) (c.loop-at.invariant.room asked)) takes.grows;
    }

pub returns-clause-answers : goal.returns-clause-answers
returns-clause-answers g c =
    SoFar-end g.C.Clock.gives (g.D.Desk.layout c.args.desk.now) c.args.batch.now
    (update_moment (g.D.Desk.seen c.args.desk.now) c.args.trail.now.stops c.args.clock.now (g.H.Hosts.reached c.args.hosts.now))
    (going_on (update_moment (g.D.Desk.seen c.loop-at.desk) c.loop-at.trail.stops c.loop-at.clock (g.H.Hosts.reached c.loop-at.hosts)) c.loop-at.shown)
    c.loop-at.at c.end-2.result c.loop-at.invariant.far (omega (arith, ap length c.as_slice-orders.ensures))
    c.end-2.ensures.adds c.end-2.ensures.deletes c.end-2.ensures.fault
