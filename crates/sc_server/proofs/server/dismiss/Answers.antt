-- The last of the workers that are left gives its crew back, and its passes are joined.
use Rattle.std.proofs.Common.{◌≡◌, ◌∙◌, ℕ, true, false, Some, [], length, refl, sym, subst, arith}
use Rattle.std.proofs.lemmas.List.{nil_from_length}
use Rattle.sc_session.specs.Stations.{SetsAt, SetsReported}
use Rattle.sc_server.specs.Reports.{without_moment}
use Rattle.sc_server.proofs.DismissLemmas.{none_done, still_out, still_ready, one_more_done, story, back, out}
use Rattle.sc_server.proofs.EnlistLemmas.{ready_passes}
use Rattle.sc_server.proofs.server.dismiss.Goals as goal

pub loop-worker-init : goal.loop-worker-init
loop-worker-init g c = record {
  halfway = none_done c.args.collection.now c.args.passes.now c.args.workers.items (g.T.Station.crews_back c.args.station.now)
      (g.T.Station.out c.args.station.now) c.requires.passes;
  crews = refl;
  faults = refl;
  opened = refl;
}

pub join_worked-requires-clause-into : goal.join_worked-requires-clause-into
join_worked-requires-clause-into g c = c.loop-worker.invariant.halfway.are

pub join_worked-requires-clause-from : goal.join_worked-requires-clause-from
join_worked-requires-clause-from g c =
    ready_passes c.args.collection.now c.in-Some.worker
    (still_ready c.args.collection.now c.loop-worker.passes c.args.workers.items c.loop-worker.workers.items
    (g.T.Station.crews_back c.args.station.now) (g.T.Station.crews_back c.loop-worker.station) (g.T.Station.out c.args.station.now)
    (g.T.Station.out c.loop-worker.station) c.loop-worker.invariant.halfway c.pop.new.self.items c.in-Some.worker c.in-Some.ensures.items
    c.requires.workers)

pub back-requires : goal.back-requires
back-requires g c =
    let number : length c.pop.new.self.items ≡ c.len.result = sym (c.len.ensures ∙ c.pop.new.self.ok.0) in
    subst (λ (n : ℕ). g.T.Station.out c.loop-worker.station n ≡ true) number
    (still_out c.args.collection.now c.loop-worker.passes c.args.workers.items c.loop-worker.workers.items
    (g.T.Station.crews_back c.args.station.now) (g.T.Station.crews_back c.loop-worker.station) (g.T.Station.out c.args.station.now)
    (g.T.Station.out c.loop-worker.station) c.loop-worker.invariant.halfway c.pop.new.self.items c.in-Some.worker c.in-Some.ensures.items
    c.requires.out)

pub loop-worker-preserved : goal.loop-worker-preserved
loop-worker-preserved g c =
    let number : c.len.result ≡ length c.pop.new.self.items = c.len.ensures ∙ c.pop.new.self.ok.0 in
    record {
      halfway = one_more_done c.args.collection.now c.loop-worker.passes c.args.workers.items c.loop-worker.workers.items
          (g.T.Station.crews_back c.args.station.now) (g.T.Station.crews_back c.loop-worker.station) (g.T.Station.out c.args.station.now)
          (g.T.Station.out c.loop-worker.station) c.loop-worker.invariant.halfway c.pop.new.self.items c.in-Some.worker c.in-Some.ensures.items
          c.join_worked.new.passes (g.T.Station.crews_back c.back.new.self) (g.T.Station.out c.back.new.self) c.join_worked.ensures.passes
          c.join_worked.ensures.joined
          (subst (λ (n : ℕ). SetsReported n (Some (without_moment c.in-Some.worker.crew)) (g.T.Station.crews_back c.loop-worker.station)
          (g.T.Station.crews_back c.back.new.self)) number c.back.ensures.crews_back)
          (subst (λ (n : ℕ). SetsAt n false (g.T.Station.out c.loop-worker.station) (g.T.Station.out c.back.new.self)) number c.back.ensures.out);
      crews = c.back.ensures.crews ∙ c.loop-worker.invariant.crews;
      faults = c.back.ensures.faults ∙ c.loop-worker.invariant.faults;
      opened = c.back.ensures.opened ∙ c.loop-worker.invariant.opened;
    }

pub returns : goal.returns
returns g c =
    let none : c.loop-worker.workers.items ≡ [] = nil_from_length c.loop-worker.workers.items (omega (arith, c.in_default.ensures.cases.0, c.loop-worker.workers.ok.0)) in
    let locks = c.args.collection.now in
    let is = c.loop-worker.invariant.halfway in
    record {
      story = story locks c.loop-worker.passes c.args.workers.items c.loop-worker.workers.items (g.T.Station.crews_back c.args.station.now)
          (g.T.Station.crews_back c.loop-worker.station) (g.T.Station.out c.args.station.now) (g.T.Station.out c.loop-worker.station) is none;
      back = record {
        crews_back = back locks c.loop-worker.passes c.args.workers.items c.loop-worker.workers.items (g.T.Station.crews_back c.args.station.now)
            (g.T.Station.crews_back c.loop-worker.station) (g.T.Station.out c.args.station.now) (g.T.Station.out c.loop-worker.station) is none;
        out = out locks c.loop-worker.passes c.args.workers.items c.loop-worker.workers.items (g.T.Station.crews_back c.args.station.now)
            (g.T.Station.crews_back c.loop-worker.station) (g.T.Station.out c.args.station.now) (g.T.Station.out c.loop-worker.station) is none;
        crews = c.loop-worker.invariant.crews;
        faults = c.loop-worker.invariant.faults;
        opened = c.loop-worker.invariant.opened;
      };
    }
