-- The worker has its passes back, and has done what `work` promises.
use Rattle.std.proofs.Common.{◌≡◌, refl, sym, ap, ◌∙◌, subst}
use Rattle.std.proofs.lemmas.Option.{same_Some}
use Rattle.sc_cores.specs.Cores.{outside_of}
use Rattle.sc_shared.specs.Passes.{seen_of}
use Rattle.sc_shared.specs.Collections.{Locks, layout_of}
use Rattle.sc_shared.specs.Sharing.{ArePasses}
use Rattle.sc_server.proofs.WorkerLemmas.{worked_at}
use Rattle.sc_server.proofs.worker.run_at.Goals as goal

pub returns-clause-ready : goal.returns-clause-ready
returns-clause-ready g c = record {
  passes = c.into_passes.result;
  there = refl;
  are = subst (λ (locks : Locks). ArePasses locks c.into_passes.result)
      (same_Some c.work-end.new.desk.locks c.args.worker.now.collection.now (sym c.into_passes.ensures.home ∙ c.requires.home)) c.into_passes.ensures.passes;
  of_collection = refl;
  most = c.requires.ready.most;
}

pub returns-clause-worked : goal.returns-clause-worked
returns-clause-worked g c =
    let same : c.unwrap-passes.result ≡ c.requires.ready.passes =
    same_Some c.unwrap-passes.result c.requires.ready.passes (sym c.unwrap-passes.ensures ∙ c.take.ensures.value ∙ c.requires.ready.there) in
    record {
      before = c.requires.ready.passes;
      after = c.into_passes.result;
      end = c.work-end.result;
      before_is = c.requires.ready.there;
      after_is = refl;
      end_is = refl;
      worked = worked_at
          (record {
            gives = g.C.Clock.gives;
            outside = λ hosts pace. outside_of (g.H.Hosts.started hosts) (g.H.Hosts.start_faults hosts) (g.H.Hosts.stop_faults hosts) (g.P.Pace.stops pace) (g.H.Hosts.reached hosts);
            coming = g.L.Listener.coming;
            taken = g.L.Listener.taken;
            faults = g.L.Listener.faults;
            out = g.L.Listener.out;
            rest = g.L.S.Source.rest;
            read_faults = g.L.S.Source.faults;
            written = g.L.W.Sink.written;
            write_faults = g.L.W.Sink.faults;
          })
          (layout_of c.new-desk.result.locks) (layout_of c.args.worker.now.collection.now) (seen_of c.new-desk.result.passes) (seen_of c.requires.ready.passes)
          (seen_of c.work-end.new.desk.passes) (seen_of c.into_passes.result) c.args.worker.now.most c.args.worker.now.crew
          (record { clock = c.work-end.new.clock; hosts = c.work-end.new.hosts; pace = c.work-end.new.pace; listener = c.work-end.new.listener }) c.work-end.result
          (ap layout_of c.new-desk.ensures.locks) (ap seen_of (c.new-desk.ensures.passes ∙ same)) (ap seen_of (sym c.into_passes.ensures.are))
          c.work-end.ensures.worked;
    }
