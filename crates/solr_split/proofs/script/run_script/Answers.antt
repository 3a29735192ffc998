-- What a script was answered is what its connection was served.
use Rattle.std.proofs.Common.{◌∙◌, sym, refl, inl, inr}
use Rattle.sc_cores.specs.Cores.{outside_of}
use Rattle.solr_split.proofs.ScriptLemmas.{starts_first, fails_to_start_first, script_runs}
use Rattle.solr_split.proofs.script.run_script.Goals as goal

pub returns-then-is_err-clause-script : goal.returns-then-is_err-clause-script
returns-then-is_err-clause-script g c =
    let began = c.in-Ok.needs.desk in
    inr (inr (
      refl,
      record {
        untouched_is = ((refl, refl), refl, refl);
        layout = began.layout;
        shape = c.in-Ok.ensures.layout;
        cores = fails_to_start_first c.start_cores.result began.layout.nodes began.layout.first c.as_slice.result.now c.in-Ok.needs.cores
            (g.H.Hosts.started c.args.hosts.now) (g.H.Hosts.started c.start_cores.new.hosts)
            (g.H.Hosts.start_faults c.args.hosts.now) (g.H.Hosts.start_faults c.start_cores.new.hosts)
            (g.H.Hosts.stop_faults c.args.hosts.now) (g.H.Hosts.stop_faults c.start_cores.new.hosts) (g.P.Pace.stops c.args.pace.now)
            (g.H.Hosts.reached c.args.hosts.now) (g.H.Hosts.reached c.start_cores.new.hosts)
            (sym c.is_err.ensures.value ∙ c.if-is_err.true) c.as_slice.ensures c.in-Ok.ensures.cores
            c.start_cores.ensures.rest c.start_cores.ensures.cause c.start_cores.ensures.other_count c.start_cores.ensures.reached;
      },
    ))

pub returns-clause-script : goal.returns-clause-script
returns-clause-script g c =
    let began = c.in-Ok.needs.desk in
    let hosted = outside_of (g.H.Hosts.started c.start_cores.new.hosts) (g.H.Hosts.start_faults c.start_cores.new.hosts)
    (g.H.Hosts.stop_faults c.start_cores.new.hosts) (g.P.Pace.stops c.args.pace.now) (g.H.Hosts.reached c.start_cores.new.hosts) in
    let hosts = starts_first c.start_cores.result began.layout.nodes began.layout.first c.as_slice.result.now c.in-Ok.needs.cores
    (g.H.Hosts.started c.args.hosts.now) (g.H.Hosts.started c.start_cores.new.hosts)
    (g.H.Hosts.start_faults c.args.hosts.now) (g.H.Hosts.start_faults c.start_cores.new.hosts)
    (g.H.Hosts.stop_faults c.args.hosts.now) (g.H.Hosts.stop_faults c.start_cores.new.hosts) (g.P.Pace.stops c.args.pace.now)
    (g.H.Hosts.reached c.args.hosts.now) (g.H.Hosts.reached c.start_cores.new.hosts)
    (sym c.is_err.ensures.value ∙ c.if-is_err.false) c.as_slice.ensures c.in-Ok.ensures.cores
    c.start_cores.ensures.started c.start_cores.ensures.steady c.start_cores.ensures.other_count c.start_cores.ensures.reached in
    inl (script_runs c.args.script.now g.C.Clock.gives _ _ began c.serve_script-end.new.desk hosted c.in-Ok.needs.trail
    c.serve_script-end.new.trail c.serve_script-end.result c.status_of.result c.in-Ok.ensures.layout
    c.in-Ok.ensures.opened c.in-Ok.ensures.seen
    c.serve_script-end.ensures.layout hosts c.in-Ok.ensures.trail c.serve_script-end.ensures.served c.leave.ensures.rest c.status_of.ensures.exit c.requires.shape)
