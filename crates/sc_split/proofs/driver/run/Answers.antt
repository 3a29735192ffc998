-- The cores were made and the split finished, or it was given up.
use Rattle.std.proofs.Common.{◌<◌, ◌∙◌, List, length, inl, inr, refl, sym, subst}
use Rattle.sc_cluster.specs.declared.plan.SplitPlan.{SplitPlan}
use Rattle.sc_io.specs.declared.hosts.Host.{Host}
use Rattle.sc_seen.specs.Seen.{Layout}
use Rattle.sc_seen.specs.Moments.{view_of}
use Rattle.sc_seen.specs.declared.board.BoardEntry.{BoardEntry}
use Rattle.sc_collection.specs.Known.{Known, known_of}
use Rattle.sc_cores.specs.Cores.{Outside, outside_of}
use Rattle.sc_split.specs.Stages.{OpenSplit}
use Rattle.sc_split.specs.Driving.{IsHalted, IsWholeSplit}
use Rattle.sc_split.proofs.StartedLemmas.{started-none, cores-on, starts-by, leaves-by, counts-by, few-cores}
use Rattle.sc_split.proofs.DriveLemmas.{few-subs, done-by, given-up-by, given-up-at-once, cause-by}
use Rattle.sc_split.proofs.driver.run.Goals as goal

pub build-requires-clause-few : goal.build-requires-clause-few
build-requires-clause-few g c =
    subst (λ (hosts : List Host). length hosts < 4294967296) (sym c.in-Ok.ensures.hosts)
    (few-cores c.nodes.result c.args.plan.now c.in-Ok.ensures.few
    (few-subs (g.D.Desk.layout c.args.desk.now) c.args.plan.now c.requires.begun.0
    (known_of (g.D.Desk.seen c.args.desk.now) (g.D.Desk.keeping c.args.desk.now c.args.keepers)) c.requires.rests.rest.legal c.requires.begun.1))

pub returns-in-Err-clause-went : goal.returns-in-Err-clause-went
returns-in-Err-clause-went g c =
    inr (given-up-at-once (g.D.Desk.layout c.args.desk.now) c.args.plan.now (g.D.Desk.seen c.args.desk.now) (g.D.Desk.seen c.fail_unbegun.new.desk)
    c.args.trail.now.stops
    (outside_of (g.H.Hosts.started c.args.hosts.now) (g.H.Hosts.start_faults c.args.hosts.now) (g.H.Hosts.stop_faults c.args.hosts.now) (g.P.Pace.stops c.args.pace.now) (g.H.Hosts.reached c.args.hosts.now))
    (c.fail_unbegun.ensures.given_up c.args.plan.now c.requires.begun.0 c.requires.begun.1))

pub returns-in-Ok-build-clause-went : goal.returns-in-Ok-build-clause-went
returns-in-Ok-build-clause-went g c =
    let layout : Layout = g.D.Desk.layout c.args.desk.now in
    let base : Known = known_of (g.D.Desk.seen c.args.desk.now) (g.D.Desk.keeping c.args.desk.now c.args.keepers) in
    let between : Known = known_of (g.D.Desk.seen c.build.new.desk) (g.D.Desk.keeping c.build.new.desk c.build.new.keepers) in
    let split : OpenSplit = record { plan = c.args.plan.now; base = base } in
    let entries : List BoardEntry = c.requires.begun.0 in
    let before : Outside = outside_of (g.H.Hosts.started c.args.hosts.now) (g.H.Hosts.start_faults c.args.hosts.now) (g.H.Hosts.stop_faults c.args.hosts.now) (g.P.Pace.stops c.args.pace.now) (g.H.Hosts.reached c.args.hosts.now) in
    let later : Outside = outside_of (g.H.Hosts.started c.build.new.hosts) (g.H.Hosts.start_faults c.build.new.hosts) (g.H.Hosts.stop_faults c.build.new.hosts) (g.P.Pace.stops c.build.new.pace) (g.H.Hosts.reached c.build.new.hosts) in
    let is_whole : IsWholeSplit layout split entries between = c.in-Ok-build.ensures.whole entries c.requires.begun.1 in
    inl (done-by layout (g.D.Desk.layout c.build.new.desk) split entries c.build.new.progress.begun between c.args.trail.now.stops
    (view_of (g.D.Desk.seen c.finish.new.desk) c.finish.new.trail.stops) c.finish.result before later
    c.build.ensures.leaves.layout (c.build.ensures.built entries c.requires.begun.1) is_whole
    (c.finish.ensures.finished split entries (subst (λ (l : Layout). IsWholeSplit l split entries between) (sym c.build.ensures.leaves.layout) is_whole)
    c.in-Ok.ensures.subs)
    (starts-by layout.nodes c.nodes.result c.args.plan.now c.in-Ok.cores.hosts c.build.new.progress.started before later
    c.in-Ok.ensures.hosts c.nodes.ensures.count c.in-Ok-build.ensures.all
    (c.build.ensures.started before.started (started-none c.in-Ok.cores.hosts before.started))
    c.in-Ok-build.ensures.steady.0 c.build.ensures.beside.stop_faults c.in-Ok-build.ensures.steady.1 c.build.ensures.beside.reached))

pub returns-in-Err-build-clause-went : goal.returns-in-Err-build-clause-went
returns-in-Err-build-clause-went g c =
    let layout : Layout = g.D.Desk.layout c.args.desk.now in
    let plan : SplitPlan = c.args.plan.now in
    let cores : List Host = c.in-Ok.cores.hosts in
    let base : Known = known_of (g.D.Desk.seen c.args.desk.now) (g.D.Desk.keeping c.args.desk.now c.args.keepers) in
    let between : Known = known_of (g.D.Desk.seen c.build.new.desk) (g.D.Desk.keeping c.build.new.desk c.build.new.keepers) in
    let split : OpenSplit = record { plan = plan; base = base } in
    let entries : List BoardEntry = c.requires.begun.0 in
    let before : Outside = outside_of (g.H.Hosts.started c.args.hosts.now) (g.H.Hosts.start_faults c.args.hosts.now) (g.H.Hosts.stop_faults c.args.hosts.now) (g.P.Pace.stops c.args.pace.now) (g.H.Hosts.reached c.args.hosts.now) in
    let halted : Outside = outside_of (g.H.Hosts.started c.build.new.hosts) (g.H.Hosts.start_faults c.build.new.hosts) (g.H.Hosts.stop_faults c.build.new.hosts) (g.P.Pace.stops c.build.new.pace) (g.H.Hosts.reached c.build.new.hosts) in
    let later : Outside = outside_of (g.H.Hosts.started c.give_up.new.hosts) (g.H.Hosts.start_faults c.give_up.new.hosts) (g.H.Hosts.stop_faults c.give_up.new.hosts) (g.P.Pace.stops c.build.new.pace) (g.H.Hosts.reached c.give_up.new.hosts) in
    let built = c.build.ensures.built entries c.requires.begun.1 in
    inr (given-up-by layout (g.D.Desk.layout c.build.new.desk) split entries c.build.new.progress.begun between c.args.trail.now.stops
    (g.D.Desk.seen c.give_up.new.desk) c.give_up.result before later c.build.ensures.leaves.layout built
    (c.give_up.ensures.given_up split entries built.recovered
    (subst (λ (l : Layout). IsHalted l split entries built.recovered c.build.new.progress.begun between) (sym c.build.ensures.leaves.layout) built.halted))
    c.build.new.progress.started
    (λ extends. cause-by layout plan cores c.build.new.progress.started (g.D.Desk.seen c.args.desk.now) (g.D.Desk.seen c.build.new.desk) (g.D.Desk.seen c.give_up.new.desk)
    c.args.trail.now.stops c.args.trail.now.stops before halted later c.in-Err-build.fault c.give_up.result
    (cores-on layout.nodes c.nodes.result plan cores c.in-Ok.ensures.hosts c.nodes.ensures.count)
    extends c.give_up.ensures.other_count refl c.in-Err-build.ensures.cause c.give_up.ensures.end)
    (leaves-by layout.nodes c.nodes.result plan cores c.build.new.progress.started before halted later c.give_up.ensures.stopped.0
    c.in-Ok.ensures.hosts c.nodes.ensures.count c.build.ensures.some
    (c.build.ensures.started before.started (started-none cores before.started)) c.build.ensures.beside.stop_faults c.give_up.ensures.stopped.1)
    (counts-by before halted later c.build.ensures.beside.start_faults c.build.ensures.beside.stop_faults c.build.ensures.beside.stops
    c.give_up.ensures.other_count c.give_up.ensures.no_fall refl (c.give_up.ensures.reached ∙ c.build.ensures.beside.reached))
    (c.give_up.ensures.reached ∙ c.build.ensures.beside.reached))
