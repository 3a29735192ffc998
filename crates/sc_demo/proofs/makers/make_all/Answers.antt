-- A core was not started, or all makers have worked from where the first had its cores.
use Rattle.std.proofs.Common.{true, false, refl, sym, ◌∙◌, arith, length, ◌≡◌, ◌≤◌}
use Rattle.sc_server.proofs.WorkerLemmas.{on_ok, on_err}
use Rattle.sc_demo.proofs.MakerLemmas.{home_after, ready_after, all_ready_to_make, first_hosts, makes_host_fails, makes_made, few_each}
use Rattle.sc_demo.proofs.makers.make_all.Goals as goal

pub returns-then-is_err-clause-makes : goal.returns-then-is_err-clause-makes
returns-then-is_err-clause-makes g c =
    makes_host_fails _ c.args.cores.now c.index-makers-0.result c.args.makers.now c.start_cores.new.hosts c.requires.some
    (on_err _ c.start_cores.result (sym c.is_err.ensures.value ∙ c.if-is_err.true) c.start_cores.ensures.cause)

pub returns-then-is_err-clause-home : goal.returns-then-is_err-clause-home
returns-then-is_err-clause-home g c =
    λ collection each. home_after collection c.start_cores.new.hosts c.index-makers-0.result c.args.makers.now c.requires.some each

pub returns-then-is_err-clause-count : goal.returns-then-is_err-clause-count
returns-then-is_err-clause-count g c = (first_hosts c.start_cores.new.hosts c.index-makers-0.result c.args.makers.now c.requires.some).count

pub work_all-requires-clause-some : goal.work_all-requires-clause-some
work_all-requires-clause-some g c κs within =
    let count = (first_hosts c.start_cores.new.hosts c.index-makers-0.result c.args.makers.now c.requires.some).count in
    omega (arith, count, c.requires.some)

pub work_all-requires-clause-ready : goal.work_all-requires-clause-ready
work_all-requires-clause-ready g c κs within =
    all_ready_to_make c.start_cores.new.hosts c.index-makers-0.result c.args.makers.now c.requires.some c.requires.ready

pub outcome_of-requires-clause-some : goal.outcome_of-requires-clause-some
outcome_of-requires-clause-some g c =
    let count = (first_hosts c.start_cores.new.hosts c.index-makers-0.result c.args.makers.now c.requires.some).count in
    omega (arith, count, c.work_all.ensures.count, c.requires.some)

pub outcome_of-requires-clause-most : goal.outcome_of-requires-clause-most
outcome_of-requires-clause-most g c =
    let count = (first_hosts c.start_cores.new.hosts c.index-makers-0.result c.args.makers.now c.requires.some).count in
    omega (arith, count, c.work_all.ensures.count, c.requires.most)

pub outcome_of-requires-clause-few : goal.outcome_of-requires-clause-few
outcome_of-requires-clause-few g c = few_each _ _ c.work_all.new.makers c.work_all.ensures.made

pub returns-clause-makes : goal.returns-clause-makes
returns-clause-makes g c =
    makes_made _ c.args.cores.now c.index-makers-0.result c.args.makers.now c.start_cores.new.hosts c.requires.some
    c.work_all.new.makers c.outcome_of.result
    (record {
      started = on_ok _ c.start_cores.result (sym c.is_err.ensures.value ∙ c.if-is_err.false) c.start_cores.ensures.started;
      start_faults = on_ok _ c.start_cores.result (sym c.is_err.ensures.value ∙ c.if-is_err.false) c.start_cores.ensures.steady;
      stop_faults = c.start_cores.ensures.other_count;
      stops = refl;
      reach = c.start_cores.ensures.reached;
    })
    c.work_all.ensures.made c.outcome_of.ensures

pub returns-clause-home : goal.returns-clause-home
returns-clause-home g c =
    λ collection each. c.work_all.ensures.home collection (ready_after collection c.start_cores.new.hosts c.index-makers-0.result c.args.makers.now c.requires.some each)

pub returns-clause-count : goal.returns-clause-count
returns-clause-count g c =
    c.work_all.ensures.count ∙ (first_hosts c.start_cores.new.hosts c.index-makers-0.result c.args.makers.now c.requires.some).count
