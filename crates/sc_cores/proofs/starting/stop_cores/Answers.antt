-- proofs/starting/stop_cores/Answers.antt
-- One core more is stopped, or fails to be.
use Rattle.std.proofs.Common.{rules, ◌≡◌, ◌<◌, ◌+◌, Some, length, take, cond, IfSome, sym, ap, ◌∙◌, subst, arith}
use Rattle.std.specs.Prelude.{true, is_err}
use Rattle.sc_io.specs.Hosts.{without_core}
use Rattle.sc_cores.specs.Cores.{StopsEach}
use Rattle.sc_cores.proofs.StopLemmas.{first_or, at_err, at_ok, stopped_all, stopped_one, failed_one}
use Rattle.sc_cores.proofs.starting.stop_cores.Goals as goal
use Rattle.sc_cores.proofs.starting.stop_cores.Goals.{then-is_err+then-is_none, else-is_err, else-is_err-via-then-is_err+else-is_none, else-is_err-via-else-is_err}

-- src/starting.rt:82:5
pub loop-at-preserved : goal.loop-at-preserved
loop-at-preserved g c =
    let at = c.loop-at.at in
    let cores = c.args.cores.now in
    let core = c.index-cores-at.result in
    let before = g.H.Hosts.started c.args.hosts.now in
    let now = g.H.Hosts.started c.loop-at.hosts in
    let next = g.H.Hosts.started c.stop_core.new.self in
    let faults = g.H.Hosts.stop_faults c.args.hosts.now in
    let faults_next = g.H.Hosts.stop_faults c.stop_core.new.self in
    let below : at < length cores = omega arith in
    let failing : true ≡ is_err c.stop_core.result → StopsEach (take (at + 1) cores) before next faults faults_next (first_or c.loop-at.failed at) =
    λ is. failed_one cores at core before now next faults (g.H.Hosts.stop_faults c.loop-at.hosts) faults_next c.loop-at.failed below
    c.index-cores-at.is c.loop-at.invariant.each (at_err c.stop_core.result is c.stop_core.ensures.failed)
    (at_err c.stop_core.result is c.stop_core.ensures.cause) in
    elim c.if-is_err.branch [
      | then-is_err+then-is_none w ↦ record {
        stopped = search rules;
        steady = search rules;
        cause = search rules;
        each = subst (λ failed. StopsEach (take (at + 1) cores) before next faults faults_next failed)
            (ap (λ b. cond b c.loop-at.failed (Some at)) w.if-is_none.ensures ∙ sym w.failed-is) (failing w.if-is_err.ensures.value);
        no_fall = search rules;
        start_faults = search rules;
        reached = search rules;
      }
      | else-is_err w ↦ elim w.else-is_err.branch [
        | else-is_err-via-then-is_err+else-is_none w' ↦ record {
          stopped = search rules;
          steady = search rules;
          cause = search rules;
          each = subst (λ failed. StopsEach (take (at + 1) cores) before next faults faults_next failed)
              (ap (λ b. cond b c.loop-at.failed (Some at)) w'.if-is_none.ensures ∙ sym w.failed-is) (failing w'.if-is_err.ensures.value);
          no_fall = search rules;
          start_faults = search rules;
          reached = search rules;
        }
        | else-is_err-via-else-is_err w' ↦ record {
          stopped = λ none all was.
              stopped_all cores at core before now next faults (g.H.Hosts.stop_faults c.loop-at.hosts) faults_next c.loop-at.failed below
              c.index-cores-at.is c.loop-at.invariant.each all (c.loop-at.invariant.stopped (sym w.failed-is ∙ none) all was)
              (subst (λ name. IfSome now (λ all. next ≡ Some (without_core core.node name all))) c.as_str.ensures
              (at_ok c.stop_core.result w'.if-is_err.ensures.value c.stop_core.ensures.whole));
          steady = search rules;
          cause = search rules;
          each = subst (λ failed. StopsEach (take (at + 1) cores) before next faults faults_next failed) (sym w.failed-is)
              (stopped_one cores at core before now next faults (g.H.Hosts.stop_faults c.loop-at.hosts) faults_next c.loop-at.failed below
              c.index-cores-at.is c.loop-at.invariant.each
              (subst (λ name. IfSome now (λ all. next ≡ Some (without_core core.node name all))) c.as_str.ensures
              (at_ok c.stop_core.result w'.if-is_err.ensures.value c.stop_core.ensures.whole))
              (at_ok c.stop_core.result w'.if-is_err.ensures.value c.stop_core.ensures.steady));
          no_fall = search rules;
          start_faults = search rules;
          reached = search rules;
        }
      ]
    ]
