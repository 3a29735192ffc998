-- Each write made the prefix longer, or kept it.
use Rattle.std.proofs.Common.{◌≡◌, ◌≤◌, ℕ, length, take, drop, ◌+◌, ◌-◌, Result, Ok, arith, ap, ◌∙◌, subst, sym}
use Rattle.std.proofs.lemmas.List.{length-drop, length-take-le}
use Rattle.std.specs.Io.KnownBytes.{WriteAppends}
use Rattle.std.specs.declared.io.Error.{Error}
use Rattle.sc_io.proofs.WrittenLemmas.{HasPrefix, prefix_added, more_added, kept_prefix}
use Rattle.sc_io.proofs.machine.write_whole.Goals as goal
use Rattle.sc_io.proofs.machine.write_whole.Goals.{in-Ok, in-Err}

pub returns-in-Ok-eq0-clause-failed : goal.returns-in-Ok-eq0-clause-failed
returns-in-Ok-eq0-clause-failed g c =
    let rest = take (length c.args.piece.now - c.loop.done) (drop c.loop.done c.args.piece.now) in
    prefix_added _ (g.O.Write.contents c.write.new.self) c.args.piece.now (c.loop.done + 0)
    (more_added _ (g.O.Write.contents c.loop.output) _ c.args.piece.now c.loop.done (length c.args.piece.now - c.loop.done) 0 (omega arith) c.loop.invariant.1
    (subst (λ (r : Result ℕ Error). WriteAppends (g.O.Write.contents c.loop.output) (g.O.Write.contents c.write.new.self) r rest)
    (c.in-Ok-eq0.is ∙ ap Ok c.in-Ok-eq0.field-0-test) c.write.ensures.bytes))

pub returns-in-Err-2-clause-failed : goal.returns-in-Err-2-clause-failed
returns-in-Err-2-clause-failed g c =
    prefix_added _ (g.O.Write.contents c.write.new.self) c.args.piece.now c.loop.done
    (kept_prefix _ (g.O.Write.contents c.loop.output) _ c.args.piece.now c.loop.done c.loop.invariant.1 c.in-Err-2.ensures.bytes)

pub loop-preserved : goal.loop-preserved
loop-preserved g c = elim c.match-write.branch [
  | in-Ok w ↦
      let rest : length (take (length c.args.piece.now - c.loop.done) (drop c.loop.done c.args.piece.now)) ≡ length c.args.piece.now - c.loop.done =
      (let l = length-drop c.loop.done c.args.piece.now in length-take-le _ (drop c.loop.done c.args.piece.now) (omega (arith, l))) in
      let fits : w.in-Ok.count ≤ length c.args.piece.now - c.loop.done = (let b = w.in-Ok.ensures.bound in omega (arith, rest, b)) in (
        omega (arith, w.done-is, fits, c.loop.invariant.0),
        subst (HasPrefix _ (g.O.Write.contents c.write.new.self) c.args.piece.now) (sym w.done-is)
            (more_added _ (g.O.Write.contents c.loop.output) _ c.args.piece.now c.loop.done (length c.args.piece.now - c.loop.done) w.in-Ok.count fits c.loop.invariant.1 w.in-Ok.ensures.bytes),
      )
  | in-Err w ↦ (
    omega (arith, w.done-is, c.loop.invariant.0),
    subst (HasPrefix _ (g.O.Write.contents c.write.new.self) c.args.piece.now) (sym w.done-is)
        (kept_prefix _ (g.O.Write.contents c.loop.output) _ c.args.piece.now c.loop.done c.loop.invariant.1 w.in-Err.ensures.bytes),
  )
]

pub returns-else-done-piece-2-clause-failed : goal.returns-else-done-piece-2-clause-failed
returns-else-done-piece-2-clause-failed g c = prefix_added _ (g.O.Write.contents c.loop.output) c.args.piece.now c.loop.done c.loop.invariant.1
