-- One write after another is applied, up to the limit.
use Rattle.std.proofs.Common.{◌≡◌, min, length, refl, ap, ◌∙◌, arith}
use Rattle.sc_replica.specs.Core.{Core, replayed_first, replayed_next, finished, replay_limit}
use Rattle.sc_replica.proofs.CoreLemmas.{mode-replayed_first, length-replayed_first, spare-replayed_first, replayed_first-more, replayed_first-min}
use Rattle.sc_replica.proofs.replica.Replica.replay.Goals as goal

pub loop-next-init : goal.loop-next-init
loop-next-init c = refl

pub replay_next-requires-clause-replaying : goal.replay_next-requires-clause-replaying
replay_next-requires-clause-replaying c =
    ap (λ (core : Core). core.mode) c.loop-next.invariant ∙ mode-replayed_first c.args.self.now c.loop-next._next ∙ c.requires.replaying

pub replay_next-requires-clause-not_empty : goal.replay_next-requires-clause-not_empty
replay_next-requires-clause-not_empty c =
    omega (arith, ap (λ (core : Core). length core.buffer) c.loop-next.invariant, length-replayed_first c.args.self.now c.loop-next._next)

pub replay_next-requires-clause-room : goal.replay_next-requires-clause-room
replay_next-requires-clause-room c =
    omega (arith, ap (λ (core : Core). core.cell_spare) c.loop-next.invariant, spare-replayed_first c.args.self.now c.loop-next._next)

pub loop-next-preserved : goal.loop-next-preserved
loop-next-preserved c =
    c.replay_next.ensures ∙ ap replayed_next c.loop-next.invariant ∙ replayed_first-more c.args.self.now c.loop-next._next (omega arith)

pub finish-requires : goal.finish-requires
finish-requires c =
    ap (λ (core : Core). core.mode) c.loop-next.invariant ∙ mode-replayed_first c.args.self.now c.loop-next._next ∙ c.requires.replaying

pub returns-clause-value : goal.returns-clause-value
unfolding replay_limit
returns-clause-value c =
    let all : c.loop-next._next ≡ min (length c.args.self.now.buffer) 64 = omega arith in
    c.finish.ensures.value ∙ ap finished (c.loop-next.invariant ∙ ap (λ n. replayed_first n c.args.self.now) all ∙ replayed_first-min c.args.self.now 64)
