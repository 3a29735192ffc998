-- One old row more is told, where it is replaced.
use Rattle.std.proofs.Common.{◌+◌, List, ℕ, Option, cond, refl, sym, subst}
use Rattle.std.specs.Option.{IfSome}
use Rattle.sc_snapshot.specs.Change.{IsChange, LosesInPlace}
use Rattle.sc_snapshot.specs.declared.change.Change.{Change}
use Rattle.sc_snapshot.proofs.ChangeLemmas.{leave-step}
use Rattle.sc_snapshot.proofs.change.Change.replace.Goals as goal

pub returns-in_ok-push-clause-change : goal.returns-in_ok-push-clause-change
returns-in_ok-push-clause-change c = λ new high is.
    let old = c.args.rows.now in
    let at = c.args.edit.now.at in
    let before = c.args.self.now in
    let next : Change = record { moved = c.push.new.self; added = before.added; lost = c.lose.new.lost; alone = before.alone } in
    subst (λ b. IsChange old new (at + cond b 1 0) high next) (sym c.if-edit.true)
    (leave-step old new at high before is next c.in_ok-push.ensures refl
    (subst (λ (os : List (Option ℕ)). IfSome next.lost (LosesInPlace old (at + 1) os)) (sym c.in_ok-push.ensures) (c.in_ok-lose.ensures before.moved is.told is.lost)))
