-- A run of old rows is told.
use Rattle.std.proofs.Common.{◌≡◌, ℕ, ◌+◌, ◌-◌, ◌≤◌, List, Option, length, refl, sym, subst, arith, ◌⊎◌, inl, inr, None}
use Rattle.std.proofs.lemmas.Bool.Decides.{nat_tests}
use Rattle.std.specs.Option.{IfSome}
use Rattle.sc_snapshot.specs.Change.{IsChange, LosesInPlace}
use Rattle.sc_snapshot.specs.declared.change.Change.{Change}
use Rattle.sc_snapshot.proofs.ChangeLemmas.{run-step}
use Rattle.sc_snapshot.proofs.LostLemmas.{run-lost}
use Rattle.sc_snapshot.proofs.change.Change.keep_all.Goals as goal
use Rattle.sc_snapshot.proofs.change.Change.keep_all.Goals.{else-from-to-via-then-from-to+else-from-number, else-from-to-via-else-from-to}

pub returns-then-from-number-clause-change : goal.returns-then-from-number-clause-change
returns-then-from-number-clause-change c = λ old new is bounded alike.
    let before = c.args.self.now in
    let count = c.args.to - c.args.from in
    let told : Change = record { moved = c.push_run.new.self; added = before.added; lost = None; alone = before.alone } in
    let order = c.requires.from in
    let all : c.args.from + count ≡ c.args.to = omega (arith, order) in
    subst (λ n. IsChange old new n (c.args.number + count) told) all
    (run-step old new count c.args.from c.args.number before told is c.in_ok-push_run.ensures refl (omega (arith, all, bounded)) alike tt)

pub returns-else-from-to-clause-change : goal.returns-else-from-to-clause-change
returns-else-from-to-clause-change c = λ old new is bounded alike.
    let before = c.args.self.now in
    let from = c.args.from in
    let number = c.args.number in
    let count = c.args.to - from in
    let told : Change = record { moved = c.push_run.new.self; added = before.added; lost = before.lost; alone = before.alone } in
    let order = c.requires.from in
    let all : from + count ≡ c.args.to = omega (arith, order) in
    let within : from + count ≤ length old = omega (arith, all, bounded) in
    let how : (count ≡ 0) ⊎ (from ≡ number) = elim c.else-from-to.branch [
      | else-from-to-via-then-from-to+else-from-number w ↦ let same : from ≡ number = grind (arith, nat_tests) in inr same
      | else-from-to-via-else-from-to w ↦ let none : count ≡ 0 = omega arith in inl none
    ] in
    let lost = subst (λ (os : List (Option ℕ)). IfSome before.lost (LosesInPlace old (from + count) os)) (sym c.in_ok-push_run.ensures)
    (run-lost old from number count before.moved before.lost is.told within how is.lost) in
    subst (λ n. IsChange old new n (number + count) told) all
    (run-step old new count from number before told is c.in_ok-push_run.ensures refl within alike lost)
