-- What a maker made is the same of equal layouts and of what was seen, and is no more than a workload has.
use Rattle.std.proofs.Common.{◌≡◌, ◌≤◌, ℕ, subst, arith}
use Rattle.sc_seen.specs.Seen.{Layout, Seen}
use Rattle.sc_session.specs.declared.station.Crew.{Crew}
use Rattle.sc_arguments.specs.declared.asked.Demo.{Demo}
use Rattle.sc_arguments.specs.Arguments.{IsDemo}
use Rattle.sc_demo.specs.declared.task.Task.{Task}
use Rattle.sc_demo.specs.declared.task.Task.TheVariants as tasks
use Rattle.sc_demo.specs.declared.task.Made.{Made}
use Rattle.sc_demo.specs.declared.task.Made.TheVariants as makes
use Rattle.sc_demo.specs.Making.{MakerReports, MakingState, MakesTask, accepted_by, making}
use Rattle.sc_demo.proofs.NumberLemmas.{numbers}

pub made_at : {C H P L : Type 0} (reports : MakerReports C H P) (told layout : Layout) (before_told before after_told after : Seen) (demo : Demo) (task : Task)
    (old new : Crew C H P L) (made : Made) → told ≡ layout → before_told ≡ before → after_told ≡ after
    → MakesTask (record { reports = reports; layout = told }) demo task (making before_told old) (making after_told new) made
    → MakesTask (record { reports = reports; layout = layout }) demo task (making before old) (making after new) made
made_at {C} {H} {P} {L} reports told layout before_told before after_told after demo task old new made same_layout same_before same_after is =
    subst (λ (l : Layout). MakesTask (record { reports = reports; layout = l }) demo task (making before old) (making after new) made) same_layout
    (subst (λ (s : Seen). MakesTask (record { reports = reports; layout = told }) demo task (making s old) (making after new) made) same_before
    (subst (λ (s : Seen). MakesTask (record { reports = reports; layout = told }) demo task (making before_told old) (making s new) made) same_after is))

pub made_few : {C H P : Type 0} (reports : MakerReports C H P) (layout : Layout) (demo : Demo) (task : Task) (old new : MakingState C H P) (made : Made)
    → IsDemo demo → MakesTask (record { reports = reports; layout = layout }) demo task old new made → accepted_by made ≤ 100000
made_few reports layout demo (tasks.Write worker) old new (makes.Orders written) is made =
    let count = (numbers demo is).count in omega (arith, count.1, made.few)
made_few reports layout demo (tasks.Write worker) old new (makes.Split end) is made = absurd made
made_few reports layout demo tasks.Split old new (makes.Orders written) is made = absurd made
made_few reports layout demo tasks.Split old new (makes.Split end) is made = omega arith
