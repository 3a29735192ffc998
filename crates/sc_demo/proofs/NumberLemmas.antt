-- The numbers of a workload are in their ranges.
use Rattle.std.proofs.Common.{◌≡◌, ◌≤◌, ◌<◌, ℕ, Bool, true, false, cond, ◌&&◌, arith, refl}
use Rattle.std.specs.Prelude.{nat_le, nat_lt}
use Rattle.std.proofs.lemmas.Bool.{and_parts}
use Rattle.std.proofs.lemmas.Bool.Decides.{nat_tests}
use Rattle.sc_collection.specs.Shapes.{is_in_range}
use Rattle.sc_arguments.specs.declared.asked.Demo.{Demo}
use Rattle.sc_arguments.specs.Arguments.{most_workers, most_orders, IsDemo}
use Rattle.sc_demo.specs.declared.task.Task.TheVariants as tasks
use Rattle.sc_demo.specs.Making.{IsTaskOf, task_at}

-- the numbers of a demonstration that its making needs
pub record HasNumbers (demo : Demo) : Type 0 where
  pub count : (1 ≤ demo.count) × (demo.count ≤ most_orders)
  pub workers : (1 ≤ demo.workers) × (demo.workers ≤ most_workers)

in_range : (least most number : ℕ) → is_in_range least most number ≡ true → (least ≤ number) × (number ≤ most)
in_range least most number is =
    let both = and_parts (nat_le least number) (nat_le number most) is in
    let from = both.0 in
    let to = both.1 in
    (grind (arith, nat_tests, from), grind (arith, nat_tests, to))

pub numbers : (demo : Demo) → IsDemo demo → HasNumbers demo
numbers demo is =
    let both = and_parts (is_in_range 1 most_orders demo.count) (is_in_range 1 most_workers demo.workers) is in
    record { count = in_range 1 most_orders demo.count both.0; workers = in_range 1 most_workers demo.workers both.1 }

-- the task of each number is one of the workload
pub task_fits : (demo : Demo) (number : ℕ) → IsTaskOf demo (task_at demo number)
task_fits demo number = by (nat_lt number demo.workers) (λ is. grind (arith, nat_tests)) where
  by : (b : Bool) → (b ≡ true → number < demo.workers) → IsTaskOf demo (cond b (tasks.Write number) tasks.Split)
  by true less = less refl
  by false less = tt
