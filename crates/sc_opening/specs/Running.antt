-- The split that is open in a journal that is read, as it began.
use Rattle.std.specs.Prelude.{Option}
use Rattle.std.specs.Option.{option_map}
use Rattle.sc_cluster.specs.declared.plan.SplitPlan.{SplitPlan}
use Rattle.sc_opening.specs.declared.running.Running.{Running}

-- the split that its entry in the journal begins
abbrev pub plan_of : Running → SplitPlan
plan_of running = record { parent = running.parent; subs = running.subs.now }

-- the split, where one is open
abbrev pub plan_if : Option Running → Option SplitPlan
plan_if running = option_map plan_of running
