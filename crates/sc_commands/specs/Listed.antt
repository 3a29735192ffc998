-- The commands that values stand for once their forms are known, which the clauses of private functions name.
use Rattle.std.specs.Prelude.{◌≡◌, ℕ, ◌<◌, List, map, Err}
use Rattle.serde_json.specs.Data.{Data}
use Rattle.serde_json.specs.View.{view}
use Rattle.serde_json.specs.declared.value.Value.{Value}
use Rattle.sc_schema.specs.declared.raw.RawDoc.{RawDoc}
use Rattle.sc_commands.specs.Commands.{Command, add, delete, order_members, Reading}
use Rattle.sc_commands.specs.declared.forms.Action.{Action}
use Rattle.sc_commands.specs.declared.forms.Action.TheVariants as actions
use Rattle.sc_commands.specs.declared.forms.FormFault.{FormFault}
use Rattle.sc_commands.specs.declared.forms.FormFault.TheVariants as faults

-- the command of a value
abbrev pub command_of : Action → Data → Command
command_of actions.Add value = add (order_members value)
command_of actions.Delete value = delete (order_members value)

-- the commands of values, in order
abbrev pub listed : Action → List Value → List Command
listed action values = map (λ value. command_of action (view value)) values

-- the commands that add these documents, in order
abbrev pub added_docs : List RawDoc → List Command
added_docs docs = map (λ (doc : RawDoc). add doc.fields) docs

-- the reading ends at what has none of the forms, or memory ran out
abbrev pub IsFormFault : Reading → FormFault → Type 0
IsFormFault found (faults.Shape at) = found ≡ Err at
IsFormFault found faults.Memory = Unit {0}

-- fewer than so many commands come before what has none of the forms
abbrev pub ComesWithin : ℕ → FormFault → Type 0
ComesWithin limit (faults.Shape at) = at < limit
ComesWithin limit faults.Memory = Unit {0}
