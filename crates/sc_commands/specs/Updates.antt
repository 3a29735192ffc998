-- What an update asks for: the orders of its body, or why it is refused.
use Rattle.std.specs.Prelude.{◌≡◌, ◌⊎◌, ℕ, ◌-◌, ◌^◌, min, ◌||◌, List, [], ◌∷◌, length, map, nat_lt, if◌then◌else◌, Option, Some, None, Result, Ok, Err}
use Rattle.serde_json.specs.Data.{Data}
use Rattle.sc_record.specs.Orders.{order_limit}
use Rattle.sc_record.specs.declared.order.Change.TheVariants.{Delete}
use Rattle.sc_schema.specs.Documents.{OrderContent, content_of, document_order, and_then, found_map}
use Rattle.sc_schema.specs.declared.fault.DocFault.{DocFault}
use Rattle.sc_json.specs.Bodies.{json_of}
use Rattle.sc_commands.specs.Commands.{Command, add, delete, Reading, reading, asks_commit}
use Rattle.sc_commands.specs.declared.batch.Flags.{Flags}
use Rattle.sc_commands.specs.declared.batch.Batch.{Batch}
use Rattle.sc_commands.specs.declared.fault.CommandFault.{CommandFault}
use Rattle.sc_commands.specs.declared.fault.CommandFault.TheVariants as faults

-- a deletion of the document of this id, under this condition
abbrev pub as_deletion : OrderContent → OrderContent
as_deletion found = record { id = found.id; condition = found.condition; change = Delete }

-- the order of a command, or the first fault of its document
abbrev pub order_of : Command → Result OrderContent DocFault
order_of (add fields) = document_order fields
order_of (delete fields) = found_map as_deletion (document_order fields)

-- the orders of commands, or the first fault of the first command that has one
abbrev pub orders_of : List Command → Result (List OrderContent) DocFault
orders_of [] = Ok []
orders_of (command ∷ commands) = and_then (λ order. found_map (λ orders. order ∷ orders) (orders_of commands)) (order_of command)

-- orders, and what their request sets
pub record Update : Type 0 where
  pub orders : List OrderContent
  pub flags : Flags

-- of a batch
abbrev pub update_of : Batch → Update
update_of batch = record { orders = map content_of batch.orders; flags = batch.flags }

-- a commit is set by the request's parameters or by its body
abbrev pub with_commit : Flags → Data → Flags
with_commit flags value = record flags { commit = flags.commit || asks_commit value }

-- the orders of a document, or its fault
abbrev pub checked : Flags → Result (List OrderContent) DocFault → Result Update CommandFault
checked flags (Ok orders) = Ok (record { orders = orders; flags = flags })
checked flags (Err fault) = Err (faults.Doc fault)

-- the commands that were read: no more than may be, and each with an order
abbrev pub read_commands : Flags → Reading → Result Update CommandFault
read_commands flags (Err at) = Err (faults.BadShape (min at (2 ^ 32 - 1)))
read_commands flags (Ok commands) = if nat_lt order_limit (length commands) then Err faults.TooMany else checked flags (orders_of commands)

-- the value that a body has
abbrev pub read_value : Flags → Option Data → Result Update CommandFault
read_value flags None = Err faults.BadJson
read_value flags (Some value) = read_commands (with_commit flags value) (reading value)

-- what an update asks for, or the first cause why it is refused: no JSON, then a form that is none, then too many orders, then the
-- first fault of a document. A body of no bytes asks for nothing
abbrev pub asked_by_update : Flags → List ℕ → Result Update CommandFault
asked_by_update flags [] = Ok (record { orders = []; flags = flags })
asked_by_update flags (byte ∷ body) = read_value flags (json_of (byte ∷ body))

-- the fault is the one that is found, or memory ran out before one was
abbrev pub IsCommandFault : {T : Type 0} → Result T CommandFault → CommandFault → Type 0
IsCommandFault found fault = (fault ≡ faults.Memory) ⊎ (found ≡ Err fault)
