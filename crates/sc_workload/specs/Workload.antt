-- Which orders a workload has, and which of them each worker makes.
use Rattle.std.specs.Prelude.{ℕ, ◌+◌, ◌*◌, ◌/◌, ◌%◌, Bool, nat_eq, pos, List, [], ◌∷◌, ◌++◌, map, filter, codes, if◌then◌else◌}
use Rattle.std.specs.List.{range_with_len}
use Rattle.std.specs.Fmt.{decimal}
use Rattle.sc_values.specs.declared.field.Field.{Field}
use Rattle.sc_values.specs.declared.value.Value.TheVariants.{Text, Int}
use Rattle.sc_record.specs.declared.order.Change.{Change}
use Rattle.sc_record.specs.declared.order.Change.TheVariants.{Whole, Delete}
use Rattle.sc_schema.specs.Documents.{OrderContent}

-- a workload: the seed that its documents' numbers begin with, and how many orders it has
pub record Workload : Type 0 where
  pub seed : ℕ
  pub count : ℕ

-- how many documents it is about: one for two orders
abbrev pub documents : Workload → ℕ
documents workload = (workload.count + 1) / 2

-- the number of the document that the order at a place is about
abbrev pub number_at : Workload → ℕ → ℕ
number_at workload place = (workload.seed + 7 * place) % documents workload

-- the id of the document of a number
abbrev pub workload_id : ℕ → List ℕ
workload_id number = codes "w" ++ decimal number

-- the document that the order at a place adds, as its fields: the group of every third one is `a`
abbrev pub fields_at : ℕ → List Field
fields_at place =
    record { name = codes "g_s"; values = Text (if nat_eq (place % 3) 0 then codes "a" else codes "b") ∷ [] }
    ∷ record { name = codes "k_i"; values = Int (pos place) ∷ [] } ∷ []

-- what the order at a place does: the last of every five deletes its document, and the others add it
abbrev pub change_at : ℕ → Change
change_at place = if nat_eq (place % 5) 4 then Delete else Whole (fields_at place)

-- the order at a place
abbrev pub order_at : Workload → ℕ → OrderContent
order_at workload place = record { id = workload_id (number_at workload place); condition = pos 0; change = change_at place }

-- the places of a workload's orders, in order
abbrev pub order_places : Workload → List ℕ
order_places workload = range_with_len 0 workload.count

-- all orders of a workload
abbrev pub all_orders : Workload → List OrderContent
all_orders workload = map (order_at workload) (order_places workload)

-- the worker of this number makes the order at a place, as one of so many
abbrev pub is_made_by : Workload → (worker workers : ℕ) → ℕ → Bool
is_made_by workload worker workers place = nat_eq (number_at workload place % workers) worker

-- the orders that a worker makes
abbrev pub worker_orders : Workload → (worker workers : ℕ) → List OrderContent
worker_orders workload worker workers = map (order_at workload) (filter (is_made_by workload worker workers) (order_places workload))
