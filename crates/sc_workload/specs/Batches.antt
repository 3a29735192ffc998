-- The orders of a workload in batches.
use Rattle.std.specs.Prelude.{◌≡◌, ◌≤◌, ℕ, false, List, [], ◌++◌, ◌∷◌, length, map, All}
use Rattle.sc_commands.specs.declared.batch.Batch.{Batch}
use Rattle.sc_commands.specs.declared.batch.Flags.{Flags}
use Rattle.sc_schema.specs.Documents.{OrderContent, content_of}
use Rattle.sc_workload.specs.Workload.{Workload, worker_orders}
use Rattle.sc_workload.specs.declared.batches.Batches.{Batches}

-- the flags of a request that sets none
abbrev pub no_flags : Flags
no_flags = record { commit = false; versions = false; fail_on_conflict = false }

-- the orders of batches, in order
abbrev pub contents : List Batch → List OrderContent
contents [] = []
contents (batch ∷ batches) = map content_of batch.orders ++ contents batches

-- the batch has 1 to 100 orders, and sets no flags
pub record IsSmall (batch : Batch) : Type 0 where
  pub some : 1 ≤ length batch.orders
  pub few : length batch.orders ≤ 100
  pub flags : batch.flags ≡ no_flags

-- each of the batches
abbrev pub AreSmall : List Batch → Type 0
AreSmall batches = All IsSmall batches

-- these are the batches of a worker, as one of so many
pub record AreBatchesOf (workload : Workload) (worker workers : ℕ) (batches : List Batch) : Type 0 where
  pub orders : contents batches ≡ worker_orders workload worker workers
  pub small : AreSmall batches

-- the orders of batches that are being filled
abbrev pub filled_orders : Batches → List OrderContent
filled_orders batches = contents batches.full ++ map content_of batches.last

-- those that are full are as they are to be, and so can be the last one
pub record IsFilling (batches : Batches) : Type 0 where
  pub full : AreSmall batches.full
  pub last : length batches.last ≤ 100
