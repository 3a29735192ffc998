-- Which worker has the orders on a document.
use Rattle.std.specs.Prelude.{◌≡◌, ◌≢◌, ◌≤◌, ◌<◌, ◌^◌, ℕ, List, [], filter}
use Rattle.std.specs.Str.{bytes_eq}
use Rattle.sc_schema.specs.Documents.{OrderContent}
use Rattle.sc_workload.specs.Workload.{Workload, all_orders, worker_orders}

-- of orders, those on the document of an id
abbrev pub on_document : List ℕ → List OrderContent → List OrderContent
on_document id orders = filter (λ (order : OrderContent). bytes_eq order.id id) orders

-- one worker has all orders on the document of an id, in their order, and no other worker has one
pub record LiesWithOne (workload : Workload) (workers : ℕ) (id : List ℕ) : Type 0 where
  pub worker : ℕ
  pub is_one : worker < workers
  pub all : on_document id (worker_orders workload worker workers) ≡ on_document id (all_orders workload)
  pub others : (other : ℕ) → other ≢ worker → on_document id (worker_orders workload other workers) ≡ []

-- so it is with each workload, however many workers there are, and each document
abbrev pub LieWithOneWorker : Type 0
LieWithOneWorker = (workload : Workload) → 1 ≤ workload.count → workload.count < 2 ^ 32 → (workers : ℕ) → 1 ≤ workers → (id : List ℕ) → LiesWithOne workload workers id
