-- Batches, one more at a time.
use Rattle.std.proofs.Common.{◌≡◌, ◌∙◌, ◌≤◌, List, [], ◌∷◌, ◌++◌, length, map, refl, sym, ap, append_assoc, arith}
use Rattle.std.proofs.lemmas.List.{append-nil, map-append}
use Rattle.sc_commands.specs.declared.batch.Batch.{Batch}
use Rattle.sc_record.specs.declared.order.Order.{Order}
use Rattle.sc_schema.specs.Documents.{content_of}
use Rattle.std.proofs.lemmas.List.Elements.{All-append, All-cons, All-nil}
use Rattle.sc_workload.specs.Batches.{AreSmall, IsSmall, contents, no_flags}

-- the orders of batches and of one more
pub contents-more : (batches : List Batch) (batch : Batch) → contents (batches ++ batch ∷ []) ≡ contents batches ++ map content_of batch.orders
contents-more [] batch = append-nil (map content_of batch.orders)
contents-more (first ∷ batches) batch =
    ap (λ rest. map content_of first.orders ++ rest) (contents-more batches batch)
    ∙ sym (append_assoc (map content_of first.orders) (contents batches) (map content_of batch.orders))

-- orders in the last batch and one more
pub filled-more : (batches : List Batch) (orders : List Order) (order : Order)
    → contents batches ++ map content_of (orders ++ order ∷ []) ≡ (contents batches ++ map content_of orders) ++ content_of order ∷ []
filled-more batches orders order =
    ap (λ last. contents batches ++ last) (map-append content_of orders (order ∷ []))
    ∙ sym (append_assoc (contents batches) (map content_of orders) (content_of order ∷ []))

-- a batch of these orders
abbrev pub full_batch : List Order → Batch
full_batch orders = record { orders = orders; flags = no_flags }

-- batches and one more, of these orders
pub small-more : (batches : List Batch) (orders : List Order) → AreSmall batches → 1 ≤ length orders → length orders ≤ 100
    → AreSmall (batches ++ full_batch orders ∷ [])
small-more batches orders small some few =
    All-append (λ (batch : Batch). IsSmall batch) batches (full_batch orders ∷ []) small
    (All-cons IsSmall (full_batch orders) [] (record { some = some; few = few; flags = refl }) (All-nil IsSmall))

-- orders that were in the last batch make one of their own
pub filled-closed : (full : List Batch) (last : List Order) (batches : List Batch) (batch : Batch) → batches ≡ full ++ batch ∷ []
    → batch ≡ full_batch last → contents batches ≡ contents full ++ map content_of last
filled-closed full last batches batch all is =
    ap contents all ∙ contents-more full batch ∙ ap (λ (one : Batch). contents full ++ map content_of one.orders) is

-- orders that aren't none are some
pub some_orders : (orders : List Order) → (orders ≡ [] → ⊥) → 1 ≤ length orders
some_orders [] not_none = absurd (not_none refl)
some_orders (order ∷ orders) not_none = omega arith
