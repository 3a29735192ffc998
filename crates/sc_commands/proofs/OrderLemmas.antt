-- The orders of commands, one after another and one list after another.
use Rattle.std.proofs.Common.{◌≡◌, ℕ, suc, ◌+◌, ◌≤◌, List, [], ◌∷◌, ◌++◌, length, map, Result, Ok, Err, refl, sym, ap, ◌∙◌, inl, inr, subst, arith, length-append}
use Rattle.std.proofs.lemmas.List.{length-map}
use Rattle.serde_json.specs.View.{view}
use Rattle.serde_json.specs.declared.value.Value.{Value}
use Rattle.sc_record.specs.declared.order.Order.{Order}
use Rattle.sc_schema.specs.Raw.{AscendByName}
use Rattle.sc_schema.specs.Documents.{OrderContent, content_of, and_then, found_map, IsDocumentFault}
use Rattle.sc_schema.specs.declared.fault.DocFault.{DocFault}
use Rattle.sc_schema.specs.declared.raw.RawField.{RawField}
use Rattle.std.specs.List.Sorted.{IsStrictlySortedBy}
use Rattle.sc_commands.specs.Commands.{Command, add}
use Rattle.sc_schema.specs.declared.raw.RawDoc.{RawDoc}
use Rattle.sc_commands.specs.Listed.{added_docs, command_of, listed}
use Rattle.sc_commands.specs.Updates.{order_of, orders_of}
use Rattle.sc_commands.specs.declared.forms.Action.{Action}
use Rattle.sc_commands.specs.declared.forms.Action.TheVariants as actions

-- orders, and those that follow
abbrev pub then_more : Result (List OrderContent) DocFault → Result (List OrderContent) DocFault → Result (List OrderContent) DocFault
then_more first later = and_then (λ orders. found_map (λ more. orders ++ more) later) first

one_more : (first : Result OrderContent DocFault) (rest later : Result (List OrderContent) DocFault)
    → and_then (λ order. found_map (λ orders. order ∷ orders) (then_more rest later)) first
    ≡ then_more (and_then (λ order. found_map (λ orders. order ∷ orders) rest) first) later
one_more (Err fault) rest later = refl
one_more (Ok order) (Err fault) later = refl
one_more (Ok order) (Ok orders) (Err fault) = refl
one_more (Ok order) (Ok orders) (Ok more) = refl

none_before : (later : Result (List OrderContent) DocFault) → later ≡ found_map (λ more. [] ++ more) later
none_before (Ok more) = refl
none_before (Err fault) = refl

-- the orders of two lists
pub orders-append : (xs ys : List Command) → orders_of (xs ++ ys) ≡ then_more (orders_of xs) (orders_of ys)
orders-append [] ys = none_before (orders_of ys)
orders-append (x ∷ xs) ys =
    ap (λ rest. and_then (λ order. found_map (λ orders. order ∷ orders) rest) (order_of x)) (orders-append xs ys) ∙ one_more (order_of x) (orders_of xs) (orders_of ys)

-- the orders that were read, and those of the values that are left
abbrev pub with_rest : Action → List OrderContent → List Value → Result (List OrderContent) DocFault
with_rest action read values = found_map (λ more. read ++ more) (orders_of (listed action values))

-- the orders that were read, and those of the documents that are left
abbrev pub with_left : List OrderContent → List RawDoc → Result (List OrderContent) DocFault
with_left read docs = found_map (λ more. read ++ more) (orders_of (added_docs docs))

-- the fields of one name ascend
pub alone_ascends : (field : RawField) → AscendByName (field ∷ [])
unfolding IsStrictlySortedBy
alone_ascends field = (tt, tt)

-- a fault of the first list is the fault of both
pub fault_before : (xs ys : List Command) (fault : DocFault) → IsDocumentFault (orders_of xs) fault → IsDocumentFault (orders_of (xs ++ ys)) fault
fault_before xs ys fault (inl memory) = inl memory
fault_before xs ys fault (inr found) = inr (orders-append xs ys ∙ ap (λ first. then_more first (orders_of ys)) found)

-- the orders that come after none
pub read_first : (xs : List Command) (none : List Order) (first : List OrderContent) → none ≡ [] → found_map (λ more. map content_of none ++ more) (orders_of xs) ≡ Ok first → orders_of xs ≡ Ok first
read_first xs none first empty read =
    none_before (orders_of xs) ∙ ap (λ (orders : List Order). found_map (λ more. map content_of orders ++ more) (orders_of xs)) (sym empty) ∙ read

-- the orders of both lists
pub read_both : (xs ys : List Command) (none : List Order) (first all : List OrderContent) → none ≡ [] → found_map (λ more. map content_of none ++ more) (orders_of xs) ≡ Ok first
    → found_map (λ more. first ++ more) (orders_of ys) ≡ Ok all → orders_of (xs ++ ys) ≡ Ok all
read_both xs ys none first all empty read later =
    orders-append xs ys ∙ ap (λ found. then_more found (orders_of ys)) (read_first xs none first empty read) ∙ later

-- a fault of the second list, where the first has none, is the fault of both
pub fault_after : (xs ys : List Command) (none : List Order) (first : List OrderContent) (fault : DocFault) → none ≡ [] → found_map (λ more. map content_of none ++ more) (orders_of xs) ≡ Ok first
    → IsDocumentFault (orders_of ys) fault → IsDocumentFault (orders_of (xs ++ ys)) fault
fault_after xs ys none first fault empty read (inl memory) = inl memory
fault_after xs ys none first fault empty read (inr found) =
    inr (orders-append xs ys ∙ ap (λ before. then_more before (orders_of ys)) (read_first xs none first empty read) ∙ ap (λ later. found_map (λ more. first ++ more) later) found)

-- so many orders, where there are orders
abbrev pub Counts : ℕ → Result (List OrderContent) DocFault → Type 0
Counts n (Ok orders) = length orders ≡ n
Counts n (Err fault) = Unit {0}

counts_more : (n : ℕ) (first : Result OrderContent DocFault) (rest : Result (List OrderContent) DocFault) → Counts n rest → Counts (suc n) (and_then (λ order. found_map (λ orders. order ∷ orders) rest) first)
counts_more n (Err fault) rest h = tt
counts_more n (Ok order) (Err fault) h = tt
counts_more n (Ok order) (Ok orders) h = ap suc h

counts_orders : (commands : List Command) → Counts (length commands) (orders_of commands)
counts_orders [] = refl
counts_orders (command ∷ commands) = counts_more (length commands) (order_of command) (orders_of commands) (counts_orders commands)

-- there are as many orders as commands
pub few_orders : (adds deletes : List Value) (orders : List Order) (limit : ℕ) → orders_of (listed actions.Add adds ++ listed actions.Delete deletes) ≡ Ok (map content_of orders)
    → length adds + length deletes ≤ limit → length orders ≤ limit
few_orders adds deletes orders limit found small =
    let both = listed actions.Add adds ++ listed actions.Delete deletes in
    let counted : length (map content_of orders) ≡ length both = subst (Counts (length both)) found (counts_orders both) in
    let orders_same : length (map content_of orders) ≡ length orders = length-map orders content_of in
    let parts : length both ≡ length (listed actions.Add adds) + length (listed actions.Delete deletes) = length-append (listed actions.Add adds) (listed actions.Delete deletes) in
    let first : length (listed actions.Add adds) ≡ length adds = length-map adds (λ value. command_of actions.Add (view value)) in
    let second : length (listed actions.Delete deletes) ≡ length deletes = length-map deletes (λ value. command_of actions.Delete (view value)) in
    omega arith

-- there are as many orders as documents
pub few_docs : (docs : List RawDoc) (orders : List Order) (limit : ℕ) → orders_of (added_docs docs) ≡ Ok (map content_of orders) → length docs ≤ limit → length orders ≤ limit
few_docs docs orders limit found small =
    let all = added_docs docs in
    let counted : length (map content_of orders) ≡ length all = subst (Counts (length all)) found (counts_orders all) in
    let orders_same : length (map content_of orders) ≡ length orders = length-map orders content_of in
    let docs_same : length all ≡ length docs = length-map docs (λ (doc : RawDoc). add doc.fields) in
    omega arith
