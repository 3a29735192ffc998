-- The places of a workload's orders, one more at a time, and the numbers that stand there.
use Rattle.std.proofs.Common.{◌≡◌, ◌∙◌, ℕ, ◌+◌, ◌*◌, ◌%◌, Bool, true, false, cond, List, [], ◌∷◌, ◌++◌, map, refl, sym, ap, arith}
use Rattle.std.specs.Prelude.{pos}
use Rattle.std.specs.List.{filter, range_with_len}
use Rattle.std.proofs.Math.Nat.{mod-add-mod}
use Rattle.std.proofs.lemmas.List.{append-nil, map-append}
use Rattle.std.proofs.lemmas.List.Elements.{filter-append}
use Rattle.std.proofs.lemmas.List.FromFn.{map-range_with_len_more}
use Rattle.sc_schema.specs.Documents.{OrderContent}
use Rattle.sc_workload.specs.Workload.{Workload, change_at, documents, is_made_by, number_at, order_at, workload_id}

map_same : (xs : List ℕ) → map (λ x. x) xs ≡ xs
map_same [] = refl
map_same (x ∷ xs) = ap (λ rest. x ∷ rest) (map_same xs)

-- the numbers up to this one
pub range_more : (place : ℕ) → range_with_len 0 (place + 1) ≡ range_with_len 0 place ++ place ∷ []
range_more place =
    sym (map_same (range_with_len 0 (place + 1))) ∙ map-range_with_len_more (λ x. x) 0 place place (omega arith)
    ∙ ap (λ before. before ++ place ∷ []) (map_same (range_with_len 0 place))

-- of the orders at the first places, those that the worker makes
abbrev pub made_before : Workload → (worker workers place : ℕ) → List OrderContent
made_before workload worker workers place = map (order_at workload) (filter (is_made_by workload worker workers) (range_with_len 0 place))

one_more : (workload : Workload) (worker workers place : ℕ)
    → made_before workload worker workers (place + 1)
    ≡ made_before workload worker workers place ++ map (order_at workload) (filter (is_made_by workload worker workers) (place ∷ []))
one_more workload worker workers place =
    ap (λ places. map (order_at workload) (filter (is_made_by workload worker workers) places)) (range_more place)
    ∙ ap (map (order_at workload)) (filter-append (is_made_by workload worker workers) (range_with_len 0 place) (place ∷ []))
    ∙ map-append (order_at workload) (filter (is_made_by workload worker workers) (range_with_len 0 place))
    (filter (is_made_by workload worker workers) (place ∷ []))

-- the worker makes the order at the next place
pub made_more : (workload : Workload) (worker workers place : ℕ) → is_made_by workload worker workers place ≡ true
    → made_before workload worker workers (place + 1) ≡ made_before workload worker workers place ++ order_at workload place ∷ []
made_more workload worker workers place is =
    one_more workload worker workers place
    ∙ ap (λ (b : Bool). made_before workload worker workers place ++ map (order_at workload) (cond b (place ∷ []) [])) is

-- another worker makes it
pub made_by_other : (workload : Workload) (worker workers place : ℕ) → is_made_by workload worker workers place ≡ false
    → made_before workload worker workers (place + 1) ≡ made_before workload worker workers place
made_by_other workload worker workers place is =
    one_more workload worker workers place
    ∙ ap (λ (b : Bool). made_before workload worker workers place ++ map (order_at workload) (cond b (place ∷ []) [])) is
    ∙ append-nil (made_before workload worker workers place)

-- a place's number, by what the seed leaves
pub number_is : (workload : Workload) (place first number : ℕ) → first ≡ workload.seed % documents workload
    → number ≡ (first + 7 * place) % documents workload → number ≡ number_at workload place
number_is workload place first number first_is is =
    is ∙ ap (λ n. (n + 7 * place) % documents workload) first_is ∙ mod-add-mod workload.seed (documents workload) (7 * place)

-- the order of a place that is on the document of a number
abbrev pub content_at : (number place : ℕ) → OrderContent
content_at number place = record { id = workload_id number; condition = pos 0; change = change_at place }

-- the order of a place, by the number of its document
pub order_is : (workload : Workload) (place number : ℕ) → number ≡ number_at workload place → content_at number place ≡ order_at workload place
order_is workload place number same = ap (λ (n : ℕ). content_at n place) same
