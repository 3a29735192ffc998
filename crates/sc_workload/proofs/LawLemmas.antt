-- All orders on one document are one worker's.
use Rattle.std.proofs.Common.{◌≡◌, ◌≢◌, ◌⊎◌, inl, inr, ◌∙◌, ℕ, ◌+◌, ◌*◌, ◌%◌, ◌<◌, ◌≤◌, ◌^◌, Bool, true, false, cond, List, [], ◌∷◌, map, refl, sym, ap, arith, true≢false}
use Rattle.std.specs.List.{filter}
use Rattle.std.specs.Str.{bytes_eq}
use Rattle.std.proofs.Math.Nat.{mod-lt}
use Rattle.std.proofs.lemmas.Bool.{eq-eqb, ne_eqb}
use Rattle.std.proofs.lemmas.Fmt.{decimal_injective}
use Rattle.std.proofs.lemmas.Slice.Eq.{bytes_eq-Decides}
use Rattle.sc_schema.specs.Documents.{OrderContent}
use Rattle.sc_workload.specs.Workload.{Workload, all_orders, documents, is_made_by, number_at, order_at, worker_orders, order_places, workload_id}
use Rattle.sc_workload.specs.Laws.{LiesWithOne, LieWithOneWorker, on_document}

-- a test of what a function gives
filter-map : {X Y : Type 0} (p : Y → Bool) (f : X → Y) (xs : List X) → filter p (map f xs) ≡ map f (filter (λ x. p (f x)) xs)
filter-map p f [] = refl
filter-map {X} {Y} p f (x ∷ xs) = by (p (f x)) (filter-map p f xs) where
  by : (b : Bool) → filter p (map f xs) ≡ map f (filter (λ y. p (f y)) xs) → cond b (f x ∷ filter p (map f xs)) (filter p (map f xs))
      ≡ map f (cond b (x ∷ filter (λ y. p (f y)) xs) (filter (λ y. p (f y)) xs))
  by true rest = ap (λ more. f x ∷ more) rest
  by false rest = rest

-- what passes one test passes the other as well
filter_implied : {X : Type 0} (p q : X → Bool) → ((x : X) → p x ≡ true → q x ≡ true) → (xs : List X) → filter p (filter q xs) ≡ filter p xs
filter_implied p q implies [] = refl
filter_implied {X} p q implies (x ∷ xs) = by (q x) (p x) refl refl (filter_implied p q implies xs) where
  by : (b d : Bool) → q x ≡ b → p x ≡ d → filter p (filter q xs) ≡ filter p xs
      → filter p (cond b (x ∷ filter q xs) (filter q xs)) ≡ cond d (x ∷ filter p xs) (filter p xs)
  by true true passes is rest = ap (λ (d : Bool). cond d (x ∷ filter p (filter q xs)) (filter p (filter q xs))) is ∙ ap (λ more. x ∷ more) rest
  by true false passes is rest = ap (λ (d : Bool). cond d (x ∷ filter p (filter q xs)) (filter p (filter q xs))) is ∙ rest
  by false true fails is rest = absurd (true≢false (sym (implies x is) ∙ fails))
  by false false fails is rest = rest

-- nothing passes both tests
filter_apart : {X : Type 0} (p q : X → Bool) → ((x : X) → p x ≡ true → q x ≡ false) → (xs : List X) → filter p (filter q xs) ≡ []
filter_apart p q apart [] = refl
filter_apart {X} p q apart (x ∷ xs) = by (q x) (p x) refl refl (filter_apart p q apart xs) where
  by : (b d : Bool) → q x ≡ b → p x ≡ d → filter p (filter q xs) ≡ [] → filter p (cond b (x ∷ filter q xs) (filter q xs)) ≡ []
  by true true passes is rest = absurd (true≢false (sym passes ∙ apart x is))
  by true false passes is rest = ap (λ (d : Bool). cond d (x ∷ filter p (filter q xs)) (filter p (filter q xs))) is ∙ rest
  by false d fails is rest = rest

-- nothing passes the test, or something does
abbrev IsFound : {X : Type 0} → (X → Bool) → List X → Type 0
IsFound {X} p xs = (filter p xs ≡ []) ⊎ ((x : X) × (p x ≡ true))

found : {X : Type 0} (p : X → Bool) (xs : List X) → IsFound p xs
found p [] = inl refl
found {X} p (x ∷ xs) = by (p x) refl (found p xs) where
  by : (b : Bool) → p x ≡ b → IsFound p xs → (cond b (x ∷ filter p xs) (filter p xs) ≡ []) ⊎ ((y : X) × (p y ≡ true))
  by true is rest = inr (x, is)
  by false is rest = rest

-- where nothing passes the test, nothing does of what passes another
none_left : {X : Type 0} (p q : X → Bool) (xs : List X) → filter p xs ≡ [] → filter p (filter q xs) ≡ []
none_left p q [] none = refl
none_left {X} p q (x ∷ xs) none = by (q x) (p x) refl none (none_left p q xs) where
  by : (b d : Bool) → p x ≡ d → cond d (x ∷ filter p xs) (filter p xs) ≡ [] → (filter p xs ≡ [] → filter p (filter q xs) ≡ [])
      → filter p (cond b (x ∷ filter q xs) (filter q xs)) ≡ []
  by b true is some rest = absurd (cc)
  by true false is none rest = ap (λ (d : Bool). cond d (x ∷ filter p (filter q xs)) (filter p (filter q xs))) is ∙ rest none
  by false false is none rest = rest none

-- a text without its first byte
abbrev after_first : List ℕ → List ℕ
after_first [] = []
after_first (byte ∷ text) = text

-- documents of one id have one number
same_number : (m n : ℕ) → m < 2 ^ 64 → n < 2 ^ 64 → workload_id m ≡ workload_id n → m ≡ n
same_number m n below other is = decimal_injective m n below other (ap after_first is)

-- the order at a place is on the document of the id
abbrev is_on : Workload → List ℕ → ℕ → Bool
is_on workload id place = bytes_eq (workload_id (number_at workload place)) id

on-orders : (workload : Workload) (id : List ℕ) (worker workers : ℕ)
    → on_document id (worker_orders workload worker workers)
    ≡ map (order_at workload) (filter (is_on workload id) (filter (is_made_by workload worker workers) (order_places workload)))
on-orders workload id worker workers =
    filter-map (λ (order : OrderContent). bytes_eq order.id id) (order_at workload) (filter (is_made_by workload worker workers) (order_places workload))

on-all : (workload : Workload) (id : List ℕ)
    → on_document id (all_orders workload) ≡ map (order_at workload) (filter (is_on workload id) (order_places workload))
on-all workload id = filter-map (λ (order : OrderContent). bytes_eq order.id id) (order_at workload) (order_places workload)

some_documents : (workload : Workload) → 1 ≤ workload.count → 0 < documents workload
some_documents workload some = omega arith

few_documents : (workload : Workload) → workload.count < 2 ^ 32 → documents workload < 2 ^ 64
few_documents workload few = omega arith

number_fits : (workload : Workload) (place : ℕ) → 1 ≤ workload.count → workload.count < 2 ^ 32 → number_at workload place < 2 ^ 64
number_fits workload place some few =
    let below : number_at workload place < documents workload = mod-lt (workload.seed + 7 * place) (some_documents workload some) in
    let bound : documents workload < 2 ^ 64 = few_documents workload few in
    omega arith

module _ (workload : Workload) (some : 1 ≤ workload.count) (few : workload.count < 2 ^ 32) (workers : ℕ) (one : 1 ≤ workers) (id : List ℕ) where
  -- no order is on the document
  none_is : filter (is_on workload id) (order_places workload) ≡ [] → LiesWithOne workload workers id
  none_is none = record {
    worker = 0;
    is_one = one;
    all = on-orders workload id 0 workers
        ∙ ap (map (order_at workload)) (none_left (is_on workload id) (is_made_by workload 0 workers) (order_places workload) none)
        ∙ ap (map (order_at workload)) (sym none) ∙ sym (on-all workload id);
    others = λ other ne. on-orders workload id other workers
        ∙ ap (map (order_at workload)) (none_left (is_on workload id) (is_made_by workload other workers) (order_places workload) none);
  }

  -- the order at this place is on it
  one_is : (place : ℕ) → is_on workload id place ≡ true → LiesWithOne workload workers id
  one_is place is = record {
    worker = worker;
    is_one = mod-lt (number_at workload place) one;
    all = on-orders workload id worker workers
        ∙ ap (map (order_at workload)) (filter_implied (is_on workload id) (is_made_by workload worker workers) made (order_places workload))
        ∙ sym (on-all workload id);
    others = λ other ne. on-orders workload id other workers
        ∙ ap (map (order_at workload)) (filter_apart (is_on workload id) (is_made_by workload other workers) (not_made other ne) (order_places workload));
  } where
    worker : ℕ
    worker = number_at workload place % workers

    same : (another : ℕ) → is_on workload id another ≡ true → number_at workload another ≡ number_at workload place
    same another on =
        same_number (number_at workload another) (number_at workload place) (number_fits workload another some few) (number_fits workload place some few)
        ((bytes_eq-Decides (workload_id (number_at workload another)) id).0 on ∙ sym ((bytes_eq-Decides (workload_id (number_at workload place)) id).0 is))

    made : (another : ℕ) → is_on workload id another ≡ true → is_made_by workload worker workers another ≡ true
    made another on = eq-eqb (number_at workload another % workers) worker (ap (λ number. number % workers) (same another on))

    not_made : (other : ℕ) → other ≢ worker → (another : ℕ) → is_on workload id another ≡ true → is_made_by workload other workers another ≡ false
    not_made other ne another on =
        ne_eqb (number_at workload another % workers) other (λ e. ne (sym e ∙ ap (λ number. number % workers) (same another on)))

  lies : LiesWithOne workload workers id
  lies = by (found (is_on workload id) (order_places workload)) where
    by : IsFound (is_on workload id) (order_places workload) → LiesWithOne workload workers id
    by (inl none) = none_is none
    by (inr (place, is)) = one_is place is

pub lie_with_one : LieWithOneWorker
lie_with_one workload some few workers one id = lies workload some few workers one id
