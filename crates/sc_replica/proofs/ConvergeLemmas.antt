-- Cores that were given the same writes have the same cells.
use Rattle.std.proofs.Common.{◌≡◌, ◌↔◌, ℕ, zero, suc, ◌<◌, List, [], ◌∷◌, length, get_or, Bool, true, false, Option, Some, None, map, cond, refl, sym, ap, ◌∙◌, arith, ◌≤ℤ◌}
use Rattle.std.specs.List.{Contains, filter}
use Rattle.std.specs.List.Sorted.{IsStrictlySortedBy}
use Rattle.std.specs.declared.cmp.Ordering.{Ordering}
use Rattle.std.specs.declared.cmp.Ordering.TheVariants.{Less, Equal, Greater}
use Rattle.std.proofs.lemmas.Int.{ints}
use Rattle.std.proofs.lemmas.List.Elements.{All-contains, All-filter, All-contains_itself, filter_passes}
use Rattle.sc_record.specs.Writes.{Write, is_of, write_of, AscendById}
use Rattle.sc_ulog.specs.declared.mode.Mode.TheVariants.{Active}
use Rattle.sc_replica.specs.Core.{Core}
use Rattle.sc_replica.specs.Deliveries.{Delivery, carried, after_delivery, after_deliveries, IsGreatest}
use Rattle.sc_replica.specs.Laws.{AreOrdered}
use Rattle.sc_replica.proofs.IdLemmas.{order, order-back, same-id, id-itself, one-id}
use Rattle.sc_replica.proofs.CellLemmas.{ids, below-below}
use Rattle.sc_replica.proofs.PlaceLemmas.{write_of-below}
use Rattle.sc_replica.proofs.CoreLemmas.{applied-ascends}
use Rattle.sc_replica.proofs.GreatestLemmas.{delivered-applied, mode-delivered, keeps-greatest}

-- a member of what passes a test is a member of all, and passes
from-filter : (p : Write → Bool) (xs : List Write) (x : Write) → Contains (filter p xs) x → Contains xs x
from-filter p xs x h = All-contains (Contains xs) (filter p xs) x (All-filter p (Contains xs) xs (All-contains_itself xs)) h

-- it passes
passes-filter : (p : Write → Bool) (xs : List Write) (x : Write) → Contains (filter p xs) x → p x ≡ true
passes-filter p xs x h = All-contains (λ (y : Write). p y ≡ true) (filter p xs) x (filter_passes p xs) h

-- a member of a list is one of a longer list
Contains-cons : (y : Write) (xs : List Write) (x : Write) → Contains xs x → Contains (y ∷ xs) x
Contains-cons y xs x h = (suc h.0, omega (arith, h.1), h.2)

-- a member that passes is among those that do
into-filter : (p : Write → Bool) (xs : List Write) (x : Write) (k : ℕ) → k < length xs → get_or xs k x ≡ x
    → p x ≡ true → Contains (filter p xs) x
into-filter p [] x k within at h = absurd (omega arith)
into-filter p (y ∷ xs) x zero within at h =
    let first : p y ≡ true = ap p at ∙ h in
    rw first (zero, omega arith, at)
into-filter p (y ∷ xs) x (suc k) within at h =
    let rest = into-filter p xs x k (omega arith) at h in
    elim (p y) as (λ b. Contains (cond b (y ∷ filter p xs) (filter p xs)) x) [ true ↦ Contains-cons y (filter p xs) x rest | false ↦ rest ]

-- the greatest of the same writes is one write, where no two of them have one version
same-greatest : (xs ys : List Write) (one other : Option Write) → IsGreatest xs one → IsGreatest ys other
    → ((w : Write) → Contains xs w → Contains ys w) → ((w : Write) → Contains ys w → Contains xs w)
    → ((a b : Write) → Contains xs a → Contains xs b → a.version ≡ b.version → a ≡ b) → one ≡ other
same-greatest xs ys None None g h to from unique = refl
same-greatest xs ys None (Some b) g h to from unique = absurd (none (rw g at (from b h.0)))
  where
    none : Contains [] b → ⊥
    none c = omega (arith, c.1)
same-greatest xs ys (Some a) None g h to from unique = absurd (none (rw h at (to a g.0)))
  where
    none : Contains [] a → ⊥
    none c = omega (arith, c.1)
same-greatest xs ys (Some a) (Some b) g h to from unique =
    let up : a.version ≤ℤ b.version = All-contains (λ (w : Write). w.version ≤ℤ b.version) ys a h.1 (to a g.0) in
    let down : b.version ≤ℤ a.version = All-contains (λ (w : Write). w.version ≤ℤ a.version) xs b g.1 (from b h.0) in
    ap Some (unique a b g.0 (from b h.0) (omega (arith, ints)))

-- in cells in order, the id of the first has no other cell
alone : (cell : Write) (cells : List Write) → AscendById (cell ∷ cells) → write_of cells cell.id ≡ None
unfolding IsStrictlySortedBy
alone cell cells a = write_of-below cells cell.id a.0

-- an id below the first has no cell
lower-none : (cell : Write) (cells : List Write) (id : List ℕ) → AscendById (cell ∷ cells) → order id cell.id ≡ Less
    → write_of (cell ∷ cells) id ≡ None
unfolding IsStrictlySortedBy
lower-none cell cells id a h = write_of-below (cell ∷ cells) id (h, below-below id cell.id (ids cells) h a.0)

-- the first cell is its id's
first-cell : (cell : Write) (cells : List Write) → write_of (cell ∷ cells) cell.id ≡ Some cell
first-cell cell cells = rw (id-itself cell.id) refl

-- cells in order with the same cell for each id begin alike
same-first : (x y : Write) (xs ys : List Write) (o : Ordering) → order x.id y.id ≡ o → AscendById (x ∷ xs)
    → AscendById (y ∷ ys)
    → ((id : List ℕ) → write_of (x ∷ xs) id ≡ write_of (y ∷ ys) id) → x ≡ y
same-first x y xs ys Less h a b same =
    let e : Some x ≡ None = sym (first-cell x xs) ∙ same x.id ∙ lower-none y ys x.id b h in cc
same-first x y xs ys Equal h a b same =
    let e : Some x ≡ Some y = sym (first-cell x xs) ∙ same x.id ∙ ap (write_of (y ∷ ys)) (same-id x.id y.id h) ∙ first-cell y ys in cc
same-first x y xs ys Greater h a b same =
    let e : Some y ≡ None = sym (first-cell y ys) ∙ sym (same y.id) ∙ lower-none x xs y.id a (order-back x.id y.id Greater h) in cc

-- and go on alike
same-rest : (x y : Write) (xs ys : List Write) → x ≡ y → AscendById (x ∷ xs) → AscendById (y ∷ ys)
    → ((id : List ℕ) → write_of (x ∷ xs) id ≡ write_of (y ∷ ys) id) → (id : List ℕ) → write_of xs id ≡ write_of ys id
same-rest x y xs ys e a b same id = by_test (is_of id x) refl
  where
    by_test : (d : Bool) → is_of id x ≡ d → write_of xs id ≡ write_of ys id
    by_test true h =
        let here : x.id ≡ id = one-id x.id id h in
        let there : y.id ≡ id = ap (λ (w : Write). w.id) (sym e) ∙ here in
        ap (write_of xs) (sym here) ∙ alone x xs a ∙ sym (alone y ys b) ∙ ap (write_of ys) there
    by_test false h =
        let other : is_of id y ≡ false = ap (is_of id) (sym e) ∙ h in
        let left : write_of (x ∷ xs) id ≡ write_of xs id = rw h refl in
        let right : write_of (y ∷ ys) id ≡ write_of ys id = rw other refl in
        sym left ∙ same id ∙ right

-- so they are the same cells
pub same-cells : (xs ys : List Write) → AscendById xs → AscendById ys
    → ((id : List ℕ) → write_of xs id ≡ write_of ys id) → xs ≡ ys
unfolding IsStrictlySortedBy
same-cells [] [] a b same = refl
same-cells [] (y ∷ ys) a b same = let e : None ≡ Some y = same y.id ∙ first-cell y ys in cc
same-cells (x ∷ xs) [] a b same = let e : Some x ≡ None = sym (first-cell x xs) ∙ same x.id in cc
same-cells (x ∷ xs) (y ∷ ys) a b same =
    let first : x ≡ y = same-first x y xs ys (order x.id y.id) refl a b same in
    let rest : xs ≡ ys = same-cells xs ys a.1 b.1 (same-rest x y xs ys first a b same) in
    cc

-- whatever is delivered to an active core, its cells stay in order
delivered-ascends : (core : Core) (deliveries : List Delivery) → core.mode ≡ Active → AscendById core.cells
    → AscendById (after_deliveries core deliveries).cells
delivered-ascends core [] active a = a
delivered-ascends core (delivery ∷ deliveries) active a =
    let cells = ap (λ (c : Core). c.cells) (delivered-applied core delivery active) in
    delivered-ascends (after_delivery core delivery) deliveries (mode-delivered core delivery active) (rw cells (applied-ascends core.cells (carried delivery) a))

-- no cells are in order
none-ascends : (cells : List Write) → cells ≡ [] → AscendById cells
unfolding IsStrictlySortedBy
none-ascends cells none = rw none tt

-- the cell of an id of a core that had none is the greatest of the writes of it that came
from-nothing : (core : Core) (deliveries : List Delivery) (id : List ℕ) → core.mode ≡ Active → core.cells ≡ []
    → IsGreatest (filter (is_of id) (map carried deliveries)) (write_of (after_deliveries core deliveries).cells id)
from-nothing core deliveries id active none =
    let no_cell : write_of core.cells id ≡ None = ap (λ (cells : List Write). write_of cells id) none in
    rw no_cell at (keeps-greatest core deliveries id active)

-- two active cores without cells that are given the same writes come to the same cells
pub converge : (one other : Core) (ones others : List Delivery)
    → one.mode ≡ Active → one.cells ≡ [] → other.mode ≡ Active → other.cells ≡ []
    → ((write : Write) → Contains (map carried ones) write ↔ Contains (map carried others) write)
    → AreOrdered (map carried ones)
    → (after_deliveries one ones).cells ≡ (after_deliveries other others).cells
converge one other ones others one_active one_none other_active other_none same ordered =
    same-cells (after_deliveries one ones).cells (after_deliveries other others).cells
    (delivered-ascends one ones one_active (none-ascends one.cells one_none))
    (delivered-ascends other others other_active (none-ascends other.cells other_none))
    (λ id. same-greatest (filter (is_of id) (map carried ones)) (filter (is_of id) (map carried others)) _ _
    (from-nothing one ones id one_active one_none) (from-nothing other others id other_active other_none)
    (λ w h. moved id (map carried ones) (map carried others) w h (λ c. (same w).0 c))
    (λ w h. moved id (map carried others) (map carried ones) w h (λ c. (same w).1 c))
    (λ a b ha hb version. ordered a b (from-filter (is_of id) (map carried ones) a ha) (from-filter (is_of id) (map carried ones) b hb)
    (one-id a.id id (passes-filter (is_of id) (map carried ones) a ha) ∙ sym (one-id b.id id (passes-filter (is_of id) (map carried ones) b hb))) version))
  where
    moved : (id : List ℕ) (xs ys : List Write) (w : Write) → Contains (filter (is_of id) xs) w
        → (Contains xs w → Contains ys w) → Contains (filter (is_of id) ys) w
    moved id xs ys w h to =
        let there = to (from-filter (is_of id) xs w h) in
        into-filter (is_of id) ys w there.0 there.1 there.2 (passes-filter (is_of id) xs w h)
