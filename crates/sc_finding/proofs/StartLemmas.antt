-- The first documents of what the searchers find, and the fronts that they are taken from.
use Rattle.std.proofs.Common.{◌≡◌, ℕ, zero, suc, ◌+◌, ◌<◌, ◌≤◌, true, false, true≢false, List, [], ◌∷◌, ◌++◌, length, map, take, drop, get_or, set, slice_get, option_to_list, Option, refl, sym, ap, subst, ◌∙◌, ⊎_elim, arith, append_assoc, All}
use Rattle.std.specs.List.{AllByRecursion}
use Rattle.std.proofs.lemmas.Bool.{cases_Bool, cases_lt, cases_eq}
use Rattle.std.proofs.lemmas.List.{drop_more, get_or-drop, get_or-map, get_or-take, length-drop, length-map, length-take-le, map-append, map_more}
use Rattle.std.proofs.lemmas.List.Elements.{recursion_from_All}
use Rattle.sc_record.specs.Writes.{Write}
use Rattle.sc_finding.specs.Lists.{AreFound, IsStartOf, all_of}
use Rattle.sc_replicas.specs.Searchers.{searcher_rows}
use Rattle.sc_finding.specs.Merging.{AscendsBy, gathered, goes_before}
use Rattle.sc_finding.specs.Hits.{BeginAlike, FrontAscends, IsLeast, front_rows, hit_rows, lead_rows, leads_of, rows_numbered}
use Rattle.sc_finding.specs.declared.hits.Front.{Front}
use Rattle.sc_finding.specs.declared.hits.Hits.{Hits}
use Rattle.sc_finding.specs.declared.hits.Lead.{Lead}
use Rattle.sc_snapshot.specs.Rows.{lent}
use Rattle.sc_finding.proofs.GatherLemmas.{StartsAfter, gathered-alike, gathered-ascends, gathered-first, gathered-moves, gathered-none}
use Rattle.sc_finding.proofs.MergeLemmas.{all-weaker}
use Rattle.sc_finding.proofs.OrderLemmas.{by_id-order, ascends-by_id, in_order}

-- what was taken, and what is left of the lists after it, is all that they have in order
pub starts : (most : ℕ) (wholes lists : List (List Write)) (kept rest : List Write) → All AreFound wholes → BeginAlike most wholes lists
    → kept ++ rest ≡ gathered goes_before lists → take most kept ≡ take most (kept ++ rest) → IsStartOf (all_of wholes) most kept
starts most wholes lists kept rest found alike same enough = record {
  sorted = gathered goes_before wholes;
  order = in_order (all_of wholes) (gathered goes_before wholes) (gathered-moves goes_before wholes)
      (gathered-ascends goes_before by_id-order wholes
      (recursion_from_All (AscendsBy goes_before) wholes (λ k d within. ascends-by_id (get_or wholes k d) (found k d within).ascend)));
  start = enough ∙ ap (take most) same ∙ gathered-alike goes_before most lists wholes alike;
}

-- the leads that stand for the first hits, whatever lists come after them
module _ (leads now : List Lead) (all : List Hits) (k : ℕ) (d : Hits) (within : k < length all)
    (same : (rest : List (List Write)) → gathered goes_before (map lead_rows leads ++ rest) ≡ gathered goes_before (map hit_rows (take k all) ++ rest)) where
  next-hits : (rest : List (List Write)) → gathered goes_before (map hit_rows (take k all) ++ (hit_rows (get_or all k d) ∷ rest))
      ≡ gathered goes_before (map hit_rows (take (k + 1) all) ++ rest)
  next-hits rest =
      sym (ap (λ (ls : List (List Write)). gathered goes_before (ls ++ rest)) (map_more hit_rows all k d within)
      ∙ ap (gathered goes_before) (append_assoc (map hit_rows (take k all)) (hit_rows (get_or all k d) ∷ []) rest))

  -- one lead more
  pub leads-more : (lead : Lead) → now ≡ leads ++ lead ∷ [] → lead_rows lead ≡ hit_rows (get_or all k d) → (rest : List (List Write))
      → gathered goes_before (map lead_rows now ++ rest) ≡ gathered goes_before (map hit_rows (take (k + 1) all) ++ rest)
  leads-more lead is rows rest =
      ap (λ (fs : List Lead). gathered goes_before (map lead_rows fs ++ rest)) is
      ∙ ap (λ (ls : List (List Write)). gathered goes_before (ls ++ rest)) (map-append lead_rows leads (lead ∷ []))
      ∙ ap (gathered goes_before) (append_assoc (map lead_rows leads) (lead_rows lead ∷ []) rest)
      ∙ same (lead_rows lead ∷ rest)
      ∙ ap (λ (l : List Write). gathered goes_before (map hit_rows (take k all) ++ (l ∷ rest))) rows
      ∙ next-hits rest

  -- the hits have no rows
  pub leads-same : now ≡ leads → [] ≡ hit_rows (get_or all k d) → (rest : List (List Write))
      → gathered goes_before (map lead_rows now ++ rest) ≡ gathered goes_before (map hit_rows (take (k + 1) all) ++ rest)
  leads-same is none rest =
      ap (λ (fs : List Lead). gathered goes_before (map lead_rows fs ++ rest)) is
      ∙ same rest
      ∙ sym (gathered-none goes_before (map hit_rows (take k all)) rest)
      ∙ ap (λ (l : List Write). gathered goes_before (map hit_rows (take k all) ++ (l ∷ rest))) none
      ∙ next-hits rest

-- the row at a number, if there is one, and then those at the numbers after it
pub rows-next : (rows : List Write) (numbers : List ℕ) (k d : ℕ) (read : Option Write) → k < length numbers
    → read ≡ slice_get rows (get_or numbers k d) → rows_numbered rows (drop k numbers) ≡ option_to_list read ++ rows_numbered rows (drop (k + 1) numbers)
rows-next rows numbers k d read within reads =
    ap (rows_numbered rows) (drop_more numbers k d within)
    ∙ ap (λ (o : Option Write). option_to_list o ++ rows_numbered rows (drop (k + 1) numbers)) (sym reads)

-- ---- the least of some writes
-- what another write goes before is no sooner
no-sooner : (x y z : Write) → goes_before y z ≡ true → goes_before x z ≡ false → goes_before x y ≡ false
no-sooner x y z goes sooner =
    ⊎_elim
    (λ (h : goes_before x y ≡ true). absurd (true≢false (sym (by_id-order.chain x y z h goes) ∙ sooner)))
    (λ (h : goes_before x y ≡ false). h)
    (cases_Bool (goes_before x y))

module _ (writes : List Write) (count least : ℕ) (is : IsLeast writes count least) (within : least < count) where
  -- the next write is less
  pub first-next : ((d : Write) → goes_before (get_or writes least d) (get_or writes count d) ≡ false) → IsLeast writes (count + 1) count
  first-next less = record {
    sooner = λ i d before.
        let back : goes_before (get_or writes count d) (get_or writes least d) ≡ true =
        by_id-order.either (get_or writes least d) (get_or writes count d) (less d) in
        ⊎_elim
        (λ (h : i < least). no-sooner (get_or writes i d) (get_or writes count d) (get_or writes least d) back (is.sooner i d h))
        (λ (h : least ≤ i).
        ⊎_elim
        (λ (same : i ≡ least). ap (λ (n : ℕ). goes_before (get_or writes n d) (get_or writes count d)) same ∙ less d)
        (λ (other : (i ≡ least) → ⊥).
        ⊎_elim
        (λ (goes : goes_before (get_or writes i d) (get_or writes count d) ≡ true).
        absurd (true≢false (sym (by_id-order.chain (get_or writes least d) (get_or writes i d) (get_or writes count d)
        (is.later i d (omega (arith, h, other)) before) goes) ∙ less d)))
        (λ (none : goes_before (get_or writes i d) (get_or writes count d) ≡ false). none)
        (cases_Bool (goes_before (get_or writes i d) (get_or writes count d))))
        (cases_eq i least))
        (cases_lt i least);
    later = λ i d after before. absurd (omega (arith, after, before));
  }

  -- it is not
  pub first-stays : ((d : Write) → goes_before (get_or writes least d) (get_or writes count d) ≡ true) → IsLeast writes (count + 1) least
  first-stays goes = record {
    sooner = is.sooner;
    later = λ i d after before.
        ⊎_elim
        (λ (h : i < count). is.later i d after h)
        (λ (h : count ≤ i).
        let same : i ≡ count = omega (arith, h, before) in
        ap (λ (n : ℕ). goes_before (get_or writes least d) (get_or writes n d)) same ∙ goes d)
        (cases_lt i count);
  }

-- ---- fronts
pub set-parts : {X : Type 0} (xs : List X) (i : ℕ) (y : X) → i < length xs → set xs i y ≡ take i xs ++ y ∷ drop (i + 1) xs
set-parts [] i y within = absurd (omega (arith, within))
set-parts (x ∷ xs) zero y within = refl
set-parts {X = X} (x ∷ xs) (suc i) y within =
    let on : suc i + 1 ≡ suc (i + 1) = omega arith in
    ap (λ (l : List X). x ∷ l) (set-parts xs i y (omega (arith, within))) ∙ sym (ap (λ (n : ℕ). x ∷ (take i xs ++ y ∷ drop n (x ∷ xs))) on)

parts : {X : Type 0} (xs : List X) (i : ℕ) (x : X) → i < length xs → x ≡ get_or xs i x → xs ≡ take i xs ++ x ∷ drop (i + 1) xs
parts [] i x within is = absurd (omega (arith, within))
parts {X = X} (y ∷ ys) zero x within is = ap (λ (z : X). z ∷ ys) (sym is)
parts {X = X} (y ∷ ys) (suc i) x within is =
    let on : suc i + 1 ≡ suc (i + 1) = omega arith in
    ap (λ (l : List X). y ∷ l) (parts ys i x (omega (arith, within)) is) ∙ sym (ap (λ (n : ℕ). y ∷ (take i ys ++ x ∷ drop n (y ∷ ys))) on)

abbrev pub lead : Front → Write
lead front = lent front.lead

-- the fronts without their least row
module _ (fronts : List Front) (at : ℕ) (front : Front) (within : at < length fronts) (is : front ≡ get_or fronts at front)
    (ascend : All FrontAscends fronts) (least : IsLeast (leads_of fronts) (length fronts) at) where
  abbrev pub rest : List Write
  rest = rows_numbered (searcher_rows front.searcher.now) front.rest.now

  here : lead front ≡ get_or (leads_of fronts) at (lead front)
  here = ap lead is ∙ sym (get_or-map lead fronts at front (lead front) within)

  after : AllByRecursion (StartsAfter goes_before (lead front)) (map front_rows (take at fronts))
  after =
      recursion_from_All (StartsAfter goes_before (lead front)) (map front_rows (take at fronts))
      (λ k d inside.
      let long = length-take-le at fronts (omega (arith, within)) in
      let few : k < at = omega (arith, inside, long, length-map (take at fronts) front_rows) in
      let one : get_or (take at fronts) k front ≡ get_or fronts k front = get_or-take at fronts k front few in
      let mapped : get_or (map front_rows (take at fronts)) k d ≡ front_rows (get_or fronts k front) =
      get_or-map front_rows (take at fronts) k front d (omega (arith, few, long)) ∙ ap front_rows one in
      let there : get_or (leads_of fronts) k (lead front) ≡ lead (get_or fronts k front) =
      get_or-map lead fronts k front (lead front) (omega (arith, few, within)) in
      subst (StartsAfter goes_before (lead front)) (sym mapped)
      (ap (λ (w : Write). goes_before w (lead front)) (sym there)
      ∙ ap (goes_before (get_or (leads_of fronts) k (lead front))) here
      ∙ least.sooner k (lead front) few))

  before : AllByRecursion (AllByRecursion (λ (w : Write). goes_before (lead front) w ≡ true)) (map front_rows (drop (at + 1) fronts))
  before =
      recursion_from_All (AllByRecursion (λ (w : Write). goes_before (lead front) w ≡ true)) (map front_rows (drop (at + 1) fronts))
      (λ k d inside.
      let long = length-drop (at + 1) fronts in
      let many : at + 1 + k < length fronts = omega (arith, inside, long, length-map (drop (at + 1) fronts) front_rows) in
      let other : Front = get_or fronts (at + 1 + k) front in
      let mapped : get_or (map front_rows (drop (at + 1) fronts)) k d ≡ front_rows other =
      get_or-map front_rows (drop (at + 1) fronts) k front d (omega (arith, many, long)) ∙ ap front_rows (get_or-drop (at + 1) fronts k front) in
      let there : get_or (leads_of fronts) (at + 1 + k) (lead front) ≡ lead other =
      get_or-map lead fronts (at + 1 + k) front (lead front) many in
      let goes : goes_before (lead front) (lead other) ≡ true =
      ap (λ (w : Write). goes_before w (lead other)) here
      ∙ ap (goes_before (get_or (leads_of fronts) at (lead front))) (sym there)
      ∙ least.later (at + 1 + k) (lead front) (omega arith) many in
      let up : FrontAscends other = ascend (at + 1 + k) front many in
      subst (AllByRecursion (λ (w : Write). goes_before (lead front) w ≡ true)) (sym mapped) (
        goes,
        all-weaker (λ (w : Write). goes_before (lead other) w ≡ true) (λ (w : Write). goes_before (lead front) w ≡ true)
            (λ w. by_id-order.chain (lead front) (lead other) w goes) (rows_numbered (searcher_rows other.searcher.now) other.rest.now) up.0,
      ))

  first : gathered goes_before (map front_rows fronts) ≡ lead front ∷ gathered goes_before (map front_rows (take at fronts) ++ (rest ∷ map front_rows (drop (at + 1) fronts)))
  first =
      ap (λ (fs : List Front). gathered goes_before (map front_rows fs)) (parts fronts at front within is)
      ∙ ap (gathered goes_before) (map-append front_rows (take at fronts) (front ∷ drop (at + 1) fronts))
      ∙ gathered-first goes_before (lead front) rest (map front_rows (take at fronts)) (map front_rows (drop (at + 1) fronts)) after before

  -- the front goes on with its other rows
  pub taken-next : (next : Front) → front_rows next ≡ rest
      → gathered goes_before (map front_rows fronts) ≡ lead front ∷ gathered goes_before (map front_rows (set fronts at next))
  taken-next next goes_on =
      first
      ∙ ap (λ (l : List Write). lead front ∷ gathered goes_before (map front_rows (take at fronts) ++ (l ∷ map front_rows (drop (at + 1) fronts)))) (sym goes_on)
      ∙ sym (ap (λ (fs : List Front). lead front ∷ gathered goes_before (map front_rows fs)) (set-parts fronts at next within)
      ∙ ap (λ (ls : List (List Write)). lead front ∷ gathered goes_before ls) (map-append front_rows (take at fronts) (next ∷ drop (at + 1) fronts)))

  -- it has no others
  pub taken-last : [] ≡ rest
      → gathered goes_before (map front_rows fronts) ≡ lead front ∷ gathered goes_before (map front_rows (take at fronts ++ drop (at + 1) fronts))
  taken-last none =
      first
      ∙ ap (λ (l : List Write). lead front ∷ gathered goes_before (map front_rows (take at fronts) ++ (l ∷ map front_rows (drop (at + 1) fronts)))) (sym none)
      ∙ ap (λ (l : List Write). lead front ∷ l) (gathered-none goes_before (map front_rows (take at fronts)) (map front_rows (drop (at + 1) fronts)))
      ∙ sym (ap (λ (ls : List (List Write)). lead front ∷ gathered goes_before ls) (map-append front_rows (take at fronts) (drop (at + 1) fronts)))

  -- its other rows ascend
  pub rest-ascends : AscendsBy goes_before rest
  rest-ascends =
      let up : FrontAscends (get_or fronts at front) = ascend at front within in
      (subst FrontAscends (sym is) up).1
