-- What is found at the places of stops, by lock and over all locks.
use Rattle.std.proofs.Common.{◌≡◌, ◌≢◌, ◌∙◌, ◌⊎◌, inl, inr, ◌≤◌, ◌<◌, ◌+◌, ℕ, zero, suc, Bool, true, false, true≢false, cond, eqb, ltb, ◌&&◌, List, [], ◌∷◌, ◌++◌, length, map, Option, Some, None, refl, sym, ap, subst, arith, length-append}
use Rattle.std.specs.Prelude.{filter, filter_map, ◌==◌, option_map}
use Rattle.std.specs.List.{AllByRecursion, cons_option, range_with_len, flat_map}
use Rattle.std.proofs.lemmas.Bool.{cases_eq, cases_lt}
use Rattle.std.proofs.lemmas.Bool.Decides.{nat_tests}
use Rattle.std.proofs.lemmas.List.{append-nil}
use Rattle.sc_record.specs.Writes.{Write}
use Rattle.sc_record.specs.declared.ack.Ack.{Ack}
use Rattle.sc_journal.specs.Journal.{write_at}
use Rattle.sc_seen.specs.Seen.{Layout, Seen, ComeInOrder, place_after, stops_at, made_at}
use Rattle.sc_seen.specs.Batches.{ack_made, ack_written}
use Rattle.sc_seen.specs.declared.stop.Stop.{Stop}
use Rattle.sc_demo.proofs.MergeLemmas.{ones, length_cons, total, all_weaker, Ascends}

-- ---- the places of stops ascend
in_order : (stops : List Stop) (from : ℕ) → ComeInOrder from stops
    → AllByRecursion (λ p. from ≤ p) (map (λ (stop : Stop). stop.place) (filter (λ (stop : Stop). stop.made) stops))
    × Ascends (map (λ (stop : Stop). stop.place) (filter (λ (stop : Stop). stop.made) stops))
in_order [] from order = (tt, tt)
in_order (stop ∷ stops) from order = by stop.made order.1 (in_order stops) where
  by : (b : Bool) → ComeInOrder (cond b (stop.place + 1) stop.place) stops
      → ((start : ℕ) → ComeInOrder start stops → AllByRecursion (λ p. start ≤ p) (map (λ (one : Stop). one.place) (filter (λ (one : Stop). one.made) stops))
      × Ascends (map (λ (one : Stop). one.place) (filter (λ (one : Stop). one.made) stops)))
      → AllByRecursion (λ p. from ≤ p) (map (λ (one : Stop). one.place) (cond b (stop ∷ filter (λ (one : Stop). one.made) stops) (filter (λ (one : Stop). one.made) stops)))
      × Ascends (map (λ (one : Stop). one.place) (cond b (stop ∷ filter (λ (one : Stop). one.made) stops) (filter (λ (one : Stop). one.made) stops)))
  by true rest later =
      let more = later (stop.place + 1) rest in
      let places = map (λ (one : Stop). one.place) (filter (λ (one : Stop). one.made) stops) in (
        (order.0, all_weaker (λ p. stop.place + 1 ≤ p) (λ p. from ≤ p) (λ p less. omega (arith, less, order.0)) places more.0),
        (all_weaker (λ p. stop.place + 1 ≤ p) (λ p. stop.place < p) (λ p less. omega (arith, less)) places more.0, more.1),
      )
  by false rest later =
      let more = later stop.place rest in
      let places = map (λ (one : Stop). one.place) (filter (λ (one : Stop). one.made) stops) in
      (all_weaker (λ p. stop.place ≤ p) (λ p. from ≤ p) (λ p less. omega (arith, less, order.0)) places more.0, more.1)

pub made_ascend : (lock from : ℕ) (stops : List Stop) → ComeInOrder from (stops_at lock stops) → Ascends (made_at lock stops)
made_ascend lock from stops order = (in_order (stops_at lock stops) from order).1

-- ---- what is found at them
module _ {B : Type 0} (g : ℕ → Option B) (lock : ℕ) where
  -- what is found where a stop made an entry of the lock
  abbrev pub at_stop : Stop → Option B
  at_stop stop = cond (stop.lock == lock) (cond stop.made (g stop.place) None) None

  pub made_found : (stops : List Stop) → filter_map g (made_at lock stops) ≡ filter_map at_stop stops
  made_found [] = refl
  made_found (stop ∷ stops) = by (stop.lock == lock) (made_found stops) where
    make : (b : Bool) → filter_map g (made_at lock stops) ≡ filter_map at_stop stops
        → filter_map g (map (λ (one : Stop). one.place) (cond b (stop ∷ filter (λ (one : Stop). one.made) (stops_at lock stops)) (filter (λ (one : Stop). one.made) (stops_at lock stops))))
        ≡ cons_option (cond b (g stop.place) None) (filter_map at_stop stops)
    make true rest = ap (cons_option (g stop.place)) rest
    make false rest = rest

    by : (b : Bool) → filter_map g (made_at lock stops) ≡ filter_map at_stop stops
        → filter_map g (map (λ (one : Stop). one.place) (filter (λ (one : Stop). one.made) (cond b (stop ∷ stops_at lock stops) (stops_at lock stops))))
        ≡ cons_option (cond b (cond stop.made (g stop.place) None) None) (filter_map at_stop stops)
    by true rest = make stop.made rest
    by false rest = rest

-- ---- sums
pub sum_same : (f h : ℕ → ℕ) (a n : ℕ) → ((l : ℕ) → a ≤ l → l < a + n → f l ≡ h l) → total f (range_with_len a n) ≡ total h (range_with_len a n)
sum_same f h a zero same = refl
sum_same f h a (suc n) same =
    let first = same a (omega arith) (omega arith) in
    let rest = sum_same f h (a + 1) n (λ l from below. same l (omega (arith, from)) (omega (arith, below))) in
    omega (arith, first, rest)

pub sum_add : {A : Type 0} (f h : A → ℕ) (xs : List A) → total (λ x. f x + h x) xs ≡ total f xs + total h xs
sum_add f h [] = refl
sum_add f h (x ∷ xs) = let rest = sum_add f h xs in omega (arith, rest)

pub sum_none : {A : Type 0} (f : A → ℕ) (xs : List A) → ((x : A) → f x ≡ 0) → total f xs ≡ 0
sum_none f [] none = refl
sum_none f (x ∷ xs) none = let first = none x in let rest = sum_none f xs none in omega (arith, first, rest)

pub sum_eq : {A : Type 0} (f h : A → ℕ) (xs : List A) → ((x : A) → f x ≡ h x) → total f xs ≡ total h xs
sum_eq f h [] same = refl
sum_eq f h (x ∷ xs) same = let first = same x in let rest = sum_eq f h xs same in omega (arith, first, rest)

-- the order of two sums doesn't matter
pub sum_swap : {A D : Type 0} (f : A → D → ℕ) (xs : List A) (ys : List D)
    → total (λ y. total (λ x. f x y) xs) ys ≡ total (λ x. total (λ y. f x y) ys) xs
sum_swap f [] ys = sum_none (λ y. 0) ys (λ y. refl)
sum_swap f (x ∷ xs) ys =
    let both = sum_add (λ y. f x y) (λ y. total (λ z. f z y) xs) ys in
    let rest = sum_swap f xs ys in
    omega (arith, both, rest)

-- as many as all give together
pub length_flat : {B : Type 0} (h : ℕ → List B) (xs : List ℕ) → length (flat_map h xs) ≡ total (λ x. length (h x)) xs
length_flat h [] = refl
length_flat h (x ∷ xs) = let both = length-append (h x) (flat_map h xs) in let rest = length_flat h xs in omega (arith, both, rest)

is_here : (b : ℕ) → (b == b) ≡ true
is_here b = grind (arith, nat_tests)

is_elsewhere : (a b : ℕ) → a ≢ b → (a == b) ≡ false
is_elsewhere a b different = grind (arith, nat_tests)

sum_past : (b c a n : ℕ) → b < a ⊎ a + n ≤ b → total (λ l. cond (b == l) c 0) (range_with_len a n) ≡ 0
sum_past b c a zero past = refl
sum_past b c a (suc n) past =
    let different : b ≢ a = λ same. by same past in
    let first : cond (b == a) c 0 ≡ 0 = ap (λ t. cond t c 0) (is_elsewhere b a different) in
    let rest = sum_past b c (a + 1) n (later past) in
    omega (arith, first, rest) where
      by : b ≡ a → b < a ⊎ a + suc n ≤ b → ⊥
      by same (inl before) = omega (arith, same, before)
      by same (inr after) = omega (arith, same, after)

      later : b < a ⊎ a + suc n ≤ b → b < a + 1 ⊎ (a + 1) + n ≤ b
      later (inl before) = inl (omega (arith, before))
      later (inr after) = inr (omega (arith, after))

sum_one : (b c a n : ℕ) → a ≤ b → b < a + n → total (λ l. cond (b == l) c 0) (range_with_len a n) ≡ c
sum_one b c a zero from below = absurd (omega (arith, from, below))
sum_one b c a (suc n) from below = by (cases_eq b a) (sum_one b c (a + 1) n) where
  by : (b ≡ a) ⊎ (b ≢ a) → (a + 1 ≤ b → b < (a + 1) + n → total (λ l. cond (b == l) c 0) (range_with_len (a + 1) n) ≡ c)
      → total (λ l. cond (b == l) c 0) (range_with_len a (suc n)) ≡ c
  by (inl same) later =
      let first : cond (b == a) c 0 ≡ c = ap (λ x. cond (b == x) c 0) (sym same) ∙ ap (λ t. cond t c 0) (is_here b) in
      let rest = sum_past b c (a + 1) n (inl (omega (arith, same))) in
      omega (arith, first, rest)
  by (inr different) later =
      let first : cond (b == a) c 0 ≡ 0 = ap (λ t. cond t c 0) (is_elsewhere b a different) in
      let rest = later (omega (arith, from, different)) (omega (arith, below)) in
      omega (arith, first, rest)

flat_past : {B : Type 0} (h : ℕ → List B) (b c m : ℕ) → b < c → ((l : ℕ) → l ≢ b → h l ≡ []) → flat_map h (range_with_len c m) ≡ []
flat_past h b c zero less none = refl
flat_past {B} h b c (suc m) less none =
    ap (λ (xs : List B). xs ++ flat_map h (range_with_len (c + 1) m)) (none c (λ same. omega (arith, same, less)))
    ∙ flat_past h b (c + 1) m (omega (arith, less)) none

-- a list at one number alone is what all give together
pub flat_one : {B : Type 0} (h : ℕ → List B) (b a n : ℕ) → a ≤ b → b < a + n → ((l : ℕ) → l ≢ b → h l ≡ []) → flat_map h (range_with_len a n) ≡ h b
flat_one h b a zero from below none = absurd (omega (arith, from, below))
flat_one {B} h b a (suc n) from below none = by (cases_eq b a) (λ start less. flat_one h b (a + 1) n start less none) where
  by : (b ≡ a) ⊎ (b ≢ a) → (a + 1 ≤ b → b < (a + 1) + n → flat_map h (range_with_len (a + 1) n) ≡ h b) → flat_map h (range_with_len a (suc n)) ≡ h b
  by (inl same) later =
      ap (λ (xs : List B). h a ++ xs) (flat_past h b (a + 1) n (omega (arith, same)) none) ∙ append-nil (h a) ∙ ap h (sym same)
  by (inr different) later =
      ap (λ (xs : List B). xs ++ flat_map h (range_with_len (a + 1) n)) (none a (λ same. different (sym same)))
      ∙ later (omega (arith, from, different)) (omega (arith, below))

pub flat_none : {B : Type 0} (h : ℕ → List B) (xs : List ℕ) → ((l : ℕ) → h l ≡ []) → flat_map h xs ≡ []
flat_none h [] none = refl
flat_none {B} h (x ∷ xs) none = ap (λ (ys : List B). ys ++ flat_map h xs) (none x) ∙ flat_none h xs none

pub flat_same : {B : Type 0} (f h : ℕ → List B) (a n : ℕ) → ((l : ℕ) → a ≤ l → l < a + n → f l ≡ h l) → flat_map f (range_with_len a n) ≡ flat_map h (range_with_len a n)
flat_same f h a zero same = refl
flat_same {B} f h a (suc n) same =
    ap (λ (xs : List B). xs ++ flat_map f (range_with_len (a + 1) n)) (same a (omega arith) (omega arith))
    ∙ ap (λ (xs : List B). h a ++ xs) (flat_same f h (a + 1) n (λ l from below. same l (omega (arith, from)) (omega (arith, below))))

-- ---- the writes that stops made
ones_map : {A B : Type 0} (f : A → B) (o : Option A) → ones (option_map f o) ≡ ones o
ones_map f None = refl
ones_map f (Some x) = refl

module _ (layout : Layout) (seen : Seen) where
  -- the write that a stop made at a lock
  abbrev pub write_by : ℕ → Stop → Option Write
  write_by lock stop = at_stop (write_at (seen.journals lock)) lock stop

  module _ (stop : Stop) where
    here : ℕ
    here = ones (cond stop.made (write_at (seen.journals stop.lock) stop.place) None)

    by_lock : (lock : ℕ) → ones (write_by lock stop) ≡ cond (stop.lock == lock) here 0
    unfolding here
    by_lock lock = by (cases_eq stop.lock lock) where
      by : (stop.lock ≡ lock) ⊎ (stop.lock ≢ lock) → ones (write_by lock stop) ≡ cond (stop.lock == lock) here 0
      by (inl same) =
          ap (λ t. ones (cond t (cond stop.made (write_at (seen.journals lock) stop.place) None) None)) (ap (λ l. stop.lock == l) (sym same) ∙ is_here stop.lock)
          ∙ ap (λ l. ones (cond stop.made (write_at (seen.journals l) stop.place) None)) (sym same)
          ∙ ap (λ t. cond t here 0) (sym (ap (λ l. stop.lock == l) (sym same) ∙ is_here stop.lock))
      by (inr different) =
          ap (λ t. ones (cond t (cond stop.made (write_at (seen.journals lock) stop.place) None) None)) (is_elsewhere stop.lock lock different)
          ∙ ap (λ t. cond t here 0) (sym (is_elsewhere stop.lock lock different))

    all_locks : total (λ lock. ones (write_by lock stop)) (range_with_len 0 layout.buckets) ≡ ones (ack_made layout seen stop)
    unfolding here
    all_locks = sum_eq (λ lock. ones (write_by lock stop)) (λ lock. cond (stop.lock == lock) here 0) (range_with_len 0 layout.buckets) by_lock ∙ by (cases_lt stop.lock layout.buckets) where
      acks : (made : Bool) (o : Option Write) → ones (cond made o None) ≡ ones (cond (made && true) (option_map ack_written o) None)
      acks true o = sym (ones_map ack_written o)
      acks false o = refl

      no_acks : (made : Bool) (o : Option Ack) → 0 ≡ ones (cond (made && false) o None)
      no_acks true o = refl
      no_acks false o = refl

      by : (stop.lock < layout.buckets) ⊎ (layout.buckets ≤ stop.lock)
          → total (λ lock. cond (stop.lock == lock) here 0) (range_with_len 0 layout.buckets) ≡ ones (ack_made layout seen stop)
      by (inl within) =
          let less : ltb stop.lock layout.buckets ≡ true = grind (arith, nat_tests) in
          sum_one stop.lock here 0 layout.buckets (omega arith) (omega (arith, within))
          ∙ acks stop.made (write_at (seen.journals stop.lock) stop.place)
          ∙ ap (λ t. ones (cond (stop.made && t) (option_map ack_written (write_at (seen.journals stop.lock) stop.place)) None)) (sym less)
      by (inr past) =
          let more : ltb stop.lock layout.buckets ≡ false = grind (arith, nat_tests) in
          sum_past stop.lock here 0 layout.buckets (inr (omega (arith, past)))
          ∙ no_acks stop.made (option_map ack_written (write_at (seen.journals stop.lock) stop.place))
          ∙ ap (λ t. ones (cond (stop.made && t) (option_map ack_written (write_at (seen.journals stop.lock) stop.place)) None)) (sym more)

  -- over all buckets there are as many as there are acknowledgements of them
  pub writes_of_stops : (stops : List Stop)
      → total (λ lock. length (filter_map (write_by lock) stops)) (range_with_len 0 layout.buckets) ≡ length (filter_map (ack_made layout seen) stops)
  writes_of_stops [] = sum_none (λ lock. 0) (range_with_len 0 layout.buckets) (λ lock. refl)
  writes_of_stops (stop ∷ stops) =
      let locks = range_with_len 0 layout.buckets in
      let each = sum_eq (λ lock. length (filter_map (write_by lock) (stop ∷ stops))) (λ lock. ones (write_by lock stop) + length (filter_map (write_by lock) stops)) locks
      (λ lock. length_cons (write_by lock stop) (filter_map (write_by lock) stops)) in
      let both = sum_add (λ lock. ones (write_by lock stop)) (λ lock. length (filter_map (write_by lock) stops)) locks in
      let first = all_locks stop in
      let rest = writes_of_stops stops in
      let ack = length_cons (ack_made layout seen stop) (filter_map (ack_made layout seen) stops) in
      omega (arith, each, both, first, rest, ack)
