-- What the own entries of several are together, of what those of each are.
use Rattle.std.proofs.Common.{◌≡◌, ◌≢◌, ◌∙◌, ◌⊎◌, inl, inr, ◌≤◌, ◌<◌, ◌+◌, ℕ, zero, suc, Bool, true, false, cond, List, [], ◌∷◌, ◌++◌, length, map, Option, Some, None, slice_get, refl, sym, ap, subst, arith, length-append, append_assoc}
use Rattle.std.specs.Prelude.{filter, filter_map, ◌==◌}
use Rattle.std.specs.List.{AllByRecursion, AllZip, cons_option, flat_map, range_with_len, All}
use Rattle.std.specs.Str.{bytes_eq}
use Rattle.std.proofs.lemmas.Bool.Decides.{nat_tests}
use Rattle.std.proofs.lemmas.List.{length_push}
use Rattle.std.proofs.lemmas.List.Elements.{All-head, All-tail, filter-append}
use Rattle.std.proofs.lemmas.Option.{same_Some}
use mathlib.Core.List.{IsPrefix}
use Rattle.sc_record.specs.declared.entry.Entry.TheVariants as entry
use Rattle.sc_record.specs.Writes.{Write}
use Rattle.sc_router.specs.Route.{bucket_of}
use Rattle.sc_journal.specs.Journal.{write_at}
use Rattle.sc_journal.proofs.ListLemmas.{slice_get-append_end}
use Rattle.sc_seen.specs.Seen.{Layout, Seen, ComeInOrder, stops_at, made_at}
use Rattle.sc_seen.specs.Batches.{OrderAnswer, WritesOnce, ack_of, ack_made, order_stops}
use Rattle.sc_seen.specs.Commits.{CommitAnswer, CommitOutcome, committed_now, commit_full, commit_out_of_memory, IsCommitAnswer, IsCommitOutcome, commit_stops}
use Rattle.sc_seen.specs.declared.board.BoardEntry.{BoardEntry}
use Rattle.sc_seen.specs.declared.stop.Stop.{Stop}
use Rattle.sc_workload.specs.Laws.{on_document}
use Rattle.sc_demo.specs.Together.{IsWriteOfOrder, own_of_all, own_writes, all_own_writes, writes_on, own_notes}
use Rattle.sc_demo.proofs.MergeLemmas.{total, Ascends, all_weaker, count_of_all, one_of_all}
use Rattle.sc_demo.proofs.StopLemmas.{at_stop, made_found, made_ascend, sum_same, sum_eq, sum_none, sum_swap, length_flat, flat_one, flat_same, write_by, writes_of_stops}
use Rattle.sc_demo.proofs.AnswerLemmas.{MadeNone, HasWritten, none_found, on_id, filter_on_id, write_on, writes_by, contents_of, none_without_orders, none_in_others, each_in_its_bucket}

-- ---- lists
-- what is kept of lists that are joined end to end
filter_flat : {A : Type 0} (p : A → Bool) (h : ℕ → List A) (xs : List ℕ) → filter p (flat_map h xs) ≡ flat_map (λ x. filter p (h x)) xs
filter_flat p h [] = refl
filter_flat {A} p h (x ∷ xs) = filter-append p (h x) (flat_map h xs) ∙ ap (λ (ys : List A). filter p (h x) ++ ys) (filter_flat p h xs)

-- sums over equal terms
pub total_at : {A : Type 0} (f h : A → ℕ) (xs : List A) → ((i : ℕ) (x : A) → slice_get xs i ≡ Some x → f x ≡ h x) → total f xs ≡ total h xs
total_at f h [] same = refl
total_at f h (x ∷ xs) same =
    let first = same 0 x refl in
    let rest = total_at f h xs (λ i y at. same (suc i) y at) in
    omega (arith, first, rest)

pub total_map : {A B : Type 0} (f : B → ℕ) (h : A → B) (xs : List A) → total f (map h xs) ≡ total (λ x. f (h x)) xs
total_map f h [] = refl
total_map f h (x ∷ xs) = let rest = total_map f h xs in omega (arith, rest)

-- numbers in a row ascend
row_above : (low a n : ℕ) → low < a → AllByRecursion (λ z. low < z) (range_with_len a n)
row_above low a zero less = tt
row_above low a (suc n) less = (less, row_above low (a + 1) n (omega (arith, less)))

pub row_ascends : (a n : ℕ) → Ascends (range_with_len a n)
row_ascends a zero = tt
row_ascends a (suc n) = (row_above a (a + 1) n (omega arith), row_ascends (a + 1) n)

-- what stands in a row of places is found there
pub row_found : {A : Type 0} (before xs after : List A) → filter_map (slice_get (before ++ (xs ++ after))) (range_with_len (length before) (length xs)) ≡ xs
row_found before [] after = refl
row_found {A} before (x ∷ xs) after =
    let whole : (before ++ x ∷ []) ++ (xs ++ after) ≡ before ++ (x ∷ xs ++ after) = append_assoc before (x ∷ []) (xs ++ after) in
    let long : length (before ++ x ∷ []) ≡ length before + 1 = length_push before x in
    ap (λ o. cons_option o (filter_map (slice_get (before ++ (x ∷ xs ++ after))) (range_with_len (length before + 1) (length xs)))) (slice_get-append_end before x (xs ++ after))
    ∙ ap (λ (ys : List A). x ∷ ys)
    (subst (λ (n : ℕ). filter_map (slice_get (before ++ (x ∷ xs ++ after))) (range_with_len n (length xs)) ≡ xs) long
    (subst (λ (ys : List A). filter_map (slice_get ys) (range_with_len (length (before ++ x ∷ [])) (length xs)) ≡ xs) whole (row_found (before ++ x ∷ []) xs after)))

-- ---- how many writes
module _ (layout : Layout) (all : Seen) where
  -- how many writes are among the own entries of one
  abbrev pub writes_in : Seen → ℕ
  writes_in part = total (λ lock. length (filter_map (write_at (all.journals lock)) (part.own lock))) (range_with_len 0 layout.buckets)

  -- together they made as many as each of them
  pub all_counted : (parts : List Seen) → ((lock : ℕ) → all.own lock ≡ own_of_all parts lock)
      → length (all_own_writes layout all) ≡ total writes_in parts
  all_counted parts own =
      length_flat (own_writes all) (range_with_len 0 layout.buckets)
      ∙ sum_eq (λ lock. length (own_writes all lock)) (λ lock. total (λ (part : Seen). length (filter_map (write_at (all.journals lock)) (part.own lock))) parts)
      (range_with_len 0 layout.buckets)
      (λ lock. ap (λ (places : List ℕ). length (filter_map (write_at (all.journals lock)) places)) (own lock) ∙ count_of_all (write_at (all.journals lock)) parts lock)
      ∙ sum_swap (λ (part : Seen) (lock : ℕ). length (filter_map (write_at (all.journals lock)) (part.own lock))) parts (range_with_len 0 layout.buckets)

  -- a worker made as many as its orders were accepted
  pub worker_counted : (part : Seen) (answers : List OrderAnswer)
      → ((lock : ℕ) → lock < layout.buckets → part.own lock ≡ made_at lock (order_stops answers)) → WritesOnce layout all (order_stops answers) answers
      → writes_in part ≡ length (filter_map ack_of answers)
  worker_counted part answers own once =
      sum_same (λ lock. length (filter_map (write_at (all.journals lock)) (part.own lock))) (λ lock. length (filter_map (write_by layout all lock) (order_stops answers)))
      0 layout.buckets
      (λ lock from below. ap (λ (places : List ℕ). length (filter_map (write_at (all.journals lock)) places)) (own lock (omega (arith, below)))
      ∙ ap length (made_found (write_at (all.journals lock)) lock (order_stops answers)))
      ∙ writes_of_stops layout all (order_stops answers) ∙ ap length once

  -- ---- a split made none
  -- the stop is not one of a bucket, or made no write
  abbrev pub IsQuiet : Stop → Type 0
  IsQuiet stop = (stop.lock ≡ layout.buckets) ⊎ MadeNone all stop

  module _ (g : ℕ → ℕ → Option Write) (silent : (lock place : ℕ) → write_at (all.journals lock) place ≡ None → g lock place ≡ None) where
    pub quiet_none : (lock : ℕ) (stops : List Stop) → lock < layout.buckets → AllByRecursion IsQuiet stops → filter_map (at_stop (g lock) lock) stops ≡ []
    quiet_none lock [] within quiet = refl
    quiet_none lock (stop ∷ stops) within quiet =
        ap (λ o. cons_option o (filter_map (at_stop (g lock) lock) stops)) (by quiet.0) ∙ quiet_none lock stops within quiet.1 where
          by : IsQuiet stop → at_stop (g lock) lock stop ≡ None
          by (inl board) =
              let other : (stop.lock == lock) ≡ false = grind (arith, nat_tests) in
              ap (λ t. cond t (cond stop.made (g lock stop.place) None) None) other
          by (inr none) = none_found all g silent lock stop none

  pub split_counted : (part : Seen) (stops : List Stop) → ((lock : ℕ) → lock < layout.buckets → part.own lock ≡ made_at lock stops)
      → AllByRecursion IsQuiet stops → writes_in part ≡ 0
  split_counted part stops own quiet =
      sum_same (λ lock. length (filter_map (write_at (all.journals lock)) (part.own lock))) (λ lock. 0) 0 layout.buckets
      (λ lock from below. ap (λ (places : List ℕ). length (filter_map (write_at (all.journals lock)) places)) (own lock (omega (arith, below)))
      ∙ ap length (made_found (write_at (all.journals lock)) lock stops)
      ∙ ap length (quiet_none (λ l place. write_at (all.journals l) place) (λ l place none. none) lock stops (omega (arith, below)) quiet))
      ∙ sum_none (λ lock. 0) (range_with_len 0 layout.buckets) (λ lock. refl)

  -- the stops of commits made no write
  commit_quiet : (answer : CommitAnswer) → IsCommitAnswer layout all answer → MadeNone all answer.stop
  commit_quiet answer is = by answer.outcome is where
    by_made : (b : Bool) → b ≡ false → cond b (write_at (all.journals answer.stop.lock) answer.stop.place) None ≡ None
    by_made b none = ap (λ t. cond t (write_at (all.journals answer.stop.lock) answer.stop.place) None) none

    there : (b : Bool) → slice_get (all.journals answer.stop.lock) answer.stop.place ≡ Some entry.Committed
        → cond b (write_at (all.journals answer.stop.lock) answer.stop.place) None ≡ None
    there true found = simp found refl
    there false found = refl

    by : (outcome : CommitOutcome) → IsCommitOutcome layout all answer.stop outcome → MadeNone all answer.stop
    by committed_now so = there answer.stop.made so.1
    by commit_full so = by_made answer.stop.made so.0
    by commit_out_of_memory so = by_made answer.stop.made so

  pub commits_quiet : (answers : List CommitAnswer) → All (IsCommitAnswer layout all) answers → AllByRecursion IsQuiet (commit_stops answers)
  commits_quiet [] each = tt
  commits_quiet (answer ∷ answers) each = (
    inr (commit_quiet answer (All-head (IsCommitAnswer layout all) answer answers each)),
    commits_quiet answers (All-tail (IsCommitAnswer layout all) answer answers each),
  )

  -- ---- the writes on one document
  module _ (id : List ℕ) where
    silent_on : (lock place : ℕ) → write_at (all.journals lock) place ≡ None → write_on layout all id lock place ≡ None
    silent_on lock place none = ap (on_id id) none

    -- a worker without orders on it made none
    pub worker_apart : (part : Seen) (answers : List OrderAnswer)
        → ((lock : ℕ) → lock < layout.buckets → part.own lock ≡ made_at lock (order_stops answers)) → AllByRecursion (HasWritten layout all) answers
        → on_document id (contents_of answers) ≡ [] → (lock : ℕ) → lock < layout.buckets → filter_map (write_on layout all id lock) (part.own lock) ≡ []
    worker_apart part answers own each none lock within =
        ap (filter_map (write_on layout all id lock)) (own lock within) ∙ made_found (write_on layout all id lock) lock (order_stops answers)
        ∙ none_without_orders layout all id lock answers each none

    -- nor did a split
    pub split_apart : (part : Seen) (stops : List Stop) → ((lock : ℕ) → lock < layout.buckets → part.own lock ≡ made_at lock stops)
        → AllByRecursion IsQuiet stops → (lock : ℕ) → lock < layout.buckets → filter_map (write_on layout all id lock) (part.own lock) ≡ []
    split_apart part stops own quiet lock within =
        ap (filter_map (write_on layout all id lock)) (own lock within) ∙ made_found (write_on layout all id lock) lock stops
        ∙ quiet_none (write_on layout all id) silent_on lock stops within quiet

    -- so together they made those of the one that has its orders
    pub written_by_one : (parts : List Seen) → ((lock : ℕ) → all.own lock ≡ own_of_all parts lock) → (k : ℕ) (owner : Seen) (answers : List OrderAnswer)
        → slice_get parts k ≡ Some owner → ((lock : ℕ) → lock < layout.buckets → owner.own lock ≡ made_at lock (order_stops answers))
        → ((lock : ℕ) → (from : ℕ) × ComeInOrder from (stops_at lock (order_stops answers))) → AllByRecursion (HasWritten layout all) answers
        → ((i : ℕ) (part : Seen) → i ≢ k → slice_get parts i ≡ Some part → (lock : ℕ) → lock < layout.buckets
        → filter_map (write_on layout all id lock) (part.own lock) ≡ [])
        → bucket_of id layout.buckets < layout.buckets
        → AllZip IsWriteOfOrder (writes_on id (all_own_writes layout all)) (on_document id (contents_of answers))
    written_by_one parts own k owner answers at owner_own order each none within =
        let its = bucket_of id layout.buckets in
        let stops = order_stops answers in
        let at_lock : (lock : ℕ) → lock < layout.buckets → writes_on id (own_writes all lock) ≡ writes_by layout all id lock stops =
        λ lock inside.
        filter_on_id id (write_at (all.journals lock)) (all.own lock)
        ∙ ap (filter_map (write_on layout all id lock)) (own lock)
        ∙ one_of_all (write_on layout all id lock) parts lock k owner at
        (subst Ascends (sym (owner_own lock inside)) (made_ascend lock (order lock).0 stops (order lock).1))
        (λ i part different there. none i part different there lock inside)
        ∙ ap (filter_map (write_on layout all id lock)) (owner_own lock inside) ∙ made_found (write_on layout all id lock) lock stops in
        let whole : writes_on id (all_own_writes layout all) ≡ writes_by layout all id its stops =
        filter_flat (λ (write : Write). bytes_eq write.id id) (own_writes all) (range_with_len 0 layout.buckets)
        ∙ flat_same (λ lock. writes_on id (own_writes all lock)) (λ lock. writes_by layout all id lock stops) 0 layout.buckets
        (λ lock from below. at_lock lock (omega (arith, below)))
        ∙ flat_one (λ lock. writes_by layout all id lock stops) its 0 layout.buckets (omega arith) (omega (arith, within))
        (λ lock different. none_in_others layout all id lock answers different each) in
        subst (λ (writes : List Write). AllZip IsWriteOfOrder writes (on_document id (contents_of answers))) (sym whole)
        (each_in_its_bucket layout all id its answers refl each)

  -- ---- the board
  -- together they noted what the one noted that notes anything there
  pub noted_by_one : (parts : List Seen) → ((lock : ℕ) → all.own lock ≡ own_of_all parts lock) → (k : ℕ) (one : Seen) (before noted : List BoardEntry)
      → slice_get parts k ≡ Some one → one.own layout.buckets ≡ range_with_len (length before) (length noted) → IsPrefix (before ++ noted) all.board
      → ((i : ℕ) (part : Seen) → i ≢ k → slice_get parts i ≡ Some part → part.own layout.buckets ≡ [])
      → own_notes layout all ≡ noted
  noted_by_one parts own k one before noted at row begins none =
      ap (filter_map (slice_get all.board)) (own layout.buckets)
      ∙ one_of_all (slice_get all.board) parts layout.buckets k one at (subst Ascends (sym row) (row_ascends (length before) (length noted)))
      (λ i part different there. ap (filter_map (slice_get all.board)) (none i part different there))
      ∙ ap (filter_map (slice_get all.board)) row
      ∙ ap (λ (board : List BoardEntry). filter_map (slice_get board) (range_with_len (length before) (length noted)))
      (sym begins.1 ∙ append_assoc before noted begins.0)
      ∙ row_found before noted begins.0
