-- What a report says of what all makers made together, of what each of them made.
use Rattle.std.proofs.Common.{◌≡◌, ◌≢◌, ◌∙◌, ◌⊎◌, inl, inr, ◌≤◌, ◌<◌, ◌+◌, ◌-◌, ◌^◌, ℕ, zero, suc, Bool, true, false, true≢false, cond, List, [], ◌∷◌, length, map, codes, Option, Some, None, slice_get, refl, sym, ap, subst, arith}
use Rattle.std.specs.Prelude.{filter_map, nat_lt, ◌↔◌}
use Rattle.std.specs.List.{AllZip, list_any}
use Rattle.std.proofs.lemmas.Bool.{cases_eq, cases_lt}
use Rattle.std.proofs.lemmas.Bool.Decides.{nat_tests}
use Rattle.std.proofs.lemmas.Nat.{and_le_r}
use Rattle.std.proofs.lemmas.Option.{same_Some, slice_get_within, slice_get-map}
use Rattle.sc_router.specs.Route.{bucket_of}
use Rattle.sc_schema.specs.Documents.{OrderContent}
use Rattle.sc_seen.specs.Seen.{Layout, Seen, SeesMore}
use Rattle.sc_seen.specs.Batches.{OrderAnswer}
use Rattle.sc_split.specs.declared.end.SplitEnd.{SplitEnd}
use Rattle.sc_workload.specs.Workload.{all_orders, worker_orders}
use Rattle.sc_workload.specs.Laws.{on_document}
use Rattle.sc_workload.proofs.LawLemmas.{lie_with_one}
use Rattle.sc_arguments.specs.declared.asked.Demo.{Demo}
use Rattle.sc_arguments.specs.Arguments.{IsDemo}
use Rattle.sc_server.specs.Serving.{Front}
use Rattle.sc_server.proofs.MatchLemmas.{some_at}
use Rattle.sc_demo.specs.declared.made.Written.{Written}
use Rattle.sc_demo.specs.declared.task.Task.TheVariants as tasks
use Rattle.sc_demo.specs.declared.task.Made.{Made}
use Rattle.sc_demo.specs.declared.task.Made.TheVariants as makes
use Rattle.sc_demo.specs.Writing.{CameNearLimit}
use Rattle.sc_demo.specs.Lines.{Report, split_word}
use Rattle.sc_demo.specs.Making.{MakerReports, MakesTask, accepted_by, has_run_out, making, task_at}
use Rattle.sc_demo.specs.Together.{OrdersAreWritten, IsWriteOfOrder, OwnsDone, all_own_writes, is_done_entry, own_notes, own_of_all, workload_of, writes_on}
use Rattle.sc_demo.specs.Demos.{MakerRun, RunsDemo, SaysOf}
use Rattle.sc_demo.proofs.NumberLemmas.{numbers}
use Rattle.sc_demo.proofs.MergeLemmas.{total}
use Rattle.sc_demo.proofs.AnswerLemmas.{contents_of, write_on}
use Rattle.sc_demo.proofs.TogetherLemmas.{all_counted, noted_by_one, split_apart, split_counted, total_at, total_map, worker_apart, worker_counted, writes_in, written_by_one}
use Rattle.sc_demo.proofs.PartLemmas.{AddsAll, AddsNotes, AddsWrites, adds_all, adds_notes, adds_writes, is_done_end, word_done}

-- what stands at a place of mapped values is that of what stands there
mapped : {A B : Type 0} (f : A → B) (xs : List A) (i : ℕ) (y : B) → slice_get (map f xs) i ≡ Some y → (x : A) × (slice_get xs i ≡ Some x) × (f x ≡ y)
mapped f [] i y at = absurd (cc)
mapped f (x ∷ xs) zero y at = (x, refl, same_Some (f x) y at)
mapped f (x ∷ xs) (suc i) y at = mapped f xs i y at

mapped_at : {A B : Type 0} (f : A → B) (xs : List A) (i : ℕ) (x : A) → slice_get xs i ≡ Some x → slice_get (map f xs) i ≡ Some (f x)
mapped_at f [] i x at = absurd (cc)
mapped_at f (z ∷ xs) zero x at = ap (λ y. Some (f y)) (same_Some z x at)
mapped_at f (z ∷ xs) (suc i) x at = mapped_at f xs i x at

-- what holds of each or else something is so: it holds of each, or that is so
each_or : {A : Type 0} (P : ℕ → A → Type 0) (Q : Type 0) (xs : List A) → ((i : ℕ) (x : A) → slice_get xs i ≡ Some x → P i x ⊎ Q)
    → ((i : ℕ) (x : A) → slice_get xs i ≡ Some x → P i x) ⊎ Q
each_or P Q [] each = inl (λ i x at. absurd (cc))
each_or {A} P Q (x ∷ xs) each = by (each 0 x refl) (each_or (λ (i : ℕ). P (suc i)) Q xs (λ i y at. each (suc i) y at)) where
  both : P 0 x → ((i : ℕ) (y : A) → slice_get xs i ≡ Some y → P (suc i) y) → (i : ℕ) (y : A) → slice_get (x ∷ xs) i ≡ Some y → P i y
  both first rest zero y at = subst (P 0) (same_Some x y at) first
  both first rest (suc i) y at = rest i y at

  by : P 0 x ⊎ Q → ((i : ℕ) (y : A) → slice_get xs i ≡ Some y → P (suc i) y) ⊎ Q → ((i : ℕ) (y : A) → slice_get (x ∷ xs) i ≡ Some y → P i y) ⊎ Q
  by (inl first) (inl rest) = inl (both first rest)
  by (inl first) (inr so) = inr so
  by (inr so) rest = inr so

module _ {C H P L : Type 0} (reports : MakerReports C H P) (demo : Demo) (before after : Front C H P L) (is_demo : IsDemo demo) (layout : Layout)
    (runs : List (MakerRun C H P L)) (all : Seen) (are : RunsDemo (record { reports = reports; layout = layout }) demo before after runs all) where
  parts : List Seen
  parts = map (λ (run : MakerRun C H P L). run.after) runs

  own : (lock : ℕ) → all.own lock ≡ own_of_all parts lock
  unfolding parts
  own lock = are.own lock

  -- what a worker added, and what the one that splits did
  record IsWriting (number : ℕ) (run : MakerRun C H P L) : Type 0 where
    written : Written
    did : run.did ≡ makes.Orders written
    answers : List OrderAnswer
    adds : AddsWrites layout all run.after written answers
    how : AddsAll layout all (worker_orders (workload_of demo) number demo.workers) answers ⊎ CameNearLimit layout all

  record IsSplitting (run : MakerRun C H P L) : Type 0 where
    end : SplitEnd
    did : run.did ≡ makes.Split end
    adds : AddsNotes layout all run.after end

  module _ (number : ℕ) (run : MakerRun C H P L) (at : slice_get runs number ≡ Some run) where
    more : SeesMore run.after all
    more = are.story.beginnings number run.after (mapped_at (λ (one : MakerRun C H P L). one.after) runs number run at)

    writing_run : number < demo.workers → IsWriting number run
    writing_run less = by run.did refl made where
      test : nat_lt number demo.workers ≡ true
      test = grind (arith, nat_tests)

      made : MakesTask (record { reports = reports; layout = layout }) demo (tasks.Write number) (making run.before run.began) (making run.after run.back) run.did
      made =
          subst (λ (b : Bool). MakesTask (record { reports = reports; layout = layout }) demo (cond b (tasks.Write number) tasks.Split) (making run.before run.began) (making run.after run.back) run.did) test
          (are.each number run at).made

      by : (did : Made) → run.did ≡ did → MakesTask (record { reports = reports; layout = layout }) demo (tasks.Write number) (making run.before run.began) (making run.after run.back) did
          → IsWriting number run
      by (makes.Orders written) same is = record {
        written = written;
        did = same;
        answers = is.orders.answers;
        adds = adds_writes reports.gives layout run.before run.after all run.began.clock run.back.clock (workload_of demo) number demo.workers written is.orders
            (are.each number run at).new more;
        how = adds_all reports.gives layout run.before run.after all run.began.clock run.back.clock (workload_of demo) number demo.workers written is.orders
            (are.each number run at).new more (sym (ap has_run_out same) ∙ (are.each number run at).memory);
      }
      by (makes.Split end) same is = absurd is

    splitting_run : demo.workers ≤ number → IsSplitting run
    splitting_run least = by run.did refl made where
      test : nat_lt number demo.workers ≡ false
      test = grind (arith, nat_tests)

      made : MakesTask (record { reports = reports; layout = layout }) demo tasks.Split (making run.before run.began) (making run.after run.back) run.did
      made =
          subst (λ (b : Bool). MakesTask (record { reports = reports; layout = layout }) demo (cond b (tasks.Write number) tasks.Split) (making run.before run.began) (making run.after run.back) run.did) test
          (are.each number run at).made

      by : (did : Made) → run.did ≡ did → MakesTask (record { reports = reports; layout = layout }) demo tasks.Split (making run.before run.began) (making run.after run.back) did → IsSplitting run
      by (makes.Orders written) same is = absurd is
      by (makes.Split end) same is = record {
        end = end;
        did = same;
        adds = adds_notes layout run.before run.after all (reports.outside run.began.hosts run.began.pace) (reports.outside run.back.hosts run.back.pace) end is.split
            (are.each number run at).new more;
      }

    -- how many writes are among its own entries
    one_counted : writes_in layout all run.after ≡ accepted_by run.did
    one_counted = by (cases_lt number demo.workers) where
      by : (number < demo.workers) ⊎ (demo.workers ≤ number) → writes_in layout all run.after ≡ accepted_by run.did
      by (inl less) =
          let is = writing_run less in
          worker_counted layout all run.after is.answers is.adds.own is.adds.once ∙ sym is.adds.count ∙ sym (ap accepted_by is.did)
      by (inr least) =
          let is = splitting_run least in
          split_counted layout all run.after is.adds.stops is.adds.own is.adds.quiet ∙ sym (ap accepted_by is.did)

  -- together they made as many writes as orders were accepted
  pub counted : length (all_own_writes layout all) ≡ total (λ (run : MakerRun C H P L). accepted_by run.did) runs
  unfolding parts
  counted =
      all_counted layout all parts own ∙ total_map (writes_in layout all) (λ (run : MakerRun C H P L). run.after) runs
      ∙ total_at (λ (run : MakerRun C H P L). writes_in layout all run.after) (λ (run : MakerRun C H P L). accepted_by run.did) runs one_counted

  -- ---- the board
  workers_here : (number : ℕ) (run : MakerRun C H P L) → slice_get runs number ≡ Some run → number ≢ demo.workers → number < demo.workers
  workers_here number run at different = let within = slice_get_within runs number run at in omega (arith, within, are.count, different)

  pub noted : (run : MakerRun C H P L) (at : slice_get runs demo.workers ≡ Some run) (end : SplitEnd) → run.did ≡ makes.Split end
      → (OwnsDone layout all) ↔ (is_done_end end ≡ true)
  unfolding parts
  noted run at end did =
      let is = splitting_run demo.workers run at (omega arith) in
      let same : is.end ≡ end = ap end_of (sym is.did ∙ did) in
      let notes : own_notes layout all ≡ is.adds.noted =
      noted_by_one layout all parts own demo.workers run.after is.adds.before is.adds.noted
      (mapped_at (λ (one : MakerRun C H P L). one.after) runs demo.workers run at) is.adds.row is.adds.begins
      (λ i part different there.
      let one = mapped (λ (other : MakerRun C H P L). other.after) runs i part there in
      subst (λ (seen : Seen). seen.own layout.buckets ≡ []) one.2 (writing_run i one.0 one.1 (workers_here i one.0 one.1 different)).adds.board) in
      let test : list_any is_done_entry (own_notes layout all) ≡ is_done_end end = ap (list_any is_done_entry) notes ∙ is.adds.done ∙ ap is_done_end same in
      (λ owns. sym test ∙ owns, λ ends. test ∙ ends) where
        end_of : Made → SplitEnd
        end_of (makes.Orders written) = end
        end_of (makes.Split one) = one

  -- ---- the writes
  -- the worker of this number wrote all its orders
  record WroteAll (number : ℕ) (run : MakerRun C H P L) : Type 0 where
    written : Written
    answers : List OrderAnswer
    adds : AddsWrites layout all run.after written answers
    orders : AddsAll layout all (worker_orders (workload_of demo) number demo.workers) answers

  abbrev WroteAllIfWorker : ℕ → MakerRun C H P L → Type 0
  WroteAllIfWorker number run = number < demo.workers → WroteAll number run

  one_wrote : (number : ℕ) (run : MakerRun C H P L) → slice_get runs number ≡ Some run → WroteAllIfWorker number run ⊎ CameNearLimit layout all
  one_wrote number run at = by (cases_lt number demo.workers) where
    how : (is : IsWriting number run) → AddsAll layout all (worker_orders (workload_of demo) number demo.workers) is.answers ⊎ CameNearLimit layout all
        → WroteAllIfWorker number run ⊎ CameNearLimit layout all
    how is (inl orders) = inl (λ less. record { written = is.written; answers = is.answers; adds = is.adds; orders = orders })
    how is (inr near) = inr near

    by : (number < demo.workers) ⊎ (demo.workers ≤ number) → WroteAllIfWorker number run ⊎ CameNearLimit layout all
    by (inl less) = let is = writing_run number run at less in how is is.how
    by (inr least) = inl (λ less. absurd (omega (arith, less, least)))

  module _ (wrote : (number : ℕ) (run : MakerRun C H P L) → slice_get runs number ≡ Some run → WroteAllIfWorker number run) (id : List ℕ)
      (buckets : layout.buckets ≡ 64) where
    its_bucket : bucket_of id layout.buckets < layout.buckets
    its_bucket = let most : bucket_of id layout.buckets ≤ layout.buckets - 1 = and_le_r _ _ in omega (arith, most, buckets)

    nothing_else : (k : ℕ) → ((other : ℕ) → other ≢ k → on_document id (worker_orders (workload_of demo) other demo.workers) ≡ [])
        → (i : ℕ) (run : MakerRun C H P L) → slice_get runs i ≡ Some run → i ≢ k → (lock : ℕ) → lock < layout.buckets
        → filter_map (write_on layout all id lock) (run.after.own lock) ≡ []
    nothing_else k others i run at different lock within = by (cases_lt i demo.workers) where
      by : (i < demo.workers) ⊎ (demo.workers ≤ i) → filter_map (write_on layout all id lock) (run.after.own lock) ≡ []
      by (inl less) =
          let is = wrote i run at less in
          worker_apart layout all id run.after is.answers is.adds.own is.orders.each
          (ap (on_document id) is.orders.contents ∙ others i different) lock within
      by (inr least) =
          let is = splitting_run i run at least in
          split_apart layout all id run.after is.adds.stops is.adds.own is.adds.quiet lock within

    document_written : AllZip IsWriteOfOrder (writes_on id (all_own_writes layout all)) (on_document id (all_orders (workload_of demo)))
    unfolding parts
    document_written =
        let limits = numbers demo is_demo in
        let lies = lie_with_one (workload_of demo) (omega (arith, limits.count.0)) (omega (arith, limits.count.1)) demo.workers (omega (arith, limits.workers.0)) id in
        let owner = some_at runs lies.worker (omega (arith, lies.is_one, are.count)) in
        let is = wrote lies.worker owner.0 owner.1 lies.is_one in
        subst (λ (orders : List OrderContent). AllZip IsWriteOfOrder (writes_on id (all_own_writes layout all)) orders)
        (ap (on_document id) is.orders.contents ∙ lies.all)
        (written_by_one layout all id parts own lies.worker owner.0.after is.answers
        (mapped_at (λ (one : MakerRun C H P L). one.after) runs lies.worker owner.0 owner.1) is.adds.own is.adds.order is.orders.each
        (λ i part different there lock within.
        let one = mapped (λ (other : MakerRun C H P L). other.after) runs i part there in
        subst (λ (seen : Seen). filter_map (write_on layout all id lock) (seen.own lock) ≡ []) one.2
        (nothing_else lies.worker lies.others i one.0 one.1 different lock within))
        its_bucket)

  pub all_written : layout.buckets ≡ 64 → OrdersAreWritten demo layout all ⊎ CameNearLimit layout all
  all_written buckets = by (each_or WroteAllIfWorker (CameNearLimit layout all) runs one_wrote) where
    by : ((number : ℕ) (run : MakerRun C H P L) → slice_get runs number ≡ Some run → WroteAllIfWorker number run) ⊎ CameNearLimit layout all
        → OrdersAreWritten demo layout all ⊎ CameNearLimit layout all
    by (inl wrote) = inl (λ id. document_written wrote id buckets)
    by (inr near) = inr near

  -- so a report says of it what it is to say
  pub says : (report : Report) (run : MakerRun C H P L) (at : slice_get runs demo.workers ≡ Some run) (end : SplitEnd) → run.did ≡ makes.Split end
      → split_word end ≡ Some report.split → report.orders ≡ demo.count → report.accepted ≡ total (λ (one : MakerRun C H P L). accepted_by one.did) runs
      → SaysOf demo layout all report
  says report run at end did word orders accepted =
      let ends = word_done end report.split word in
      let owns = noted run at end did in
      record {
        orders = orders;
        accepted = accepted ∙ sym counted;
        done = (λ same. owns.1 (ends.0 same), λ own_it. ends.1 (owns.0 own_it));
        writes = all_written are.shape.buckets;
      }
