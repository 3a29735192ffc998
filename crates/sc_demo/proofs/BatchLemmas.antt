-- What an update leaves that makes a batch of a workload.
use Rattle.std.proofs.Common.{◌≡◌, ◌∙◌, ◌⊎◌, inl, inr, ◌≤◌, ◌<◌, ◌+◌, ◌-◌, ◌*◌, ◌/◌, ◌||◌, ℕ, zero, suc, Bool, true, false, List, [], ◌∷◌, ◌++◌, length, map, take, drop, Option, Some, None, refl, sym, ap, subst, arith, length-append, true≢false, append-nil, ◌^◌, append_assoc}
use Rattle.std.specs.Prelude.{filter_map, pos}
use Rattle.std.specs.List.{AllByRecursion, cons_option}
use Rattle.std.specs.Prelude.{slice_get}
use Rattle.std.proofs.lemmas.Option.{same_Some}
use Rattle.std.proofs.Math.Seq.{take-append_seam}
use Rattle.std.proofs.lemmas.List.{take-append-drop, length-map, length_push, nil_from_length}
use mathlib.Core.List.{IsPrefix}
use Rattle.sc_record.specs.Versions.{meets}
use Rattle.sc_record.specs.declared.order.Order.{Order}
use Rattle.sc_record.specs.declared.order.Change.{Change}
use Rattle.sc_record.specs.declared.order.Change.TheVariants as changes
use Rattle.sc_record.specs.declared.entry.Entry.{Entry}
use Rattle.sc_io.specs.Hosts.{Reached}
use Rattle.sc_schema.specs.Documents.{OrderContent, content_of}
use Rattle.sc_commands.specs.declared.batch.Batch.{Batch}
use Rattle.sc_commands.specs.declared.batch.Flags.{Flags}
use Rattle.sc_record.specs.declared.ack.Ack.{Ack}
use Rattle.sc_journal.specs.Journal.{found, last_of, last_write}
use Rattle.sc_journal.specs.Outcomes.{Outcome, accepted, conflict, partial, log_full, out_of_memory, IsOutcome, IsMet, refused as refused_by}
use Rattle.sc_journal.specs.Splits.{Basis, IsFullFor}
use Rattle.sc_seen.specs.Seen.{Layout, Seen, SeesMore, Extends, basis_of, journal_at}
use Rattle.sc_seen.specs.Batches.{OrderAnswer, IsOrderAnswer, AnswersOrders, GoOn, HasStops, WritesOnce, goes_on, ack_of, acknowledged, ack_made, order_stops, stops_between, down_stops}
use Rattle.sc_seen.specs.Commits.{CommitAnswer, CommitOutcome, committed_now, commit_stops, worst}
use Rattle.sc_seen.specs.declared.stop.Stop.{Stop}
use Rattle.sc_seen.proofs.GoesOnLemmas.{SeesMore-self}
use Rattle.sc_update.specs.declared.end.BatchEnd.{BatchEnd}
use Rattle.sc_update.specs.Updated.{update_moment, UpdateEnd, finished, refused, ran_out as update_ran_out, IsUpdated, OrdersEnd, CommitsAsked, CommitsEnd, Ends, reported, commit_fault, order_fault}
use Rattle.sc_demo.specs.declared.made.Written.{Written}
use Rattle.sc_demo.specs.Writing.{AreAllAccepted, CameNearLimit, IsAccepted, IsPlain, IsPlainOrder, IsWholeOrDelete, MakesOrders, WritingState, ran_out, writing}

-- a condition of 0 is met by every version
met_by_all : (order : Order) → order.condition ≡ pos 0 → (journal : List Entry) → meets order.condition (found journal order.id) ≡ true
met_by_all order is journal = ap (λ condition. meets condition (found journal order.id)) is

-- a whole document or a deletion is refused by no field
none_refused : (change : Change) (journal : List Entry) (id : List ℕ) → IsWholeOrDelete change → refused_by (last_write journal id) change ≡ None
none_refused (changes.Whole doc) journal id is = refl
none_refused (changes.Parts parts) journal id is = absurd is
none_refused changes.Delete journal id is = refl

-- how an order of a workload is answered: it is accepted, or its bucket's journal had no room, or memory ran out
abbrev IsPlainOutcome : Layout → List Entry → Outcome → Type 0
IsPlainOutcome layout journal outcome =
    IsAccepted outcome ⊎ ((outcome ≡ log_full) × IsFullFor 2 layout.limit layout.first journal) ⊎ (outcome ≡ out_of_memory)

plain_outcome : (layout : Layout) (journal after : List Entry) (order : Order) (now : ℕ) (outcome : Outcome) → IsPlainOrder order
    → IsOutcome (basis_of layout) journal order now outcome after → IsPlainOutcome layout journal outcome
plain_outcome layout journal after order now (accepted version) plain is = inl tt
plain_outcome layout journal after order now (conflict version) plain is =
    absurd (true≢false (sym (met_by_all order plain.condition journal) ∙ is.0))
plain_outcome layout journal after order now (partial name) plain is =
    let none : None ≡ Some name = sym (none_refused order.change journal order.id plain.change) ∙ is.1 in absurd (cc)
plain_outcome layout journal after order now log_full plain is = inr (inl (refl, is.1))
plain_outcome layout journal after order now out_of_memory plain is = inr (inr refl)

-- the same of an answer
abbrev IsPlainAnswer : Layout → Seen → OrderAnswer → Type 0
IsPlainAnswer layout seen answer = IsAccepted answer.outcome ⊎ ((answer.outcome ≡ log_full) × CameNearLimit layout seen) ⊎ (answer.outcome ≡ out_of_memory)

begins_there : (seen : Seen) (stop : Stop) → IsPrefix (journal_at seen stop) (seen.journals stop.lock)
begins_there seen stop = (drop stop.place (seen.journals stop.lock), take-append-drop stop.place (seen.journals stop.lock))

plain_answer : (layout : Layout) (seen : Seen) (answer : OrderAnswer) → IsPlainOrder answer.order → IsOrderAnswer layout seen answer
    → IsPlainAnswer layout seen answer
plain_answer layout seen answer plain is =
    by (plain_outcome layout (journal_at seen is.first) (seen.journals is.first.lock) answer.order answer.timestamp answer.outcome plain is.outcome) where
      by : IsPlainOutcome layout (journal_at seen is.first) answer.outcome → IsPlainAnswer layout seen answer
      by (inl accepted_is) = inl accepted_is
      by (inr (inl (full_is, full))) = inr (inl (full_is, record { lock = is.first.lock; front = journal_at seen is.first; begins = begins_there seen is.first; full = full }))
      by (inr (inr memory)) = inr (inr memory)

-- the orders that were answered are those of a workload
orders_plain : (answers : List OrderAnswer) (more : List Order) → AllByRecursion IsPlainOrder (map (λ (answer : OrderAnswer). answer.order) answers ++ more)
    → AllByRecursion (λ (answer : OrderAnswer). IsPlainOrder answer.order) answers
orders_plain [] more all = tt
orders_plain (answer ∷ answers) more all = (all.0, orders_plain answers more all.1)

answers_plain : (layout : Layout) (seen : Seen) (answers : List OrderAnswer) → AllByRecursion (λ (answer : OrderAnswer). IsPlainOrder answer.order) answers
    → AllByRecursion (IsOrderAnswer layout seen) answers → AllByRecursion (IsPlainAnswer layout seen) answers
answers_plain layout seen [] plain each = tt
answers_plain layout seen (answer ∷ answers) plain each = (plain_answer layout seen answer plain.0 each.0, answers_plain layout seen answers plain.1 each.1)

-- where orders go on, one was accepted
goes_on_accepted : (layout : Layout) (seen : Seen) (answer : OrderAnswer) → IsPlainAnswer layout seen answer → goes_on false answer.outcome ≡ true
    → IsAccepted answer.outcome
goes_on_accepted layout seen answer (inl is) goes = is
goes_on_accepted layout seen answer (inr (inl (full, near))) goes = absurd (true≢false (sym goes ∙ ap (goes_on false) full))
goes_on_accepted layout seen answer (inr (inr memory)) goes = absurd (true≢false (sym goes ∙ ap (goes_on false) memory))

all_accepted : (layout : Layout) (seen : Seen) (answers : List OrderAnswer) → AllByRecursion (IsPlainAnswer layout seen) answers → GoOn false answers
    → AllByRecursion (λ (answer : OrderAnswer). IsAccepted answer.outcome) answers
all_accepted layout seen [] plain goes = tt
all_accepted layout seen (answer ∷ answers) plain goes =
    (goes_on_accepted layout seen answer plain.0 goes.0, all_accepted layout seen answers plain.1 goes.1)

-- ---- no core was noted as down
-- the stops between the first and the last are those at which cores were noted
between_are : (first last : Stop) (downs stops : List Stop) → stops ≡ first ∷ downs ++ last ∷ [] → stops_between stops ≡ downs
between_are first last downs stops is =
    let count : length (first ∷ downs ++ last ∷ []) - 2 ≡ length downs = omega (arith, length_push downs last) in
    ap stops_between is ∙ ap (λ (n : ℕ). take n (downs ++ last ∷ [])) count ∙ take-append_seam downs (last ∷ [])

-- none of the answers noted one
abbrev NoteNone : List OrderAnswer → Type 0
NoteNone answers = AllByRecursion (λ (answer : OrderAnswer). stops_between answer.stops ≡ []) answers

-- neither of two lists has anything where both together have nothing
none_of_both : (one other : List Stop) → one ++ other ≡ [] → (one ≡ []) × (other ≡ [])
none_of_both [] other none = (refl, none)
none_of_both (x ∷ one) other none = absurd (cc)

note_none : (answers : List OrderAnswer) → down_stops answers ≡ [] → NoteNone answers
note_none [] none = tt
note_none (answer ∷ answers) none =
    let both = none_of_both (stops_between answer.stops) (down_stops answers) none in
    (both.0, note_none answers both.1)

-- ---- stops and acknowledgements
-- how many stops an answer has, and how many acknowledgements
record HasCounts (answer : OrderAnswer) (stops acks : ℕ) : Type 0 where
  stops_are : length answer.stops ≡ stops
  acks_are : (more : List OrderAnswer) → length (filter_map ack_of (answer ∷ more)) ≡ acks + length (filter_map ack_of more)

abbrev IsOneOrTwo : OrderAnswer → Type 0
IsOneOrTwo answer = (IsAccepted answer.outcome × HasCounts answer 2 1) ⊎ HasCounts answer 1 0

counts : (seen : Seen) (answer : OrderAnswer) (first : Stop) → stops_between answer.stops ≡ [] → HasStops seen answer.outcome answer.stops first
    → IsOneOrTwo answer
counts seen answer first none has = by answer.outcome refl has where
  by : (outcome : Outcome) → answer.outcome ≡ outcome → HasStops seen outcome answer.stops first → IsOneOrTwo answer
  by (accepted version) is settled = inl (
    subst IsAccepted (sym is) tt,
    record {
      stops_are = ap length settled.stops_are ∙ ap (λ (downs : List Stop). length (first ∷ downs ++ settled.last ∷ []))
          (sym (between_are first settled.last settled.downs answer.stops settled.stops_are) ∙ none);
      acks_are = λ more. ap (λ (outcome : Outcome). length (cons_option (acknowledged answer.order.id outcome) (filter_map ack_of more))) is ∙ omega arith;
    },
  )
  by (conflict version) is (made, stops) = inr (record { stops_are = ap length stops; acks_are = λ more. ap (λ (outcome : Outcome). length (cons_option (acknowledged answer.order.id outcome) (filter_map ack_of more))) is ∙ omega arith })
  by (partial name) is (made, stops) = inr (record { stops_are = ap length stops; acks_are = λ more. ap (λ (outcome : Outcome). length (cons_option (acknowledged answer.order.id outcome) (filter_map ack_of more))) is ∙ omega arith })
  by log_full is (made, stops) = inr (record { stops_are = ap length stops; acks_are = λ more. ap (λ (outcome : Outcome). length (cons_option (acknowledged answer.order.id outcome) (filter_map ack_of more))) is ∙ omega arith })
  by out_of_memory is (made, stops) = inr (record { stops_are = ap length stops; acks_are = λ more. ap (λ (outcome : Outcome). length (cons_option (acknowledged answer.order.id outcome) (filter_map ack_of more))) is ∙ omega arith })

-- an answer without an acknowledgement isn't accepted
not_accepted : (answer : OrderAnswer) → HasCounts answer 1 0 → IsAccepted answer.outcome → ⊥
not_accepted answer has is = by answer.outcome refl is where
  by : (outcome : Outcome) → answer.outcome ≡ outcome → IsAccepted outcome → ⊥
  by (accepted version) same is =
      let one = ap (λ (o : Outcome). length (cons_option (acknowledged answer.order.id o) (filter_map ack_of []))) same in
      let none = has.acks_are [] in
      omega (arith, one, none)
  by (conflict version) same is = is
  by (partial name) same is = is
  by log_full same is = is
  by out_of_memory same is = is

-- as many were accepted as there are pairs of stops
abbrev AreCounted : List OrderAnswer → Type 0
AreCounted answers = length (order_stops answers) / 2 ≡ length (filter_map ack_of answers)

two_more : (answer : OrderAnswer) (answers : List OrderAnswer) → HasCounts answer 2 1 → AreCounted answers → AreCounted (answer ∷ answers)
two_more answer answers has rest =
    let stops = length-append answer.stops (order_stops answers) in
    let acks = has.acks_are answers in
    let own = has.stops_are in
    omega (arith, stops, acks, own, rest)

last_one : (answer : OrderAnswer) → HasCounts answer 1 0 → AreCounted (answer ∷ [])
last_one answer has =
    let stops = length-append answer.stops [] in
    let acks = has.acks_are [] in
    let own = has.stops_are in
    omega (arith, stops, acks, own)

counted : (layout : Layout) (seen : Seen) (answers : List OrderAnswer) → NoteNone answers → AllByRecursion (IsOrderAnswer layout seen) answers
    → AllByRecursion (IsPlainAnswer layout seen) answers → GoOn false (take (length answers - 1) answers) → AreCounted answers
counted layout seen [] none each plain goes = refl
counted layout seen (answer ∷ []) none each plain goes = by (counts seen answer each.0.first none.0 each.0.stops) where
  by : IsOneOrTwo answer → AreCounted (answer ∷ [])
  by (inl (is, has)) = two_more answer [] has refl
  by (inr has) = last_one answer has
counted layout seen (answer ∷ next ∷ answers) none each plain goes =
    by (counts seen answer each.0.first none.0 each.0.stops) (counted layout seen (next ∷ answers) none.1 each.1 plain.1 (subst (λ n. GoOn false (take n (next ∷ answers))) later goes_more.1)) where
      sooner : length (answer ∷ next ∷ answers) - 1 ≡ suc (length answers)
      sooner = omega arith

      later : length answers ≡ length (next ∷ answers) - 1
      later = omega arith

      goes_more : GoOn false (answer ∷ take (length answers) (next ∷ answers))
      goes_more = subst (λ n. GoOn false (take n (answer ∷ next ∷ answers))) sooner goes

      by : IsOneOrTwo answer → AreCounted (next ∷ answers) → AreCounted (answer ∷ next ∷ answers)
      by (inl (is, has)) rest = two_more answer (next ∷ answers) has rest
      by (inr has) rest = absurd (not_accepted answer has (goes_on_accepted layout seen answer plain.0 goes_more.0))

-- what holds of each holds of the one at a place
at_place : {A : Type 0} (P : A → Type 0) (xs : List A) (k : ℕ) (x : A) → AllByRecursion P xs → slice_get xs k ≡ Some x → P x
at_place P [] k x all at = absurd (cc)
at_place P (y ∷ ys) zero x all at = subst P (same_Some y x at) all.0
at_place P (y ∷ ys) (suc k) x all at = at_place P ys k x all.1 at

-- at most one acknowledgement is of an answer
few_acks : (answers : List OrderAnswer) → length (filter_map ack_of answers) ≤ length answers
few_acks [] = omega arith
few_acks (answer ∷ answers) = by (ack_of answer) (few_acks answers) where
  by : (ack : Option Ack) → length (filter_map ack_of answers) ≤ length answers → length (cons_option ack (filter_map ack_of answers)) ≤ length (answer ∷ answers)
  by None rest = omega arith
  by (Some one) rest = omega arith

-- orders go on after one that is accepted
accepted_goes : (outcome : Outcome) → IsAccepted outcome → goes_on false outcome ≡ false → ⊥
accepted_goes (accepted version) is ends = true≢false ends
accepted_goes (conflict version) is ends = is
accepted_goes (partial name) is ends = is
accepted_goes log_full is ends = is
accepted_goes out_of_memory is ends = is

-- an update of a batch of a workload, whose hosts did not fail to reach a node
module _ {C : Type 0} (gives : C → ℕ → C → Type 0) (layout : Layout) (batch : Batch) (old new : WritingState C) (stops : List Stop) (end : BatchEnd)
    (reach : Reached) (plain : IsPlain batch)
    (updated : IsUpdated gives layout batch (update_moment old.seen [] old.clock reach) (update_moment new.seen stops new.clock reach) end) where
  answers_are : AnswersOrders layout new.seen batch.flags.fail_on_conflict batch.orders updated.answers
  answers_are = updated.answered new.seen (SeesMore-self new.seen)

  ends_are : Ends layout new.seen batch updated.answers updated.commits updated.how
  ends_are = updated.ends new.seen (SeesMore-self new.seen)

  lenient : batch.flags.fail_on_conflict ≡ false
  lenient = ap (λ (flags : Flags). flags.fail_on_conflict) plain.flags

  no_commit : batch.flags.commit ≡ false
  no_commit = ap (λ (flags : Flags). flags.commit) plain.flags

  plain_answers : AllByRecursion (IsPlainAnswer layout new.seen) updated.answers
  plain_answers =
      answers_plain layout new.seen updated.answers
      (orders_plain updated.answers answers_are.in_turn.0 (subst (AllByRecursion IsPlainOrder) (sym answers_are.in_turn.1) plain.orders)) answers_are.each

  -- nothing was committed
  none_committed : (commits : List CommitAnswer) (how : UpdateEnd) → CommitsEnd layout new.seen batch commits how → commits ≡ []
  none_committed commits (finished outcome) is = subst (λ (b : Bool). CommitsAsked layout new.seen b commits) no_commit is.0
  none_committed commits (refused last) is = is
  none_committed commits update_ran_out is = is

  no_commits : updated.commits ≡ []
  no_commits = none_committed updated.commits updated.how ends_are.1

  no_more_stops : order_stops updated.answers ++ commit_stops updated.commits ≡ order_stops updated.answers
  no_more_stops = ap (λ commits. order_stops updated.answers ++ commit_stops commits) no_commits ∙ append-nil (order_stops updated.answers)

  stops_are : stops ≡ order_stops updated.answers
  stops_are = updated.keeps.kept ∙ no_more_stops

  none_noted : down_stops updated.answers ≡ []
  none_noted = nil_from_length (down_stops updated.answers) (omega (arith, updated.notes.count, updated.notes.few))

  pub accepted_counted : length stops / 2 ≡ length (filter_map ack_of updated.answers)
  accepted_counted =
      ap (λ (all : List Stop). length all / 2) stops_are
      ∙ counted layout new.seen updated.answers (note_none updated.answers none_noted) answers_are.each plain_answers
      (subst (λ (b : Bool). GoOn b (take (length updated.answers - 1) updated.answers)) lenient answers_are.go_on)

  in_turn_whole : length updated.answers ≡ length batch.orders → map (λ (answer : OrderAnswer). answer.order) updated.answers ≡ batch.orders
  in_turn_whole same =
      let parts = length-append (map (λ (answer : OrderAnswer). answer.order) updated.answers) answers_are.in_turn.0 in
      let all = ap length answers_are.in_turn.1 in
      let first = length-map updated.answers (λ (answer : OrderAnswer). answer.order) in
      let none : answers_are.in_turn.0 ≡ [] = nil_from_length answers_are.in_turn.0 (omega (arith, parts, all, first, same)) in
      sym (append-nil (map (λ (answer : OrderAnswer). answer.order) updated.answers))
      ∙ ap (λ more. map (λ (answer : OrderAnswer). answer.order) updated.answers ++ more) (sym none) ∙ answers_are.in_turn.1

  contents_of : (answers : List OrderAnswer) → map (λ (answer : OrderAnswer). content_of answer.order) answers ≡ map content_of (map (λ (answer : OrderAnswer). answer.order) answers)
  contents_of [] = refl
  contents_of (answer ∷ answers) = ap (λ rest. content_of answer.order ∷ rest) (contents_of answers)

  abbrev IsHow : Type 0
  IsHow = AreAllAccepted (map content_of batch.orders) updated.answers ⊎ (ran_out end.fault ≡ true) ⊎ CameNearLimit layout new.seen

  by_last : (last : OrderAnswer) → end.fault ≡ order_fault (length updated.answers - 1) last.outcome → goes_on false last.outcome ≡ false
      → IsPlainAnswer layout new.seen last → IsHow
  by_last last fault ends (inl is) = absurd (accepted_goes last.outcome is ends)
  by_last last fault ends (inr (inl (full, near))) = inr (inr near)
  by_last last fault ends (inr (inr memory)) =
      inr (inl (ap ran_out fault ∙ ap (λ (outcome : Outcome). ran_out (order_fault (length updated.answers - 1) outcome)) memory))

  how_is : (how : UpdateEnd) → end.fault ≡ reported updated.answers how → OrdersEnd batch updated.answers how → IsHow
  how_is (finished outcome) fault is = inl (record {
    in_turn = contents_of updated.answers ∙ ap (map content_of) (in_turn_whole is.0);
    each = all_accepted layout new.seen updated.answers plain_answers (subst (λ (b : Bool). GoOn b updated.answers) lenient is.1);
  })
  how_is (refused last) fault is =
      by_last last fault (subst (λ (b : Bool). goes_on b last.outcome ≡ false) lenient is.1)
      (at_place (IsPlainAnswer layout new.seen) updated.answers (length updated.answers - 1) last plain_answers is.0)
  how_is update_ran_out fault is = inr (inl (ap ran_out fault))

  pub makes_batch : MakesOrders gives layout old new (map content_of batch.orders) (record { accepted = length stops / 2; memory = ran_out end.fault })
  makes_batch = record {
    answers = updated.answers;
    extends = subst (λ all. Extends layout old.seen new.seen all) no_more_stops updated.keeps.goes.extends;
    board = updated.keeps.goes.board_own;
    timestamps = updated.timestamps;
    answered = λ later more. (updated.answered later more).each;
    once = λ later more. subst (λ all. WritesOnce layout later all updated.answers) no_more_stops (updated.once later more);
    accepted_are = accepted_counted;
    all = how_is updated.how updated.reports.fault ends_are.0;
  }

  -- no more were accepted than there are orders
  pub accepted_few : length stops / 2 ≤ length batch.orders
  accepted_few =
      let parts = length-append (map (λ (answer : OrderAnswer). answer.order) updated.answers) answers_are.in_turn.0 in
      let all = ap length answers_are.in_turn.1 in
      let first = length-map updated.answers (λ (answer : OrderAnswer). answer.order) in
      let most = few_acks updated.answers in
      omega (arith, accepted_counted, parts, all, first, most)

  -- by how many stops were kept, and by whether memory ran out
  pub batch_made : (count : ℕ) (memory : Bool) → count ≡ length stops → memory ≡ ran_out end.fault
      → MakesOrders gives layout old new (map content_of batch.orders) (record { accepted = count / 2; memory = memory })
  batch_made count memory count_is memory_is =
      subst (λ (n : ℕ). MakesOrders gives layout old new (map content_of batch.orders) (record { accepted = n / 2; memory = memory })) (sym count_is)
      (subst (λ (b : Bool). MakesOrders gives layout old new (map content_of batch.orders) (record { accepted = length stops / 2; memory = b })) (sym memory_is) makes_batch)

  pub batch_few : (count : ℕ) → count ≡ length stops → count / 2 ≤ length batch.orders
  batch_few count count_is = subst (λ (n : ℕ). n / 2 ≤ length batch.orders) (sym count_is) accepted_few
