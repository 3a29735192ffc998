-- What each maker added to what all of them have made: a worker the writes of its orders, and the one that splits its entries of the board.
use Rattle.std.proofs.Common.{◌≡◌, ◌≢◌, ◌∙◌, ◌⊎◌, inl, inr, ◌≤◌, ◌<◌, ◌+◌, ℕ, zero, suc, Bool, true, false, true≢false, cond, List, [], ◌∷◌, ◌++◌, length, map, get_or, codes, Option, Some, None, refl, sym, ap, subst, arith}
use Rattle.std.specs.Prelude.{filter_map, ◌↔◌}
use Rattle.std.specs.List.{AllByRecursion, list_any, range_with_len}
use Rattle.std.proofs.lemmas.Option.{same_Some}
use mathlib.Core.List.{IsPrefix}
use Rattle.sc_schema.specs.Documents.{OrderContent, content_of}
use Rattle.sc_cluster.specs.declared.plan.SplitPlan.{SplitPlan}
use Rattle.sc_reply.specs.Refusals.{message_of}
use Rattle.sc_seen.specs.Seen.{Layout, Seen, ComeInOrder, SeesMore, entries_at, stops_at, made_at}
use Rattle.sc_seen.specs.Moments.{view_of}
use Rattle.sc_seen.specs.Batches.{OrderAnswer, IsOrderAnswer, WritesOnce, ack_of, order_stops}
use Rattle.sc_seen.specs.Commits.{CommitAnswer}
use Rattle.sc_seen.specs.declared.board.BoardEntry.{BoardEntry}
use Rattle.sc_seen.specs.declared.stop.Stop.{Stop}
use Rattle.sc_collection.specs.Shapes.{SeesOpened}
use Rattle.sc_cores.specs.Cores.{Outside}
use Rattle.sc_board.specs.declared.fault.BoardFault.{BoardFault}
use Rattle.sc_board.specs.declared.fault.BoardFault.TheVariants as faults
use Rattle.sc_session.specs.Commands.{situation}
use Rattle.sc_split.specs.declared.end.SplitEnd.{SplitEnd}
use Rattle.sc_split.specs.declared.end.SplitEnd.TheVariants as splits
use Rattle.sc_split.specs.Splits.{Course, refused, given_up, done, IsAnswered, IsCause, HasCause, SplitMoment, noted_by, refusal, split_moment, split_stops}
use Rattle.sc_workload.specs.Workload.{Workload, worker_orders, is_made_by, order_places}
use Rattle.sc_demo.specs.declared.made.Written.{Written}
use Rattle.sc_demo.specs.Writing.{AreAllAccepted, CameNearLimit, IsAccepted, MakesOrders, writing}
use Rattle.sc_demo.specs.Lines.{split_word}
use Rattle.sc_demo.specs.Splitting.{SplitsFirst, first_shard}
use Rattle.sc_demo.specs.Together.{is_done_entry}
use Rattle.sc_demo.proofs.WritingLemmas.{IsPlainContent, near_later, plain_places}
use Rattle.sc_demo.proofs.AnswerLemmas.{HasWritten, contents_of, has_written}
use Rattle.sc_demo.proofs.TogetherLemmas.{IsQuiet, commits_quiet}
use Rattle.std.specs.List.{filter}

-- ---- a worker
-- what a worker has added: its own entries are those of its orders' stops, among which are as many writes as were accepted
pub record AddsWrites (layout : Layout) (all part : Seen) (written : Written) (answers : List OrderAnswer) : Type 0 where
  pub own : (lock : ℕ) → lock < layout.buckets → part.own lock ≡ made_at lock (order_stops answers)
  pub board : part.own layout.buckets ≡ []
  pub order : (lock : ℕ) → (from : ℕ) × ComeInOrder from (stops_at lock (order_stops answers))
  pub once : WritesOnce layout all (order_stops answers) answers
  pub count : written.accepted ≡ length (filter_map ack_of answers)

-- and they are the writes of all its orders
pub record AddsAll (layout : Layout) (all : Seen) (orders : List OrderContent) (answers : List OrderAnswer) : Type 0 where
  pub each : AllByRecursion (HasWritten layout all) answers
  pub contents : contents_of answers ≡ orders

all_written : (layout : Layout) (all : Seen) (answers : List OrderAnswer) → AllByRecursion IsPlainContent (contents_of answers)
    → AllByRecursion (IsOrderAnswer layout all) answers → AllByRecursion (λ (answer : OrderAnswer). IsAccepted answer.outcome) answers
    → AllByRecursion (HasWritten layout all) answers
all_written layout all [] plain are accepted = tt
all_written layout all (answer ∷ answers) plain are accepted =
    (has_written layout all answer plain.0.change are.0 accepted.0, all_written layout all answers plain.1 are.1 accepted.1)

module _ {C : Type 0} (gives : C → ℕ → C → Type 0) (layout : Layout) (old new all : Seen) (clock next : C) (workload : Workload) (worker workers : ℕ)
    (written : Written) (makes : MakesOrders gives layout (writing old clock) (writing new next) (worker_orders workload worker workers) written)
    (nothing : SeesOpened layout.opened old) (more : SeesMore new all) where
  pub adds_writes : AddsWrites layout all new written makes.answers
  adds_writes = record {
    own = λ lock within. makes.extends.own lock within
        ∙ ap (λ (places : List ℕ). places ++ made_at lock (order_stops makes.answers)) (nothing.own lock);
    board = makes.board ∙ nothing.own layout.buckets;
    order = λ lock. (entries_at layout old lock, makes.extends.ascend lock);
    once = makes.once all more;
    count = makes.accepted_are;
  }

  pub adds_all : written.memory ≡ false → AddsAll layout all (worker_orders workload worker workers) makes.answers ⊎ CameNearLimit layout all
  adds_all enough = by makes.all where
    by : AreAllAccepted (worker_orders workload worker workers) makes.answers ⊎ (written.memory ≡ true) ⊎ CameNearLimit layout new
        → AddsAll layout all (worker_orders workload worker workers) makes.answers ⊎ CameNearLimit layout all
    by (inl accepted) = inl (record {
      each = all_written layout all makes.answers
          (subst (AllByRecursion IsPlainContent) (sym accepted.in_turn) (plain_places workload (filter (is_made_by workload worker workers) (order_places workload))))
          (makes.answered all more) accepted.each;
      contents = accepted.in_turn;
    })
    by (inr (inl memory)) = absurd (true≢false (sym memory ∙ enough))
    by (inr (inr near)) = inr (near_later layout new all more near)

-- ---- the one that splits
-- the split was done
abbrev pub is_done_end : SplitEnd → Bool
is_done_end (splits.Done subs committed) = true
is_done_end _ = false

-- what it has added: its own entries in the buckets are of stops that made no write, and those of the board are these, which say that a
-- split is done exactly where it was
pub record AddsNotes (layout : Layout) (all part : Seen) (end : SplitEnd) : Type 0 where
  pub stops : List Stop
  pub own : (lock : ℕ) → lock < layout.buckets → part.own lock ≡ made_at lock stops
  pub quiet : AllByRecursion (IsQuiet layout all) stops
  pub before : List BoardEntry
  pub noted : List BoardEntry
  pub row : part.own layout.buckets ≡ range_with_len (length before) (length noted)
  pub begins : IsPrefix (before ++ noted) all.board
  pub done : list_any is_done_entry noted ≡ is_done_end end

stops_quiet : (layout : Layout) (all : Seen) (first : Stop) (course : Course) (end : SplitEnd) → IsAnswered layout all first_shard first course end
    → AllByRecursion (IsQuiet layout all) (split_stops first course)
stops_quiet layout all first refused end is = (inl is.lock, tt)
stops_quiet layout all first (given_up plan recovered started) end is = (inl is.lock, tt)
stops_quiet layout all first (done plan answers) end is = (inl is.0.lock, commits_quiet layout all answers is.1.each)

refusal_not_done : (fault : BoardFault) → is_done_end (refusal fault) ≡ false
refusal_not_done faults.UnknownShard = refl
refusal_not_done (faults.Running shard) = refl
refusal_not_done (faults.NotActive state) = refl
refusal_not_done faults.RangeTooSmall = refl
refusal_not_done faults.BadRanges = refl
refusal_not_done faults.TooManySlices = refl
refusal_not_done faults.LogFull = refl
refusal_not_done faults.Memory = refl

cause_not_done : (layout : Layout) (plan : SplitPlan) (started : ℕ) (old new : SplitMoment) (end : SplitEnd) → IsCause layout plan started old new end → is_done_end end ≡ false
cause_not_done layout plan started old new (splits.Done subs committed) cause = absurd cause
cause_not_done layout plan started old new splits.UnknownShard cause = refl
cause_not_done layout plan started old new (splits.Running shard) cause = refl
cause_not_done layout plan started old new (splits.NotActive state) cause = refl
cause_not_done layout plan started old new splits.RangeTooSmall cause = refl
cause_not_done layout plan started old new splits.BadRanges cause = refl
cause_not_done layout plan started old new splits.TooManySlices cause = refl
cause_not_done layout plan started old new splits.LogFull cause = refl
cause_not_done layout plan started old new (splits.HostFault core) cause = refl
cause_not_done layout plan started old new splits.Stopped cause = refl
cause_not_done layout plan started old new splits.Memory cause = refl

notes_done : (layout : Layout) (all : Seen) (first : Stop) (course : Course) (old new : SplitMoment) (end : SplitEnd)
    → IsAnswered layout all first_shard first course end → HasCause layout course old new end → list_any is_done_entry (noted_by course) ≡ is_done_end end
notes_done layout all first refused old new end is cause = sym (ap is_done_end is.end_is ∙ refusal_not_done is.fault)
notes_done layout all first (given_up plan true started) old new end is cause = sym (cause_not_done layout plan started old new end cause)
notes_done layout all first (given_up plan false started) old new end is cause = sym (cause_not_done layout plan started old new end cause)
notes_done layout all first (done plan answers) old new end is cause = sym (ap is_done_end is.2)

pub adds_notes : (layout : Layout) (old new all : Seen) (outside next : Outside) (end : SplitEnd)
    → SplitsFirst layout (situation old outside) (situation new next) end → SeesOpened layout.opened old → SeesMore new all → AddsNotes layout all new end
adds_notes layout old new all outside next end split nothing more =
    let is = split.is in
    let answered = is.answered all more in
    record {
      stops = split_stops is.first is.course;
      own = λ lock within. is.extends.own lock within
          ∙ ap (λ (places : List ℕ). places ++ made_at lock (split_stops is.first is.course)) (nothing.own lock);
      quiet = stops_quiet layout all is.first is.course end answered;
      before = is.board.before;
      noted = noted_by is.course;
      row = is.board.own ∙ ap (λ (places : List ℕ). places ++ range_with_len is.first.place (length (noted_by is.course))) (nothing.own layout.buckets)
          ∙ ap (λ (n : ℕ). range_with_len n (length (noted_by is.course))) (sym is.board.place);
      begins = subst (λ (entries : List BoardEntry). IsPrefix entries all.board) is.board.board_is more.board;
      done = notes_done layout all is.first is.course (split_moment (view_of old []) outside) (split_moment (view_of new split.stops) next) end answered is.cause;
    }

-- ---- the word
other_word : (message word : List ℕ) → Some message ≡ Some word → (get_or message 0 0 ≡ 100 → ⊥) → (word ≡ codes "done") ↔ (false ≡ true)
other_word message word same first =
    (λ is. absurd (first (ap (λ (w : List ℕ). get_or w 0 0) (same_Some message word same ∙ is))), λ is. absurd (true≢false (sym is)))

-- the word is `done` exactly where the split was done
pub word_done : (end : SplitEnd) (word : List ℕ) → split_word end ≡ Some word → (word ≡ codes "done") ↔ (is_done_end end ≡ true)
word_done (splits.Done subs committed) word is = (λ same. refl, λ same. sym (same_Some (codes "done") word is))
word_done splits.UnknownShard word is = other_word (codes "unknown shard") word is (λ same. absurd (omega (arith, same)))
word_done (splits.Running shard) word is = other_word (codes "split of " ++ shard ++ codes " is running") word is (λ same. absurd (omega (arith, same)))
word_done (splits.NotActive state) word is = other_word _ word is (λ same. absurd (omega (arith, same)))
word_done splits.RangeTooSmall word is = other_word (codes "range of shard is too small") word is (λ same. absurd (omega (arith, same)))
word_done splits.BadRanges word is = other_word (codes "ranges do not cover the shard") word is (λ same. absurd (omega (arith, same)))
word_done splits.TooManySlices word is = other_word _ word is (λ same. absurd (omega (arith, same)))
word_done splits.LogFull word is = other_word (codes "update log is full") word is (λ same. absurd (omega (arith, same)))
word_done (splits.HostFault core) word is = other_word (codes "host failed on core " ++ core) word is (λ same. absurd (omega (arith, same)))
word_done splits.Stopped word is = other_word (codes "split was stopped") word is (λ same. absurd (omega (arith, same)))
word_done splits.Memory word is = absurd (cc)
