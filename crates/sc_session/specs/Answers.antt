-- What a request is answered, by the journals that were seen.
use Rattle.std.specs.Prelude.{◌≡◌, ◌≤◌, ◌⊎◌, ℕ, Bool, false, List, [], ◌∷◌, ◌++◌, length, take, Option, Some, None}
use Rattle.sc_record.specs.Writes.{Write}
use Rattle.sc_record.specs.declared.order.Order.{Order}
use Rattle.sc_commands.specs.declared.batch.Batch.{Batch}
use Rattle.sc_commands.specs.Updates.{update_of}
use Rattle.sc_reply.specs.Bodies.{update_text, error_text, get_text, ids_text, select_text}
use Rattle.sc_reply.specs.Refusals as refusals
use Rattle.sc_model.specs.Replies.{Reply}
use Rattle.sc_journal.specs.Journal.{last_write}
use Rattle.sc_journal.specs.Outcomes.{Outcome, accepted, conflict, partial, log_full, out_of_memory}
use Rattle.sc_admin.specs.Commands.{Pieces, pieces_of, split, status, delete}
use Rattle.sc_admin.specs.Status.{status_text}
use Rattle.sc_admin.specs.Splits.{split_text}
use Rattle.sc_admin.specs.Deletes.{DeleteCourse, IsDeleteAnswered}
use Rattle.sc_admin.specs.declared.deleting.DeleteEnd.{DeleteEnd}
use Rattle.sc_admin.specs.declared.deleting.DeleteEnd.TheVariants as deletes
use Rattle.sc_board.specs.declared.cut.Cut.{Cut}
use Rattle.sc_board.specs.Splits as board
use Rattle.sc_split.specs.Splits.{Course, done, split_stops, IsAnswered}
use Rattle.sc_split.specs.declared.end.SplitEnd.{SplitEnd}
use Rattle.sc_split.specs.declared.end.SplitEnd.TheVariants as splits
use Rattle.sc_seen.specs.Board.{board_map}
use Rattle.sc_seen.specs.Seen.{Layout, Seen, journal_at}
use Rattle.sc_seen.specs.Batches.{OrderAnswer, AnswersOrders, accepted_adds, accepted_deletes, order_stops, order_timestamps}
use Rattle.sc_seen.specs.declared.stop.Stop.{Stop}
use Rattle.sc_seen.specs.Commits.{committed_now, commit_full, commit_out_of_memory, CommitAnswer, commit_stops}
use Rattle.sc_update.specs.Updated as updates
use Rattle.sc_update.specs.Updated.{UpdateEnd, finished, Ends}
use Rattle.sc_get.specs.Got.{live, ReadsEach, live_writes}
use Rattle.sc_collection.specs.Looks.{LooksAtBuckets}
use Rattle.sc_fanout.specs.Searches.{Search, SearchPage, ShowsFound}
use Rattle.sc_session.specs.Queries.{HaveCriterion, HaveFault, IsRouteOf}
use Rattle.sc_session.specs.Requests.{Asked, Select, refused, update, get, get_ids, select, command}
use Rattle.sc_session.specs.Commands.{CommandEnd, no_command, split_ended, delete_ended, split_refusal, delete_refusal}

-- a refusal, after these orders were accepted
abbrev pub refusal_after : Bool → List OrderAnswer → refusals.Refusal → Reply
refusal_after versions answers refusal = record {
  status = refusals.refusal_status refusal;
  body = error_text (refusals.refusal_status refusal) (refusals.message_of refusal) (accepted_adds answers) (accepted_deletes answers) versions;
}

-- a refusal by the request alone
abbrev pub refusal_reply : refusals.Refusal → Reply
refusal_reply refusal = refusal_after false [] refusal

-- the reply where memory ran out
abbrev pub memory_reply : Reply
memory_reply = refusal_reply refusals.memory

-- the reply to an update that was done
abbrev pub update_reply : Bool → List OrderAnswer → Reply
update_reply versions answers = record { status = 200; body = update_text (accepted_adds answers) (accepted_deletes answers) versions }

-- the reply to a get, by the last write of the id
abbrev pub get_reply : Option Write → Reply
get_reply last = record { status = 200; body = get_text (live last) }

-- the reply to a get of several ids, by those that are live
abbrev pub ids_reply : List Write → Reply
ids_reply writes = record { status = 200; body = ids_text writes }

-- the reply to a search, by how many are found, and a page of them
abbrev pub select_reply : (found start : ℕ) → List Write → Reply
select_reply found start docs = record { status = 200; body = select_text found start docs }

-- why the orders of an update ended at this answer, where an outcome refuses its order
abbrev pub refusal_of_order : OrderAnswer → Option refusals.Refusal
refusal_of_order answer = by_outcome answer.order answer.outcome
  where
    by_outcome : Order → Outcome → Option refusals.Refusal
    by_outcome order (accepted version) = None
    by_outcome order (conflict version) = Some (refusals.conflict order.id order.condition version)
    by_outcome order (partial name) = Some (refusals.partial name)
    by_outcome order log_full = Some refusals.log_full
    by_outcome order out_of_memory = None

-- what came of a request
pub data Answer : Type 0 where
  -- it was answered
  replied : Reply → Answer
  -- memory ran out
  ran_out : Answer

-- the answer to an update that was refused for this reason, where there is one; else memory ran out
abbrev pub refusal_answer : Bool → List OrderAnswer → Option refusals.Refusal → Answer
refusal_answer versions answers (Some refusal) = replied (refusal_after versions answers refusal)
refusal_answer versions answers None = ran_out

-- The answer to an update, by the answers to its orders and by how it ended: its orders went on to their end, and it is by the
-- worst that came of its commits; or they ended at the last that was answered, and it says why.
abbrev pub update_answer : Bool → List OrderAnswer → UpdateEnd → Answer
update_answer versions answers (finished committed_now) = replied (update_reply versions answers)
update_answer versions answers (finished commit_full) = refusal_answer versions answers (Some refusals.log_full)
update_answer versions answers (finished commit_out_of_memory) = ran_out
update_answer versions answers (updates.refused last) = refusal_answer versions answers (refusal_of_order last)
update_answer versions answers updates.ran_out = ran_out

-- the reply to what shows the slices, at this stop of the board
abbrev pub status_reply : Layout → Seen → Stop → Reply
status_reply layout seen stop =
    record { status = 200; body = status_text (board_map layout.first (take stop.place seen.board)) layout.nodes }

-- the answer to a split
abbrev pub split_answer : SplitEnd → Answer
split_answer (splits.Done subs committed) = replied (record { status = 200; body = split_text subs committed })
split_answer end = refusal_answer false [] (split_refusal end)

-- the answer to a deletion
abbrev pub delete_answer : DeleteEnd → Answer
delete_answer deletes.Done = replied (record { status = 200; body = update_text [] [] false })
delete_answer end = refusal_answer false [] (delete_refusal end)

-- what a request left: the answers to its orders, the commits, the timestamps that were read for it, the stops that were kept, and what
-- its command came to
pub record Trace : Type 0 where
  pub answers : List OrderAnswer
  pub commits : List CommitAnswer
  pub timestamps : List ℕ
  pub stops : List Stop
  pub command : CommandEnd

-- what is left of a request that only reads, at these stops
abbrev pub read_trace : List Stop → Trace
read_trace stops = record { answers = []; commits = []; timestamps = []; stops = stops; command = no_command }

-- the commits of a split that went so
abbrev pub split_commits : Course → List CommitAnswer
split_commits (done plan answers) = answers
split_commits _ = []

-- what is left of a split that was asked for so, and went so
abbrev pub split_trace : board.AskedSplit → Stop → Course → SplitEnd → Trace
split_trace asked first course end = record {
  answers = [];
  commits = split_commits course;
  timestamps = [];
  stops = split_stops first course;
  command = split_ended asked first course end;
}

-- what is left of a deletion that went so
abbrev pub delete_trace : List ℕ → Stop → DeleteCourse → DeleteEnd → Trace
delete_trace shard first course end = record {
  answers = [];
  commits = [];
  timestamps = [];
  stops = first ∷ [];
  command = delete_ended shard first course end;
}

-- nothing was looked at
abbrev pub no_trace : Trace
no_trace = read_trace []

-- A batch ended so: its orders were answered in turn, and then its buckets were committed, if they were. The timestamps and the
-- stops are those of the orders' answers, and then of the commits.
pub record EndsBatch (layout : Layout) (seen : Seen) (batch : Batch) (trace : Trace) (how : UpdateEnd) : Type 0 where
  pub answered : AnswersOrders layout seen batch.flags.fail_on_conflict batch.orders trace.answers
  pub ends : Ends layout seen batch trace.answers trace.commits how
  pub timestamps_are : trace.timestamps ≡ order_timestamps trace.answers
  pub stops_are : trace.stops ≡ order_stops trace.answers ++ commit_stops trace.commits
  pub command_is : trace.command ≡ no_command

-- the ids were each read at a stop
pub record ReadsIds (layout : Layout) (ids : List (List ℕ)) (trace : Trace) (stops : List Stop) : Type 0 where
  pub trace_is : trace ≡ read_trace stops
  pub reads : ReadsEach layout ids stops

-- The reply to a search that has a criterion: the buckets were looked at, and the page is of all that the search finds there.
pub record IsSelected (layout : Layout) (seen : Seen) (ask : Select) (trace : Trace) (reply : Reply) : Type 0 where
  pub search : Search
  pub page : SearchPage
  pub asks : HaveCriterion ask.queries search.criterion
  pub route_is : IsRouteOf ask.route search.route
  pub trace_is : trace ≡ read_trace search.stops
  pub looks : LooksAtBuckets layout.buckets search.stops
  pub start_is : page.start ≡ ask.start
  pub rows_is : page.rows ≡ ask.rows
  pub shows : ShowsFound layout seen search page
  pub reply_is : reply ≡ select_reply page.found page.start page.docs

-- The slices were shown at one stop of the board.
pub record ShowsBoard (layout : Layout) (trace : Trace) (stop : Stop) : Type 0 where
  pub lock : stop.lock ≡ layout.buckets
  pub made : stop.made ≡ false
  pub trace_is : trace ≡ read_trace (stop ∷ [])

-- A split that was asked for so left this trace, and ended so, by the journals at its stops.
pub record EndsSplit (layout : Layout) (seen : Seen) (shard : List ℕ) (pieces : Pieces) (trace : Trace) (end : SplitEnd) : Type 0 where
  pub cut : Cut
  pub first : Stop
  pub course : Course
  pub cut_is : pieces_of cut ≡ pieces
  pub trace_is : trace ≡ split_trace (board.asked_for shard cut) first course end
  pub answered : IsAnswered layout seen (board.asked_for shard cut) first course end

-- A deletion of the shard left this trace, and ended so, by the board at its stop.
pub record EndsDelete (layout : Layout) (seen : Seen) (shard : List ℕ) (trace : Trace) (end : DeleteEnd) : Type 0 where
  pub first : Stop
  pub course : DeleteCourse
  pub lock : first.lock ≡ layout.buckets
  pub trace_is : trace ≡ delete_trace shard first course end
  pub answered : IsDeleteAnswered layout seen shard first course end

-- the reply to what was asked, with the trace that the request left; a refused request looks at no journal
abbrev pub IsReply : Layout → Seen → Asked → Trace → Reply → Type 0
IsReply layout seen (refused refusal) trace reply = (trace ≡ no_trace) × (reply ≡ refusal_reply refusal)
IsReply layout seen (update asked) trace reply =
    (batch : Batch) × (how : UpdateEnd) × (update_of batch ≡ asked) × EndsBatch layout seen batch trace how
    × (update_answer batch.flags.versions trace.answers how ≡ replied reply)
IsReply layout seen (get id) trace reply =
    (stop : Stop) × ReadsIds layout (id ∷ []) trace (stop ∷ []) × (reply ≡ get_reply (last_write (journal_at seen stop) id))
IsReply layout seen (get_ids ids) trace reply =
    (stops : List Stop) × ReadsIds layout ids trace stops × (length stops ≡ length ids) × (reply ≡ ids_reply (live_writes seen ids stops))
IsReply layout seen (select ask) trace reply =
    ((at : ℕ) × HaveFault ask.queries at × (trace ≡ no_trace) × (reply ≡ refusal_reply (refusals.bad_query at)))
    ⊎ IsSelected layout seen ask trace reply
IsReply layout seen (command status) trace reply =
    (stop : Stop) × ShowsBoard layout trace stop × (reply ≡ status_reply layout seen stop)
IsReply layout seen (command (split shard pieces)) trace reply =
    (end : SplitEnd) × EndsSplit layout seen shard pieces trace end × (split_answer end ≡ replied reply)
IsReply layout seen (command (delete shard)) trace reply =
    (end : DeleteEnd) × EndsDelete layout seen shard trace end × (delete_answer end ≡ replied reply)

-- What stands where memory ran out: of an update the orders that were answered before and its commits, as it ended; of a get the
-- looks at its ids' journals up to there, and of a search those at the buckets; of a command what it came to, which may be that it was
-- done, and nothing of it where its parameters were still read; of a request that looks at no journal nothing.
abbrev pub Stands : Layout → Seen → Asked → Trace → Type 0
Stands layout seen (refused refusal) trace = trace ≡ no_trace
Stands layout seen (update asked) trace =
    (trace ≡ no_trace) ⊎ ((batch : Batch) × (how : UpdateEnd) × (update_of batch ≡ asked) × EndsBatch layout seen batch trace how)
Stands layout seen (get id) trace = (stops : List Stop) × ReadsIds layout (id ∷ []) trace stops
Stands layout seen (get_ids ids) trace = (stops : List Stop) × ReadsIds layout ids trace stops
Stands layout seen (select ask) trace =
    (stops : List Stop) × (count : ℕ) × (count ≤ layout.buckets) × (trace ≡ read_trace stops) × LooksAtBuckets count stops
Stands layout seen (command status) trace = (trace ≡ no_trace) ⊎ ((stop : Stop) × ShowsBoard layout trace stop)
Stands layout seen (command (split shard pieces)) trace =
    (trace ≡ no_trace) ⊎ ((end : SplitEnd) × EndsSplit layout seen shard pieces trace end)
Stands layout seen (command (delete shard)) trace =
    (trace ≡ no_trace) ⊎ ((end : DeleteEnd) × EndsDelete layout seen shard trace end)

-- what was asked was answered by the journals that were seen, at the trace's stops; or memory ran out
abbrev pub IsAnswer : Layout → Seen → Asked → Trace → Answer → Type 0
IsAnswer layout seen asked trace (replied reply) = IsReply layout seen asked trace reply
IsAnswer layout seen asked trace ran_out = Stands layout seen asked trace
