-- Documents are shown as they were read.
use Rattle.std.proofs.Common.{◌≡◌, ℕ, false, cond, List, [], ◌∷◌, ◌++◌, take, drop, Option, Some, None, Result, Ok, Err, refl, sym, ap, ◌∙◌, subst, inr}
use Rattle.std.specs.Prelude.{◌&&◌, nat_lt, map, filter_map, option_to_list, Contains, IsSome, IfOk, ⊤}
use Rattle.std.specs.Arc.{arc_value}
use Rattle.std.specs.List.{AllByRecursion, cons_option}
use Rattle.std.specs.Option.{option_map}
use Rattle.std.specs.declared.alloc.AllocError.{AllocError}
use Rattle.std.specs.declared.alloc.Global.{Global}
use Rattle.std.specs.declared.sync.Arc.{Arc}
use Rattle.std.proofs.lemmas.List.Elements.{All-take, All-drop, All-contains_itself, All-from_recursion, recursion_from_All}
use Rattle.sc_record.specs.Writes.{Write}
use Rattle.sc_values.specs.declared.field.Field.{Field}
use Rattle.sc_record.specs.declared.ack.Ack.{Ack}
use Rattle.sc_reply.specs.Bodies.{IsLiveOrNone, AreLive, get_text, ids_text, select_text}
use Rattle.sc_eval.specs.Criteria.{criterion_of}
use Rattle.sc_journal.specs.Journal.{write_at, last_write}
use Rattle.sc_seen.specs.Seen.{Layout, Seen, SeesMore, journal_at}
use Rattle.sc_seen.specs.Batches.{ack_made, ack_written}
use Rattle.sc_seen.specs.declared.stop.Stop.{Stop}
use Rattle.sc_get.specs.Got.{IsGot, AreGot, ReadsEach, live, live_at, live_writes}
use Rattle.sc_collection.specs.Looks.{LooksAtBuckets}
use Rattle.sc_fanout.specs.Searches.{Search, SearchPage, SearchesBuckets, ShowsFound, search_of, page_of}
use Rattle.sc_fanout.specs.declared.ask.Ask.{Ask}
use Rattle.sc_fanout.specs.declared.shown.Page.{Page}
use Rattle.sc_session.specs.Queries.{HaveCriterion, IsRouteOf}
use Rattle.sc_session.specs.Requests.{Select, get, get_ids, select}
use Rattle.sc_session.specs.Answers.{Answer, replied, ran_out, IsAnswer, read_trace, ids_reply}
use Rattle.sc_session.specs.Answering.{AnswersOfBuckets, unread, reply_of, answer_of}
use Rattle.sc_session.specs.declared.reply.Reply.{Reply}
use Rattle.sc_seen.specs.Moments.{Moment}
use Rattle.sc_seen.proofs.GoesOnLemmas.{SeesMore-self}

-- what is live is no deletion
pub live_is_live : (last : Option Write) → IsLiveOrNone (live last)
live_is_live None = tt
live_is_live (Some write) = by write.doc where
  by : (doc : Option (List Field)) → IsLiveOrNone (live (Some (record write { doc = doc })))
  by None = tt
  by (Some doc) = refl

-- stops that made no entry made no write
pub unmade : (layout : Layout) (seen : Seen) (stops : List Stop) → AllByRecursion (λ (stop : Stop). stop.made ≡ false) stops → filter_map (ack_made layout seen) stops ≡ []
unmade layout seen [] none = refl
unmade layout seen (stop ∷ stops) none =
    let here : ack_made layout seen stop ≡ None =
    ap (λ b. cond (b && nat_lt stop.lock layout.buckets) (option_map ack_written (write_at (seen.journals stop.lock) stop.place)) None) none.0 in
    ap (λ (ack : Option Ack). cons_option ack (filter_map (ack_made layout seen) stops)) here ∙ unmade layout seen stops none.1

-- the looks of a get at its id's journal, with an answer to it
got_with : (layout : Layout) (id : List ℕ) (old new : Moment ⊤) (found : Result (Option (Arc Write Global)) AllocError) (answer : Answer)
    → (is : IsGot layout old.view new.view id found)
    → ((later : Seen) → SeesMore new.view.seen later → IsAnswer layout later (get id) (read_trace (is.stop ∷ [])) answer)
    → AnswersOfBuckets unread layout (get id) old new answer
got_with layout id old new found answer is answered = record {
  trace = read_trace (is.stop ∷ []);
  keeps = is.keeps;
  given = refl;
  no_command_is = refl;
  no_order_is = refl;
  answered = answered;
  once = λ later more. unmade layout later (is.stop ∷ []) (is.reads.made, tt);
}

-- where memory ran out its look stands
pub got_none : (layout : Layout) (id : List ℕ) (old new : Moment ⊤) (found : Result (Option (Arc Write Global)) AllocError)
    → IsGot layout old.view new.view id found → AnswersOfBuckets unread layout (get id) old new ran_out
got_none layout id old new found is =
    got_with layout id old new found ran_out is (λ later more. (is.stop ∷ [], record { trace_is = refl; reads = (is.reads, tt) }))

-- a get is answered by its id's last write at the stop
pub got : (layout : Layout) (id : List ℕ) (old new : Moment ⊤) (cell : Option (Arc Write Global)) (answer : Result Reply AllocError)
    → IsGot layout old.view new.view id (Ok cell)
    → IfOk answer (λ reply. reply_of reply ≡ record { status = 200; body = get_text (option_map arc_value cell) })
    → AnswersOfBuckets unread layout (get id) old new (answer_of answer)
got layout id old new cell (Err fault) is made = got_none layout id old new (Ok cell) is
got layout id old new cell (Ok reply) is made =
    got_with layout id old new (Ok cell) (replied (reply_of reply)) is (λ later more. (
      is.stop,
      record { trace_is = refl; reads = (is.reads, tt) },
      made ∙ ap (λ (write : Option Write). record { status = 200; body = get_text write }) (is.found_is later more),
    ))

-- what a get shows is no deletion
pub got_live : (layout : Layout) (id : List ℕ) (old new : Moment ⊤) (cell : Option (Arc Write Global))
    → IsGot layout old.view new.view id (Ok cell) → IsLiveOrNone (option_map arc_value cell)
got_live layout id old new cell is =
    subst IsLiveOrNone (sym (is.found_is new.view.seen (SeesMore-self new.view.seen))) (live_is_live (last_write (journal_at new.view.seen is.stop) id))

-- each id was read at a stop that made no entry
reads_unmade : (layout : Layout) (ids : List (List ℕ)) (stops : List Stop) → ReadsEach layout ids stops → AllByRecursion (λ (stop : Stop). stop.made ≡ false) stops
reads_unmade layout ids [] reads = tt
reads_unmade layout [] (stop ∷ stops) reads = absurd reads
reads_unmade layout (id ∷ ids) (stop ∷ stops) reads = (reads.0.made, reads_unmade layout ids stops reads.1)

-- what is live of several ids are no deletions
writes_live : (seen : Seen) (ids : List (List ℕ)) (stops : List Stop) → AreLive (live_writes seen ids stops)
writes_live seen [] stops = tt
writes_live seen (id ∷ ids) [] = tt
writes_live seen (id ∷ ids) (stop ∷ stops) =
    by (live_at seen id stop) (live_is_live (last_write (journal_at seen stop) id)) (writes_live seen ids stops) where
      by : (write : Option Write) → IsLiveOrNone write → AreLive (live_writes seen ids stops) → AreLive (option_to_list write ++ live_writes seen ids stops)
      by None is rest = rest
      by (Some write) is rest = (is, rest)

-- the documents that were got are no deletions
pub are_got_live : (layout : Layout) (ids : List (List ℕ)) (old new : Moment ⊤) (cells : List (Arc Write Global))
    → AreGot layout old.view new.view ids (Ok cells) → AreLive (map arc_value cells)
are_got_live layout ids old new cells are =
    subst AreLive (sym (are.found_are.1 new.view.seen (SeesMore-self new.view.seen))) (writes_live new.view.seen ids are.stops)

-- the looks of a get at its ids' journals, with an answer to it
are_got_with : (layout : Layout) (ids : List (List ℕ)) (old new : Moment ⊤) (found : Result (List (Arc Write Global)) AllocError) (answer : Answer)
    → (are : AreGot layout old.view new.view ids found)
    → ((later : Seen) → SeesMore new.view.seen later → IsAnswer layout later (get_ids ids) (read_trace are.stops) answer)
    → AnswersOfBuckets unread layout (get_ids ids) old new answer
are_got_with layout ids old new found answer are answered = record {
  trace = read_trace are.stops;
  keeps = are.keeps;
  given = refl;
  no_command_is = refl;
  no_order_is = refl;
  answered = answered;
  once = λ later more. unmade layout later are.stops (reads_unmade layout ids are.stops are.reads);
}

-- where memory ran out its looks stand
pub are_got_none : (layout : Layout) (ids : List (List ℕ)) (old new : Moment ⊤) (found : Result (List (Arc Write Global)) AllocError)
    → AreGot layout old.view new.view ids found → AnswersOfBuckets unread layout (get_ids ids) old new ran_out
are_got_none layout ids old new found are =
    are_got_with layout ids old new found ran_out are (λ later more. (are.stops, record { trace_is = refl; reads = are.reads }))

-- a get of several ids is answered by what is live of them at their stops
pub are_got : (layout : Layout) (ids : List (List ℕ)) (old new : Moment ⊤) (cells : List (Arc Write Global)) (body : List ℕ)
    → AreGot layout old.view new.view ids (Ok cells) → body ≡ ids_text (map arc_value cells)
    → AnswersOfBuckets unread layout (get_ids ids) old new (replied (record { status = 200; body = body }))
are_got layout ids old new cells body are is =
    are_got_with layout ids old new (Ok cells) (replied (record { status = 200; body = body })) are (λ later more. (
      are.stops,
      record { trace_is = refl; reads = are.reads },
      are.found_are.0,
      ap (λ (text : List ℕ). record { status = 200; body = text }) is ∙ ap ids_reply (are.found_are.1 later more),
    ))

-- each document of a page is no deletion
shown_live : (layout : Layout) (seen : Seen) (search : Search) (page : SearchPage) → ShowsFound layout seen search page → AreLive page.docs
shown_live layout seen search page shows =
    subst AreLive (sym shows.docs_are)
    (recursion_from_All (λ (write : Write). IsSome write.doc) (take page.rows (drop page.start shows.sorted))
    (All-take (λ (write : Write). IsSome write.doc) page.rows (drop page.start shows.sorted)
    (All-drop (λ (write : Write). IsSome write.doc) page.start shows.sorted
    (All-from_recursion (λ (write : Write). IsSome write.doc) shows.sorted
    (each shows.sorted (recursion_from_All (Contains shows.sorted) shows.sorted (All-contains_itself shows.sorted)))))))
  where
    each : (writes : List Write) → AllByRecursion (Contains shows.sorted) writes → AllByRecursion (λ (write : Write). IsSome write.doc) writes
    each [] all = tt
    each (write ∷ writes) all = (let is = (shows.are_found.exactly write).0 all.0 in is.2.shown.live, each writes all.1)

-- the page of a search shows no deletion
pub page_live : (layout : Layout) (old new : Moment ⊤) (ask : Ask) (page : Page)
    → SearchesBuckets layout old.view new.view ask (Ok page) → AreLive (map arc_value page.docs)
page_live layout old new ask page is =
    shown_live layout new.view.seen (search_of ask is.stops) (page_of ask page) (is.shows.1 new.view.seen (SeesMore-self new.view.seen))

-- the looks of a search at the buckets, with an answer to it
searched_with : (layout : Layout) (ask : Select) (made : Ask) (old new : Moment ⊤) (found : Result Page AllocError) (answer : Answer)
    → (is : SearchesBuckets layout old.view new.view made found)
    → ((later : Seen) → SeesMore new.view.seen later → IsAnswer layout later (select ask) (read_trace is.stops) answer)
    → AnswersOfBuckets unread layout (select ask) old new answer
searched_with layout ask made old new found answer is answered = record {
  trace = read_trace is.stops;
  keeps = is.keeps;
  given = refl;
  no_command_is = refl;
  no_order_is = refl;
  answered = answered;
  once = λ later more. unmade layout later is.stops (recursion_from_All (λ (stop : Stop). stop.made ≡ false) is.stops is.looks.made);
}

-- where memory ran out its looks stand
pub searched_none : (layout : Layout) (ask : Select) (made : Ask) (old new : Moment ⊤) (found : Result Page AllocError)
    → SearchesBuckets layout old.view new.view made found → AnswersOfBuckets unread layout (select ask) old new ran_out
searched_none layout ask made old new found is =
    searched_with layout ask made old new found ran_out is (λ later more. (is.stops, is.count, is.few, refl, is.looks))

-- a search is answered by what its criterion finds in the buckets at their stops
pub searched : (layout : Layout) (ask : Select) (made : Ask) (old new : Moment ⊤) (page : Page) (body : List ℕ)
    → HaveCriterion ask.queries (criterion_of made.query) → IsRouteOf ask.route made.route → made.start ≡ ask.start → made.rows ≡ ask.rows
    → SearchesBuckets layout old.view new.view made (Ok page) → body ≡ select_text page.found ask.start (map arc_value page.docs)
    → AnswersOfBuckets unread layout (select ask) old new (replied (record { status = 200; body = body }))
searched layout ask made old new page body asks route start rows is text =
    searched_with layout ask made old new (Ok page) (replied (record { status = 200; body = body })) is (λ later more. inr (record {
      search = search_of made is.stops;
      page = page_of made page;
      asks = asks;
      route_is = route;
      trace_is = refl;
      looks = subst (λ n. LooksAtBuckets n is.stops) is.shows.0 is.looks;
      start_is = start;
      rows_is = rows;
      shows = is.shows.1 later more;
      reply_is = ap (λ (t : List ℕ). record { status = 200; body = t }) (text ∙ ap (λ n. select_text page.found n (map arc_value page.docs)) (sym start));
    }))
