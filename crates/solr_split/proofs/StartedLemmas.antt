-- Once a connection was served, the cores that are started are those of the board's map, where they were so before it.
use Rattle.std.proofs.Common.{◌≡◌, inl, inr, ◌∙◌, ℕ, ◌≤◌, true, false, List, [], ◌∷◌, ◌++◌, take, Contains, refl, sym, ap, subst, arith}
use Rattle.std.specs.Prelude.{⊤}
use Rattle.std.proofs.lemmas.List.{append-nil, append_cancel_right}
use mathlib.Core.List.{IsPrefix}
use Rattle.sc_cluster.specs.declared.slice.Slice.{Slice}
use Rattle.sc_cluster.specs.Map.{IsMap}
use Rattle.sc_cluster.specs.Plans.{IsPlan}
use Rattle.sc_cluster.specs.Changes.{Change, after}
use Rattle.sc_cores.specs.Cores.{Outside}
use Rattle.sc_cores.proofs.ChangeLemmas.{cores_done}
use Rattle.sc_seen.specs.declared.board.BoardEntry.{BoardEntry}
use Rattle.sc_seen.specs.declared.board.BoardEntry.TheVariants as board
use Rattle.sc_seen.specs.declared.stop.Stop.{Stop}
use Rattle.sc_seen.specs.Batches.{OrderAnswer}
use Rattle.sc_seen.specs.Board.{board_map, IsLegalBoard}
use Rattle.sc_seen.specs.Seen.{Layout, Seen}
use Rattle.sc_seen.proofs.BoardLemmas.{board_map-append, board_map-push, IsLegalBoard-prefix, board_is_map, failed_leaves_the_map}
use Rattle.sc_seen.proofs.ExtendsLemmas.{IsPrefix-self, IsPrefix-then}
use Rattle.sc_seen.proofs.GoesOnLemmas.{SeesMore-self}
use Rattle.sc_board.proofs.NamedLemmas.{named_there}
use Rattle.sc_collection.proofs.RestLemmas.{SeesNothing}
use Rattle.sc_split.specs.Splits.{refused, given_up, done, noted_by}
use Rattle.sc_admin.specs.Commands as commands
use Rattle.sc_admin.specs.Deletes as deletes
use Rattle.sc_admin.specs.declared.deleting.DeleteEnd.{DeleteEnd}
use Rattle.sc_admin.specs.declared.deleting.DeleteEnd.TheVariants as ends
use Rattle.sc_session.specs.Answers.{Answer, replied, ran_out, Trace, IsAnswer}
use Rattle.sc_session.specs.Requests.{Asked, refused as refused_request, update, get, get_ids, select, command, asked}
use Rattle.sc_session.specs.Commands.{CommandEnd, no_command, split_ended, delete_ended, Situation, Leaves}
use Rattle.sc_session.specs.Connection.{Exchange, AreExchanges, LeaveRest, situation_after, situation_passed, exchanges_of}
use Rattle.sc_session.specs.States.{ConnectionState, world_of, situation_in}
use Rattle.sc_session.specs.Served.{IsServed}
use Rattle.sc_session.specs.declared.end.End.{End}
use Rattle.solr_split.specs.Running.{AreStarted}
use Rattle.solr_split.proofs.RestLemmas.{OwnsAll, OwnsSeen, owned_before, owned_passed, seen_after, seen_passed, owned_before_all, owns_nothing, noted_of, board_after_request}
use Rattle.solr_split.proofs.MapCoreLemmas.{given_up_leaves, done_adds, dropped_leaves}

-- the cores that are started are those of the board's map
abbrev HostTheMap : Layout → Situation → Type 0
HostTheMap layout now = AreStarted layout.nodes (board_map layout.first now.seen.board) now.outside

-- ---- the slice that a deletion dropped
-- a deletion that dropped a slice says so on the board
abbrev SaysWhatItDropped : Layout → Seen → CommandEnd → Type 0
SaysWhatItDropped layout seen (delete_ended shard first (deletes.dropped slice) end) = deletes.IsDroppedOnBoard layout seen shard first slice
SaysWhatItDropped layout seen _ = ⊤

-- where no command left the trace
by_no_command : (layout : Layout) (seen : Seen) (end : CommandEnd) → end ≡ no_command → SaysWhatItDropped layout seen end
by_no_command layout seen end is = subst (SaysWhatItDropped layout seen) (sym is) tt

-- where a deletion did
by_delete : (layout : Layout) (seen : Seen) (shard : List ℕ) (first : Stop) (course : deletes.DeleteCourse) (end : DeleteEnd)
    → deletes.IsDeleteAnswered layout seen shard first course end → SaysWhatItDropped layout seen (delete_ended shard first course end)
by_delete layout seen shard first deletes.kept end answered = tt
by_delete layout seen shard first (deletes.dropped slice) end answered = answered

-- what was answered says so
says_by_reply : (layout : Layout) (seen : Seen) (ask : Asked) (trace : Trace) (answer : Answer) → IsAnswer layout seen ask trace answer
    → SaysWhatItDropped layout seen trace.command
says_by_reply layout seen (refused_request refusal) trace (replied reply) is = by_no_command layout seen trace.command (ap (λ (t : Trace). t.command) is.0)
says_by_reply layout seen (update batch) trace (replied reply) (one, how, is_batch, ends_so, answered) =
    by_no_command layout seen trace.command ends_so.command_is
says_by_reply layout seen (get id) trace (replied reply) (stop, reads, rest) =
    by_no_command layout seen trace.command (ap (λ (t : Trace). t.command) reads.trace_is)
says_by_reply layout seen (get_ids ids) trace (replied reply) (stops, reads, each, rest) =
    by_no_command layout seen trace.command (ap (λ (t : Trace). t.command) reads.trace_is)
says_by_reply layout seen (select ask) trace (replied reply) (inl (at, fault, is, rest)) =
    by_no_command layout seen trace.command (ap (λ (t : Trace). t.command) is)
says_by_reply layout seen (select ask) trace (replied reply) (inr selected) =
    by_no_command layout seen trace.command (ap (λ (t : Trace). t.command) selected.trace_is)
says_by_reply layout seen (command commands.status) trace (replied reply) (stop, shows, rest) =
    by_no_command layout seen trace.command (ap (λ (t : Trace). t.command) shows.trace_is)
says_by_reply layout seen (command (commands.split shard pieces)) trace (replied reply) (end, split, rest) =
    subst (λ (t : Trace). SaysWhatItDropped layout seen t.command) (sym split.trace_is) tt
says_by_reply layout seen (command (commands.delete shard)) trace (replied reply) (end, delete, rest) =
    subst (λ (t : Trace). SaysWhatItDropped layout seen t.command) (sym delete.trace_is)
    (by_delete layout seen shard delete.first delete.course end delete.answered)
says_by_reply layout seen (refused_request refusal) trace ran_out is = by_no_command layout seen trace.command (ap (λ (t : Trace). t.command) is)
says_by_reply layout seen (update batch) trace ran_out (inl is) = by_no_command layout seen trace.command (ap (λ (t : Trace). t.command) is)
says_by_reply layout seen (update batch) trace ran_out (inr (one, how, is_batch, ends_so)) =
    by_no_command layout seen trace.command ends_so.command_is
says_by_reply layout seen (get id) trace ran_out (stops, reads) =
    by_no_command layout seen trace.command (ap (λ (t : Trace). t.command) reads.trace_is)
says_by_reply layout seen (get_ids ids) trace ran_out (stops, reads) =
    by_no_command layout seen trace.command (ap (λ (t : Trace). t.command) reads.trace_is)
says_by_reply layout seen (select ask) trace ran_out (stops, count, few, is, looks) =
    by_no_command layout seen trace.command (ap (λ (t : Trace). t.command) is)
says_by_reply layout seen (command commands.status) trace ran_out (inl is) =
    by_no_command layout seen trace.command (ap (λ (t : Trace). t.command) is)
says_by_reply layout seen (command commands.status) trace ran_out (inr (stop, shows)) =
    by_no_command layout seen trace.command (ap (λ (t : Trace). t.command) shows.trace_is)
says_by_reply layout seen (command (commands.split shard pieces)) trace ran_out (inl is) =
    by_no_command layout seen trace.command (ap (λ (t : Trace). t.command) is)
says_by_reply layout seen (command (commands.split shard pieces)) trace ran_out (inr (end, split)) =
    subst (λ (t : Trace). SaysWhatItDropped layout seen t.command) (sym split.trace_is) tt
says_by_reply layout seen (command (commands.delete shard)) trace ran_out (inl is) =
    by_no_command layout seen trace.command (ap (λ (t : Trace). t.command) is)
says_by_reply layout seen (command (commands.delete shard)) trace ran_out (inr (end, delete)) =
    subst (λ (t : Trace). SaysWhatItDropped layout seen t.command) (sym delete.trace_is)
    (by_delete layout seen shard delete.first delete.course end delete.answered)

-- ---- one request
-- where the board and the cores that are started stayed, so did this
stays : (layout : Layout) (old new : Situation) → new.seen.board ≡ old.seen.board → new.outside.started ≡ old.outside.started → HostTheMap layout old → HostTheMap layout new
stays layout old new same started was =
    let (cores, are, those) = subst (λ (entries : List BoardEntry). AreStarted layout.nodes (board_map layout.first entries) old.outside) (sym same) was in
    (cores, started ∙ are, those)

-- where the map is this one, it is the board's
on_board : (layout : Layout) (new : Situation) (slices : List Slice) → board_map layout.first new.seen.board ≡ slices
    → AreStarted layout.nodes slices new.outside → HostTheMap layout new
on_board layout new slices is started = subst (λ (s : List Slice). AreStarted layout.nodes s new.outside) (sym is) started

-- after a request the cores are still those of the map, unless stopping one failed
after_request : (layout : Layout) (answered : List OrderAnswer) (stops : List Stop) (end : CommandEnd) (old new : Situation)
    → Leaves layout answered stops end old new
    → new.seen.board ≡ old.seen.board ++ noted_of end → IsMap layout.first → IsLegalBoard layout.first new.seen.board
    → SaysWhatItDropped layout new.seen end → new.outside.stop_faults ≡ old.outside.stop_faults → HostTheMap layout old → HostTheMap layout new
after_request layout answered stops no_command old new leaves is is_map legal says steady was =
    stays layout old new (is ∙ append-nil old.seen.board) (ap (λ (o : Outside). o.started) leaves.reach.rest) was
after_request layout answered stops (split_ended asked first refused end) old new leaves is is_map legal says steady was =
    stays layout old new (is ∙ append-nil old.seen.board) (ap (λ (o : Outside). o.started) leaves.outside) was
after_request layout answered stops (split_ended asked first (given_up plan true count) end) old new leaves is is_map legal says steady was =
    let slices = board_map layout.first old.seen.board in
    let may : IsPlan slices plan.parent plan.subs =
    legal old.seen.board (board.Begun plan) (board.Recovering plan.parent ∷ board.Failed plan.parent ∷ []) is in
    on_board layout new slices (ap (board_map layout.first) is ∙ (failed_leaves_the_map layout.first old.seen.board plan may).1)
    (given_up_leaves layout.nodes slices plan count old.outside new.outside may leaves.outside steady was)
after_request layout answered stops (split_ended asked first (given_up plan false count) end) old new leaves is is_map legal says steady was =
    let slices = board_map layout.first old.seen.board in
    let may : IsPlan slices plan.parent plan.subs = legal old.seen.board (board.Begun plan) (board.Failed plan.parent ∷ []) is in
    on_board layout new slices (ap (board_map layout.first) is ∙ (failed_leaves_the_map layout.first old.seen.board plan may).0)
    (given_up_leaves layout.nodes slices plan count old.outside new.outside may leaves.outside steady was)
after_request layout answered stops (split_ended asked first (done plan answers) end) old new leaves is is_map legal says steady was =
    let slices = board_map layout.first old.seen.board in
    let later : List Slice =
    after (after (after slices (Change.Begun plan.parent plan.subs)) (Change.Recovering plan.parent)) (Change.Switched plan.parent) in
    on_board layout new later (ap (board_map layout.first) is ∙ board_map-append layout.first old.seen.board (noted_by (done plan answers)))
    (done_adds layout.nodes slices later plan old.outside new.outside leaves.outside (cores_done layout.nodes slices plan.parent plan.subs) was)
after_request layout answered stops (delete_ended shard first deletes.kept end) old new leaves is is_map legal says steady was =
    stays layout old new (is ∙ append-nil old.seen.board) (ap (λ (o : Outside). o.started) leaves.outside) was
after_request layout answered stops (delete_ended shard first (deletes.dropped slice) ends.Done) old new leaves is is_map legal says steady was =
    let entries = old.seen.board in
    let noted : List BoardEntry = board.Dropped slice.id ∷ [] in
    let slices = board_map layout.first entries in
    let legal_before = IsLegalBoard-prefix layout.first entries noted (subst (IsLegalBoard layout.first) is legal) in
    let held : take first.place new.seen.board ≡ entries =
    append_cancel_right (take first.place new.seen.board) entries noted (sym leaves.board ∙ is) in
    let (one, named, same) = says.named in
    let there : Contains (board_map layout.first (take first.place new.seen.board)) slice =
    subst (Contains (board_map layout.first (take first.place new.seen.board))) same
    (named_there (board_map layout.first (take first.place new.seen.board)) shard one named) in
    let inside : Contains slices slice = subst (λ (held : List BoardEntry). Contains (board_map layout.first held) slice) held there in
    on_board layout new (after slices (Change.Dropped slice.id))
    (ap (board_map layout.first) is ∙ board_map-push layout.first entries (board.Dropped slice.id))
    (dropped_leaves layout.nodes slices slice old.outside new.outside (board_is_map layout.first entries is_map legal_before) inside
    leaves.outside.1 was)
after_request layout answered stops (delete_ended shard first (deletes.dropped slice) (ends.HostFault core)) old new leaves is is_map legal says steady was =
    absurd (omega (arith, leaves.outside.0))
after_request layout answered stops (delete_ended shard first (deletes.dropped slice) ends.UnknownShard) old new leaves is is_map legal says steady was =
    absurd leaves.outside
after_request layout answered stops (delete_ended shard first (deletes.dropped slice) (ends.Running other)) old new leaves is is_map legal says steady was =
    absurd leaves.outside
after_request layout answered stops (delete_ended shard first (deletes.dropped slice) (ends.NotInactive state)) old new leaves is is_map legal says steady was =
    absurd leaves.outside
after_request layout answered stops (delete_ended shard first (deletes.dropped slice) ends.Memory) old new leaves is is_map legal says steady was =
    absurd leaves.outside

-- ---- all of a connection
-- the board goes on
boards_go_on : (layout : Layout) (old new : Seen) (exchanges : List Exchange) → AreExchanges layout old exchanges new → IsPrefix old.board new.board
boards_go_on layout old new [] each = subst (λ (s : Seen). IsPrefix old.board s.board) (sym each) (IsPrefix-self old.board)
boards_go_on layout old new (x ∷ exchanges) each =
    IsPrefix-then old.board x.seen.board new.board each.0.extends.board
    (subst (λ (entries : List BoardEntry). IsPrefix entries new.board) each.0.met.board (boards_go_on layout x.passed new exchanges each.1))

-- no request makes the count of stops that failed less
count_after_request : (layout : Layout) (answered : List OrderAnswer) (stops : List Stop) (end : CommandEnd) (old new : Situation)
    → Leaves layout answered stops end old new
    → old.outside.stop_faults ≤ new.outside.stop_faults
count_after_request layout answered stops no_command old new leaves = omega (arith, ap (λ (o : Outside). o.stop_faults) leaves.reach.rest)
count_after_request layout answered stops (split_ended asked first course end) old new leaves = leaves.counts.stopping
count_after_request layout answered stops (delete_ended shard first course end) old new leaves = leaves.counts.stopping

count_after_all : (layout : Layout) (old new : Situation) (exchanges : List Exchange) → LeaveRest layout old exchanges new
    → old.outside.stop_faults ≤ new.outside.stop_faults
count_after_all layout old new [] rest = omega (arith, ap (λ (s : Situation). s.outside.stop_faults) rest)
count_after_all layout old new (x ∷ exchanges) rest =
    let first : old.outside.stop_faults ≤ x.outside.stop_faults =
    count_after_request layout x.trace.answers x.trace.stops x.trace.command old (situation_after x) rest.0 in
    let others : x.outside.stop_faults ≤ new.outside.stop_faults = count_after_all layout (situation_passed x) new exchanges rest.1 in
    omega (arith, first, others)

-- after exchanges the cores are still those of the map, unless stopping one failed
after_all_exchanges : (layout : Layout) (old new : Situation) (exchanges : List Exchange) → AreExchanges layout old.seen exchanges new.seen
    → LeaveRest layout old exchanges new → OwnsSeen layout old.seen → OwnsAll layout new.seen → IsMap layout.first
    → IsLegalBoard layout.first new.seen.board → new.outside.stop_faults ≡ old.outside.stop_faults → HostTheMap layout old → HostTheMap layout new
after_all_exchanges layout old new [] each rest within owns is_map legal steady was = subst (HostTheMap layout) (sym rest) was
after_all_exchanges layout old new (x ∷ exchanges) each rest within owns is_map legal steady was =
    let next : Situation = situation_after x in
    let extends = each.0.extends in
    let within_x = seen_after layout old.seen x.seen x.trace.stops extends within in
    let within_passed = seen_passed layout x.seen x.passed each.0.met within_x in
    let owned_x = owned_passed layout x.seen x.passed each.0.met (owned_before_all layout x.passed new.seen exchanges each.1 within_passed owns) in
    let owned = owned_before layout old.seen x.seen x.trace.stops extends within owned_x in
    let is = board_after_request layout x.trace.answers x.trace.stops x.trace.command old next rest.0 extends.board owned owned_x in
    let later : IsPrefix x.seen.board new.seen.board =
    subst (λ (entries : List BoardEntry). IsPrefix entries new.seen.board) each.0.met.board (boards_go_on layout x.passed new.seen exchanges each.1) in
    let legal_x = IsLegalBoard-prefix layout.first x.seen.board later.0 (subst (IsLegalBoard layout.first) (sym later.1) legal) in
    let up : old.outside.stop_faults ≤ x.outside.stop_faults = count_after_request layout x.trace.answers x.trace.stops x.trace.command old next rest.0 in
    let more : x.outside.stop_faults ≤ new.outside.stop_faults = count_after_all layout (situation_passed x) new exchanges rest.1 in
    let steady_x : x.outside.stop_faults ≡ old.outside.stop_faults = omega (arith, up, more, steady) in
    let steady_on : new.outside.stop_faults ≡ x.outside.stop_faults = omega (arith, up, more, steady) in
    let says = says_by_reply layout x.seen (asked x.request) x.trace x.answer (each.0.answered x.seen (SeesMore-self x.seen)) in
    after_all_exchanges layout (situation_passed x) new exchanges each.1 rest.1 within_passed owns is_map legal steady_on
    (stays layout next (situation_passed x) each.0.met.board refl
    (after_request layout x.trace.answers x.trace.stops x.trace.command old next rest.0 is is_map legal_x says steady_x was))

-- after a connection over a collection in which nothing had happened, the cores that are started are those of the board's map, where they
-- were those of the first before, all entries of the board are one's own, and stopping one never failed
pub started_after_connection : {C : Type 0} (gives : C → ℕ → C → Type 0) (layout : Layout) (before after : ConnectionState C) (end : End)
    → IsServed gives layout before after end → SeesNothing before.moment.view.seen → OwnsAll layout after.moment.view.seen
    → IsMap layout.first → after.outside.stop_faults ≡ before.outside.stop_faults → AreStarted layout.nodes layout.first before.outside
    → AreStarted layout.nodes (board_map layout.first after.moment.view.seen.board) after.outside
started_after_connection gives layout before after end served nothing owns is_map steady was =
    let old : Situation = situation_in (world_of before) in
    let new : Situation = situation_in (world_of after) in
    let started : HostTheMap layout old =
    subst (λ (entries : List BoardEntry). AreStarted layout.nodes (board_map layout.first entries) before.outside) (sym nothing.board) was in
    after_all_exchanges layout old new (served.exchanges ++ exchanges_of served.last) served.traces.each served.traces.rest
    (owns_nothing layout old.seen nothing) owns is_map served.legal.board steady started
