-- What a command to the collection came to, and what it left.
use Rattle.std.specs.Prelude.{◌≡◌, ◌<◌, ◌≤◌, ℕ, List, [], ◌++◌, length, take, Option, Some, None}
use Rattle.std.specs.List.{range_with_len}
use Rattle.sc_reply.specs.Refusals as refusals
use Rattle.sc_admin.specs.Status.{state_name}
use Rattle.sc_admin.specs.Deletes.{DeleteCourse, StopsCores, LeavesBucket, noted_by_delete}
use Rattle.sc_admin.specs.declared.deleting.DeleteEnd.{DeleteEnd}
use Rattle.sc_admin.specs.declared.deleting.DeleteEnd.TheVariants as deletes
use Rattle.sc_board.specs.Splits.{AskedSplit}
use Rattle.sc_cores.specs.Cores.{Outside, CountsGoUp}
use Rattle.sc_seen.specs.Seen.{Layout, Seen, stops_at}
use Rattle.sc_seen.specs.Moments.{view_of}
use Rattle.sc_seen.specs.Batches.{OrderAnswer, down_stops}
use Rattle.sc_seen.specs.declared.stop.Stop.{Stop}
use Rattle.sc_collection.specs.Downs.{NotesDowns}
use Rattle.sc_split.specs.Splits.{SplitMoment, split_moment, Course, HasCause, LeavesBoard, LeavesBuckets, LeavesOutside}
use Rattle.sc_split.specs.declared.end.SplitEnd.{SplitEnd}
use Rattle.sc_split.specs.declared.end.SplitEnd.TheVariants as splits

-- what a request came to that changes the slices of the collection
pub data CommandEnd : Type 0 where
  -- it asked for no such change
  no_command : CommandEnd
  -- a split that was asked for so, by its stop of the board and by how it went from there
  split_ended : AskedSplit → Stop → Course → SplitEnd → CommandEnd
  -- a deletion of the shard of this name, by its stop of the board and by how it went
  delete_ended : List ℕ → Stop → DeleteCourse → DeleteEnd → CommandEnd

-- Of what a command came to and of a request's stops, those of which it is said that the last of each bucket is at the end of what was
-- seen there: all of them.
abbrev pub ended_stops : CommandEnd → List Stop → List Stop
ended_stops no_command stops = stops
ended_stops (split_ended asked first course end) stops = stops
ended_stops (delete_ended shard first course end) stops = stops

-- why a split was refused, as it is told; none where it was done, or memory ran out
abbrev pub split_refusal : SplitEnd → Option refusals.Refusal
split_refusal (splits.Done subs committed) = None
split_refusal splits.UnknownShard = Some refusals.unknown_shard
split_refusal (splits.Running shard) = Some (refusals.running shard)
split_refusal (splits.NotActive state) = Some (refusals.shard_state (state_name state))
split_refusal splits.RangeTooSmall = Some refusals.range_too_small
split_refusal splits.BadRanges = Some refusals.bad_ranges
split_refusal splits.TooManySlices = Some refusals.too_many_slices
split_refusal splits.LogFull = Some refusals.log_full
split_refusal (splits.HostFault core) = Some (refusals.host_fault core)
split_refusal splits.Stopped = Some refusals.stopped
split_refusal splits.Memory = None

-- why a deletion was refused, or which core was not stopped after it, as it is told
abbrev pub delete_refusal : DeleteEnd → Option refusals.Refusal
delete_refusal deletes.Done = None
delete_refusal deletes.UnknownShard = Some refusals.unknown_shard
delete_refusal (deletes.Running shard) = Some (refusals.running shard)
delete_refusal (deletes.NotInactive state) = Some (refusals.shard_state (state_name state))
delete_refusal (deletes.HostFault core) = Some (refusals.host_fault core)
delete_refusal deletes.Memory = None

-- what stands at one moment: what was seen of the collection, and what is outside of it
pub record Situation : Type 0 where
  pub seen : Seen
  pub outside : Outside

-- what stands, by these
abbrev pub situation : Seen → Outside → Situation
situation seen outside = record { seen = seen; outside = outside }

-- the moment of a split at which this stands, with no stop kept
abbrev pub moment_at : Situation → SplitMoment
moment_at now = split_moment (view_of now.seen []) now.outside

-- What these orders left outside: they asked for nodes alone, of the cores that they noted as down the nodes could not be reached, and a
-- request without orders left all as it was.
pub record ReachesFor (layout : Layout) (answers : List OrderAnswer) (old new : Situation) : Type 0 where
  pub rest : new.outside ≡ record old.outside { reach = new.outside.reach }
  pub none : answers ≡ [] → new.outside ≡ old.outside
  pub downs : NotesDowns layout new.seen (down_stops answers) old.outside.reach new.outside.reach

-- Of what was seen, the buckets without a stop stayed, and so did the board where it has none; none of its entries is one's own. All
-- that is outside is as it was, but for the nodes that were asked for.
pub record KeepsRest (layout : Layout) (answers : List OrderAnswer) (stops : List Stop) (old new : Situation) : Type 0 where
  pub stays : (lock : ℕ) → lock < layout.buckets → stops_at lock stops ≡ [] → new.seen.journals lock ≡ old.seen.journals lock
  pub board : stops_at layout.buckets stops ≡ [] → new.seen.board ≡ old.seen.board
  pub board_own : new.seen.own layout.buckets ≡ old.seen.own layout.buckets
  pub reach : ReachesFor layout answers old new

-- What a split left that went so, and why it was answered so.
pub record LeavesSplit (layout : Layout) (first : Stop) (course : Course) (end : SplitEnd) (old new : Situation) : Type 0 where
  pub cause : HasCause layout course (moment_at old) (moment_at new) end
  pub board : LeavesBoard layout first course old.seen new.seen
  pub buckets : LeavesBuckets layout.buckets course old.seen new.seen
  pub outside : LeavesOutside layout.nodes course old.outside new.outside
  pub counts : CountsGoUp old.outside new.outside
  pub no_reach : new.outside.reach ≡ old.outside.reach

-- What a deletion left that went so.
pub record LeavesDelete (layout : Layout) (first : Stop) (course : DeleteCourse) (end : DeleteEnd) (old new : Situation) : Type 0 where
  pub board : new.seen.board ≡ take first.place new.seen.board ++ noted_by_delete course
  pub begins : length old.seen.board ≤ first.place
  pub own : new.seen.own layout.buckets ≡ old.seen.own layout.buckets ++ range_with_len first.place (length (noted_by_delete course))
  pub buckets : (lock : ℕ) → lock < layout.buckets → LeavesBucket course old.seen new.seen lock
  pub outside : StopsCores layout.nodes course old.outside new.outside end
  pub counts : CountsGoUp old.outside new.outside
  pub no_start : new.outside.start_faults ≡ old.outside.start_faults
  pub no_pace : new.outside.stops ≡ old.outside.stops
  pub no_reach : new.outside.reach ≡ old.outside.reach

-- what a request left, by the answers to its orders, by its stops and by what it came to
abbrev pub Leaves : Layout → List OrderAnswer → List Stop → CommandEnd → Situation → Situation → Type 0
Leaves layout answers stops no_command old new = KeepsRest layout answers stops old new
Leaves layout answers stops (split_ended asked first course end) old new = LeavesSplit layout first course end old new
Leaves layout answers stops (delete_ended shard first course end) old new = LeavesDelete layout first course end old new
