-- The laws are the lemmas on the conditions, one for each event.
use Rattle.sc_keeper.proofs.ConditionLemmas.{begins_by_part, feeds_by_part, starts_replay_by_part, replays_by_part, is_ready_by_part, grows_by_part, switches_by_part, aborts_by_part, drops_by_part, rejoins_by_part, leads_by_part}
use Rattle.sc_keeper.proofs.laws.parts_tell_when_events_may_come.Goals as goal

pub returns : goal.returns
returns c = record {
  begin = begins_by_part;
  feed = feeds_by_part;
  start_replay = starts_replay_by_part;
  replay = replays_by_part;
  ready = is_ready_by_part;
  grow = grows_by_part;
  switch = switches_by_part;
  abort = aborts_by_part;
  drop = drops_by_part;
  rejoin = rejoins_by_part;
  lead = leads_by_part;
}
