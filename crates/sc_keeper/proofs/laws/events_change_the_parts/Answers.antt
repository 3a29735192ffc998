-- The laws are the lemmas on the events, one for each.
use Rattle.sc_keeper.proofs.EventLemmas.{begins_part, feeds_part, starts_replay_of_part, replays_part, gets_part_ready, grows_part, switches_part, aborts_part, drops_part}
use Rattle.sc_keeper.proofs.SeatLemmas.{rejoins_part, leads_part}
use Rattle.sc_keeper.proofs.laws.events_change_the_parts.Goals as goal

pub returns : goal.returns
returns c = record {
  begin = begins_part;
  feed = feeds_part;
  start_replay = starts_replay_of_part;
  replay = replays_part;
  ready = gets_part_ready;
  grow = grows_part;
  switch = switches_part;
  abort = aborts_part;
  drop = drops_part;
  rejoin = rejoins_part;
  lead = leads_part;
}
