-- So far each sub has its leader and its feed.
use Rattle.std.proofs.Common.{◌≡◌, map, take}
use Rattle.std.specs.List.{AllZip}
use Rattle.std.specs.Arc.{arc_value}
use Rattle.sc_replicas.specs.Cores.{without_room}
use Rattle.sc_handover.specs.Made.{first_feed, IsRoomyFor}
use Rattle.sc_handover.proofs.MadeLemmas.{made_core}
use Rattle.sc_handover.proofs.beginning.made.Given as goal

abbrev pub invariant-loop-sub : goal.invariant-loop-sub
invariant-loop-sub l = record {
  cores : map without_room l.cores.items ≡ map made_core (take l.sub-index l.subs);
  feeds : l.feeds.items ≡ map (first_feed (arc_value l.snapshot)) (take l.sub-index l.subs);
  roomy : AllZip IsRoomyFor l.feeds.items l.cores.items;
}
