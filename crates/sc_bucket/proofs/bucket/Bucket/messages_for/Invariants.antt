-- So far each core of the slices that take the write got a message, but the leader and those that are down.
use Rattle.std.proofs.Common.{◌≡◌, length, map, take}
use Rattle.std.specs.Arc.{arc_value}
use Rattle.sc_replicas.specs.Cores.{followers}
use Rattle.sc_bucket.specs.Flight.{sent_of, sent_to}
use Rattle.sc_bucket.proofs.bucket.Bucket.messages_for.Given as goal

abbrev pub invariant-loop-at : goal.invariant-loop-at
invariant-loop-at l =
    map sent_of l.messages.items ≡ sent_to (length l.self.journal.entries) (arc_value l.write)
    (followers (take l.at l.self.map) l.self.replicas (arc_value l.write).hash l.leader)
