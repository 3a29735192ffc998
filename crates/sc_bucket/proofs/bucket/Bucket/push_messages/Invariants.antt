-- So far the cores of the slice that are not down, but the leader, got a message each.
use Rattle.std.proofs.Common.{◌≡◌, ◌++◌, length, map, filter, take}
use Rattle.std.specs.Arc.{arc_value}
use Rattle.sc_replica.specs.Core.{Core}
use Rattle.sc_replicas.specs.Cores.{follows}
use Rattle.sc_bucket.specs.Flight.{sent_of, sent_to}
use Rattle.sc_bucket.proofs.bucket.Bucket.push_messages.Given as goal

abbrev pub invariant-loop-at : goal.invariant-loop-at
invariant-loop-at l =
    map sent_of l.messages.items ≡ map sent_of l.initial.messages.items
    ++ sent_to (length l.self.journal.entries) (arc_value l.write)
    (map (λ (core : Core). core.core) (filter (follows l.leader l.slice) (take l.at l.self.replicas)))
