-- Passes may go to a thread, and come back from it.
use denote.Param.Send.{sendable}
use Rattle.std.proofs.Crossing.{crosses}
use Rattle.sc_server.proofs.CrossingLemmas.{collection_sync, passes_send}
use Rattle.sc_tests.proofs.collections.commit_in_two.Goals as goal

pub join-one-requires-send-F : goal.join-one-requires-send-F
join-one-requires-send-F g c κs within = search (collection_sync, passes_send, crosses, sendable) depth 100 fits 20000

pub join-one-requires-send-A : goal.join-one-requires-send-A
join-one-requires-send-A g c κs within = search (passes_send, crosses, sendable) depth 100 fits 20000
