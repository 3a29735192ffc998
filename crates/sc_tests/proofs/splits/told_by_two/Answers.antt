-- A talk may go to a thread.
use denote.Param.Send.{IsSend, IsSync, sendable}
use denote.RattleType.{RattleType}
use denote.Ref.{NamedLft}
use Rattle.std.proofs.Crossing.{crosses}
use Rattle.sc_server.proofs.CrossingLemmas.{collection_sync, passes_send}
use Rattle.sc_tests.specs.contracts.splits.Talk as Talk
use Rattle.sc_tests.proofs.splits.told_by_two.Goals as goal

talk_send : (κ : NamedLft) (R : RattleType) → IsSync R → IsSend (Talk.the_row κ R)
talk_send κ R r = let a = collection_sync in let b = passes_send in search (crosses, sendable) depth 100 fits 20000

pub join-told-requires-send-F : goal.join-told-requires-send-F
join-told-requires-send-F g c κs within = search (talk_send, crosses, sendable) depth 40
