-- A maker may go to a thread, as its collection, its passes and the texts that it made may.
use denote.Param.Send.{IsSend, IsSync, sendable}
use denote.RattleType.{RattleType}
use denote.Ref.{NamedLft}
use Rattle.std.proofs.Crossing.{crosses}
use Rattle.sc_demo.specs.contracts.maker.Maker as Maker
use Rattle.sc_server.proofs.CrossingLemmas.{collection_sync, passes_send}
use Rattle.sc_values.specs.contracts.text.Text as Text

text_send : IsSend (Text.the_field).row
text_send = search (crosses, sendable) depth 100

pub maker_send : (κ : NamedLft) (R C H P L : RattleType) → IsSync R → IsSend C → IsSend H → IsSend P → IsSend L → IsSend (Maker.the_row κ R C H P L)
maker_send κ R C H P L r c h p l = let a = collection_sync in let b = passes_send in let t = text_send in search (crosses, sendable) depth 100 fits 20000
