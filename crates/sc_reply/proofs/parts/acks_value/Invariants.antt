-- The items that were put are those of the orders before the index.
use Rattle.std.proofs.Common.{◌≡◌, ◌∷◌, [], map, take}
use Rattle.std.specs.List.{flat_map}
use Rattle.serde_json.specs.Data.{string}
use Rattle.serde_json.specs.View.{view}
use Rattle.sc_record.specs.declared.ack.Ack.{Ack}
use Rattle.sc_json.specs.Documents.{whole_number}
use Rattle.sc_reply.proofs.parts.acks_value.Given as goal

abbrev pub invariant-loop-ack : goal.invariant-loop-ack
invariant-loop-ack l = map view l.items.items ≡ flat_map (λ (ack : Ack). string ack.id ∷ whole_number ack.version ∷ []) (take l.ack-index l.acks)
