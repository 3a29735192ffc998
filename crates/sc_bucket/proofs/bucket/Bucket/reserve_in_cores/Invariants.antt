-- So far each core that a message goes to has room, and nothing else changed but room.
use Rattle.std.proofs.Common.{◌≡◌, All, map, take}
use Rattle.std.specs.List.{AllZip}
use Rattle.sc_bucket.specs.declared.message.Message.{Message}
use Rattle.sc_bucket.specs.Accepting.{IsRoomier, HasMoreAt}
use Rattle.sc_bucket.proofs.bucket.Bucket.reserve_in_cores.Given as goal

abbrev pub invariant-loop-message : goal.invariant-loop-message
invariant-loop-message l = record {
  rest : l.self ≡ record l.initial.self { replicas = l.self.replicas };
  cores : AllZip IsRoomier l.initial.self.replicas l.self.replicas;
  more : All (HasMoreAt l.initial.self.flight.messages l.initial.self.feeds l.self.replicas)
      (map (λ (message : Message). message.core) (take l.message-index l.messages));
}
