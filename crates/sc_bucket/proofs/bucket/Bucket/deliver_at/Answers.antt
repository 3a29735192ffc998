-- The message leaves the flight, and its core receives the write.
use Rattle.sc_bucket.specs.Flight.{sent_of}
use Rattle.std.proofs.Common.{refl}
use Rattle.std.proofs.lemmas.Option.{slice_get_within}
use Rattle.sc_replicas.proofs.CoreLemmas.{core_is_found}
use Rattle.sc_bucket.proofs.DeliverLemmas.{core_is_there, core_has_room, place_of_core, named_at, IsSound-received, Delivers-received}
use Rattle.sc_bucket.proofs.bucket.Bucket.deliver_at.Goals as goal

pub unwrap-core-requires : goal.unwrap-core-requires
unwrap-core-requires c =
    let b = c.args.self.now in
    let message = sent_of c.take-message.result in
    core_is_found b.replicas message.core c.position.result
    (core_is_there b c.args.at message c.requires.sound c.take-message.ensures.taken) c.position.ensures

pub receive-requires-clause-within : goal.receive-requires-clause-within
receive-requires-clause-within c =
    let b = c.args.self.now in
    let (core, there, named) = place_of_core b.replicas c.take-message.result.core c.position.result c.unwrap-core.result c.position.ensures c.unwrap-core.ensures in
    slice_get_within b.replicas c.unwrap-core.result core there

pub receive-requires-clause-room : goal.receive-requires-clause-room
receive-requires-clause-room c core there =
    let b = c.args.self.now in
    let message = sent_of c.take-message.result in
    let (other, found, named) = place_of_core b.replicas message.core c.position.result c.unwrap-core.result c.position.ensures c.unwrap-core.ensures in
    core_has_room b c.args.at message c.unwrap-core.result core c.requires.sound c.take-message.ensures.taken there
    (named_at b.replicas message.core c.unwrap-core.result core other there found named)

pub returns-clause-sound : goal.returns-clause-sound
returns-clause-sound c =
    IsSound-received c.args.self.now c.args.at (sent_of c.take-message.result) c.take-message.new.self c.position.result c.unwrap-core.result
    c.receive.new.self c.requires.sound c.take-message.ensures.taken c.take-message.ensures.left c.position.ensures c.unwrap-core.ensures c.receive.ensures

pub returns-clause-delivered : goal.returns-clause-delivered
returns-clause-delivered c =
    let message = sent_of c.take-message.result in (
      message,
      Delivers-received c.args.self.now c.args.at message c.take-message.new.self c.position.result c.unwrap-core.result
          c.receive.new.self c.requires.sound c.take-message.ensures.taken c.take-message.ensures.left c.position.ensures c.unwrap-core.ensures c.receive.ensures,
      refl,
    )
