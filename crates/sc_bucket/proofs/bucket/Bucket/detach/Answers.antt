-- The core is marked, its messages leave the flight, and with the entry that says so the bucket is sound.
use Rattle.std.proofs.lemmas.Option.{slice_get_within}
use Rattle.sc_bucket.specs.Events.{Detaches}
use Rattle.sc_replicas.proofs.CoreLemmas.{core_is_found}
use Rattle.sc_bucket.proofs.DeliverLemmas.{place_of_core}
use Rattle.sc_bucket.proofs.DetachLemmas.{owes_down, with_down, Detaches-marked, IsSound-marked}
use Rattle.sc_bucket.proofs.bucket.Bucket.detach.Goals as goal

pub unwrap-at-requires : goal.unwrap-at-requires
unwrap-at-requires c =
    core_is_found c.args.self.now.replicas c.args.core c.position.result c.requires.can.there c.position.ensures

pub mark_down-requires : goal.mark_down-requires
mark_down-requires c =
    let cores = c.args.self.now.replicas in
    let (core, there, named) = place_of_core cores c.args.core c.position.result c.unwrap-at.result c.position.ensures c.unwrap-at.ensures in
    slice_get_within cores c.unwrap-at.result core there

pub append-requires : goal.append-requires
append-requires c = (owes_down c.args.self.now c.args.core c.requires.sound.journal c.requires.can).1

pub overflow_sub-self : goal.overflow_sub-self
overflow_sub-self c = (owes_down c.args.self.now c.args.core c.requires.sound.journal c.requires.can).0

pub returns-clause-detached : goal.returns-clause-detached
returns-clause-detached c =
    Detaches-marked c.args.self.now c.args.core c.append.new.self c.leave_out.new.self c.mark_down.new.self c.position.result
    c.unwrap-at.result c.requires.sound c.position.ensures c.unwrap-at.ensures c.mark_down.ensures c.leave_out.ensures c.append.ensures

pub returns-clause-sound : goal.returns-clause-sound
returns-clause-sound c =
    let b = c.args.self.now in
    let detaches : Detaches b c.args.core (with_down b c.append.new.self c.leave_out.new.self c.mark_down.new.self) =
    Detaches-marked b c.args.core c.append.new.self c.leave_out.new.self c.mark_down.new.self c.position.result
    c.unwrap-at.result c.requires.sound c.position.ensures c.unwrap-at.ensures c.mark_down.ensures c.leave_out.ensures c.append.ensures in
    IsSound-marked b c.args.core c.append.new.self c.leave_out.new.self c.mark_down.new.self c.requires.sound c.requires.can detaches
    c.append.ensures
