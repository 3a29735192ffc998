-- Both cores are found, and with them in their new seats the bucket is sound.
use Rattle.std.proofs.Common.{arith}
use Rattle.std.proofs.lemmas.Option.{slice_get_within}
use Rattle.sc_ulog.specs.declared.mode.Mode.TheVariants.{Active}
use Rattle.sc_bucket.proofs.DeliverLemmas.{place_of_core}
use Rattle.sc_handover.proofs.MadeLemmas.{leader_named}
use Rattle.sc_handover.proofs.LeadLemmas.{core_is_found, leader_of_follower_is_found, place_of_leader}
use Rattle.sc_handover.proofs.SeatedLemmas.{may_change_seats}
use Rattle.sc_handover.proofs.SeatsLemmas.{owes_led, IsSound-led, IsLedWhole-led, ChangesSeats-led, left_to_others, exchanged_seats}
use Rattle.sc_handover.proofs.leading.change_seats.Goals as goal

pub unwrap-first-requires : goal.unwrap-first-requires
unwrap-first-requires c =
    leader_of_follower_is_found c.args.bucket.now c.args.core _ c.position.result c.requires.sound c.requires.can.follower
    (leader_named c.args.core.slice c.leader-leader.result c.leader-leader.ensures.slice c.leader-leader.ensures.first) c.position.ensures

pub unwrap-second-requires : goal.unwrap-second-requires
unwrap-second-requires c =
    core_is_found c.args.bucket.now c.args.core Active c.position-2.result c.requires.can.active c.position-2.ensures

pub exchange-requires-clause-first : goal.exchange-requires-clause-first
exchange-requires-clause-first c =
    place_of_leader c.args.bucket.now c.args.core _ c.position.result c.unwrap-first.result
    (leader_named c.args.core.slice c.leader-leader.result c.leader-leader.ensures.slice c.leader-leader.ensures.first) c.position.ensures
    c.unwrap-first.ensures

pub exchange-requires-clause-second : goal.exchange-requires-clause-second
exchange-requires-clause-second c =
    let b = c.args.bucket.now in
    let (core, there, named) = place_of_core b.replicas c.args.core c.position-2.result c.unwrap-second.result c.position-2.ensures c.unwrap-second.ensures in
    slice_get_within b.replicas c.unwrap-second.result core there

pub overflow_sub-bucket : goal.overflow_sub-bucket
overflow_sub-bucket c = (owes_led c.args.bucket.now c.args.core c.requires.sound c.requires.can).0

pub append-requires : goal.append-requires
append-requires c =
    let owes = owes_led c.args.bucket.now c.args.core c.requires.sound c.requires.can in
    omega (arith, owes.1)

pub returns-clause-sound : goal.returns-clause-sound
returns-clause-sound c =
    let b = c.args.bucket.now in
    let (leader, core, may, named) =
    may_change_seats b c.args.core _ c.position.result c.position-2.result c.unwrap-first.result c.unwrap-second.result c.requires.sound
    c.requires.can c.requires.delivered (leader_named c.args.core.slice c.leader-leader.result c.leader-leader.ensures.slice c.leader-leader.ensures.first)
    c.position.ensures c.unwrap-first.ensures c.position-2.ensures c.unwrap-second.ensures in
    IsSound-led b c.args.core c.unwrap-first.result c.unwrap-second.result leader core c.append.new.self c.leave_out.new.self
    c.exchange.new.self may c.append.ensures (left_to_others b leader.core _ c.leave_out.new.self named c.leave_out.ensures)
    (exchanged_seats b c.args.core _ _ leader core c.exchange.new.self may.core_at
    (c.exchange.ensures leader core may.leader_there may.core_at.found))

pub returns-clause-changed : goal.returns-clause-changed
returns-clause-changed c =
    let b = c.args.bucket.now in
    let (leader, core, may, named) =
    may_change_seats b c.args.core _ c.position.result c.position-2.result c.unwrap-first.result c.unwrap-second.result c.requires.sound
    c.requires.can c.requires.delivered (leader_named c.args.core.slice c.leader-leader.result c.leader-leader.ensures.slice c.leader-leader.ensures.first)
    c.position.ensures c.unwrap-first.ensures c.position-2.ensures c.unwrap-second.ensures in
    ChangesSeats-led b c.args.core c.unwrap-first.result c.unwrap-second.result leader core c.append.new.self c.leave_out.new.self
    c.exchange.new.self may c.append.ensures (left_to_others b leader.core _ c.leave_out.new.self named c.leave_out.ensures)
    (exchanged_seats b c.args.core _ _ leader core c.exchange.new.self may.core_at
    (c.exchange.ensures leader core may.leader_there may.core_at.found))

pub returns-clause-whole : goal.returns-clause-whole
returns-clause-whole c =
    let b = c.args.bucket.now in
    let (leader, core, may, named) =
    may_change_seats b c.args.core _ c.position.result c.position-2.result c.unwrap-first.result c.unwrap-second.result c.requires.sound
    c.requires.can c.requires.delivered (leader_named c.args.core.slice c.leader-leader.result c.leader-leader.ensures.slice c.leader-leader.ensures.first)
    c.position.ensures c.unwrap-first.ensures c.position-2.ensures c.unwrap-second.ensures in
    IsLedWhole-led b c.args.core c.unwrap-first.result c.unwrap-second.result leader core c.append.new.self c.leave_out.new.self
    c.exchange.new.self may c.append.ensures (left_to_others b leader.core _ c.leave_out.new.self named c.leave_out.ensures)
    (exchanged_seats b c.args.core _ _ leader core c.exchange.new.self may.core_at
    (c.exchange.ensures leader core may.leader_there may.core_at.found))
