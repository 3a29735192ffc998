-- `meet`: the two splits keep the invariant, and both have then seen the same.
use Rattle.std.proofs.Common.{rules, ap, sym, ◌∙◌, subst}
use Rattle.sc_lock.specs.Journal.{IsLongest, longer}
use Rattle.sc_lock.proofs.lock.Lock.meet.Goals as goal
use Rattle.sc_lock.proofs.PrefixLemmas.{IsLongest-same}
use Rattle.sc_lock.proofs.SeatLemmas.{beside_keeps}

pub split_seat-from_pass-requires : goal.split_seat-from_pass-requires
split_seat-from_pass-requires g c = (search rules, search rules, beside_keeps _ _ _ _ c.requires.pass.1.0)

pub split_seat-from_keeper-requires : goal.split_seat-from_keeper-requires
split_seat-from_keeper-requires g c = (search rules, search rules, beside_keeps _ _ _ _ c.requires.keeper.1.0)

pub returns-clause-same : goal.returns-clause-same
returns-clause-same g c =
    let pass_seen = c.args.pass.now.seat.me.0.seen in
    let keeper_seen = c.args.keeper.now.seat.me.0.seen in
    let of_pass = c.split_seat-from_pass.ensures in
    let of_keeper = c.split_seat-from_keeper.ensures in
    let pass_split = c.split_seat-from_pass.new.seat.me.0.seen in
    let keeper_split = c.split_seat-from_keeper.new.seat.me.0.seen in
    let at_pass = longer pass_split c.split_seat-from_keeper.result.me.0.seen in
    let at_keeper = longer keeper_split c.split_seat-from_pass.result.me.0.seen in
    let here = subst (λ x. IsLongest x keeper_seen at_pass) (ap (λ m. m.0.seen) of_pass.2)
    (subst (λ x. IsLongest pass_split x at_pass) (ap (λ m. m.0.seen) of_keeper.4) c.join_seats.ensures.longest) in
    let there = subst (λ x. IsLongest x pass_seen at_keeper) (ap (λ m. m.0.seen) of_keeper.2)
    (subst (λ x. IsLongest keeper_split x at_keeper) (ap (λ m. m.0.seen) of_pass.4) c.join_seats-2.ensures.longest) in
    ap (λ m. m.0.seen) c.join_seats-2.ensures.view
    ∙ IsLongest-same keeper_seen pass_seen at_keeper at_pass there here
    ∙ sym (ap (λ m. m.0.seen) c.join_seats.ensures.view)
