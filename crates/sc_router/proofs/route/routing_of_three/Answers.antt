-- Each part's bits stand above those of the parts after it.
use Rattle.std.proofs.Common.{◌+◌, ◌-◌, ◌*◌, ◌/◌, ◌%◌, ◌^◌, ap, ◌∙◌, arith}
use Rattle.std.specs.Prelude.{min}
use Rattle.sc_router.proofs.ShareLemmas.{sum-three, last_bits-three, open_bits-three}
use Rattle.sc_router.proofs.route.routing_of_three.Goals as goal

pub returns-clause-bits : goal.returns-clause-bits
returns-clause-bits c =
    let first = c.key_and_count-first_key.ensures in
    let second = c.key_and_count-second_key.ensures in
    let left = 32 - c.key_and_count-first_key.result.1 in
    let high = c.key_and_count-first_key.result.0 in
    c.joined.ensures
    ∙ ap (λ lower. high / 2 ^ left * 2 ^ left + lower % 2 ^ left) c.joined-lower.ensures
    ∙ sum-three c.args.first.now.text.now c.args.second.now.text.now c.args.last.now _ _ _ _ _ first.count first.most (c.min.ensures ∙ ap (λ asked. min asked left) second.count) first.key (omega arith) second.key c.murmur3.ensures

pub returns-clause-free : goal.returns-clause-free
returns-clause-free c =
    let first = c.key_and_count-first_key.ensures in
    let second = c.key_and_count-second_key.ensures in
    let left = 32 - c.key_and_count-first_key.result.1 in
    c.free_of.ensures
    ∙ open_bits-three c.args.first.now.text.now c.args.second.now.text.now c.args.last.now _ (last_bits-three c.args.first.now.text.now c.args.second.now.text.now c.args.last.now _ _ first.count first.most (c.min.ensures ∙ ap (λ asked. min asked left) second.count))
