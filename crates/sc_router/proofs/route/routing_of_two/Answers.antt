-- The first part's bits stand above the last part's.
use Rattle.std.proofs.Common.{◌∙◌, arith}
use Rattle.sc_router.proofs.ShareLemmas.{sum-two, last_bits-two, open_bits-two}
use Rattle.sc_router.proofs.route.routing_of_two.Goals as goal

pub returns-clause-bits : goal.returns-clause-bits
returns-clause-bits c =
    let first = c.key_and_count-key.ensures in
    c.joined.ensures ∙ sum-two c.args.first.now.text.now c.args.last.now.text.now _ _ _ first.count first.most first.key (omega arith) c.args.last.now.whole

pub returns-clause-free : goal.returns-clause-free
returns-clause-free c =
    let first = c.key_and_count-key.ensures in
    c.free_of.ensures ∙ open_bits-two c.args.first.now.text.now c.args.last.now.text.now _ (last_bits-two c.args.first.now.text.now c.args.last.now.text.now _ first.count first.most)
