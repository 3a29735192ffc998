-- The pieces of the message in their order.
use Rattle.std.proofs.Common.{◌∙◌, ◌≡◌, to_z, of_z, w64}
use Rattle.std.proofs.lemmas.Int.{to_z-of_z}
use Rattle.sc_reply.proofs.cause.conflict.Goals as goal

pub returns : goal.returns
returns c =
    let expected : to_z w64 (of_z w64 c.args.expected) ≡ c.args.expected = to_z-of_z w64 c.args.expected c.ranges.expected in
    let actual : to_z w64 (of_z w64 c.args.actual) ≡ c.args.actual = to_z-of_z w64 c.args.actual c.ranges.actual in
    c.in_ok-from_string.ensures ∙ c.in_ok-message.ensures.ok ∙ rw (expected, actual)
