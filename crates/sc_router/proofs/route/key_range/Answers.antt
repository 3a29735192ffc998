-- The ends that the code finds are those of the definition, whose laws then hold of them.
use Rattle.std.proofs.Common.{ap, sym, ◌∙◌}
use Rattle.sc_router.specs.Parts.{parts, open_bits}
use Rattle.sc_router.specs.Route.{route_bits}
use Rattle.sc_router.proofs.OpenRouteLemmas.{under_iff, under_ids, least_under-above, greatest_under-above, least_under-all, greatest_under-all, IsWithin-ends}
use Rattle.sc_router.proofs.route.key_range.Goals as goal

pub returns-then-free-eq32-clause-least : goal.returns-then-free-eq32-clause-least
returns-then-free-eq32-clause-least c =
    let free = c.routing_of-bits.ensures.free ∙ ap (λ id. open_bits (parts id)) c.as_bytes.ensures.value in
    least_under-all c.args.route.now c.routing_of-bits.result.free free c.if-free-eq32.true

pub returns-then-free-eq32-clause-greatest : goal.returns-then-free-eq32-clause-greatest
returns-then-free-eq32-clause-greatest c =
    let free = c.routing_of-bits.ensures.free ∙ ap (λ id. open_bits (parts id)) c.as_bytes.ensures.value in
    greatest_under-all c.args.route.now c.routing_of-bits.result.free free c.if-free-eq32.true

pub returns-clause-least : goal.returns-clause-least
returns-clause-least c =
    let bits = c.routing_of-bits.ensures.bits ∙ ap route_bits c.as_bytes.ensures.value in
    let free = c.routing_of-bits.ensures.free ∙ ap (λ id. open_bits (parts id)) c.as_bytes.ensures.value in
    c.range_above.ensures.least ∙ least_under-above c.args.route.now c.routing_of-bits.result.bits c.routing_of-bits.result.free bits free c.if-free-eq32.false

pub returns-clause-greatest : goal.returns-clause-greatest
returns-clause-greatest c =
    let bits = c.routing_of-bits.ensures.bits ∙ ap route_bits c.as_bytes.ensures.value in
    let free = c.routing_of-bits.ensures.free ∙ ap (λ id. open_bits (parts id)) c.as_bytes.ensures.value in
    c.range_above.ensures.greatest ∙ greatest_under-above c.args.route.now c.routing_of-bits.result.bits c.routing_of-bits.result.free bits free c.if-free-eq32.false

pub returns-clause-fixed : goal.returns-clause-fixed
returns-clause-fixed c h signed =
    let least = returns-clause-least c in
    let greatest = returns-clause-greatest c in
    let law = under_iff c.args.route.now h signed in
    (λ w. law.0 (IsWithin-ends _ _ _ _ h (sym least) (sym greatest) w), λ s. IsWithin-ends _ _ _ _ h least greatest (law.1 s))

pub returns-clause-ids : goal.returns-clause-ids
returns-clause-ids c open_end id under = IsWithin-ends _ _ _ _ _ (returns-clause-least c) (returns-clause-greatest c) (under_ids c.args.route.now id open_end under)
