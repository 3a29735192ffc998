-- The parts that the code reads are those of the definition.
use Rattle.std.proofs.Common.{◌≡◌, ◌≢◌, ◌+◌, ◌<◌, ◌∷◌, [], length, sym, ap, ◌∙◌, arith}
use Rattle.std.specs.Prelude.{sum_by}
use Rattle.sc_hash.specs.Hash.{murmur3}
use Rattle.sc_router.specs.Parts.{before_mark, after_mark, occurrences, parts, shares, open_bits}
use Rattle.sc_router.specs.Route.{share_bits, route_bits}
use Rattle.sc_router.proofs.MarkLemmas.{before-none, lone_mark, parts-one, parts-two, parts-open, parts-three}
use Rattle.sc_router.proofs.ShareLemmas.{sum-one, open_bits-one}
use Rattle.sc_router.proofs.route.routing_of.Goals as goal

-- an id without `!` is its only part
one_part : (c : goal.In_default) → c.args.id.now ∷ [] ≡ parts c.args.id.now
one_part c = sym (parts-one c.args.id.now (rw c.in_default.is at c.first_part.ensures.rest))

pub returns-in_default-clause-bits : goal.returns-in_default-clause-bits
unfolding route_bits
returns-in_default-clause-bits c =
    let id = c.args.id.now in
    let first = c.first_part.result.0 in
    let all = c.first_part.ensures.part ∙ before-none 33 id (rw c.in_default.is at c.first_part.ensures.rest) in
    sum-one id first.hash (first.whole ∙ ap (λ text. murmur3 text 0) all) (omega arith) ∙ ap (λ id_parts. sum_by share_bits (shares id_parts)) (one_part c)

pub returns-in_default-clause-free : goal.returns-in_default-clause-free
returns-in_default-clause-free c = sym (open_bits-one c.args.id.now) ∙ ap open_bits (one_part c)

-- with one `!` it has two
two_parts : (c : goal.After-routing_of_two) → c.first_part.result.0.text.now ∷ c.first_part-2.result.0.text.now ∷ [] ≡ parts c.args.id.now
two_parts c =
    let id = c.args.id.now in
    let others = c.in-Some.others.now in
    let rest = rw c.in-Some.is at c.first_part.ensures.rest in
    let found = rw c.in-Some.is at c.first_part.ensures.found in
    let none = rw c.in-None.is at c.first_part-2.ensures.rest in
    let e = parts-two id (found ∙ ap (λ n. 1 + n) none) in
    let first = c.first_part.ensures.part in
    let second = c.first_part-2.ensures.part ∙ before-none 33 others none ∙ rest in
    cc (e, first, second)

pub returns-in-None-clause-bits : goal.returns-in-None-clause-bits
unfolding route_bits
returns-in-None-clause-bits c = c.routing_of_two.ensures.bits ∙ ap (λ id_parts. sum_by share_bits (shares id_parts)) (two_parts c)

pub returns-in-None-clause-free : goal.returns-in-None-clause-free
returns-in-None-clause-free c = c.routing_of_two.ensures.free ∙ ap open_bits (two_parts c)

-- and where the other text is a lone `!` too, of which the last is empty
open_parts : (c : goal.After-routing_of_two-in-Some-rest) → c.first_part.result.0.text.now ∷ c.first_part-2.result.0.text.now ∷ [] ≡ parts c.args.id.now
open_parts c =
    let id = c.args.id.now in
    let others = c.in-Some.others.now in
    let rest = rw c.in-Some.is at c.first_part.ensures.rest in
    let found = rw c.in-Some.is at c.first_part.ensures.found in
    let again = rw c.in-Some-rest.is at c.first_part-2.ensures.found in
    let more : 0 < occurrences 33 others = omega (arith, again) in
    let e = parts-open id (found ∙ ap (λ text. 1 + occurrences 33 text) rest) (omega (arith, more, ap (occurrences 33) rest)) (sym (ap length rest) ∙ c.if-others-eq1.true) in
    let first = c.first_part.ensures.part in
    let second = c.first_part-2.ensures.part ∙ ap (before_mark 33) (lone_mark 33 others more c.if-others-eq1.true) in
    cc (e, first, second)

pub returns-in-Some-rest-clause-bits : goal.returns-in-Some-rest-clause-bits
unfolding route_bits
returns-in-Some-rest-clause-bits c = c.routing_of_two-in-Some-rest.ensures.bits ∙ ap (λ id_parts. sum_by share_bits (shares id_parts)) (open_parts c)

pub returns-in-Some-rest-clause-free : goal.returns-in-Some-rest-clause-free
returns-in-Some-rest-clause-free c = c.routing_of_two-in-Some-rest.ensures.free ∙ ap open_bits (open_parts c)

-- any other id has three
three_parts : (c : goal.After-routing_of_three) → c.first_part.result.0.text.now ∷ c.first_part-2.result.0.text.now ∷ c.in-Some-2.last.now ∷ [] ≡ parts c.args.id.now
three_parts c =
    let id = c.args.id.now in
    let others = c.in-Some.others.now in
    let rest = rw c.in-Some.is at c.first_part.ensures.rest in
    let found = rw c.in-Some.is at c.first_part.ensures.found in
    let last = rw c.in-Some-2.is at c.first_part-2.ensures.rest in
    let again = rw c.in-Some-2.is at c.first_part-2.ensures.found in
    let several : length (after_mark 33 id) ≢ 1 = λ e. c.if-others-eq1.false (ap length rest ∙ e) in
    let e = parts-three id (found ∙ ap (λ text. 1 + occurrences 33 text) rest) (omega (arith, again, ap (occurrences 33) rest)) several in
    let first = c.first_part.ensures.part in
    let second = c.first_part-2.ensures.part ∙ ap (before_mark 33) rest in
    let third = last ∙ ap (after_mark 33) rest in
    cc (e, first, second, third)

pub returns-in-Some-2-clause-bits : goal.returns-in-Some-2-clause-bits
unfolding route_bits
returns-in-Some-2-clause-bits c = c.routing_of_three.ensures.bits ∙ ap (λ id_parts. sum_by share_bits (shares id_parts)) (three_parts c)

pub returns-in-Some-2-clause-free : goal.returns-in-Some-2-clause-free
returns-in-Some-2-clause-free c = c.routing_of_three.ensures.free ∙ ap open_bits (three_parts c)
