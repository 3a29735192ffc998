-- The bucket was the only one, and none is left.
use Rattle.std.proofs.Common.{◌≤◌, length, Option, slice_get, ◌∙◌, sym, subst, arith}
use Rattle.std.specs.Prelude.{IsSome}
use Rattle.sc_bucket.specs.declared.bucket.Bucket.{Bucket}
use Rattle.sc_collection.proofs.SlotLemmas.{first_is_there, last_of_one}
use Rattle.sc_collection.proofs.slot.Slot.take.Goals as goal

pub take_last-requires : goal.take_last-requires
take_last-requires c =
    let there : IsSome (slice_get c.self.inside.bucket.items 0) = subst (λ (one : Option Bucket). IsSome one) (sym c.self.view_is) c.requires in
    let some = first_is_there c.self.inside.bucket.items there in
    let long = c.self.inside.bucket.ok.0 in
    omega (arith, some, long)

pub invariant_of-self : goal.invariant_of-self
invariant_of-self c =
    let few = c.self.invariant.0 in
    let room = c.self.invariant.1 in
    let len = c.take_last.ensures.len in
    let capacity = c.take_last.ensures.capacity in
    (omega (arith, few, len), omega (arith, room, capacity))

pub returns : goal.returns
returns c =
    let few : length c.self.inside.bucket.items ≤ 1 =
    (let one = c.self.invariant.0 in let long = c.self.inside.bucket.ok.0 in omega (arith, one, long)) in
    let last = last_of_one c.self.inside.bucket.items c.take_last.new.self.items c.take_last.result few c.take_last.ensures.items in
    record { was = sym c.self.view_is ∙ last.0; empty = last.1 }
