-- The bucket is the only one, in room for one.
use Rattle.std.proofs.Common.{◌∷◌, [], ◌++◌, List, slice_get, ap, ◌∙◌, arith}
use Rattle.sc_bucket.specs.declared.bucket.Bucket.{Bucket}
use Rattle.sc_collection.proofs.slot.Slot.full.Goals as goal

pub invariant_of-result : goal.invariant_of-result
invariant_of-result c =
    let none = c.in_ok-place.ensures.len in
    let room = c.in_ok-place.ensures.exact in
    let len = c.push_reserved.ensures.len in
    let capacity = c.push_reserved.ensures.capacity in
    (omega (arith, none, len), omega (arith, room, capacity))

pub returns : goal.returns
returns c =
    ap (λ (all : List Bucket). slice_get all 0)
    (c.push_reserved.ensures.items ∙ ap (λ (all : List Bucket). all ++ c.args.bucket ∷ []) c.in_ok-place.ensures.items)
