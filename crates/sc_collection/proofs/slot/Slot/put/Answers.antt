-- The bucket is the only one.
use Rattle.std.proofs.Common.{◌∷◌, [], ◌++◌, List, length, slice_get, ap, ◌∙◌, arith}
use Rattle.sc_bucket.specs.declared.bucket.Bucket.{Bucket}
use Rattle.sc_collection.proofs.SlotLemmas.{first_is_missing}
use Rattle.sc_collection.proofs.slot.Slot.put.Goals as goal

pub push_reserved-requires : goal.push_reserved-requires
push_reserved-requires c =
    let none = ap length (first_is_missing c.self.inside.bucket.items (c.self.view_is ∙ c.requires)) in
    let long = c.self.inside.bucket.ok.0 in
    let room = c.self.invariant.1 in
    omega (arith, none, long, room)

pub invariant_of-self : goal.invariant_of-self
invariant_of-self c =
    let none = ap length (first_is_missing c.self.inside.bucket.items (c.self.view_is ∙ c.requires)) in
    let long = c.self.inside.bucket.ok.0 in
    let room = c.self.invariant.1 in
    let len = c.push_reserved.ensures.len in
    let capacity = c.push_reserved.ensures.capacity in
    (omega (arith, none, long, len), omega (arith, room, capacity))

pub returns : goal.returns
returns c =
    ap (λ (all : List Bucket). slice_get all 0)
    (c.push_reserved.ensures.items
    ∙ ap (λ (all : List Bucket). all ++ c.args.bucket ∷ []) (first_is_missing c.self.inside.bucket.items (c.self.view_is ∙ c.requires)))
