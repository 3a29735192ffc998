-- What is taken out is the bucket of its slot.
use Rattle.std.proofs.Common.{◌++◌, ◌∷◌, [], ℕ, Bool, List, refl, ap, ◌∙◌}
use Rattle.sc_bucket.specs.declared.bucket.Bucket.{Bucket}
use Rattle.sc_collection.specs.Desks.{Held}
use Rattle.sc_collection.proofs.HoldLemmas.{slot_is_full, taken_of_fields}
use Rattle.sc_collection.proofs.alone.Alone.take_out.Goals as goal

pub take-bucket-requires : goal.take-bucket-requires
take-bucket-requires c =
    slot_is_full c.self.inside c.args.self.now c.args.b _ c.self.view_is c.self.invariant c.requires.nothing_out c.requires.within c.index_mut.ensures.value

pub invariant_of-self : goal.invariant_of-self
invariant_of-self c =
    let held : Held = record { number = c.args.b; bucket = c.take-bucket.result; by_keeper = c.args.by_keeper } in
    let out : List ((ℕ × Bool) × Bucket) = ((held.number, held.by_keeper), held.bucket) ∷ [] in
    (taken_of_fields c.self.inside _ c.args.self.now held _ _ _
    c.self.view_is c.self.invariant c.requires.nothing_out c.requires.within
    c.index_mut.ensures.value refl c.take-bucket.ensures.was c.take-bucket.ensures.empty
    (c.and-self-inside.ensures ∙ ap (λ (items : List ((ℕ × Bool) × Bucket)). items ++ out) c.new.ensures)).is_new

pub returns : goal.returns
returns c =
    let held : Held = record { number = c.args.b; bucket = c.take-bucket.result; by_keeper = c.args.by_keeper } in
    let out : List ((ℕ × Bool) × Bucket) = ((held.number, held.by_keeper), held.bucket) ∷ [] in
    let taken =
    taken_of_fields c.self.inside _ c.args.self.now held _ _ _
    c.self.view_is c.self.invariant c.requires.nothing_out c.requires.within
    c.index_mut.ensures.value refl c.take-bucket.ensures.was c.take-bucket.ensures.empty
    (c.and-self-inside.ensures ∙ ap (λ (items : List ((ℕ × Bool) × Bucket)). items ++ out) c.new.ensures) in
    record { is = taken.is; there = taken.there; after = taken.after }
