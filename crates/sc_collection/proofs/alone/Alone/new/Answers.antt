-- A desk of new buckets and a new board, on which nothing happened.
use Rattle.std.proofs.Common.{◌<◌, List, sym, subst, ◌∙◌, arith}
use Rattle.sc_router.specs.Route.{IsBucketCount}
use Rattle.sc_cluster.specs.declared.slice.Slice.{Slice}
use Rattle.sc_cluster.specs.Slices.{greatest_id}
use Rattle.sc_bucket.specs.Sound.{AreActive}
use Rattle.sc_collection.proofs.NewLemmas.{IsNewBoard, new_by_fields}
use Rattle.sc_collection.proofs.FollowerLemmas.{first_active, first_followers, first_ids}
use Rattle.sc_collection.proofs.ShapeLemmas.{ranges}
use Rattle.sc_collection.proofs.alone.Alone.new.Goals as goal

pub new-requires-2-clause-active : goal.new-requires-2-clause-active
new-requires-2-clause-active c =
    subst AreActive (sym c.in_ok-clone_in.ensures) (first_active _ _ _ c.in_ok-first.first c.in_ok-first.ensures.slices)

pub new-requires-2-clause-ids : goal.new-requires-2-clause-ids
new-requires-2-clause-ids c =
    subst (λ (slices : List Slice). greatest_id slices < 256) (sym c.in_ok-clone_in.ensures)
    (first_ids _ _ _ c.in_ok-first.first c.in_ok-first.ensures.slices (ranges c.args.shape.now c.requires).shards.1)

pub new_slots-requires-clause-active : goal.new_slots-requires-clause-active
new_slots-requires-clause-active c = first_active _ _ _ c.in_ok-first.first c.in_ok-first.ensures.slices

pub new_slots-requires-clause-least : goal.new_slots-requires-clause-least
new_slots-requires-clause-least c =
    let few = first_followers _ _ _ c.in_ok-first.first c.in_ok-first.ensures.slices in
    let limit = (ranges c.args.shape.now c.requires).limit.0 in
    omega (arith, few, limit)

pub invariant_of-result : goal.invariant_of-result
invariant_of-result c =
    let board : IsNewBoard c.in_ok-first.first c.args.shape.now.log_limit c.in_ok-board.board = record {
      sound = c.in_ok-board.ensures.sound;
      first_is = c.in_ok-board.ensures.first ∙ c.in_ok-clone_in.ensures;
      limit_is = c.in_ok-board.ensures.limit;
      empty = c.in_ok-board.ensures.journal;
    } in
    (new_by_fields c.in_ok-new_slots.field-0.items c.args.shape.now.nodes c.in_ok-first.first c.args.shape.now.log_limit
    c.nothing.result c.in_ok-board.board c.new-3.result.items c.new-4.result.items c.in_ok-new_slots.ensures.each
    (subst IsBucketCount (sym c.in_ok-new_slots.ensures.count) (ranges c.args.shape.now c.requires).buckets)
    (ranges c.args.shape.now c.requires).nodes.0 board c.nothing.ensures c.new-3.ensures c.new-4.ensures).is

pub returns-clause-seen : goal.returns-clause-seen
returns-clause-seen c =
    let board : IsNewBoard c.in_ok-first.first c.args.shape.now.log_limit c.in_ok-board.board = record {
      sound = c.in_ok-board.ensures.sound;
      first_is = c.in_ok-board.ensures.first ∙ c.in_ok-clone_in.ensures;
      limit_is = c.in_ok-board.ensures.limit;
      empty = c.in_ok-board.ensures.journal;
    } in
    (new_by_fields c.in_ok-new_slots.field-0.items c.args.shape.now.nodes c.in_ok-first.first c.args.shape.now.log_limit
    c.nothing.result c.in_ok-board.board c.new-3.result.items c.new-4.result.items c.in_ok-new_slots.ensures.each
    (subst IsBucketCount (sym c.in_ok-new_slots.ensures.count) (ranges c.args.shape.now c.requires).buckets)
    (ranges c.args.shape.now c.requires).nodes.0 board c.nothing.ensures c.new-3.ensures c.new-4.ensures).sees
