-- A collection of new buckets and a new board, and the first passes.
use Rattle.std.proofs.Common.{◌<◌, ◌^◌, [], List, map, refl, sym, subst, ◌∙◌, arith}
use Rattle.sc_cluster.specs.declared.slice.Slice.{Slice}
use Rattle.sc_cluster.specs.Slices.{greatest_id}
use Rattle.sc_seen.specs.declared.board.BoardEntry.{BoardEntry}
use Rattle.sc_bucket.specs.Sound.{AreActive}
use Rattle.sc_lock.specs.Tokens.{lock_id, badge_lock}
use Rattle.sc_lock.specs.Calls.{IsNewPassOf}
use Rattle.sc_collection.proofs.FollowerLemmas.{first_active, first_followers, first_ids}
use Rattle.sc_collection.proofs.ShapeLemmas.{ranges}
use Rattle.sc_shared.proofs.NewLockLemmas.{board_named, new_board_is, none_opened, new_are_locks, new_sees, new_of_locks, new_free, new_splits}
use Rattle.sc_shared.proofs.collection.Collection.new.Goals as goal

pub new_locks-requires-clause-active : goal.new_locks-requires-clause-active
new_locks-requires-clause-active c = first_active _ _ _ c.in_ok-first.first c.in_ok-first.ensures.slices

pub new_locks-requires-clause-least : goal.new_locks-requires-clause-least
new_locks-requires-clause-least c =
    let few = first_followers _ _ _ c.in_ok-first.first c.in_ok-first.ensures.slices in
    let limit = (ranges c.args.shape.now c.requires).limit.0 in
    omega (arith, few, limit)

pub new-requires-2-clause-active : goal.new-requires-2-clause-active
new-requires-2-clause-active c =
    subst AreActive (sym c.in_ok-clone_in.ensures) (first_active _ _ _ c.in_ok-first.first c.in_ok-first.ensures.slices)

pub new-requires-2-clause-ids : goal.new-requires-2-clause-ids
new-requires-2-clause-ids c =
    subst (λ (slices : List Slice). greatest_id slices < 256) (sym c.in_ok-clone_in.ensures)
    (first_ids _ _ _ c.in_ok-first.first c.in_ok-first.ensures.slices (ranges c.args.shape.now c.requires).shards.1)

pub new-requires-3 : goal.new-requires-3
new-requires-3 c = record {
  sound = new_board_is c.args.shape.now.buckets c.in_ok-first.first c.args.shape.now.log_limit c.in_ok-locks.field-0 c.in_ok-locks.ensures
      c.in_ok-board.board c.nothing.result c.in_ok-board.ensures.sound (c.in_ok-board.ensures.first ∙ c.in_ok-clone_in.ensures)
      c.in_ok-board.ensures.journal c.in_ok-board.ensures.keepers c.nothing.ensures;
}

pub invariant_of-collection : goal.invariant_of-collection
invariant_of-collection c =
    let made = c.in_ok-locks.field-0 in
    let first = c.in_ok-first.first in
    let limit = c.args.shape.now.log_limit in
    let is = ranges c.args.shape.now c.requires in
    new_are_locks c.args.shape.now.buckets first limit made c.in_ok-locks.ensures c.in_ok-board-2.board c.args.shape.now.nodes
    (board_named first c.in_ok-board.board.first limit c.in_ok-board.board.limit (map badge_lock made.badges.items) c.nothing.result _
    c.in_ok-board-2.ensures.name (c.in_ok-board.ensures.first ∙ c.in_ok-clone_in.ensures) c.in_ok-board.ensures.limit c.nothing.ensures) is.buckets is.nodes.0

pub returns-clause-passes : goal.returns-clause-passes
returns-clause-passes c =
    let made = c.in_ok-locks.field-0 in
    let first = c.in_ok-first.first in
    let limit = c.args.shape.now.log_limit in
    let name = board_named first c.in_ok-board.board.first limit c.in_ok-board.board.limit (map badge_lock made.badges.items) c.nothing.result _
    c.in_ok-board-2.ensures.name (c.in_ok-board.ensures.first ∙ c.in_ok-clone_in.ensures) c.in_ok-board.ensures.limit c.nothing.ensures in
    let pass : IsNewPassOf (lock_id c.in_ok-board-2.board) [] (2 ^ 31) c.in_ok-board-2.pass =
    subst (λ (journal : List BoardEntry). IsNewPassOf (lock_id c.in_ok-board-2.board) journal (2 ^ 31) c.in_ok-board-2.pass)
    c.in_ok-board.ensures.journal c.in_ok-board-2.ensures.pass in
    record {
      of_locks = new_of_locks c.args.shape.now.buckets first limit made c.in_ok-locks.ensures c.in_ok-board-2.board c.args.shape.now.nodes name
          c.in_ok-board-2.pass pass;
      free = new_free c.args.shape.now.buckets first limit made c.in_ok-locks.ensures c.in_ok-board-2.board c.args.shape.now.nodes name
          c.in_ok-board-2.pass pass;
    }

pub returns-clause-opened : goal.returns-clause-opened
returns-clause-opened c =
    let made = c.in_ok-locks.field-0 in
    let first = c.in_ok-first.first in
    let limit = c.args.shape.now.log_limit in
    let name = board_named first c.in_ok-board.board.first limit c.in_ok-board.board.limit (map badge_lock made.badges.items) c.nothing.result _
    c.in_ok-board-2.ensures.name (c.in_ok-board.ensures.first ∙ c.in_ok-clone_in.ensures) c.in_ok-board.ensures.limit c.nothing.ensures in
    none_opened c.args.shape.now.buckets first limit made c.in_ok-locks.ensures c.in_ok-board-2.board c.args.shape.now.nodes name

pub returns-clause-seen : goal.returns-clause-seen
returns-clause-seen c =
    let made = c.in_ok-locks.field-0 in
    let first = c.in_ok-first.first in
    let limit = c.args.shape.now.log_limit in
    let name = board_named first c.in_ok-board.board.first limit c.in_ok-board.board.limit (map badge_lock made.badges.items) c.nothing.result _
    c.in_ok-board-2.ensures.name (c.in_ok-board.ensures.first ∙ c.in_ok-clone_in.ensures) c.in_ok-board.ensures.limit c.nothing.ensures in
    let pass : IsNewPassOf (lock_id c.in_ok-board-2.board) [] (2 ^ 31) c.in_ok-board-2.pass =
    subst (λ (journal : List BoardEntry). IsNewPassOf (lock_id c.in_ok-board-2.board) journal (2 ^ 31) c.in_ok-board-2.pass)
    c.in_ok-board.ensures.journal c.in_ok-board-2.ensures.pass in
    new_sees c.args.shape.now.buckets first limit made c.in_ok-locks.ensures c.in_ok-board-2.board c.args.shape.now.nodes name
    c.in_ok-board-2.pass pass

pub returns-clause-splits : goal.returns-clause-splits
returns-clause-splits c =
    let made = c.in_ok-locks.field-0 in
    let first = c.in_ok-first.first in
    let limit = c.args.shape.now.log_limit in
    let name = board_named first c.in_ok-board.board.first limit c.in_ok-board.board.limit (map badge_lock made.badges.items) c.nothing.result _
    c.in_ok-board-2.ensures.name (c.in_ok-board.ensures.first ∙ c.in_ok-clone_in.ensures) c.in_ok-board.ensures.limit c.nothing.ensures in
    let pass : IsNewPassOf (lock_id c.in_ok-board-2.board) [] (2 ^ 31) c.in_ok-board-2.pass =
    subst (λ (journal : List BoardEntry). IsNewPassOf (lock_id c.in_ok-board-2.board) journal (2 ^ 31) c.in_ok-board-2.pass)
    c.in_ok-board.ensures.journal c.in_ok-board-2.ensures.pass in
    new_splits c.args.shape.now.buckets first limit made c.in_ok-locks.ensures c.in_ok-board-2.board c.args.shape.now.nodes name
    c.in_ok-board-2.pass pass _ refl refl
