-- The board is handed out.
use Rattle.std.proofs.Common.{ap, ◌∙◌, arith, rules}
use Rattle.std.proofs.lemmas.Grind.{common_steps}
use Rattle.sc_shared.specs.Collections.{Locks}
use Rattle.sc_shared.specs.Sharing.{SharedState}
use Rattle.sc_shared.proofs.BoardLemmas.{still_fit, board_is_found}
use Rattle.sc_shared.proofs.shared.SharedDesk.hold_board.Goals as goal

pub returns-clause-handed : goal.returns-clause-handed
returns-clause-handed g c = record {
  sound = first_of (search rules, grind (arith, common_steps));
  is_of = first_of (search rules, grind (arith, common_steps));
  extends = first_of (search rules, grind (arith, common_steps));
  as_left = first_of (search rules, grind (arith, common_steps));
  out = first_of (search rules, grind (arith, common_steps));
  seen = first_of (search rules, grind (arith, common_steps));
  legal = first_of (search rules, grind (arith, common_steps));
  layout = first_of (search rules, grind (arith, common_steps));
}

pub returns-clause-rest : goal.returns-clause-rest
returns-clause-rest g c =
    let locks : Locks = record {
      buckets = c.collection.inside.locks.items;
      board = c.collection.inside.board;
      nodes = c.collection.inside.nodes;
    } in
    let new : SharedState = record {
      locks = c.self.inside.collection.now;
      passes = record { buckets = c.self.inside.passes.buckets; board = c.hold-kept.new.pass };
      bucket = c.self.inside.bucket;
      board = c.put.new.slot;
    } in
    board_is_found locks c.collection.inside.first c.args.self.now new c.hold-kept.result.0 c.collection.invariant
    (c.collection.view_is ∙ ap (λ (desk : SharedState). desk.locks) c.self.view_is)
    (ap (λ (desk : SharedState). desk.locks) c.self.view_is)
    (ap (λ (desk : SharedState). desk.bucket) c.self.view_is) c.requires.no_bucket
    c.hold-kept.ensures.found.name_is c.hold-kept.ensures.found.is_sound

pub returns-clause-keepers : goal.returns-clause-keepers
returns-clause-keepers g c =
    let new : SharedState = record {
      locks = c.self.inside.collection.now;
      passes = record { buckets = c.self.inside.passes.buckets; board = c.hold-kept.new.pass };
      bucket = c.self.inside.bucket;
      board = c.put.new.slot;
    } in
    still_fit c.args.self.now new (ap (λ (desk : SharedState). desk.locks) c.self.view_is)
    (ap (λ (desk : SharedState). desk.bucket) c.self.view_is)
