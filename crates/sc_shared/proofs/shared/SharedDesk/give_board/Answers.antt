-- The board is taken back.
use Rattle.std.proofs.Common.{inr, ap, ◌∙◌, arith, rules}
use Rattle.std.proofs.lemmas.Grind.{common_steps}
use Rattle.sc_shared.specs.Collections.{Locks}
use Rattle.sc_shared.specs.Sharing.{SharedState, handed_entries}
use Rattle.sc_shared.proofs.BoardLemmas.{MayGiveBoard, IsBoardGive, board_is_out, still_fit, board_is_given}
use Rattle.sc_shared.proofs.shared.SharedDesk.give_board.Goals as goal

pub take-turn-requires : goal.take-turn-requires
take-turn-requires g c = record {
  full =
      let out = c.requires.is_out in
      board_is_out c.self.inside.board out.0 (ap (λ (desk : SharedState). handed_entries desk.board) c.self.view_is ∙ out.1);
}

pub give-requires-clause-turn : goal.give-requires-clause-turn
give-requires-clause-turn g c = (c.self.invariant.shared_is.board c.take-turn.result c.take-turn.ensures.was).turn

pub give-requires-clause-value : goal.give-requires-clause-value
give-requires-clause-value g c =
    let locks : Locks = record {
      buckets = c.collection.inside.locks.items;
      board = c.collection.inside.board;
      nodes = c.collection.inside.nodes;
    } in
    let was : SharedState = record {
      locks = c.self.inside.collection.now;
      passes = c.self.inside.passes;
      bucket = c.self.inside.bucket;
      board = c.self.inside.board;
    } in
    let may : MayGiveBoard c.args.self.now c.args.board = record {
      sound = c.requires.sound;
      is_of = c.requires.is_of;
      is_out = c.requires.is_out;
      no_bucket = c.requires.no_bucket;
      rest = c.requires.rest;
    } in
    let give : IsBoardGive was c.args.self.now c.take-turn.result c.args.board =
    board_is_given locks c.collection.inside.first was c.args.self.now c.take-turn.result c.args.board c.collection.invariant
    c.collection.view_is c.self.view_is c.self.invariant.shared_is c.take-turn.ensures.was may in
    record { is_sound = give.sound; one_step = inr give.follows; grows = give.follows.grows; owner = give.owner }

pub returns-clause-taken : goal.returns-clause-taken
returns-clause-taken g c =
    let locks : Locks = record {
      buckets = c.collection.inside.locks.items;
      board = c.collection.inside.board;
      nodes = c.collection.inside.nodes;
    } in
    let was : SharedState = record {
      locks = c.self.inside.collection.now;
      passes = c.self.inside.passes;
      bucket = c.self.inside.bucket;
      board = c.self.inside.board;
    } in
    let may : MayGiveBoard c.args.self.now c.args.board = record {
      sound = c.requires.sound;
      is_of = c.requires.is_of;
      is_out = c.requires.is_out;
      no_bucket = c.requires.no_bucket;
      rest = c.requires.rest;
    } in
    record {
      seen = (board_is_given locks c.collection.inside.first was c.args.self.now c.take-turn.result c.args.board c.collection.invariant
          c.collection.view_is c.self.view_is c.self.invariant.shared_is c.take-turn.ensures.was may).sees c.give.new.pass c.give.ensures.seen
          c.give.ensures.places;
      out = first_of (search rules, grind (arith, common_steps));
      legal = first_of (search rules, grind (arith, common_steps));
      layout = first_of (search rules, grind (arith, common_steps));
    }

pub returns-clause-keepers : goal.returns-clause-keepers
returns-clause-keepers g c =
    let new : SharedState = record {
      locks = c.self.inside.collection.now;
      passes = record { buckets = c.self.inside.passes.buckets; board = c.give.new.pass };
      bucket = c.self.inside.bucket;
      board = c.take-turn.new.slot;
    } in
    λ none. still_fit c.args.self.now new (ap (λ (desk : SharedState). desk.locks) c.self.view_is)
    (ap (λ (desk : SharedState). desk.bucket) c.self.view_is)
