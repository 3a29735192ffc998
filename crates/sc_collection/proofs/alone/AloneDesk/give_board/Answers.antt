-- The board is taken back.
use Rattle.sc_collection.proofs.BoardLemmas.{given_of_fields}
use Rattle.sc_collection.proofs.alone.AloneDesk.give_board.Goals as goal

pub invariant_of-self : goal.invariant_of-self
invariant_of-self c =
    let out = c.requires.is_out in
    (given_of_fields c.self.inside c.new-self-inside.result.items c.args.self.now out.0 c.args.board c.self.view_is c.self.invariant out.1
    c.requires.sound c.requires.is_of out.2 (λ has. (c.requires.rest tt has).1) c.new-self-inside.ensures).is

pub returns : goal.returns
returns c =
    let out = c.requires.is_out in
    let give =
    given_of_fields c.self.inside c.new-self-inside.result.items c.args.self.now out.0 c.args.board c.self.view_is c.self.invariant out.1
    c.requires.sound c.requires.is_of out.2 (λ has. (c.requires.rest tt has).1) c.new-self-inside.ensures in
    record {
      taken = record { seen = give.sees; out = give.out; legal = give.legal; layout = give.layout };
      keepers = λ none keepers fits. give.keepers none;
    }
