-- The board is handed out.
use Rattle.std.proofs.Common.{[], ◌∷◌, ◌++◌, List, Option, refl, sym, ap, ◌∙◌, subst}
use Rattle.std.specs.Prelude.{IsSome}
use Rattle.std.proofs.lemmas.List.{append-nil}
use Rattle.sc_board.specs.declared.board.Board.{Board}
use Rattle.sc_collection.proofs.BoardLemmas.{there_by_fields, held_of_fields}
use Rattle.sc_collection.proofs.alone.AloneDesk.hold_board.Goals as goal

pub unwrap-board-requires : goal.unwrap-board-requires
unwrap-board-requires c =
    let there = there_by_fields c.self.inside c.args.self.now c.self.view_is c.self.invariant c.requires.nothing_out in
    subst (λ (one : Option (Board (Unit {0}))). IsSome one) (sym (c.take.ensures.value ∙ there.1)) refl

pub invariant_of-self : goal.invariant_of-self
invariant_of-self c =
    let out : List (Unit {0} × Board (Unit {0})) = (tt, c.unwrap-board.result) ∷ [] in
    (held_of_fields c.self.inside c.and-self-inside.result.items c.take.new.self c.args.self.now c.unwrap-board.result c.self.view_is
    c.self.invariant (sym c.take.ensures.value ∙ c.unwrap-board.ensures) c.take.ensures.after
    (c.and-self-inside.ensures ∙ ap (λ (items : List (Unit {0} × Board (Unit {0}))). items ++ out) c.new.ensures)).is

pub returns : goal.returns
returns c =
    let out : List (Unit {0} × Board (Unit {0})) = (tt, c.unwrap-board.result) ∷ [] in
    let hold =
    held_of_fields c.self.inside c.and-self-inside.result.items c.take.new.self c.args.self.now c.unwrap-board.result c.self.view_is
    c.self.invariant (sym c.take.ensures.value ∙ c.unwrap-board.ensures) c.take.ensures.after
    (c.and-self-inside.ensures ∙ ap (λ (items : List (Unit {0} × Board (Unit {0}))). items ++ out) c.new.ensures) in
    record {
      handed = record {
        sound = hold.sound;
        is_of = hold.is_of;
        extends = ([], append-nil _ ∙ sym hold.same);
        as_left = λ owns. hold.same;
        out = hold.out;
        seen = hold.seen;
        legal = hold.legal;
        layout = hold.layout;
      };
      rest = λ keepers has. hold.rest has;
      keepers = λ keepers fits. hold.keepers;
    }
