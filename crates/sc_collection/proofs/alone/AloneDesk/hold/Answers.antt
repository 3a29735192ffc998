-- What is handed out is the bucket of its slot.
use Rattle.std.proofs.Common.{false, Some}
use Rattle.sc_collection.specs.Desks.{Held}
use Rattle.sc_collection.proofs.DeskLemmas.{out_is}
use Rattle.sc_collection.proofs.HoldLemmas.{IsHold, taken_is_hold}
use Rattle.sc_collection.proofs.alone.AloneDesk.hold.Goals as goal

pub returns : goal.returns
returns c =
    let held : Held = record { number = c.args.b; bucket = c.take_out.result; by_keeper = false } in
    let hold : IsHold c.args.self.now c.take_out.new.self held =
    taken_is_hold c.args.self.now c.take_out.new.self held c.take_out.ensures.is c.requires.nothing_out c.take_out.ensures.there c.take_out.ensures.after in
    record {
      handed = record {
        sound = hold.kept.sound;
        is_of = hold.kept.is_of;
        extends = hold.extends;
        out = out_is c.args.self.now c.take_out.new.self (Some held) hold.out hold.board_out;
        seen = hold.seen;
        legal = hold.legal;
        layout = hold.layout;
      };
      keepers = λ keepers fits. hold.keepers fits;
    }
