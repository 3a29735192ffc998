-- proofs/dropping/drop_in/Answers.antt
-- One hold in which the slice is dropped.
use Rattle.std.proofs.Common.{refl, sym, ap, ◌∙◌, subst}
use Rattle.sc_seen.specs.Seen.{Layout}
use Rattle.sc_bucket.specs.declared.bucket.Bucket.{Bucket}
use Rattle.sc_handover.specs.AnyEvent.{IsKeeperEvent}
use Rattle.sc_collection.specs.Desks.{Out, KeeperMayReplace}
use Rattle.sc_collection.specs.Known.{known_of}
use Rattle.sc_collection.proofs.KeeperReplaceLemmas.{keeper_may_replace}
use Rattle.sc_admin.proofs.DropLemmas.{can_drop, held_of, held_by_desk, others_same, board_same, dropped_in, out_same}
use Rattle.sc_admin.proofs.dropping.drop_in.Goals as goal

pub drop_shard-requires : goal.drop_shard-requires
drop_shard-requires g c = record {
  sound = c.hold_keeper-bucket.ensures.handed.sound;
  can = can_drop c.hold_keeper-bucket.result ((g.D.Desk.keeping c.args.desk.now c.args.keepers.now).part c.args.b) c.args.slice
      c.hold_keeper-bucket.ensures.part c.requires.may;
}

pub give_keeper-requires : goal.give_keeper-requires
give_keeper-requires g c =
    let bucket : Bucket = c.hold_keeper-bucket.result in
    let given : Bucket = c.drop_shard.new.bucket in
    let held = held_of c.args.b bucket in
    let can =
    can_drop bucket ((g.D.Desk.keeping c.args.desk.now c.args.keepers.now).part c.args.b) c.args.slice
    c.hold_keeper-bucket.ensures.part c.requires.may in
    record {
      is_out = (
        held,
        ap (λ (out : Out). out.bucket) c.hold_keeper-bucket.ensures.handed.out,
        refl,
        subst (λ (layout : Layout). KeeperMayReplace layout held given) (sym c.hold_keeper-bucket.ensures.handed.layout)
            (keeper_may_replace (g.D.Desk.layout c.args.desk.now) held given c.hold_keeper-bucket.ensures.handed.is_of
            c.drop_shard.ensures.sound refl (IsKeeperEvent.drops can c.drop_shard.ensures.dropped)),
      );
      fits = c.hold_keeper-bucket.ensures.keepers.0;
    }

pub returns : goal.returns
returns g c =
    let bucket : Bucket = c.hold_keeper-bucket.result in
    let given : Bucket = c.drop_shard.new.bucket in
    let held = held_of c.args.b bucket in
    let out = ap (λ (out : Out). out.bucket) c.hold_keeper-bucket.ensures.handed.out in
    let old = known_of (g.D.Desk.seen c.args.desk.now) (g.D.Desk.keeping c.args.desk.now c.args.keepers.now) in
    let new =
    known_of (g.D.Desk.seen c.give_keeper.new.self) (g.D.Desk.keeping c.give_keeper.new.self c.give_keeper.new.keepers) in
    let is =
    held_by_desk c.args.b bucket given old.seen (g.D.Desk.seen c.hold_keeper-bucket.new.self) new.seen old.keeping
    (g.D.Desk.keeping c.hold_keeper-bucket.new.self c.hold_keeper-bucket.new.keepers) new.keeping
    c.hold_keeper-bucket.ensures.handed.extends c.hold_keeper-bucket.ensures.part c.hold_keeper-bucket.ensures.handed.seen
    c.hold_keeper-bucket.ensures.keepers.1 (c.give_keeper.ensures.seen held out) (c.give_keeper.ensures.keeping held out) in
    record {
      layout = c.give_keeper.ensures.layout ∙ c.hold_keeper-bucket.ensures.handed.layout;
      out = out_same held (g.D.Desk.out c.args.desk.now) (g.D.Desk.out c.hold_keeper-bucket.new.self)
          (g.D.Desk.out c.give_keeper.new.self) c.requires.none_out c.hold_keeper-bucket.ensures.handed.out c.give_keeper.ensures.out;
      legal = c.give_keeper.ensures.legal;
      fits = c.give_keeper.ensures.fits;
      board = board_same c.args.b bucket given old new is;
      dropped = dropped_in c.args.b bucket given old new is c.args.slice c.drop_shard.ensures.dropped;
      others = others_same c.args.b bucket given old new is;
    }
