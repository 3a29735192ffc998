-- One hold in which a core replays a piece.
use Rattle.std.proofs.Common.{refl, sym, ap, ◌∙◌, subst}
use Rattle.sc_seen.specs.Seen.{Layout}
use Rattle.sc_bucket.specs.declared.bucket.Bucket.{Bucket}
use Rattle.sc_handover.specs.AnyEvent.{IsKeeperEvent}
use Rattle.sc_keeper.specs.declared.part.Part.{Part}
use Rattle.sc_collection.specs.Desks.{Out, KeeperMayReplace}
use Rattle.sc_collection.specs.Known.{known_of}
use Rattle.sc_collection.proofs.KeeperReplaceLemmas.{keeper_may_replace}
use Rattle.sc_split.proofs.HeldLemmas.{held_of, held_by_desk, part-given, all_seen, rest-held, held-none, kept_parts}
use Rattle.sc_keeper.specs.Conditions.{MayReplay}
use Rattle.sc_keeper.specs.Events.{PartReplays}
use Rattle.sc_keeper.proofs.ConditionLemmas.{replays_by_part}
use Rattle.sc_keeper.proofs.EventLemmas.{replays_part}
use Rattle.sc_split.proofs.bucket.replay_in.Goals as goal

pub replay_piece-is_done-requires : goal.replay_piece-is_done-requires
replay_piece-is_done-requires g c =
    let bucket : Bucket = c.hold_keeper-bucket.result in
    let part = c.hold_keeper-bucket.ensures.part in
    let can = (replays_by_part bucket c.args.core).1 (subst (λ (one : Part). MayReplay one c.args.core) (sym part) c.requires.may) in
    record { sound = c.hold_keeper-bucket.ensures.handed.sound; can = can }

pub give_keeper-requires : goal.give_keeper-requires
give_keeper-requires g c =
    let bucket : Bucket = c.hold_keeper-bucket.result in
    let given : Bucket = c.replay_piece-is_done.new.bucket in
    let held = held_of c.args.b bucket in
    let part = c.hold_keeper-bucket.ensures.part in
    let can = (replays_by_part bucket c.args.core).1 (subst (λ (one : Part). MayReplay one c.args.core) (sym part) c.requires.may) in
    record {
      is_out = (
        held,
        ap (λ (out : Out). out.bucket) c.hold_keeper-bucket.ensures.handed.out,
        refl,
        subst (λ (layout : Layout). KeeperMayReplace layout held given) (sym c.hold_keeper-bucket.ensures.handed.layout)
            (keeper_may_replace (g.D.Desk.layout c.args.desk.now) held given c.hold_keeper-bucket.ensures.handed.is_of
            c.replay_piece-is_done.ensures.sound refl
            (IsKeeperEvent.replays can c.replay_piece-is_done.ensures.replayed)),
      );
      fits = c.hold_keeper-bucket.ensures.keepers.0;
    }

pub returns : goal.returns
returns g c =
    let bucket : Bucket = c.hold_keeper-bucket.result in
    let given : Bucket = c.replay_piece-is_done.new.bucket in
    let held = held_of c.args.b bucket in
    let part = c.hold_keeper-bucket.ensures.part in
    let out = ap (λ (out : Out). out.bucket) c.hold_keeper-bucket.ensures.handed.out in
    let old = known_of (g.D.Desk.seen c.args.desk.now) (g.D.Desk.keeping c.args.desk.now c.args.keepers.now) in
    let new =
    known_of (g.D.Desk.seen c.give_keeper.new.self) (g.D.Desk.keeping c.give_keeper.new.self c.give_keeper.new.keepers) in
    let is =
    held_by_desk c.args.b bucket given old.seen (g.D.Desk.seen c.hold_keeper-bucket.new.self) new.seen old.keeping
    (g.D.Desk.keeping c.hold_keeper-bucket.new.self c.hold_keeper-bucket.new.keepers) new.keeping
    c.hold_keeper-bucket.ensures.handed.extends part c.hold_keeper-bucket.ensures.handed.seen c.hold_keeper-bucket.ensures.keepers.1
    (c.give_keeper.ensures.seen held out) (c.give_keeper.ensures.keeping held out) in
    let now = part-given c.args.b bucket given old new is in
    let can = (replays_by_part bucket c.args.core).1 (subst (λ (one : Part). MayReplay one c.args.core) (sym part) c.requires.may) in
    record {
      leaves = record {
        layout = c.give_keeper.ensures.layout ∙ c.hold_keeper-bucket.ensures.handed.layout;
        rest = rest-held (g.D.Desk.layout c.give_keeper.new.self) new.seen held (g.D.Desk.out c.args.desk.now)
            (g.D.Desk.out c.hold_keeper-bucket.new.self) (g.D.Desk.out c.give_keeper.new.self) c.requires.rests.rest.nothing_out
            c.hold_keeper-bucket.ensures.handed.out c.give_keeper.ensures.out c.give_keeper.ensures.legal;
        fits = c.give_keeper.ensures.fits;
        seen = all_seen c.args.b bucket given old new is;
        held = held-none c.args.b bucket given old new is c.replay_piece-is_done.ensures.replayed.rest.entries;
      };
      replayed = kept_parts (λ was one. PartReplays was c.args.core c.replay_piece-is_done.result one) now part
          (replays_part bucket given c.args.core c.replay_piece-is_done.result c.hold_keeper-bucket.ensures.handed.sound can
          c.replay_piece-is_done.ensures.replayed);
    }
