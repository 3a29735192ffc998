-- One hold after which the further replicas of the subs may join.
use Rattle.std.proofs.Common.{refl, sym, ap, ◌∙◌, subst}
use Rattle.sc_seen.specs.Seen.{Layout}
use Rattle.sc_bucket.specs.declared.bucket.Bucket.{Bucket}
use Rattle.sc_handover.specs.AnyEvent.{IsKeeperEvent}
use Rattle.sc_keeper.specs.declared.part.Part.{Part}
use Rattle.sc_collection.specs.Desks.{Out, KeeperMayReplace}
use Rattle.sc_collection.specs.Known.{known_of}
use Rattle.sc_collection.proofs.KeeperReplaceLemmas.{keeper_may_replace}
use Rattle.sc_split.proofs.HeldLemmas.{held_of, held_by_desk, part-given, all_seen, rest-held, held-none, kept_parts}
use Rattle.sc_keeper.specs.Conditions.{MayBeReady}
use Rattle.sc_keeper.specs.Events.{PartGetsReady}
use Rattle.sc_keeper.proofs.ConditionLemmas.{is_ready_by_part}
use Rattle.sc_keeper.proofs.EventLemmas.{gets_part_ready}
use Rattle.sc_split.proofs.UnderwayLemmas.{underway-ready}
use Rattle.sc_split.proofs.bucket.ready_in.Goals as goal

pub ready-requires : goal.ready-requires
ready-requires g c =
    let bucket : Bucket = c.hold_keeper-bucket.result in
    let part = c.hold_keeper-bucket.ensures.part in
    let parent = c.requires.may.0 in
    let can = (is_ready_by_part bucket parent c.hold_keeper-bucket.ensures.handed.sound).1
    (subst (λ (one : Part). MayBeReady one parent) (sym part) c.requires.may.1) in
    record { sound = c.hold_keeper-bucket.ensures.handed.sound; can = (parent, can) }

pub give_keeper-requires : goal.give_keeper-requires
give_keeper-requires g c =
    let bucket : Bucket = c.hold_keeper-bucket.result in
    let given : Bucket = c.ready.new.bucket in
    let held = held_of c.args.b bucket in
    let part = c.hold_keeper-bucket.ensures.part in
    let parent = c.requires.may.0 in
    let can = (is_ready_by_part bucket parent c.hold_keeper-bucket.ensures.handed.sound).1
    (subst (λ (one : Part). MayBeReady one parent) (sym part) c.requires.may.1) in
    record {
      is_out = (
        held,
        ap (λ (out : Out). out.bucket) c.hold_keeper-bucket.ensures.handed.out,
        refl,
        subst (λ (layout : Layout). KeeperMayReplace layout held given) (sym c.hold_keeper-bucket.ensures.handed.layout)
            (keeper_may_replace (g.D.Desk.layout c.args.desk.now) held given c.hold_keeper-bucket.ensures.handed.is_of
            c.ready.ensures.sound refl
            (IsKeeperEvent.gets_ready can (c.ready.ensures.ready parent can))),
      );
      fits = c.hold_keeper-bucket.ensures.keepers.0;
    }

pub returns : goal.returns
returns g c =
    let bucket : Bucket = c.hold_keeper-bucket.result in
    let given : Bucket = c.ready.new.bucket in
    let held = held_of c.args.b bucket in
    let part = c.hold_keeper-bucket.ensures.part in
    let out = ap (λ (out : Out). out.bucket) c.hold_keeper-bucket.ensures.handed.out in
    let old = known_of (g.D.Desk.seen c.args.desk.now) (g.D.Desk.keeping c.args.desk.now c.args.keepers.now) in
    let new =
    known_of (g.D.Desk.seen c.give_keeper.new.self) (g.D.Desk.keeping c.give_keeper.new.self c.give_keeper.new.keepers) in
    let is =
    held_by_desk c.args.b bucket given old.seen (g.D.Desk.seen c.hold_keeper-bucket.new.self) new.seen old.keeping
    (g.D.Desk.keeping c.hold_keeper-bucket.new.self c.hold_keeper-bucket.new.keepers) new.keeping
    c.hold_keeper-bucket.ensures.handed.extends part c.hold_keeper-bucket.ensures.handed.seen c.hold_keeper-bucket.ensures.keepers.1
    (c.give_keeper.ensures.seen held out) (c.give_keeper.ensures.keeping held out) in
    let now = part-given c.args.b bucket given old new is in
    let parent = c.requires.may.0 in
    let can = (is_ready_by_part bucket parent c.hold_keeper-bucket.ensures.handed.sound).1
    (subst (λ (one : Part). MayBeReady one parent) (sym part) c.requires.may.1) in
    record {
      leaves = record {
        layout = c.give_keeper.ensures.layout ∙ c.hold_keeper-bucket.ensures.handed.layout;
        rest = rest-held (g.D.Desk.layout c.give_keeper.new.self) new.seen held (g.D.Desk.out c.args.desk.now)
            (g.D.Desk.out c.hold_keeper-bucket.new.self) (g.D.Desk.out c.give_keeper.new.self) c.requires.rests.rest.nothing_out
            c.hold_keeper-bucket.ensures.handed.out c.give_keeper.ensures.out c.give_keeper.ensures.legal;
        fits = c.give_keeper.ensures.fits;
        seen = all_seen c.args.b bucket given old new is;
        held = held-none c.args.b bucket given old new is (c.ready.ensures.ready parent can).entries;
      };
      ready = λ parent may.
          let can_be = (is_ready_by_part bucket parent c.hold_keeper-bucket.ensures.handed.sound).1
          (subst (λ (one : Part). MayBeReady one parent) (sym part) may) in
          kept_parts (λ was one. PartGetsReady was parent one) now part
          (gets_part_ready bucket given parent (c.ready.ensures.ready parent can_be));
      underway = λ base plan.
          underway-ready base (old.keeping.part c.args.b) (new.keeping.part c.args.b) plan parent c.requires.may.1
          (kept_parts (λ was one. PartGetsReady was parent one) now part
          (gets_part_ready bucket given parent (c.ready.ensures.ready parent can)));
    }
