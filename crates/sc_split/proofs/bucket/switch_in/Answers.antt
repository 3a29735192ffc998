-- One hold in which the subs take the place of their parent.
use Rattle.std.proofs.Common.{refl, sym, ap, ◌∙◌, subst, [], ◌∷◌}
use Rattle.sc_seen.specs.Seen.{Layout}
use Rattle.sc_bucket.specs.declared.bucket.Bucket.{Bucket}
use Rattle.sc_handover.specs.AnyEvent.{IsKeeperEvent}
use Rattle.sc_keeper.specs.declared.part.Part.{Part}
use Rattle.sc_collection.specs.Desks.{Out, KeeperMayReplace}
use Rattle.sc_collection.specs.Known.{known_of}
use Rattle.sc_collection.proofs.KeeperReplaceLemmas.{keeper_may_replace}
use Rattle.sc_split.proofs.HeldLemmas.{held_of, held_by_desk, part-given, all_seen, rest-held, held-made, kept_parts}
use Rattle.sc_keeper.specs.Conditions.{MaySwitch}
use Rattle.sc_keeper.specs.Events.{PartSwitches}
use Rattle.sc_keeper.proofs.ConditionLemmas.{switches_by_part}
use Rattle.sc_keeper.proofs.EventLemmas.{switches_part}
use Rattle.sc_record.specs.declared.entry.Entry.TheVariants as entry
use Rattle.sc_split.proofs.bucket.switch_in.Goals as goal

pub switch-requires : goal.switch-requires
switch-requires g c =
    let bucket : Bucket = c.hold_keeper-bucket.result in
    let part = c.hold_keeper-bucket.ensures.part in
    let parent = c.requires.may.0 in
    let can = (switches_by_part bucket parent).1 (subst (λ (one : Part). MaySwitch one parent) (sym part) c.requires.may.1) in
    record { sound = c.hold_keeper-bucket.ensures.handed.sound; can = (parent, can) }

pub give_keeper-requires : goal.give_keeper-requires
give_keeper-requires g c =
    let bucket : Bucket = c.hold_keeper-bucket.result in
    let given : Bucket = c.switch.new.bucket in
    let held = held_of c.args.b bucket in
    let part = c.hold_keeper-bucket.ensures.part in
    let parent = c.requires.may.0 in
    let can = (switches_by_part bucket parent).1 (subst (λ (one : Part). MaySwitch one parent) (sym part) c.requires.may.1) in
    record {
      is_out = (
        held,
        ap (λ (out : Out). out.bucket) c.hold_keeper-bucket.ensures.handed.out,
        refl,
        subst (λ (layout : Layout). KeeperMayReplace layout held given) (sym c.hold_keeper-bucket.ensures.handed.layout)
            (keeper_may_replace (g.D.Desk.layout c.args.desk.now) held given c.hold_keeper-bucket.ensures.handed.is_of
            c.switch.ensures.sound refl
            (IsKeeperEvent.switches can (c.switch.ensures.switched parent can))),
      );
      fits = c.hold_keeper-bucket.ensures.keepers.0;
    }

pub returns : goal.returns
returns g c =
    let bucket : Bucket = c.hold_keeper-bucket.result in
    let given : Bucket = c.switch.new.bucket in
    let held = held_of c.args.b bucket in
    let part = c.hold_keeper-bucket.ensures.part in
    let out = ap (λ (out : Out). out.bucket) c.hold_keeper-bucket.ensures.handed.out in
    let old = known_of (g.D.Desk.seen c.args.desk.now) (g.D.Desk.keeping c.args.desk.now c.args.keepers.now) in
    let new =
    known_of (g.D.Desk.seen c.give_keeper.new.self) (g.D.Desk.keeping c.give_keeper.new.self c.give_keeper.new.keepers) in
    let is =
    held_by_desk c.args.b bucket given old.seen (g.D.Desk.seen c.hold_keeper-bucket.new.self) new.seen old.keeping
    (g.D.Desk.keeping c.hold_keeper-bucket.new.self c.hold_keeper-bucket.new.keepers) new.keeping
    c.hold_keeper-bucket.ensures.handed.extends part c.hold_keeper-bucket.ensures.handed.seen c.hold_keeper-bucket.ensures.keepers.1
    (c.give_keeper.ensures.seen held out) (c.give_keeper.ensures.keeping held out) in
    let now = part-given c.args.b bucket given old new is in
    let parent = c.requires.may.0 in
    let can = (switches_by_part bucket parent).1 (subst (λ (one : Part). MaySwitch one parent) (sym part) c.requires.may.1) in
    record {
      leaves = record {
        layout = c.give_keeper.ensures.layout ∙ c.hold_keeper-bucket.ensures.handed.layout;
        rest = rest-held (g.D.Desk.layout c.give_keeper.new.self) new.seen held (g.D.Desk.out c.args.desk.now)
            (g.D.Desk.out c.hold_keeper-bucket.new.self) (g.D.Desk.out c.give_keeper.new.self) c.requires.rests.rest.nothing_out
            c.hold_keeper-bucket.ensures.handed.out c.give_keeper.ensures.out c.give_keeper.ensures.legal;
        fits = c.give_keeper.ensures.fits;
      };
      seen = all_seen c.args.b bucket given old new is;
      held = λ parent may.
          let can_switch = (switches_by_part bucket parent).1 (subst (λ (one : Part). MaySwitch one parent) (sym part) may) in
          let switched = c.switch.ensures.switched parent can_switch in
          held-made c.args.b bucket given old new is (entry.Switched parent ∷ []) switched.entries
          (switches_part bucket given parent switched).entries_are;
      switched = λ parent may.
          let can_switch = (switches_by_part bucket parent).1 (subst (λ (one : Part). MaySwitch one parent) (sym part) may) in
          kept_parts (λ was one. PartSwitches was parent one) now part
          (switches_part bucket given parent (c.switch.ensures.switched parent can_switch));
    }
