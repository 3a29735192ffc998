-- One hold in which a split begins, or is refused.
use Rattle.std.proofs.Common.{refl, sym, ap, ◌∙◌, subst, ◌≡◌, [], ◌∷◌}
use Rattle.sc_seen.specs.Seen.{Layout}
use Rattle.sc_bucket.specs.declared.bucket.Bucket.{Bucket}
use Rattle.sc_handover.specs.AnyEvent.{IsKeeperEvent}
use Rattle.sc_keeper.specs.declared.part.Part.{Part}
use Rattle.sc_keeper.specs.Part.{part_of}
use Rattle.sc_collection.specs.Desks.{Out, KeeperMayReplace, IsBucketOf}
use Rattle.sc_collection.specs.Known.{known_of}
use Rattle.sc_collection.proofs.KeeperReplaceLemmas.{keeper_may_replace}
use Rattle.sc_split.specs.Buckets.{KeeperHeld, HasBegun}
use Rattle.sc_split.proofs.HeldLemmas.{held_of, held_by_desk, part-given, all_seen, rest-held, held-made, held-none, kept_parts}
use Rattle.std.specs.Prelude.{Result, OnErr}
use Rattle.sc_record.specs.declared.entry.Entry.TheVariants as entry
use Rattle.sc_journal.specs.Legal.{MayBeSplit}
use Rattle.sc_bucket.specs.Events.{IsSameButRoom}
use Rattle.sc_handover.specs.Events.{Begins}
use Rattle.sc_keeper.proofs.PassLemmas.{part-refused}
use Rattle.sc_keeper.specs.Conditions.{MayBegin}
use Rattle.sc_keeper.proofs.ConditionLemmas.{begins_by_part}
use Rattle.sc_keeper.proofs.EventLemmas.{begins_part}
use Rattle.sc_split.proofs.BegunLemmas.{apart_part, once_fed, names_below, has_begun}
use Rattle.sc_split.proofs.AnswerLemmas.{by_answer, on_ok, on_err, no_room, may_still_begin}
use Rattle.sc_split.proofs.bucket.begin_in.Goals as goal

pub begin-answer-requires : goal.begin-answer-requires
begin-answer-requires g c =
    let bucket : Bucket = c.hold_keeper-bucket.result in
    let part = c.hold_keeper-bucket.ensures.part in
    let plan = c.args.plan.now in
    let can = (begins_by_part bucket plan.parent plan.subs).1
    (subst (λ (one : Part). MayBegin one plan.parent plan.subs) (sym part) c.requires.may) in
    record { sound = c.hold_keeper-bucket.ensures.handed.sound; can = can }

pub give_keeper-requires : goal.give_keeper-requires
give_keeper-requires g c =
    let bucket : Bucket = c.hold_keeper-bucket.result in
    let given : Bucket = c.begin-answer.new.bucket in
    let held = held_of c.args.b bucket in
    let part = c.hold_keeper-bucket.ensures.part in
    let plan = c.args.plan.now in
    let can = (begins_by_part bucket plan.parent plan.subs).1
    (subst (λ (one : Part). MayBegin one plan.parent plan.subs) (sym part) c.requires.may) in
    let Begun : Type 0 = Begins bucket plan.parent plan.subs c.begin-answer.new.bucket in
    let Refused : Type 0 = IsSameButRoom bucket c.begin-answer.new.bucket in
    record {
      is_out = (
        held,
        ap (λ (out : Out). out.bucket) c.hold_keeper-bucket.ensures.handed.out,
        refl,
        subst (λ (layout : Layout). KeeperMayReplace layout held given) (sym c.hold_keeper-bucket.ensures.handed.layout)
            (keeper_may_replace (g.D.Desk.layout c.args.desk.now) held given c.hold_keeper-bucket.ensures.handed.is_of
            c.begin-answer.ensures.sound refl
            (by_answer Begun Refused (IsKeeperEvent bucket given) c.begin-answer.result (λ begun. IsKeeperEvent.begins can begun)
            (λ same. IsKeeperEvent.stays same) c.begin-answer.ensures.begun c.begin-answer.ensures.refused)),
      );
      fits = c.hold_keeper-bucket.ensures.keepers.0;
    }

pub returns : goal.returns
returns g c =
    let bucket : Bucket = c.hold_keeper-bucket.result in
    let given : Bucket = c.begin-answer.new.bucket in
    let held = held_of c.args.b bucket in
    let part = c.hold_keeper-bucket.ensures.part in
    let out = ap (λ (out : Out). out.bucket) c.hold_keeper-bucket.ensures.handed.out in
    let old = known_of (g.D.Desk.seen c.args.desk.now) (g.D.Desk.keeping c.args.desk.now c.args.keepers.now) in
    let new =
    known_of (g.D.Desk.seen c.give_keeper.new.self) (g.D.Desk.keeping c.give_keeper.new.self c.give_keeper.new.keepers) in
    let is =
    held_by_desk c.args.b bucket given old.seen (g.D.Desk.seen c.hold_keeper-bucket.new.self) new.seen old.keeping
    (g.D.Desk.keeping c.hold_keeper-bucket.new.self c.hold_keeper-bucket.new.keepers) new.keeping
    c.hold_keeper-bucket.ensures.handed.extends part c.hold_keeper-bucket.ensures.handed.seen c.hold_keeper-bucket.ensures.keepers.1
    (c.give_keeper.ensures.seen held out) (c.give_keeper.ensures.keeping held out) in
    let now = part-given c.args.b bucket given old new is in
    let plan = c.args.plan.now in
    let can = (begins_by_part bucket plan.parent plan.subs).1
    (subst (λ (one : Part). MayBegin one plan.parent plan.subs) (sym part) c.requires.may) in
    let Begun : Type 0 = Begins bucket plan.parent plan.subs c.begin-answer.new.bucket in
    let Refused : Type 0 = IsSameButRoom bucket c.begin-answer.new.bucket in
    let is_of =
    subst (λ (layout : Layout). IsBucketOf layout c.args.b bucket)
    (sym (c.give_keeper.ensures.layout ∙ c.hold_keeper-bucket.ensures.handed.layout)) c.hold_keeper-bucket.ensures.handed.is_of in
    record {
      leaves = record {
        layout = c.give_keeper.ensures.layout ∙ c.hold_keeper-bucket.ensures.handed.layout;
        rest = rest-held (g.D.Desk.layout c.give_keeper.new.self) new.seen held (g.D.Desk.out c.args.desk.now)
            (g.D.Desk.out c.hold_keeper-bucket.new.self) (g.D.Desk.out c.give_keeper.new.self) c.requires.rests.rest.nothing_out
            c.hold_keeper-bucket.ensures.handed.out c.give_keeper.ensures.out c.give_keeper.ensures.legal;
        fits = c.give_keeper.ensures.fits;
      };
      seen = all_seen c.args.b bucket given old new is;
      held = on_ok Begun (KeeperHeld c.args.b old new (entry.Begun plan.parent plan.subs ∷ [])) c.begin-answer.result
          (λ begun. held-made c.args.b bucket given old new is (entry.Begun plan.parent plan.subs ∷ []) begun.entries
          (begins_part bucket given plan.parent plan.subs begun).entries_are) c.begin-answer.ensures.begun;
      begun = on_ok Begun (HasBegun (old.keeping.part c.args.b) plan (new.keeping.part c.args.b)) c.begin-answer.result
          (λ begun. kept_parts (λ was one. HasBegun was plan one) now part
          (has_begun (part_of bucket) (part_of given) plan ((begins_by_part bucket plan.parent plan.subs).0 can)
          (names_below bucket c.hold_keeper-bucket.ensures.handed.sound) (begins_part bucket given plan.parent plan.subs begun)
          (apart_part given c.begin-answer.ensures.sound) (once_fed given c.begin-answer.ensures.sound)))
          c.begin-answer.ensures.begun;
      looked = on_err Refused (KeeperHeld c.args.b old new []) c.begin-answer.result
          (λ same. held-none c.args.b bucket given old new is same.entries) c.begin-answer.ensures.refused;
      refused = on_err Refused (new.keeping.part c.args.b ≡ old.keeping.part c.args.b) c.begin-answer.result
          (λ same. now ∙ part-refused bucket given same ∙ part) c.begin-answer.ensures.refused;
      may_still = on_err Refused
          (MayBeSplit (g.D.Desk.layout c.give_keeper.new.self).first (new.seen.journals c.args.b) plan.parent plan.subs)
          c.begin-answer.result
          (λ same. may_still_begin (g.D.Desk.layout c.give_keeper.new.self) c.args.b bucket given plan.parent plan.subs
          (new.seen.journals c.args.b) is_of c.hold_keeper-bucket.ensures.handed.sound can same is.sees.journal) c.begin-answer.ensures.refused;
      full = λ answer.
          no_room (g.D.Desk.layout c.give_keeper.new.self) c.args.b bucket given plan.parent plan.subs (new.seen.journals c.args.b) is_of
          c.hold_keeper-bucket.ensures.handed.sound can
          (subst (λ (result : Result _ _). OnErr result Refused) answer c.begin-answer.ensures.refused)
          is.sees.journal (c.begin-answer.ensures.full.0 answer);
    }
