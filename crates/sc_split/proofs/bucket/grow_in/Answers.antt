-- One hold in which a further replica of a sub joins, or finds no memory.
use Rattle.std.proofs.Common.{refl, sym, ap, ◌∙◌, subst, ◌≡◌, []}
use Rattle.sc_seen.specs.Seen.{Layout}
use Rattle.sc_bucket.specs.declared.bucket.Bucket.{Bucket}
use Rattle.sc_handover.specs.AnyEvent.{IsKeeperEvent}
use Rattle.sc_keeper.specs.declared.part.Part.{Part}
use Rattle.sc_keeper.specs.Part.{part_of}
use Rattle.sc_collection.specs.Desks.{Out, KeeperMayReplace}
use Rattle.sc_collection.specs.Known.{known_of}
use Rattle.sc_collection.proofs.KeeperReplaceLemmas.{keeper_may_replace}
use Rattle.sc_split.specs.Buckets.{KeeperHeld, HasGrown, IsUnderway}
use Rattle.sc_split.proofs.HeldLemmas.{held_of, held_by_desk, part-given, all_seen, rest-held, held-none, kept_parts}
use Rattle.sc_cluster.specs.declared.slice.Slice.{Slice}
use Rattle.sc_bucket.specs.Events.{DeliversAllTo}
use Rattle.sc_handover.specs.Conditions.{CanGrow}
use Rattle.sc_handover.specs.Events.{Grows}
use Rattle.sc_handover.specs.Made.{leader_of}
use Rattle.sc_keeper.specs.Conditions.{MayGrow}
use Rattle.sc_keeper.specs.Events.{PartGrows}
use Rattle.sc_keeper.proofs.ConditionLemmas.{grows_by_part}
use Rattle.sc_keeper.proofs.EventLemmas.{grows_part}
use Rattle.sc_keeper.proofs.PassLemmas.{part-delivered_all_to}
use Rattle.sc_split.proofs.BegunLemmas.{apart_part, once_fed}
use Rattle.sc_split.proofs.GrownLemmas.{has_grown}
use Rattle.sc_split.proofs.UnderwayLemmas.{underway-grown}
use Rattle.sc_split.proofs.AnswerLemmas.{by_answer, on_ok, on_err}
use Rattle.sc_split.proofs.bucket.grow_in.Goals as goal

pub grow-answer-requires : goal.grow-answer-requires
grow-answer-requires g c =
    let bucket : Bucket = c.hold_keeper-bucket.result in
    let part = c.hold_keeper-bucket.ensures.part in
    let sub = c.requires.may.0 in
    let can = (grows_by_part bucket c.args.core sub).1
    (subst (λ (one : Part). MayGrow one c.args.core sub) (sym part) c.requires.may.1) in
    record { sound = c.hold_keeper-bucket.ensures.handed.sound; can = (sub, can) }

pub give_keeper-requires : goal.give_keeper-requires
give_keeper-requires g c =
    let bucket : Bucket = c.hold_keeper-bucket.result in
    let given : Bucket = c.grow-answer.new.bucket in
    let held = held_of c.args.b bucket in
    let part = c.hold_keeper-bucket.ensures.part in
    let sub = c.requires.may.0 in
    let can = (grows_by_part bucket c.args.core sub).1
    (subst (λ (one : Part). MayGrow one c.args.core sub) (sym part) c.requires.may.1) in
    let Done : Type 0 = (one : Slice) → CanGrow bucket c.args.core one → Grows bucket c.args.core one c.grow-answer.new.bucket in
    let Refused : Type 0 = DeliversAllTo bucket (leader_of c.args.core.slice) c.grow-answer.new.bucket in
    record {
      is_out = (
        held,
        ap (λ (out : Out). out.bucket) c.hold_keeper-bucket.ensures.handed.out,
        refl,
        subst (λ (layout : Layout). KeeperMayReplace layout held given) (sym c.hold_keeper-bucket.ensures.handed.layout)
            (keeper_may_replace (g.D.Desk.layout c.args.desk.now) held given c.hold_keeper-bucket.ensures.handed.is_of
            c.grow-answer.ensures.sound refl
            (by_answer Done Refused (IsKeeperEvent bucket given) c.grow-answer.result (λ grown. IsKeeperEvent.grows can (grown sub can))
            (λ delivered. IsKeeperEvent.finds_no_memory can delivered) c.grow-answer.ensures.grown c.grow-answer.ensures.refused)),
      );
      fits = c.hold_keeper-bucket.ensures.keepers.0;
    }

pub returns : goal.returns
returns g c =
    let bucket : Bucket = c.hold_keeper-bucket.result in
    let given : Bucket = c.grow-answer.new.bucket in
    let held = held_of c.args.b bucket in
    let part = c.hold_keeper-bucket.ensures.part in
    let out = ap (λ (out : Out). out.bucket) c.hold_keeper-bucket.ensures.handed.out in
    let old = known_of (g.D.Desk.seen c.args.desk.now) (g.D.Desk.keeping c.args.desk.now c.args.keepers.now) in
    let new =
    known_of (g.D.Desk.seen c.give_keeper.new.self) (g.D.Desk.keeping c.give_keeper.new.self c.give_keeper.new.keepers) in
    let is =
    held_by_desk c.args.b bucket given old.seen (g.D.Desk.seen c.hold_keeper-bucket.new.self) new.seen old.keeping
    (g.D.Desk.keeping c.hold_keeper-bucket.new.self c.hold_keeper-bucket.new.keepers) new.keeping
    c.hold_keeper-bucket.ensures.handed.extends part c.hold_keeper-bucket.ensures.handed.seen c.hold_keeper-bucket.ensures.keepers.1
    (c.give_keeper.ensures.seen held out) (c.give_keeper.ensures.keeping held out) in
    let now = part-given c.args.b bucket given old new is in
    let sub = c.requires.may.0 in
    let can = (grows_by_part bucket c.args.core sub).1
    (subst (λ (one : Part). MayGrow one c.args.core sub) (sym part) c.requires.may.1) in
    let Done : Type 0 = (one : Slice) → CanGrow bucket c.args.core one → Grows bucket c.args.core one c.grow-answer.new.bucket in
    let Refused : Type 0 = DeliversAllTo bucket (leader_of c.args.core.slice) c.grow-answer.new.bucket in
    record {
      leaves = record {
        layout = c.give_keeper.ensures.layout ∙ c.hold_keeper-bucket.ensures.handed.layout;
        rest = rest-held (g.D.Desk.layout c.give_keeper.new.self) new.seen held (g.D.Desk.out c.args.desk.now)
            (g.D.Desk.out c.hold_keeper-bucket.new.self) (g.D.Desk.out c.give_keeper.new.self) c.requires.rests.rest.nothing_out
            c.hold_keeper-bucket.ensures.handed.out c.give_keeper.ensures.out c.give_keeper.ensures.legal;
        fits = c.give_keeper.ensures.fits;
        seen = all_seen c.args.b bucket given old new is;
        held = by_answer Done Refused (KeeperHeld c.args.b old new []) c.grow-answer.result
            (λ grown. held-none c.args.b bucket given old new is (grown sub can).entries)
            (λ delivered. held-none c.args.b bucket given old new is delivered.entries) c.grow-answer.ensures.grown
            c.grow-answer.ensures.refused;
      };
      grown = on_ok Done (HasGrown (old.keeping.part c.args.b) c.args.core (new.keeping.part c.args.b)) c.grow-answer.result
          (λ grown. kept_parts (λ was one. HasGrown was c.args.core one) now part
          (has_grown (part_of bucket) (part_of given) c.args.core (grows_part bucket given c.args.core sub (grown sub can))
          (apart_part given c.grow-answer.ensures.sound) (once_fed given c.grow-answer.ensures.sound)))
          c.grow-answer.ensures.grown;
      refused = on_err Refused (new.keeping.part c.args.b ≡ old.keeping.part c.args.b) c.grow-answer.result
          (λ delivered. now ∙ part-delivered_all_to bucket given (leader_of c.args.core.slice) delivered ∙ part)
          c.grow-answer.ensures.refused;
      underway = λ base plan underway.
          by_answer Done Refused (IsUnderway base plan (new.keeping.part c.args.b)) c.grow-answer.result
          (λ grown. underway-grown base (old.keeping.part c.args.b) (new.keeping.part c.args.b) plan c.args.core sub c.requires.may.1
          (kept_parts (λ was one. PartGrows was c.args.core one) now part
          (grows_part bucket given c.args.core sub (grown sub can))) underway)
          (λ delivered. subst (IsUnderway base plan)
          (sym (now ∙ part-delivered_all_to bucket given (leader_of c.args.core.slice) delivered ∙ part)) underway)
          c.grow-answer.ensures.grown c.grow-answer.ensures.refused;
    }
