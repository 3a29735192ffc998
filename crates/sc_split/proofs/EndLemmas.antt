-- What a hold of its keeper makes of a bucket in which the split is open: it fills its cores, makes it ready, or ends the split.
use Rattle.std.proofs.Common.{◌≡◌, ◌<◌, ◌≤◌, ℕ, arith, List, [], ◌∷◌, ◌++◌, refl, sym, ap, ◌∙◌, subst, append_assoc}
use Rattle.std.proofs.lemmas.List.{append_cancel_left, append_cancel_right}
use Rattle.std.proofs.lemmas.List.Elements.{filter-append}
use Rattle.sc_record.specs.declared.entry.Entry.{Entry}
use Rattle.sc_record.specs.declared.entry.Entry.TheVariants as entry
use Rattle.sc_keeper.specs.Part.{is_of_keeper, keeper_entries}
use Rattle.sc_keeper.specs.Conditions.{MayBeReady, MayAbort}
use Rattle.sc_keeper.specs.Events.{PartGetsReady}
use Rattle.sc_collection.specs.Known.{Known, OfBuckets, IsSameIn}
use Rattle.sc_split.specs.Buckets.{part_in, IsAllSeen, LeavesOthers, KeeperHeld, IsUnderway, IsFilled, KeepsSeats, IsGivenUp, first_cores}
use Rattle.sc_split.specs.Stages.{OpenSplit, Stage, HasEndedSplit, IsOpenIn, IsAtStage, IsEndedIn, IsFailedIn, filled, leaders_filled, recovering}
use Rattle.sc_split.proofs.StageLemmas.{sub_cores-seats, sub_cores-ready, to_fill-ready, may_be_ready}
use Rattle.sc_split.proofs.OpenLemmas.{open-held, open-same, same-other}
use Rattle.sc_split.proofs.LoopLemmas.{apart-below, same-after, in-all}

-- its cores are filled
pub stage-filled : (split : OpenSplit) (stage : Stage) (old new : Known) (b : ℕ) → KeeperHeld b old new [] → IsAllSeen b new
    → KeepsSeats (part_in old b) (part_in new b) → IsUnderway (part_in split.base b) split.plan (part_in new b) → IsFilled (part_in new b)
    → IsAtStage split stage old b → IsAtStage split (filled stage) new b
stage-filled split stage old new b held seen seats underway full was = record {
  opened = open-held split old new b held seen underway was.opened;
  phase_is = seats.rest.phase_is ∙ was.phase_is;
  to_fill = full;
  there = sub_cores-seats (part_in old b) (part_in new b) stage.there seats was.there;
}

-- the bucket whose leaders are filled may be ready
pub may-be-ready : (split : OpenSplit) (known : Known) (b : ℕ) → IsAtStage split (leaders_filled split.plan) known b
    → MayBeReady (part_in known b) split.plan.parent
may-be-ready split known b was =
    may_be_ready (part_in split.base b) (part_in known b) split.plan was.opened.underway was.phase_is was.to_fill was.there

-- it is ready
pub stage-ready : (split : OpenSplit) (old new : Known) (b : ℕ) → KeeperHeld b old new [] → IsAllSeen b new
    → PartGetsReady (part_in old b) split.plan.parent (part_in new b) → IsUnderway (part_in split.base b) split.plan (part_in new b)
    → IsAtStage split (leaders_filled split.plan) old b → IsAtStage split (recovering split.plan) new b
stage-ready split old new b held seen ready underway was = record {
  opened = open-held split old new b held seen underway was.opened;
  phase_is = ready.phase_is;
  to_fill = to_fill-ready (part_in old b) (part_in new b) split.plan.parent [] ready was.to_fill;
  there = sub_cores-ready (part_in old b) (part_in new b) split.plan.parent (first_cores split.plan.subs) ready was.there;
}

-- a hold that makes one entry of the keeper ends the split by it
pub ended-held : (split : OpenSplit) (end : Entry) (old new : Known) (b : ℕ) → keeper_entries (end ∷ []) ≡ end ∷ []
    → KeeperHeld b old new (end ∷ []) → IsAllSeen b new → IsOpenIn split old b → IsEndedIn split end new b
ended-held split end old new b of_keeper held seen was = record {
  own = held.own ∙ ap (λ (own : List Entry). own ++ end ∷ []) was.own
      ∙ append_assoc (split.base.keeping.own b) (entry.Begun split.plan.parent split.plan.subs ∷ []) (end ∷ []);
  journal = record {
    before = was.journal.before;
    later = was.journal.later ++ rest;
    went_on = was.journal.went_on;
    journal_is = held.journal ∙ ap (λ (journal : List Entry). journal ++ end ∷ []) (sym held.went_on.1)
        ∙ ap (λ (journal : List Entry). (journal ++ rest) ++ end ∷ []) was.journal.journal_is
        ∙ ap (λ (journal : List Entry). journal ++ end ∷ [])
        (append_assoc was.journal.before (entry.Begun split.plan.parent split.plan.subs ∷ was.journal.later) rest);
    none_later = filter-append is_of_keeper was.journal.later rest
        ∙ ap (λ (first : List Entry). first ++ keeper_entries rest) was.journal.none_later ∙ none;
  };
} where
  rest : List Entry
  rest = held.went_on.0

  whole : keeper_entries (old.seen.journals b) ++ (keeper_entries rest ++ end ∷ []) ≡ keeper_entries (old.seen.journals b) ++ end ∷ []
  whole = ap (λ (last : List Entry). keeper_entries (old.seen.journals b) ++ (keeper_entries rest ++ last)) (sym of_keeper)
      ∙ sym (append_assoc (keeper_entries (old.seen.journals b)) (keeper_entries rest) (keeper_entries (end ∷ [])))
      ∙ ap (λ (first : List Entry). first ++ keeper_entries (end ∷ [])) (sym (filter-append is_of_keeper (old.seen.journals b) rest))
      ∙ sym (filter-append is_of_keeper (old.seen.journals b ++ rest) (end ∷ []))
      ∙ ap (λ (journal : List Entry). keeper_entries (journal ++ end ∷ [])) held.went_on.1
      ∙ ap keeper_entries (sym held.journal) ∙ seen ∙ held.entries
      ∙ ap (λ (entries : List Entry). entries ++ end ∷ []) (sym was.seen)

  none : keeper_entries rest ≡ []
  none = append_cancel_right (keeper_entries rest) [] (end ∷ []) (append_cancel_left (keeper_entries (old.seen.journals b))
      (keeper_entries rest ++ end ∷ []) (end ∷ []) whole)

-- a split that is open may be given up
pub may-abort : (split : OpenSplit) (known : Known) (b : ℕ) → IsOpenIn split known b → MayAbort (part_in known b) split.plan.parent
may-abort split known b was = was.underway.is_open

-- it is given up
pub failed-held : (split : OpenSplit) (old new : Known) (b : ℕ) → KeeperHeld b old new (entry.Failed split.plan.parent ∷ []) → IsAllSeen b new
    → IsGivenUp (part_in split.base b) split.plan (part_in new b) → IsOpenIn split old b → IsFailedIn split new b
failed-held split old new b held seen given was = record {
  ended = ended-held split (entry.Failed split.plan.parent) old new b refl held seen was;
  given_up = given;
}

-- where nothing was done it is given up still
pub failed-same : (split : OpenSplit) (old new : Known) (b : ℕ) → IsSameIn old new b → IsFailedIn split old b → IsFailedIn split new b
failed-same split old new b same was = record {
  ended = record {
    own = same.own ∙ was.ended.own;
    journal = subst (HasEndedSplit split.plan (entry.Failed split.plan.parent) (split.base.seen.journals b)) (sym same.journal) was.ended.journal;
  };
  given_up = subst (IsGivenUp (part_in split.base b) split.plan) (sym same.part_is) was.given_up;
}

-- the split is open in all buckets, if it is in that which was held
pub open-in-all : (split : OpenSplit) (stage later : Stage) (base now new : Known) (b n : ℕ) → OfBuckets 0 n (IsAtStage split stage base)
    → OfBuckets 0 b (IsAtStage split later now) → OfBuckets b n (IsSameIn base now) → b < n → LeavesOthers b now new
    → (IsOpenIn split now b → IsOpenIn split new b) → OfBuckets 0 n (IsOpenIn split new)
open-in-all split stage later base now new b n at before same below leaves here =
    in-all (IsOpenIn split new) b n
    (λ k low within. open-same split now new k (same-other b k now new leaves (apart-below k b within)) (before k low within).opened)
    (here (open-same split base now b (same b from below) (at b zero below).opened))
    (λ k low within. let first : 0 ≤ k = omega arith in
    open-same split base new k (same-after base now new b n same leaves k low within) (at k first within).opened)
  where
    from : b ≤ b
    from = omega arith

    zero : 0 ≤ b
    zero = omega arith
