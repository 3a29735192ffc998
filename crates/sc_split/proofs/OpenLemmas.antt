-- How far a split has come in a bucket after one hold of its keeper, and after a hold of another.
use Rattle.std.proofs.Common.{◌≡◌, ◌≢◌, ◌⊎◌, inl, inr, ℕ, Bool, true, false, List, [], ◌∷◌, ◌++◌, nat_eq, refl, sym, ap, ◌∙◌, subst, arith, append_assoc}
use Rattle.std.proofs.lemmas.Bool.Decides.{nat_tests}
use Rattle.std.proofs.lemmas.List.{append-nil, append_cancel_left}
use Rattle.std.proofs.lemmas.List.Elements.{filter-append}
use mathlib.Core.List.{IsPrefix}
use Rattle.sc_record.specs.declared.entry.Entry.{Entry}
use Rattle.sc_record.specs.declared.entry.Entry.TheVariants as entry
use Rattle.sc_cluster.specs.declared.slice.Slice.{Slice}
use Rattle.sc_cluster.specs.declared.plan.SplitPlan.{SplitPlan}
use Rattle.sc_journal.specs.Legal.{MayBeSplit}
use Rattle.sc_seen.proofs.ExtendsLemmas.{IsPrefix-self, IsPrefix-then}
use Rattle.sc_keeper.specs.declared.part.Part.{Part}
use Rattle.sc_keeper.specs.Part.{is_of_keeper, keeper_entries}
use Rattle.sc_collection.specs.Known.{Known, IsSameIn}
use Rattle.sc_split.specs.Buckets.{part_in, IsAllSeen, LeavesOthers, KeeperHeld, IsUnderway, IsToFill, HasSubCores}
use Rattle.sc_split.specs.Stages.{OpenSplit, Stage, HasOpened, IsOpenIn, IsAtStage, IsUnbegun, KeepsKnownBoard}

-- where the keeper's entries stayed, none of those that came is one of them
none-came : (journal rest : List Entry) → keeper_entries (journal ++ rest) ≡ keeper_entries journal → keeper_entries rest ≡ []
none-came journal rest same =
    append_cancel_left (keeper_entries journal) (keeper_entries rest) []
    (sym (filter-append is_of_keeper journal rest) ∙ same ∙ sym (append-nil (keeper_entries journal)))

-- a split that was open is so after a hold that made no entry
pub open-held : (split : OpenSplit) (old new : Known) (b : ℕ) → KeeperHeld b old new [] → IsAllSeen b new
    → IsUnderway (part_in split.base b) split.plan (part_in new b) → IsOpenIn split old b → IsOpenIn split new b
open-held split old new b held seen underway was = record {
  underway = underway;
  seen = seen;
  own = held.own ∙ append-nil (old.keeping.own b) ∙ was.own;
  journal = record {
    before = was.journal.before;
    later = was.journal.later ++ rest;
    went_on = was.journal.went_on;
    journal_is = longer ∙ ap (λ (journal : List Entry). journal ++ rest) was.journal.journal_is
        ∙ append_assoc was.journal.before (entry.Begun split.plan.parent split.plan.subs ∷ was.journal.later) rest;
    none_later = filter-append is_of_keeper was.journal.later rest
        ∙ ap (λ (first : List Entry). first ++ keeper_entries rest) was.journal.none_later ∙ none-came (old.seen.journals b) rest kept;
  };
} where
  rest : List Entry
  rest = held.went_on.0

  longer : new.seen.journals b ≡ old.seen.journals b ++ rest
  longer = held.journal ∙ append-nil held.before ∙ sym held.went_on.1

  kept : keeper_entries (old.seen.journals b ++ rest) ≡ keeper_entries (old.seen.journals b)
  kept = ap keeper_entries (sym longer) ∙ seen ∙ held.entries ∙ append-nil (part_in old b).entries ∙ sym was.seen

-- a split is open once the hold has begun it
pub open-begun : (plan : SplitPlan) (old new : Known) (b : ℕ)
    → KeeperHeld b old new (entry.Begun plan.parent plan.subs ∷ []) → IsAllSeen b new
    → IsUnderway (part_in old b) plan (part_in new b) → IsOpenIn (record { plan = plan; base = old }) new b
open-begun plan old new b held seen underway = record {
  underway = underway;
  seen = seen;
  own = held.own;
  journal = record { before = held.before; later = []; went_on = held.went_on; journal_is = held.journal; none_later = refl };
}

-- a hold of one bucket leaves the others as they were
pub same-other : (b other : ℕ) (old new : Known) → LeavesOthers b old new → other ≢ b → IsSameIn old new other
same-other b other old new leaves apart = record {
  journal = leaves.journals other apart;
  part_is = leaves.parts other apart;
  own = leaves.kept other apart;
}

pub same-then : (b : ℕ) (old between new : Known) → IsSameIn old between b → IsSameIn between new b → IsSameIn old new b
same-then b old between new one two = record {
  journal = two.journal ∙ one.journal;
  part_is = two.part_is ∙ one.part_is;
  own = two.own ∙ one.own;
}

pub same-self : (b : ℕ) (known : Known) → IsSameIn known known b
same-self b known = record { journal = refl; part_is = refl; own = refl }

-- an open split is open where nothing was done
pub open-same : (split : OpenSplit) (old new : Known) (b : ℕ) → IsSameIn old new b → IsOpenIn split old b → IsOpenIn split new b
open-same split old new b same was = record {
  underway = subst (IsUnderway (part_in split.base b) split.plan) (sym same.part_is) was.underway;
  seen = ap keeper_entries same.journal ∙ was.seen ∙ ap (λ (part : Part). part.entries) (sym same.part_is);
  own = same.own ∙ was.own;
  journal = subst (HasOpened split.plan (split.base.seen.journals b)) (sym same.journal) was.journal;
}

-- and has come as far
pub stage-same : (split : OpenSplit) (stage : Stage) (old new : Known) (b : ℕ) → IsSameIn old new b → IsAtStage split stage old b
    → IsAtStage split stage new b
stage-same split stage old new b same was = record {
  opened = open-same split old new b same was.opened;
  phase_is = ap (λ (part : Part). part.phase) same.part_is ∙ was.phase_is;
  to_fill = subst (λ (part : Part). IsToFill part stage.to_fill) (sym same.part_is) was.to_fill;
  there = subst (λ (part : Part). HasSubCores part stage.there) (sym same.part_is) was.there;
}

-- a split that had not begun has not
pub unbegun-same : (split : OpenSplit) (first : List Slice) (old new : Known) (b : ℕ) → IsSameIn old new b → IsUnbegun split first old b
    → IsUnbegun split first new b
unbegun-same split first old new b same was = record {
  part_is = same.part_is ∙ was.part_is;
  own = same.own ∙ was.own;
  went_on = subst (λ (journal : List Entry). IsPrefix (split.base.seen.journals b) journal) (sym same.journal) was.went_on;
  journal = subst (λ (journal : List Entry). (journal ≡ split.base.seen.journals b) ⊎ MayBeSplit first journal split.plan.parent split.plan.subs)
      (sym same.journal) was.journal;
}

-- what was known when the split began counts of a bucket only by that bucket
pub stage-from : (plan : SplitPlan) (stage : Stage) (base now new : Known) (b : ℕ) → IsSameIn base now b
    → IsAtStage (record { plan = plan; base = now }) stage new b → IsAtStage (record { plan = plan; base = base }) stage new b
stage-from plan stage base now new b same was = record {
  opened = record {
    underway = subst (λ (part : Part). IsUnderway part plan (part_in new b)) same.part_is was.opened.underway;
    seen = was.opened.seen;
    own = was.opened.own ∙ ap (λ (own : List Entry). own ++ entry.Begun plan.parent plan.subs ∷ []) same.own;
    journal = subst (λ (journal : List Entry). HasOpened plan journal (new.seen.journals b)) same.journal was.opened.journal;
  };
  phase_is = was.phase_is;
  to_fill = was.to_fill;
  there = was.there;
}

pub unbegun-from : (plan : SplitPlan) (first : List Slice) (base now new : Known) (b : ℕ) → IsSameIn base now b
    → IsUnbegun (record { plan = plan; base = now }) first new b → IsUnbegun (record { plan = plan; base = base }) first new b
unbegun-from plan first base now new b same was = record {
  part_is = was.part_is ∙ same.part_is;
  own = was.own ∙ same.own;
  went_on = subst (λ (journal : List Entry). IsPrefix journal (new.seen.journals b)) same.journal was.went_on;
  journal = subst (λ (journal : List Entry). (new.seen.journals b ≡ journal) ⊎ MayBeSplit first (new.seen.journals b) plan.parent plan.subs)
      same.journal was.journal;
}

-- a split has not begun where nothing was done yet
pub unbegun-yet : (plan : SplitPlan) (first : List Slice) (base new : Known) (b : ℕ) → IsSameIn base new b
    → IsUnbegun (record { plan = plan; base = base }) first new b
unbegun-yet plan first base new b same = record {
  part_is = same.part_is;
  own = same.own;
  went_on = subst (λ (journal : List Entry). IsPrefix (base.seen.journals b) journal) (sym same.journal) (IsPrefix-self (base.seen.journals b));
  journal = inl same.journal;
}

-- a split has not begun where a hold refused it
pub unbegun-held : (plan : SplitPlan) (first : List Slice) (old new : Known) (b : ℕ) → KeeperHeld b old new [] → part_in new b ≡ part_in old b
    → MayBeSplit first (new.seen.journals b) plan.parent plan.subs → IsUnbegun (record { plan = plan; base = old }) first new b
unbegun-held plan first old new b held same may = record {
  part_is = same;
  own = held.own ∙ append-nil (old.keeping.own b);
  went_on = subst (IsPrefix (old.seen.journals b)) (sym (held.journal ∙ append-nil held.before)) held.went_on;
  journal = inr may;
}

-- the holds of a bucket leave the board
pub board-kept : (b : ℕ) (old new : Known) → LeavesOthers b old new → KeepsKnownBoard old new
board-kept b old new leaves = record { board = leaves.board; own = leaves.own }

pub board-then : (old between new : Known) → KeepsKnownBoard old between → KeepsKnownBoard between new → KeepsKnownBoard old new
board-then old between new one two = record { board = two.board ∙ one.board; own = λ lock. two.own lock ∙ one.own lock }

-- a hold leaves each journal with what was seen of it as its prefix
pub went-on : (b : ℕ) (old new : Known) (made : List Entry) → KeeperHeld b old new made → (lock : ℕ)
    → IsPrefix (old.seen.journals lock) (new.seen.journals lock)
went-on b old new made held lock = by (nat_eq lock b) refl where
  by : (same : Bool) → nat_eq lock b ≡ same → IsPrefix (old.seen.journals lock) (new.seen.journals lock)
  by true test =
      let is : lock ≡ b = grind (arith, nat_tests) in
      subst (λ (at : ℕ). IsPrefix (old.seen.journals at) (new.seen.journals at)) (sym is)
      (IsPrefix-then (old.seen.journals b) held.before (new.seen.journals b) held.went_on (made, sym held.journal))
  by false test =
      let apart : lock ≢ b = λ is. impossible is in
      subst (IsPrefix (old.seen.journals lock)) (sym (held.others.journals lock apart)) (IsPrefix-self (old.seen.journals lock)) where
        impossible : lock ≡ b → ⊥
        impossible is = grind (arith, nat_tests)
