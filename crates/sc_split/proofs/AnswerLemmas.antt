-- What holds leave whose event may be refused.
use Rattle.std.proofs.Common.{◌≡◌, ℕ, List, sym, ap, ◌∙◌, subst}
use Rattle.std.specs.Prelude.{Result, Ok, Err, OnOk, OnErr}
use Rattle.sc_record.specs.declared.slice.SliceId.{SliceId}
use Rattle.sc_record.specs.declared.slice.SubSlice.{SubSlice}
use Rattle.sc_record.specs.declared.entry.Entry.{Entry}
use Rattle.sc_cluster.specs.Plans.{IsPlan}
use Rattle.sc_journal.specs.Splits.{open_split, map_after, entries_of_split, IsFullFor}
use Rattle.sc_journal.specs.Legal.{MayBeSplit}
use Rattle.sc_seen.specs.Seen.{Layout}
use Rattle.sc_bucket.specs.declared.bucket.Bucket.{Bucket}
use Rattle.sc_bucket.specs.Room.{BucketIsFull}
use Rattle.sc_bucket.specs.Sound.{IsSound, IsInPhase}
use Rattle.sc_bucket.specs.Events.{IsSameButRoom}
use Rattle.sc_handover.specs.Conditions.{CanBegin}
use Rattle.sc_collection.specs.Desks.{IsBucketOf}
use Rattle.sc_split.specs.Buckets.{HasNoRoomFor}

-- what is so in each case is so
pub by_answer : {T E : Type 0} (P Q R : Type 0) (answer : Result T E) → (P → R) → (Q → R) → OnOk answer P → OnErr answer Q → R
by_answer P Q R (Ok value) here there done refused = here done
by_answer P Q R (Err error) here there done refused = there refused

-- what follows from what was done
pub on_ok : {T E : Type 0} (P Q : Type 0) (answer : Result T E) → (P → Q) → OnOk answer P → OnOk answer Q
on_ok P Q (Ok value) then done = then done
on_ok P Q (Err error) then done = tt

-- and from a refusal
pub on_err : {T E : Type 0} (P Q : Type 0) (answer : Result T E) → (P → Q) → OnErr answer P → OnErr answer Q
on_err P Q (Ok value) then refused = tt
on_err P Q (Err error) then refused = then refused

-- the bucket has no split open and no room, and so its journal
pub no_room : (layout : Layout) (number : ℕ) (bucket given : Bucket) (parent : SliceId) (subs : List SubSlice) (journal : List Entry)
    → IsBucketOf layout number bucket → IsSound bucket → CanBegin bucket parent subs → IsSameButRoom bucket given
    → journal ≡ given.journal.entries → BucketIsFull (entries_of_split subs) bucket → HasNoRoomFor layout subs journal
no_room layout number bucket given parent subs journal is_of sound can same is full =
    let idle = subst (IsInPhase bucket) can.idle sound.phase in
    let same_journal : bucket.journal.entries ≡ journal = sym (is ∙ same.entries) in
    record {
      none_open = ap open_split (sym same_journal) ∙ idle.idle;
      full = subst (IsFullFor (entries_of_split subs) layout.limit layout.first) same_journal
          (subst (λ first. IsFullFor (entries_of_split subs) layout.limit first bucket.journal.entries) is_of.first
          (subst (λ limit. IsFullFor (entries_of_split subs) limit bucket.first bucket.journal.entries) is_of.limit full));
    }

-- and the split may still begin in it
pub may_still_begin : (layout : Layout) (number : ℕ) (bucket given : Bucket) (parent : SliceId) (subs : List SubSlice)
    (journal : List Entry)
    → IsBucketOf layout number bucket → IsSound bucket → CanBegin bucket parent subs → IsSameButRoom bucket given
    → journal ≡ given.journal.entries → MayBeSplit layout.first journal parent subs
may_still_begin layout number bucket given parent subs journal is_of sound can same is =
    let idle = subst (IsInPhase bucket) can.idle sound.phase in
    let same_journal : bucket.journal.entries ≡ journal = sym (is ∙ same.entries) in
    record {
      idle = ap open_split (sym same_journal) ∙ idle.idle;
      plan = subst (λ slices. IsPlan slices parent subs)
          (sound.journal.map_is ∙ ap (λ first. map_after first bucket.journal.entries) is_of.first ∙ ap
          (map_after layout.first) same_journal) can.plan;
    }
