-- What a hold by the keeper, in which a slice is dropped from the bucket, leaves of what is known.
use Rattle.std.proofs.Common.{◌≡◌, ◌≢◌, ℕ, true, [], ◌∷◌, ◌++◌, sym, ap, ◌∙◌, subst, Some, None}
use Rattle.std.proofs.lemmas.List.{append_cancel_left}
use mathlib.Core.List.{IsPrefix}
use Rattle.sc_record.specs.declared.slice.SliceId.{SliceId}
use Rattle.sc_record.specs.declared.entry.Entry.TheVariants as entry
use Rattle.sc_seen.specs.Seen.{Seen}
use Rattle.sc_bucket.specs.declared.bucket.Bucket.{Bucket}
use Rattle.sc_handover.specs.Conditions.{CanDrop}
use Rattle.sc_handover.specs.Events.{Drops}
use Rattle.sc_keeper.specs.declared.part.Part.{Part}
use Rattle.sc_keeper.specs.Part.{part_of}
use Rattle.sc_keeper.specs.Conditions.{MayDrop}
use Rattle.sc_keeper.specs.Events.{PartDrops}
use Rattle.sc_keeper.proofs.ConditionLemmas.{drops_by_part}
use Rattle.sc_keeper.proofs.EventLemmas.{drops_part}
use Rattle.sc_collection.specs.Desks.{Held, Out, Keeping, KeepsOn, KeepsGiven, SeesKeeperGiven}
use Rattle.sc_collection.specs.Known.{Known, known_of, IsSameIn, KeepsBoard}
use Rattle.sc_admin.specs.Dropping.{IsDroppedIn}

-- a slice may be dropped from a bucket, by the bucket's part
pub can_drop : (bucket : Bucket) (part : Part) (slice : SliceId) → part_of bucket ≡ part → MayDrop part slice → CanDrop bucket slice
can_drop bucket part slice same may = (drops_by_part bucket slice).1 (subst (λ (one : Part). MayDrop one slice) (sym same) may)

-- the bucket of this number, handed out to its keeper
abbrev pub held_of : ℕ → Bucket → Held
held_of number bucket = record { number = number; bucket = bucket; by_keeper = true }

-- what a hold by the keeper leaves, once it gave back the bucket
pub record IsHeld (number : ℕ) (bucket given : Bucket) (old new : Known) : Type 0 where
  pub begins : IsPrefix (old.seen.journals number) bucket.journal.entries
  pub part : part_of bucket ≡ old.keeping.part number
  pub sees : SeesKeeperGiven (held_of number bucket) given old.seen new.seen
  pub between : Keeping
  pub keeps_on : KeepsOn old.keeping between
  pub keeps : KeepsGiven (held_of number bucket) given between new.keeping

-- a hold, by what the desk says of it
pub held_by_desk : (number : ℕ) (bucket given : Bucket) (seen out_seen new_seen : Seen) (keeping between new_keeping : Keeping)
    → IsPrefix (seen.journals number) bucket.journal.entries → part_of bucket ≡ keeping.part number → out_seen ≡ seen
    → KeepsOn keeping between → SeesKeeperGiven (held_of number bucket) given out_seen new_seen
    → KeepsGiven (held_of number bucket) given between new_keeping
    → IsHeld number bucket given (known_of seen keeping) (known_of new_seen new_keeping)
held_by_desk number bucket given seen out_seen new_seen keeping between new_keeping begins part same keeps_on sees keeps = record {
  begins = begins;
  part = part;
  sees = subst (λ (was : Seen). SeesKeeperGiven (held_of number bucket) given was new_seen) same sees;
  between = between;
  keeps_on = keeps_on;
  keeps = keeps;
}

module _ (number : ℕ) (bucket given : Bucket) (old new : Known) (is : IsHeld number bucket given old new) where
  -- others stay
  pub others_same : (other : ℕ) → other ≢ number → IsSameIn old new other
  others_same other apart = record {
    journal = is.sees.others other apart;
    part_is = is.keeps.others other apart ∙ is.keeps_on.part other;
    own = is.keeps.others_own other apart ∙ is.keeps_on.own other;
  }

  -- and so does the board
  pub board_same : KeepsBoard old.seen new.seen
  board_same = record { board = is.sees.board; own = is.sees.own }

  -- the slice is dropped
  pub dropped_in : (slice : SliceId) → Drops bucket slice given → IsDroppedIn slice old new number
  dropped_in slice drops = record {
    before = bucket.journal.entries;
    went_on = is.begins;
    journal = is.sees.journal ∙ drops.entries;
    own = is.keeps.own ∙ ap (λ own. own ++ is.keeps.made) (is.keeps_on.own number) ∙ ap (λ more. old.keeping.own number ++ more) made;
    part = subst (PartDrops (old.keeping.part number) slice) (sym is.keeps.part)
        (subst (λ (part : Part). PartDrops part slice (part_of given)) is.part (drops_part bucket given slice drops));
  }
    where
      made : is.keeps.made ≡ entry.Dropped slice ∷ []
      made = append_cancel_left bucket.journal.entries is.keeps.made (entry.Dropped slice ∷ []) (sym is.keeps.added ∙ drops.entries)

-- what is out besides the bucket stays out
pub out_same : (held : Held) (out held_out new_out : Out) → out.bucket ≡ None → held_out ≡ record out { bucket = Some held }
    → new_out ≡ record held_out { bucket = None } → new_out ≡ out
out_same held out held_out new_out none taken given =
    given ∙ ap (λ (o : Out). record o { bucket = None }) taken ∙ ap (λ bucket. record out { bucket = bucket }) (sym none)
