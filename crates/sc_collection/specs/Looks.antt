-- What is looked at in the buckets of a collection, one hold each, and the searchers that are taken there.
use Rattle.std.specs.Prelude.{◌≡◌, ℕ, false, List, [], ◌∷◌, length, map, filter, All, Option}
use Rattle.std.specs.List.{AllByRecursion, range_with_len}
use mathlib.Core.List.{IsPrefix}
use Rattle.sc_hash.specs.declared.range.Range.{Range}
use Rattle.sc_router.specs.Route.{bucket_of}
use Rattle.sc_record.specs.Writes.{Write}
use Rattle.sc_record.specs.declared.entry.Entry.{Entry}
use Rattle.sc_cluster.specs.Map.{IsMap}
use Rattle.sc_journal.specs.Journal.{writes}
use Rattle.sc_journal.specs.Splits.{map_after}
use Rattle.sc_journal.specs.Legal.{IsLegal}
use Rattle.sc_seen.specs.Seen.{Layout}
use Rattle.sc_seen.specs.Moments.{View, Keeps}
use Rattle.sc_seen.specs.declared.stop.Stop.{Stop}
use Rattle.sc_replicas.specs.declared.standing.Searcher.{Searcher}
use Rattle.sc_bucket.specs.Asked.{is_asked, AreOfSlices}

-- the buckets from 0 on were each looked at once, in order: so many of them
pub record LooksAtBuckets (count : ℕ) (stops : List Stop) : Type 0 where
  pub locks : map (λ (stop : Stop). stop.lock) stops ≡ range_with_len 0 count
  pub made : All (λ (stop : Stop). stop.made ≡ false) stops

-- A bucket was looked at in one hold, whose stop is kept, and what was taken is so by its journal then.
pub record LooksAtOne (layout : Layout) (old new : View) (number : ℕ) (taken : List Entry → Type 0) : Type 0 where
  pub journal : List Entry
  pub begins : IsPrefix journal (new.seen.journals number)
  pub keeps : Keeps layout old new (record { lock = number; place = length journal; made = false } ∷ [])
  pub is_taken : taken journal

-- the journal is legal, the slices after it are those of a cluster, and the ids of its writes belong to the bucket
pub record IsJournalOf (layout : Layout) (number : ℕ) (journal : List Entry) : Type 0 where
  pub is_map : IsMap (map_after layout.first journal)
  pub legal : IsLegal layout.first journal
  pub ids : AllByRecursion (λ (write : Write). bucket_of write.id layout.buckets ≡ number) (writes journal)

-- the searchers are those of a bucket's slices that a search with this route looks at
pub record AreAsked (layout : Layout) (number : ℕ) (journal : List Entry) (route : Option Range) (searchers : List Searcher) : Type 0 where
  pub is_of : IsJournalOf layout number journal
  pub each : AreOfSlices journal (filter (is_asked route) (map_after layout.first journal)) searchers
