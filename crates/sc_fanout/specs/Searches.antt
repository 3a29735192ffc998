-- What a search finds, by the journals that were seen.
use Rattle.std.specs.Prelude.{◌≡◌, ◌≤◌, ◌↔◌, ℕ, true, List, length, map, take, drop, Contains, Option, Some, None, Result, IfOk, ⊤}
use Rattle.std.specs.Arc.{arc_value}
use Rattle.std.specs.declared.alloc.AllocError.{AllocError}
use Rattle.sc_hash.specs.Range.{Meets}
use Rattle.sc_hash.specs.declared.range.Range.{Range}
use Rattle.sc_record.specs.Writes.{AscendById, Write}
use Rattle.sc_record.specs.declared.entry.Entry.{Entry}
use Rattle.sc_cluster.specs.declared.slice.Slice.{Slice}
use Rattle.sc_cluster.specs.Map.{Leads}
use Rattle.sc_eval.specs.Criteria.{Criterion, criterion_of}
use Rattle.sc_eval.specs.Matching.{matches}
use Rattle.sc_journal.specs.Splits.{map_after}
use Rattle.sc_journal.specs.Committed.{IsShown}
use Rattle.sc_seen.specs.Seen.{Layout, Seen, FromNowOn, journal_at}
use Rattle.sc_seen.specs.Moments.{View, Keeps}
use Rattle.sc_seen.specs.declared.stop.Stop.{Stop}
use Rattle.sc_collection.specs.Looks.{LooksAtBuckets}
use Rattle.sc_fanout.specs.declared.ask.Ask.{Ask}
use Rattle.sc_fanout.specs.declared.shown.Page.{Page}

-- a search looks there: it has no route, or an active slice whose range meets the route has the hash
abbrev pub IsInRoute : List Slice → Option Range → Write → Type 0
IsInRoute slices None write = ⊤
IsInRoute slices (Some route) write =
    (slice : Slice) × Leads slices write.hash slice × Meets slice.range.min slice.range.max route.min route.max

-- the search finds the write in a journal, from the first map on: it is the last of its id that was committed there, it is no
-- deletion, its document meets the criterion, and the search looks there
pub record IsFoundIn (first : List Slice) (journal : List Entry) (criterion : Criterion) (route : Option Range) (write : Write) : Type 0 where
  pub shown : IsShown journal write
  pub matched : matches criterion write ≡ true
  pub in_route : IsInRoute (map_after first journal) route write

-- a search: its stops, the criterion of its query, and the hashes of its route, if it has one
pub record Search : Type 0 where
  pub stops : List Stop
  pub criterion : Criterion
  pub route : Option Range

-- what a search shows: from which document on, counted from 0, and how many at most; how many are found in all; and the documents
pub record SearchPage : Type 0 where
  pub start : ℕ
  pub rows : ℕ
  pub found : ℕ
  pub docs : List Write

-- the search finds the write in the journal at one of its stops
abbrev pub IsFoundAtOne : Layout → Seen → Search → Write → Type 0
IsFoundAtOne layout seen search write =
    (stop : Stop) × Contains search.stops stop × IsFoundIn layout.first (journal_at seen stop) search.criterion search.route write

-- the writes are exactly those that the search finds, each once, ascending by the ids' bytes
pub record AreFoundAt (layout : Layout) (seen : Seen) (search : Search) (sorted : List Write) : Type 0 where
  pub ascend : AscendById sorted
  pub exactly : (write : Write) → Contains sorted write ↔ IsFoundAtOne layout seen search write

-- A search shows how many documents are found, and of them those from `start` on, at most `rows`.
pub record ShowsFound (layout : Layout) (seen : Seen) (search : Search) (page : SearchPage) : Type 0 where
  pub sorted : List Write
  pub are_found : AreFoundAt layout seen search sorted
  pub found_is : page.found ≡ length sorted
  pub docs_are : page.docs ≡ take page.rows (drop page.start sorted)

-- the search that is asked for, with its stops
abbrev pub search_of : Ask → List Stop → Search
search_of ask stops = record { stops = stops; criterion = criterion_of ask.query; route = ask.route }

-- the page that is shown of what is asked for
abbrev pub page_of : Ask → Page → SearchPage
page_of ask page = record { start = ask.start; rows = ask.rows; found = page.found; docs = map arc_value page.docs }

-- A search looked at the buckets in turn, and kept these stops, up to the last or up to where memory ran out.
pub record SearchesBuckets (layout : Layout) (old new : View) (ask : Ask) (page : Result Page AllocError) : Type 0 where
  pub stops : List Stop
  pub keeps : Keeps layout old new stops
  pub count : ℕ
  pub few : count ≤ layout.buckets
  pub looks : LooksAtBuckets count stops
  pub shows : IfOk page (λ page. (count ≡ layout.buckets)
      × FromNowOn new.seen (λ later. ShowsFound layout later (search_of ask stops) (page_of ask page)))
