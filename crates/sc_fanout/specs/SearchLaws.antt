-- What a search finds with a route and without one, what an entry more changes of it, and that the journals determine it.
use Rattle.std.specs.Prelude.{◌≡◌, ◌↔◌, true, false, List, [], ◌∷◌, ◌++◌, Option, Some, None, IsSome, Contains}
use Rattle.sc_hash.specs.declared.range.Range.{Range}
use Rattle.sc_record.specs.Writes.{Write}
use Rattle.sc_record.specs.declared.entry.Entry.{Entry}
use Rattle.sc_cluster.specs.declared.slice.Slice.{Slice}
use Rattle.sc_eval.specs.Criteria.{Criterion}
use Rattle.sc_journal.specs.Journal.{last_write}
use Rattle.sc_journal.specs.Committed.{commits, IsShown}
use Rattle.sc_seen.specs.Seen.{Layout, Seen, journal_at}
use Rattle.sc_seen.specs.declared.stop.Stop.{Stop}
use Rattle.sc_fanout.specs.Searches.{IsFoundIn, Search, SearchPage, ShowsFound}

-- what is found with a route is found without one
abbrev pub RoutesFindNoMore : Type 0
RoutesFindNoMore = (first : List Slice) (journal : List Entry) (criterion : Criterion) (route : Option Range) (write : Write)
    → IsFoundIn first journal criterion route write → IsFoundIn first journal criterion None write

-- once an entry commits, the last write of each id before it can be found, unless it is a deletion, and no other
abbrev pub CommitsShowAll : Type 0
CommitsShowAll = (journal : List Entry) (one : Entry) (write : Write) → commits one ≡ true
    → IsShown (journal ++ one ∷ []) write ↔ ((last_write journal write.id ≡ Some write) × IsSome write.doc)

-- an entry that does not commit, as a write, changes nothing of what can be found
abbrev pub OthersChangeNothing : Type 0
OthersChangeNothing = (journal : List Entry) (one : Entry) (write : Write) → commits one ≡ false
    → IsShown (journal ++ one ∷ []) write ↔ IsShown journal write

-- the journals at its stops determine what a search shows: one count, and of each page one list of documents
abbrev pub SearchIsDetermined : Type 0
SearchIsDetermined = (layout : Layout) (seen other_seen : Seen) (search : Search) (one other : SearchPage)
    → ((stop : Stop) → Contains search.stops stop → journal_at seen stop ≡ journal_at other_seen stop)
    → ShowsFound layout seen search one → ShowsFound layout other_seen search other
    → (one.found ≡ other.found) × (one.start ≡ other.start → one.rows ≡ other.rows → one.docs ≡ other.docs)
