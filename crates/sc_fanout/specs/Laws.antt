-- What pages are where no two documents have one id.
use Rattle.std.specs.Prelude.{◌≡◌, ◌≤◌, ◌+◌, ◌*◌, ℕ, List, [], ◌∷◌, ◌++◌, length, map, Contains, ⊤}
use Rattle.std.specs.Arc.{arc_value}
use Rattle.std.specs.List.{flat_map}
use Rattle.sc_record.specs.Writes.{Write}
use Rattle.sc_fanout.specs.declared.shown.Page.{Page}
use Rattle.sc_finding.specs.Lists.{SortsById}
use Rattle.sc_fanout.specs.Pages.{IsPageOf}

-- two writes of one id are one write
abbrev pub IsOneOfEachId : List Write → Type 0
IsOneOfEachId writes = (one other : Write) → Contains writes one → Contains writes other → one.id ≡ other.id → one ≡ other

-- two pages from one place, of as many rows, show the same
abbrev pub PageIsDetermined : Type 0
PageIsDetermined = (all : List Write) (start rows : ℕ) (one other : Page) → IsOneOfEachId all
    → IsPageOf all start rows one → IsPageOf all start rows other
    → (one.found ≡ other.found) × (map arc_value one.docs ≡ map arc_value other.docs)

-- a page and the page that follows it, laid end to end, are one page of both
abbrev pub PagesFollowOn : Type 0
PagesFollowOn = (all : List Write) (start rows more : ℕ) (one next both : Page) → IsOneOfEachId all
    → IsPageOf all start rows one → IsPageOf all (start + rows) more next → IsPageOf all start (rows + more) both
    → map arc_value both.docs ≡ map arc_value one.docs ++ map arc_value next.docs

-- the pages begin at `start` and follow one another, each of at most `rows`
abbrev pub ArePages : List Write → ℕ → ℕ → List Page → Type 0
ArePages all rows start [] = ⊤
ArePages all rows start (page ∷ pages) = IsPageOf all start rows page × ArePages all rows (start + rows) pages

-- pages from the first on, enough of them for all writes, laid end to end are all writes in order
abbrev pub PagesAreTheWhole : Type 0
PagesAreTheWhole = (all sorted : List Write) (rows : ℕ) (pages : List Page) → IsOneOfEachId all → SortsById all sorted
    → ArePages all rows 0 pages → length all ≤ length pages * rows
    → flat_map (λ (page : Page). map arc_value page.docs) pages ≡ sorted
