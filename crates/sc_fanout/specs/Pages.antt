-- Pages of the documents that the buckets find.
use Rattle.std.specs.Prelude.{◌≡◌, ℕ, List, length, map, take, drop}
use Rattle.std.specs.Arc.{arc_value}
use Rattle.sc_record.specs.Writes.{Write}
use Rattle.sc_finding.specs.Lists.{SortsById}
use Rattle.sc_fanout.specs.declared.shown.Page.{Page}

-- the page has the count of all writes, and of all in order those from `start` on, counted from 0, at most `rows`
pub record IsPageOf (all : List Write) (start rows : ℕ) (page : Page) : Type 0 where
  pub found : page.found ≡ length all
  pub sorted : List Write
  pub order : SortsById all sorted
  pub docs : map arc_value page.docs ≡ take rows (drop start sorted)
