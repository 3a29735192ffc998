-- What is kept of what the searchers find.
use Rattle.std.specs.Prelude.{◌≡◌, ◌<◌, ◌≤◌, ◌*◌, ◌^◌, ℕ, true, false, List, [], ◌∷◌, map, take, length, All, Option, None, Some, Vec, slice_get, slice_index_or, option_to_list}
use Rattle.std.specs.List.{flat_map}
use Rattle.std.proofs.Common.{Bor}
use Rattle.std.specs.declared.alloc.Global.{Global}
use Rattle.std.specs.declared.sync.Arc.{Arc}
use Rattle.sc_record.specs.Writes.{Write}
use Rattle.sc_replicas.specs.declared.standing.Searcher.{Searcher}
use Rattle.sc_snapshot.specs.Rows.{lent}
use Rattle.sc_eval.specs.Criteria.{Criterion}
use Rattle.sc_eval.specs.Numbers.{numbers_of}
use Rattle.sc_eval.specs.declared.numbers.Matches.{Matches}
use Rattle.sc_finding.specs.Merging.{AscendsBy, goes_before}
use Rattle.sc_finding.specs.Lists.{all_of}
use Rattle.sc_replicas.specs.Searchers.{searcher_rows}
use Rattle.sc_finding.specs.SearcherRows.{found_in}
use Rattle.sc_finding.specs.declared.hits.Hits.{Hits}
use Rattle.sc_finding.specs.declared.hits.Found.{Found}
use Rattle.sc_finding.specs.declared.hits.Front.{Front}
use Rattle.sc_finding.specs.declared.hits.Lead.{Lead}

-- at these numbers, counted from 0, these rows stand, in this order
abbrev pub StandAt : (rows : List Write) (numbers : List ℕ) (these : List Write) → Type 0
StandAt rows numbers these = map (slice_get rows) numbers ≡ map (λ (write : Write). Some write) these

-- this is how many rows the criterion finds in the searcher's rows, and the numbers of the first of them, at most so many
pub record HasMatches (criterion : Criterion) (most : ℕ) (searcher : Searcher) (found : Matches) : Type 0 where
  pub count : found.count ≡ length (found_in criterion searcher)
  pub first : StandAt (searcher_rows searcher) (numbers_of found.first) (take most (found_in criterion searcher))

-- the hits are the numbers of the first rows that the criterion finds in their searcher's rows, at most so many
abbrev pub AreHits : Criterion → (most : ℕ) → Hits → Type 0
AreHits criterion most hits = StandAt (searcher_rows hits.searcher.now) (numbers_of hits.numbers) (take most (found_in criterion hits.searcher.now))

-- the searchers of the hits
abbrev pub searchers_of : List Hits → List Searcher
searchers_of all = map (λ (hits : Hits). hits.searcher.now) all

-- all that the criterion finds in the rows of the searchers of these hits, a list for each
abbrev pub lists_of : Criterion → List Hits → List (List Write)
lists_of criterion all = map (found_in criterion) (searchers_of all)

-- This is what the criterion finds with these searchers: the count of all, and of each the first hits, at most so many.
pub record HasFound (criterion : Criterion) (most : ℕ) (searchers : List Searcher) (found : Found) : Type 0 where
  pub count : found.count ≡ length (all_of (map (found_in criterion) searchers))
  pub few : found.count ≤ 2 ^ 24 * length searchers
  pub searchers_are : searchers_of found.hits.items ≡ searchers
  pub kept : All (AreHits criterion most) found.hits.items

-- the writes of a list of them
abbrev pub lent_in : Vec (Bor (Arc Write Global)) Global → List Write
lent_in cells = map lent cells.items

-- the rows at these numbers
abbrev pub rows_numbered : List Write → List ℕ → List Write
rows_numbered rows numbers = flat_map (λ number. option_to_list (slice_get rows number)) numbers

-- the rows at the numbers of the hits
abbrev pub hit_rows : Hits → List Write
hit_rows hits = rows_numbered (searcher_rows hits.searcher.now) (numbers_of hits.numbers)

-- these lists begin as those do, as far as the first `most` of each
abbrev pub BeginAlike : (most : ℕ) → List (List Write) → List (List Write) → Type 0
BeginAlike most wholes lists = map (take most) lists ≡ map (take most) wholes

-- the rows of a lead: its row, and those at the numbers after it
abbrev pub lead_rows : Lead → List Write
lead_rows lead = lent lead.row ∷ rows_numbered (searcher_rows lead.searcher.now) lead.rest.now

-- the rows of a lead, none where there is no lead
abbrev pub lead_left : Option Lead → List Write
lead_left None = []
lead_left (Some lead) = lead_rows lead

-- the rows of a front: its first row, and those at the numbers after it
abbrev pub front_rows : Front → List Write
front_rows front = lent front.lead ∷ rows_numbered (searcher_rows front.searcher.now) front.rest.now

-- the rows of a front, none where there is no front
abbrev pub rows_left : Option Front → List Write
rows_left None = []
rows_left (Some front) = front_rows front

-- the first rows of fronts
abbrev pub leads_of : List Front → List Write
leads_of fronts = map (λ (front : Front). lent front.lead) fronts

-- the rows of hits ascend by their ids
abbrev pub HitsAscend : Hits → Type 0
HitsAscend hits = AscendsBy goes_before (hit_rows hits)

-- the rows of a lead do
abbrev pub LeadAscends : Lead → Type 0
LeadAscends lead = AscendsBy goes_before (lead_rows lead)

-- the rows of a front do
abbrev pub FrontAscends : Front → Type 0
FrontAscends front = AscendsBy goes_before (front_rows front)

-- of the first so many writes none before this place goes before the one there, and that one goes before those after it
pub record IsLeast (writes : List Write) (count at : ℕ) : Type 0 where
  pub sooner : (i : ℕ) (d : Write) → i < at → goes_before (slice_index_or writes i d) (slice_index_or writes at d) ≡ false
  pub later : (i : ℕ) (d : Write) → at < i → i < count → goes_before (slice_index_or writes at d) (slice_index_or writes i d) ≡ true
