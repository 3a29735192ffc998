-- What is true of the last writes of each id in a range.
use Rattle.std.proofs.Common.{◌≡◌, ◌∙◌, ◌≤◌, ℕ, ℤ, List, filter, length, get_or, All, Contains, sym, ap, arith}
use Rattle.std.proofs.lemmas.List.Elements.{All-contains_itself, All-weaker}
use Rattle.std.proofs.lemmas.List.Sums.{length-filter, count_by-le-length}
use Rattle.sc_hash.specs.Range.{IsWithin}
use Rattle.sc_hash.specs.declared.range.Range.{Range}
use Rattle.sc_hash.specs.Bounds.{bounds, contains}
use Rattle.sc_hash.proofs.BoundsLemmas.{contains-Decides}
use Rattle.sc_router.specs.Route.{route_hash}
use Rattle.sc_record.specs.Writes.{Write, is_of, write_of, AscendById}
use Rattle.sc_record.specs.declared.entry.Entry.{Entry}
use Rattle.sc_snapshot.specs.Rows.{is_within}
use Rattle.sc_cluster.specs.declared.slice.Slice.{Slice}
use Rattle.sc_cluster.proofs.ListLemmas.{Contains-from_filter}
use Rattle.sc_replica.proofs.IdLemmas.{order-itself}
use Rattle.sc_replica.proofs.PlaceLemmas.{write_of-found}
use Rattle.sc_journal.specs.Journal.{writes, last_of, last_write}
use Rattle.sc_journal.specs.Legal.{IsLegal}
use Rattle.sc_journal.proofs.JournalLemmas.{id_from_is_of}
use Rattle.sc_journal.proofs.LegalLemmas.{legal_hash}
use Rattle.sc_bucket.specs.Sound.{IsInRange}
use Rattle.sc_bucket.specs.Taking.{AreLastOf}
use Rattle.sc_bucket.proofs.CommitLemmas.{length-among}
use Rattle.sc_bucket.proofs.NextLemmas.{Implies, filter_implied}
use Rattle.sc_bucket.proofs.TakenLemmas.{Contains-slice_get}

-- they are among those writes
pub last_are_among : (these cells : List Write) → AscendById cells → AreLastOf these cells → All (Contains these) cells
last_are_among these cells ascend last k d below =
    let cell : Write = get_or cells k d in
    let found = write_of-found cells cell.id k d ascend below (order-itself cell.id) in
    let of_id : List Write = filter (is_of cell.id) these in
    (Contains-from_filter (is_of cell.id) these cell (Contains-slice_get of_id _ cell (sym (last cell.id) ∙ found))).0

-- and there are no more of them
pub last_are_few : (range : Range) (these cells : List Write) → AscendById cells → AreLastOf (filter (is_within range) these) cells
    → length cells ≤ length these
last_are_few range these cells ascend last =
    let within : List Write = filter (is_within range) these in
    let fewer = length-among cells within ascend (last_are_among within cells ascend last) in
    omega (arith, fewer, length-filter (is_within range) these, count_by-le-length (is_within range) these)

-- each is one of the writes, with a hash in the slice's range
pub last_are_written : (slice : Slice) (these cells : List Write) → AscendById cells → AreLastOf (filter (is_within slice.range) these) cells
    → All (Contains these) cells × All (IsInRange slice) cells
last_are_written slice these cells ascend last =
    let test = is_within slice.range in
    let among = last_are_among (filter test these) cells ascend last in (
      All-weaker (Contains (filter test these)) (Contains these) (λ cell there. (Contains-from_filter test these cell there).0) cells among,
      All-weaker (Contains (filter test these)) (IsInRange slice)
          (λ cell there. (contains-Decides cell.hash slice.range.min slice.range.max).0 (Contains-from_filter test these cell there).1) cells among,
    )

-- of an id whose hash is in the range the last of them is that of the journal
pub last_is_last : (first : List Slice) (journal : List Entry) (slice : Slice) (cells : List Write) (id : List ℕ) → IsLegal first journal
    → AreLastOf (filter (is_within slice.range) (writes journal)) cells → IsWithin slice.range.min slice.range.max (route_hash id)
    → write_of cells id ≡ last_write journal id
last_is_last first journal slice cells id legal last inside =
    last id
    ∙ ap last_of (filter_implied (is_of id) (is_within slice.range) (writes journal)
    (All-weaker (Contains (writes journal)) (Implies (is_of id) (is_within slice.range))
    (λ one there of. ap (λ (hash : ℤ). contains hash (bounds slice.range))
    (legal_hash first journal one legal there ∙ ap route_hash (id_from_is_of id one of))
    ∙ (contains-Decides (route_hash id) slice.range.min slice.range.max).1 inside)
    (writes journal) (All-contains_itself (writes journal))))
