-- What the searchers of a bucket find is what a search finds in its journal.
use Rattle.std.proofs.Common.{◌≡◌, ◌≢◌, ℕ, ℤ, zero, suc, ◌+◌, ◌≤◌, Bool, true, false, cond, ◌&&◌, List, [], ◌∷◌, ◌++◌, map, drop, Option, Some, None, All, Contains, count_by, refl, sym, ap, subst, ◌∙◌, ◌⊎◌, inl, inr, arith}
use Rattle.std.specs.Prelude.{filter}
use Rattle.std.specs.Int.{w32}
use Rattle.std.proofs.Math.Facts.{sfits_to_z}
use Rattle.std.proofs.lemmas.Bool.Decides.{not_from_Decides}
use Rattle.std.proofs.lemmas.List.{take-append-drop}
use Rattle.std.proofs.lemmas.List.Elements.{All-head, All-tail, All-contains, All-from_recursion, Contains-append_left}
use Rattle.std.proofs.lemmas.List.Sums.{sum_by-cons, sum_by-le-sum_by}
use Rattle.sc_hash.specs.Bounds.{bounds, contains}
use Rattle.sc_hash.specs.Range.{IsWithin}
use Rattle.sc_hash.specs.declared.range.Range.{Range}
use Rattle.sc_hash.proofs.BoundsLemmas.{contains-Decides}
use Rattle.sc_router.specs.Route.{route_hash, bucket_of}
use Rattle.sc_router.proofs.ShareLemmas.{route_bits-lt}
use Rattle.sc_record.specs.Writes.{Write, is_of, write_of}
use Rattle.sc_record.specs.declared.entry.Entry.{Entry}
use Rattle.sc_snapshot.specs.Rows.{AreRows}
use Rattle.sc_cluster.specs.declared.slice.Slice.{Slice}
use Rattle.sc_cluster.specs.Slices.{is_active, is_active_state, slice_bounds}
use Rattle.sc_cluster.specs.Map.{least_hash, greatest_hash, IsMap, Leads}
use Rattle.sc_cluster.proofs.ItemLemmas.{find_from_count, count_by-positive, same_from_count}
use Rattle.sc_cluster.proofs.ListLemmas.{Contains-filter, Contains-from_filter}
use Rattle.sc_cluster.proofs.CountLemmas.{count_by-filter}
use Rattle.sc_cluster.proofs.LeaderLemmas.{is_leader, active_from_test, found_leads, fits_is_within}
use Rattle.sc_cluster.proofs.TileLemmas.{holders-filter}
use Rattle.sc_eval.specs.Criteria.{Criterion}
use Rattle.sc_eval.specs.Matching.{finds, matches, is_live}
use Rattle.sc_journal.specs.Journal.{writes}
use Rattle.sc_journal.specs.Committed.{last_commit, committed, IsShown}
use Rattle.sc_journal.specs.Splits.{map_after}
use Rattle.sc_journal.specs.Legal.{IsLegal}
use Rattle.sc_seen.specs.Seen.{Layout}
use Rattle.sc_journal.proofs.JournalLemmas.{is_of_own, last_write_is, writes-append}
use Rattle.sc_journal.proofs.LegalLemmas.{legal_hash}
use Rattle.sc_replicas.specs.Searchers.{searcher_rows}
use Rattle.sc_replicas.specs.declared.standing.Searcher.{Searcher}
use Rattle.sc_bucket.proofs.WriteLemmas.{Contains-find}
use Rattle.sc_finding.specs.Lists.{all_of}
use Rattle.sc_fanout.specs.Searches.{IsInRoute, IsFoundIn}
use Rattle.sc_finding.specs.SearcherRows.{found_in}
use Rattle.sc_bucket.specs.Asked.{asks_for, is_asked, IsOfSlice, AreOfSlices}
use Rattle.sc_collection.specs.Looks.{IsJournalOf, AreAsked}
use Rattle.sc_bucket.proofs.AskedLemmas.{asks_for-Decides}
use Rattle.sc_finding.proofs.AscendLemmas.{AscendById-filter}
use Rattle.sc_fanout.proofs.ExactlyLemmas.{AreExactly, AreExactly-none, AreExactly-same, AreExactly-append, ascend-once}

and_parts : (a b : Bool) → (a && b) ≡ true → (a ≡ true) × (b ≡ true)
and_parts true true both = (refl, refl)
and_parts true false both = cc
and_parts false b both = cc

and_all : (a b c : Bool) → a ≡ true → b ≡ true → c ≡ true → (a && b && c) ≡ true
and_all true true true first second third = refl
and_all true true false first second third = third
and_all true false c first second third = second
and_all false b c first second third = first

-- the write is found in a slice
pub record IsFoundBy (journal : List Entry) (criterion : Criterion) (slice : Slice) (write : Write) : Type 0 where
  pub shown : IsShown journal write
  pub matched : matches criterion write ≡ true
  pub within : IsWithin slice.range.min slice.range.max write.hash
  pub hash : write.hash ≡ route_hash write.id

-- one searcher finds what is found in its slice
one-searcher : (first : List Slice) (journal : List Entry) (criterion : Criterion) (slice : Slice) (searcher : Searcher)
    → IsLegal first journal → IsOfSlice journal slice searcher → AreRows (searcher_rows searcher)
    → AreExactly (IsFoundBy journal criterion slice) (found_in criterion searcher)
one-searcher first journal criterion slice searcher legal is are = record {
  exactly = λ write. (found write, there write);
  once = ascend-once (found_in criterion searcher) (AscendById-filter keeps rows are.ascend);
}
  where
    rows : List Write
    rows = searcher_rows searcher

    keeps : Write → Bool
    keeps = finds searcher.range criterion

    own : (write : Write) → Contains rows write → write_of rows write.id ≡ Some write
    own write has =
        let one = ascend-once rows are.ascend write.id in
        let some = count_by-positive (is_of write.id) rows write has (is_of_own write) in
        let x = find_from_count (is_of write.id) rows (omega (arith, some)) in
        let same : x.0 ≡ write = same_from_count (is_of write.id) rows x.0 write (omega (arith, one, some)) x.2 x.3 has (is_of_own write) in
        x.1 ∙ ap (λ (w : Write). Some w) same

    found : (write : Write) → Contains (found_in criterion searcher) write → IsFoundBy journal criterion slice write
    found write has =
        let kept = Contains-from_filter keeps rows write has in
        let outer = and_parts (is_live write && contains write.hash (bounds searcher.range)) (matches criterion write) kept.1 in
        let inner = and_parts (is_live write) (contains write.hash (bounds searcher.range)) outer.0 in
        let hash : write.hash ≡ route_hash write.id =
        legal_hash first journal write legal (All-contains (Contains (writes journal)) rows write is.shows.written kept.0) in
        let within : IsWithin slice.range.min slice.range.max write.hash =
        subst (λ (range : Range). IsWithin range.min range.max write.hash) is.range_is
        ((contains-Decides write.hash searcher.range.min searcher.range.max).0 inner.1) in
        record {
          shown = record {
            last = sym (is.shows.last write.id (subst (IsWithin slice.range.min slice.range.max) hash within)) ∙ own write kept.0;
            live = inner.0;
          };
          matched = outer.1;
          within = within;
          hash = hash;
        }

    there : (write : Write) → IsFoundBy journal criterion slice write → Contains (found_in criterion searcher) write
    there write by =
        let row : write_of rows write.id ≡ Some write =
        is.shows.last write.id (subst (IsWithin slice.range.min slice.range.max) by.hash by.within) ∙ by.shown.last in
        let within : IsWithin searcher.range.min searcher.range.max write.hash =
        subst (λ (range : Range). IsWithin range.min range.max write.hash) (sym is.range_is) by.within in
        Contains-filter keeps rows write (Contains-find (is_of write.id) rows write row)
        (and_all (is_live write) (contains write.hash (bounds searcher.range)) (matches criterion write)
        by.shown.live ((contains-Decides write.hash searcher.range.min searcher.range.max).1 within) by.matched)

-- the slice has the hash
abbrev has_hash : ℤ → Slice → Bool
has_hash h slice = contains h (slice_bounds slice)

-- the write is found in one of the slices
abbrev IsFoundAmong : List Entry → Criterion → List Slice → Write → Type 0
IsFoundAmong journal criterion slices write = (slice : Slice) × Contains slices slice × IsFoundBy journal criterion slice write

-- the searchers of slices that have no hash in common find what is found in one of them
slices-exactly : (first : List Slice) (journal : List Entry) (criterion : Criterion) (slices : List Slice) (searchers : List Searcher)
    → IsLegal first journal → AreOfSlices journal slices searchers → All (λ (searcher : Searcher). AreRows (searcher_rows searcher)) searchers
    → ((h : ℤ) → count_by (has_hash h) slices ≤ 1)
    → AreExactly (IsFoundAmong journal criterion slices) (all_of (map (found_in criterion) searchers))
slices-exactly first journal criterion [] [] legal each rows once =
    AreExactly-none (IsFoundAmong journal criterion []) (λ write among. absurd (omega (arith, among.1.1)))
slices-exactly first journal criterion [] (searcher ∷ searchers) legal each rows once = absurd each
slices-exactly first journal criterion (slice ∷ slices) [] legal each rows once = absurd each
slices-exactly first journal criterion (slice ∷ slices) (searcher ∷ searchers) legal each rows once =
    AreExactly-same (λ write. IsFoundBy journal criterion slice write ⊎ IsFoundAmong journal criterion slices write)
    (IsFoundAmong journal criterion (slice ∷ slices)) (found_in criterion searcher ++ all_of (map (found_in criterion) searchers))
    to back
    (AreExactly-append (IsFoundBy journal criterion slice) (IsFoundAmong journal criterion slices)
    (found_in criterion searcher) (all_of (map (found_in criterion) searchers))
    (one-searcher first journal criterion slice searcher legal each.0 (All-head (λ (s : Searcher). AreRows (searcher_rows s)) searcher searchers rows))
    (slices-exactly first journal criterion slices searchers legal each.1 (All-tail (λ (s : Searcher). AreRows (searcher_rows s)) searcher searchers rows)
    (λ h. omega (arith, once h, counted h)))
    apart)
  where
    counted : (h : ℤ) → count_by (has_hash h) (slice ∷ slices) ≡ cond (has_hash h slice) 1 0 + count_by (has_hash h) slices
    counted h = sum_by-cons (λ (s : Slice). cond (has_hash h s) 1 0) slice slices

    to : (write : Write) → IsFoundBy journal criterion slice write ⊎ IsFoundAmong journal criterion slices write
        → IsFoundAmong journal criterion (slice ∷ slices) write
    to write (inl here) = (slice, (0, omega arith, refl), here)
    to write (inr (s, there, by)) = (s, (suc there.0, omega (arith, there.1), there.2), by)

    back : (write : Write) → IsFoundAmong journal criterion (slice ∷ slices) write
        → IsFoundBy journal criterion slice write ⊎ IsFoundAmong journal criterion slices write
    back write (s, (zero, within, at), by) = inl (subst (λ (x : Slice). IsFoundBy journal criterion x write) (sym at) by)
    back write (s, (suc k, within, at), by) = inr (s, (k, omega (arith, within), at), by)

    apart : (one other : Write) → IsFoundBy journal criterion slice one → IsFoundAmong journal criterion slices other → one.id ≢ other.id
    apart one other here among same =
        let hash : one.hash ≡ other.hash = here.hash ∙ ap route_hash same ∙ sym among.2.hash in
        let h = other.hash in
        let first_has : has_hash h slice ≡ true =
        (contains-Decides h slice.range.min slice.range.max).1 (subst (IsWithin slice.range.min slice.range.max) hash here.within) in
        let more : 1 ≤ count_by (has_hash h) slices =
        count_by-positive (has_hash h) slices among.0 among.1
        ((contains-Decides h among.0.range.min among.0.range.max).1 among.2.within) in
        omega (arith, once h, counted h, ap {B = ℕ} (λ b. cond b 1 0) first_has, more)

-- of a map's slices that a search looks at one at most has a hash
asked-once : (route : Option Range) (slices : List Slice) (h : ℤ) → IsMap slices → count_by (has_hash h) (filter (is_asked route) slices) ≤ 1
asked-once route slices h is_map =
    omega (
      arith,
      count_by-filter (has_hash h) (is_asked route) slices,
      sum_by-le-sum_by (λ (s : Slice). cond (is_asked route s && has_hash h s) 1 0) (λ (s : Slice). cond (is_leader h s) 1 0) slices
          (λ s. weights (is_active s) (asks_for route s.range) (has_hash h s)),
      leaders (contains h (least_hash, greatest_hash)) refl,
    )
  where
    weights : (a b c : Bool) → cond ((a && b) && c) 1 0 ≤ cond (a && c) 1 0
    weights true true c = omega arith
    weights true false c = omega arith
    weights false b c = omega arith

    leaders : (b : Bool) → contains h (least_hash, greatest_hash) ≡ b → count_by (is_leader h) slices ≤ 1
    leaders true is =
        omega (arith, holders-filter h is_active slices, is_map.tile.inside h ((contains-Decides h least_hash greatest_hash).0 is))
    leaders false is =
        omega (
          arith,
          holders-filter h is_active slices,
          is_map.tile.outside h (not_from_Decides (contains h (least_hash, greatest_hash)) (contains-Decides h least_hash greatest_hash) is),
        )

-- each hash has a leader
leader : (slices : List Slice) (id : List ℕ) → IsMap slices → (slice : Slice) × Leads slices (route_hash id) slice
leader slices id is_map =
    let h = route_hash id in
    let within = fits_is_within h (sfits_to_z {w = w32} (record { fits = route_bits-lt id })) in
    let count : count_by (is_leader h) slices ≡ 1 = sym (holders-filter h is_active slices) ∙ is_map.tile.inside h within in
    let found = find_from_count (is_leader h) slices (omega (arith, count)) in
    (found.0, found_leads slices h found.0 (sym found.1) is_map within)

-- what is shown was written
shown-written : (journal : List Entry) (write : Write) → IsShown journal write → Contains (writes journal) write
shown-written journal write shown =
    let before = committed journal in
    let after = drop (last_commit journal) journal in
    subst (λ (j : List Entry). Contains (writes j) write) (take-append-drop (last_commit journal) journal)
    (subst (λ (ws : List Write). Contains ws write) (sym (writes-append before after))
    (Contains-append_left (writes before) (writes after) write (last_write_is before write.id write shown.last).1))

-- What the searchers of a bucket find is what a search finds in its journal.
pub bucket-exactly : (layout : Layout) (number : ℕ) (journal : List Entry) (criterion : Criterion) (route : Option Range) (searchers : List Searcher)
    → AreAsked layout number journal route searchers → All (λ (searcher : Searcher). AreRows (searcher_rows searcher)) searchers
    → AreExactly (IsFoundIn layout.first journal criterion route) (all_of (map (found_in criterion) searchers))
bucket-exactly layout number journal criterion route searchers asked rows =
    AreExactly-same (IsFoundAmong journal criterion (filter (is_asked route) slices)) (IsFoundIn layout.first journal criterion route)
    (all_of (map (found_in criterion) searchers)) to back
    (slices-exactly layout.first journal criterion (filter (is_asked route) slices) searchers asked.is_of.legal asked.each rows
    (λ h. asked-once route slices h asked.is_of.is_map))
  where
    slices : List Slice
    slices = map_after layout.first journal

    in_route : (asking : Option Range) (write : Write) (slice : Slice) → asks_for asking slice.range ≡ true → Leads slices write.hash slice
        → IsInRoute slices asking write
    in_route None write slice asks leads = tt
    in_route (Some range) write slice asks leads = (slice, leads, (asks_for-Decides range slice.range).0 asks)

    to : (write : Write) → IsFoundAmong journal criterion (filter (is_asked route) slices) write → IsFoundIn layout.first journal criterion route write
    to write (slice, among, by) =
        let kept = Contains-from_filter (is_asked route) slices slice among in
        let parts = and_parts (is_active slice) (asks_for route slice.range) kept.1 in
        record {
          shown = by.shown;
          matched = by.matched;
          in_route = in_route route write slice parts.1 (record {
            there = kept.0;
            active = active_from_test slice.state parts.0;
            within = by.within;
          });
        }

    chosen : (asking : Option Range) (write : Write) → write.hash ≡ route_hash write.id → IsInRoute slices asking write
        → (slice : Slice) × Leads slices write.hash slice × (asks_for asking slice.range ≡ true)
    chosen None write hash looks =
        let (slice, leads) = leader slices write.id asked.is_of.is_map in
        (slice, subst (λ h. Leads slices h slice) (sym hash) leads, refl)
    chosen (Some range) write hash (slice, leads, meets) = (slice, leads, (asks_for-Decides range slice.range).1 meets)

    back : (write : Write) → IsFoundIn layout.first journal criterion route write → IsFoundAmong journal criterion (filter (is_asked route) slices) write
    back write is =
        let hash = legal_hash layout.first journal write asked.is_of.legal (shown-written journal write is.shown) in
        let (slice, leads, asks) = chosen route write hash is.in_route in (
          slice,
          Contains-filter (is_asked route) slices slice leads.there
              (ap (λ state. is_active_state state && asks_for route slice.range) leads.active ∙ asks),
          record { shown = is.shown; matched = is.matched; within = leads.within; hash = hash },
        )

-- the ids of what is found belong to the bucket
pub found-number : (layout : Layout) (number : ℕ) (journal : List Entry) (criterion : Criterion) (route : Option Range) (write : Write)
    → IsJournalOf layout number journal → IsFoundIn layout.first journal criterion route write → bucket_of write.id layout.buckets ≡ number
found-number layout number journal criterion route write is_of found =
    All-contains (λ (w : Write). bucket_of w.id layout.buckets ≡ number) (writes journal) write
    (All-from_recursion (λ (w : Write). bucket_of w.id layout.buckets ≡ number) (writes journal) is_of.ids)
    (shown-written journal write found.shown)
