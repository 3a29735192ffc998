-- The searchers that are taken of a bucket are those of its slices, and the buckets are looked at one after another.
use Rattle.std.proofs.Common.{◌≡◌, ℕ, zero, suc, ◌+◌, ◌≤◌, false, List, [], ◌∷◌, ◌++◌, length, map, All, Contains, refl, sym, ap, subst, ◌∙◌, arith}
use Rattle.std.specs.Prelude.{filter, Option, Result, Ok, Err, OnOk}
use Rattle.std.specs.List.{range_with_len}
use Rattle.std.proofs.lemmas.List.{map-append}
use Rattle.std.proofs.lemmas.List.Elements.{All-nil, All-cons, All-append, All-weaker}
use Rattle.std.proofs.lemmas.List.Sums.{length-filter, count_by-le-length}
use Rattle.sc_hash.specs.declared.range.Range.{Range}
use Rattle.sc_record.specs.Writes.{Write}
use Rattle.sc_record.specs.declared.entry.Entry.{Entry}
use Rattle.sc_cluster.specs.declared.slice.Slice.{Slice}
use Rattle.sc_cluster.specs.Map.{IsMap}
use Rattle.sc_journal.specs.Journal.{writes}
use Rattle.sc_journal.specs.Splits.{map_after}
use Rattle.sc_journal.specs.Legal.{IsLegal, HasTerms}
use Rattle.sc_journal.proofs.LegalLemmas.{legal_terms}
use Rattle.sc_seen.specs.Seen.{Layout}
use Rattle.sc_seen.specs.Moments.{View, Keeps}
use Rattle.sc_seen.specs.declared.stop.Stop.{Stop}
use Rattle.sc_seen.proofs.GoesOnLemmas.{Keeps-none, Keeps-then}
use Rattle.sc_replicas.specs.Searchers.{searcher_rows}
use Rattle.sc_replicas.specs.declared.standing.Searcher.{Searcher}
use Rattle.sc_bucket.specs.Asked.{is_asked, AreOfSlices, AddsSearchers}
use Rattle.sc_bucket.specs.Sound.{IsSound}
use Rattle.sc_bucket.specs.declared.bucket.Bucket.{Bucket}
use Rattle.sc_bucket.proofs.AcceptLemmas.{bucket_has_map}
use Rattle.sc_collection.specs.Desks.{IsBucketOf}
use Rattle.sc_collection.specs.Looks.{LooksAtBuckets, LooksAtOne, AreAsked}

-- what was taken of a sound bucket
pub asked : {E V : Type 0} (layout : Layout) (number : ℕ) (bucket : Bucket) (route : Option Range) (old new : List Searcher) (taken : Result V E)
    → IsSound bucket → IsBucketOf layout number bucket
    → OnOk taken (AddsSearchers (AreOfSlices bucket.journal.entries (filter (is_asked route) bucket.map)) old new)
    → OnOk taken (AddsSearchers (AreAsked layout number bucket.journal.entries route) old new)
asked layout number bucket route old new (Err fault) sound is_of adds = adds
asked layout number bucket route old new (Ok v) sound is_of adds =
    let same : bucket.map ≡ map_after layout.first bucket.journal.entries =
    sound.journal.map_is ∙ ap (λ (slices : List Slice). map_after slices bucket.journal.entries) is_of.first in
    record {
      more = adds.more;
      added = adds.added;
      are = record {
        is_of = record {
          is_map = subst IsMap same (bucket_has_map bucket sound.journal);
          legal = subst (λ (slices : List Slice). IsLegal slices bucket.journal.entries) is_of.first sound.journal.legal;
          ids = is_of.ids;
        };
        each = subst (λ (slices : List Slice). AreOfSlices bucket.journal.entries (filter (is_asked route) slices) adds.more) same adds.are;
      };
    }

-- the rows of a searcher have the terms of their documents
abbrev HaveTheirTerms : Searcher → Type 0
HaveTheirTerms searcher = All (λ (row : Write). HasTerms row.id row.doc row.terms) (searcher_rows searcher)

-- so have those of the searchers of slices
have-terms : (first : List Slice) (journal : List Entry) (slices : List Slice) (searchers : List Searcher)
    → IsLegal first journal → AreOfSlices journal slices searchers
    → All HaveTheirTerms searchers
have-terms first journal [] [] legal each = All-nil HaveTheirTerms
have-terms first journal [] (searcher ∷ searchers) legal each = absurd each
have-terms first journal (slice ∷ slices) [] legal each = absurd each
have-terms first journal (slice ∷ slices) (searcher ∷ searchers) legal each =
    All-cons HaveTheirTerms searcher searchers
    (All-weaker (Contains (writes journal)) (λ (row : Write). HasTerms row.id row.doc row.terms)
    (λ row there. legal_terms first journal row legal there) (searcher_rows searcher) each.0.shows.written)
    (have-terms first journal slices searchers legal each.1)

-- and of those that were taken
pub asked-terms : (layout : Layout) (number : ℕ) (journal : List Entry) (route : Option Range) (searchers : List Searcher)
    → AreAsked layout number journal route searchers
    → All (λ (searcher : Searcher). All (λ (row : Write). HasTerms row.id row.doc row.terms) (searcher_rows searcher)) searchers
asked-terms layout number journal route searchers asked =
    have-terms layout.first journal (filter (is_asked route) (map_after layout.first journal)) searchers asked.is_of.legal asked.each

same-length : (journal : List Entry) (slices : List Slice) (searchers : List Searcher) → AreOfSlices journal slices searchers
    → length searchers ≡ length slices
same-length journal [] [] each = refl
same-length journal [] (searcher ∷ searchers) each = absurd each
same-length journal (slice ∷ slices) [] each = absurd each
same-length journal (slice ∷ slices) (searcher ∷ searchers) each = omega (arith, same-length journal slices searchers each.1)

-- a bucket has no more searchers than its map may have slices
pub few-asked : (layout : Layout) (number : ℕ) (journal : List Entry) (route : Option Range) (searchers : List Searcher)
    → AreAsked layout number journal route searchers → length searchers ≤ 256
few-asked layout number journal route searchers asked =
    let slices = map_after layout.first journal in
    omega (
      arith,
      same-length journal (filter (is_asked route) slices) searchers asked.each,
      length-filter (is_asked route) slices,
      count_by-le-length (is_asked route) slices,
      asked.is_of.is_map.few,
    )

-- the first buckets were looked at, and these stops kept
pub record Looked (layout : Layout) (old now : View) (count : ℕ) : Type 0 where
  pub stops : List Stop
  pub keeps : Keeps layout old now stops
  pub looks : LooksAtBuckets count stops

-- one number more is counted
range-more : (from count : ℕ) → range_with_len from (suc count) ≡ range_with_len from count ++ (from + count) ∷ []
range-more from zero = let same : from ≡ from + 0 = omega arith in ap (λ n. n ∷ []) same
range-more from (suc count) =
    let same : from + 1 + count ≡ from + suc count = omega arith in
    ap (λ ns. from ∷ ns) (range-more (from + 1) count) ∙ ap (λ n. from ∷ range_with_len (from + 1) count ++ n ∷ []) same

-- and one from 0 on
pub range-next : (count : ℕ) → range_with_len 0 (count + 1) ≡ range_with_len 0 count ++ count ∷ []
range-next count =
    let next_is : count + 1 ≡ suc count = omega arith in
    let here : 0 + count ≡ count = omega arith in
    ap (range_with_len 0) next_is ∙ range-more 0 count ∙ ap (λ n. range_with_len 0 count ++ n ∷ []) here

-- none was looked at yet
unfoldable pub Looked-none : (layout : Layout) (view : View) → Looked layout view view 0
Looked-none layout view = record {
  stops = [];
  keeps = Keeps-none layout view;
  looks = record { locks = refl; made = All-nil (λ (stop : Stop). stop.made ≡ false) };
}

-- one bucket more
unfoldable pub Looked-more : (layout : Layout) (old between new : View) (count : ℕ) (taken : List Entry → Type 0)
    → Looked layout old between count → LooksAtOne layout between new count taken
    → Looked layout old new (count + 1)
Looked-more layout old between new count taken far one = record {
  stops = far.stops ++ stop ∷ [];
  keeps = Keeps-then layout old between new far.stops (stop ∷ []) far.keeps one.keeps;
  looks = record {
    locks = map-append (λ (each : Stop). each.lock) far.stops (stop ∷ [])
        ∙ ap (λ (locks : List ℕ). locks ++ count ∷ []) far.looks.locks ∙ sym (range-next count);
    made = All-append (λ (each : Stop). each.made ≡ false) far.stops (stop ∷ []) far.looks.made
        (All-cons (λ (each : Stop). each.made ≡ false) stop [] refl (All-nil (λ (each : Stop). each.made ≡ false)));
  };
}
  where
    stop : Stop
    stop = record { lock = count; place = length one.journal; made = false }
