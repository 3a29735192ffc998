-- What a criterion finds ascends by id as the rows do, and so it may be merged.
use Rattle.std.proofs.Common.{◌≡◌, ℕ, Bool, true, false, cond, List, [], ◌∷◌, map, All, arith, Less, nat_cmp}
use Rattle.std.specs.Prelude.{filter}
use Rattle.std.specs.Cmp.Lexicographic.{slice_cmp}
use Rattle.std.specs.List.{AllByRecursion}
use Rattle.std.specs.List.Sorted.{IsStrictlySortedBy}
use Rattle.std.proofs.lemmas.List.Elements.{All-map, All-weaker}
use Rattle.std.proofs.lemmas.List.Sums.{length-filter, count_by-le-length}
use Rattle.sc_record.specs.Writes.{Write, AscendById}
use Rattle.sc_snapshot.specs.Rows.{AreRows}
use Rattle.sc_replicas.specs.declared.standing.Searcher.{Searcher}
use Rattle.sc_eval.specs.Criteria.{Criterion}
use Rattle.sc_eval.specs.Matching.{finds}
use Rattle.sc_finding.specs.Lists.{AreFound}
use Rattle.sc_replicas.specs.Searchers.{searcher_rows}
use Rattle.sc_finding.specs.SearcherRows.{found_in}

-- the id comes before the other
abbrev pub IsBelow : List ℕ → List ℕ → Type 0
IsBelow id other = slice_cmp nat_cmp id other ≡ Less

heads-filter : (p : Write → Bool) (id : List ℕ) (ws : List Write) → AllByRecursion (IsBelow id) (map (λ (w : Write). w.id) ws)
    → AllByRecursion (IsBelow id) (map (λ (w : Write). w.id) (filter p ws))
heads-filter p id [] all = tt
heads-filter p id (w ∷ ws) all = by (p w) (heads-filter p id ws all.1) where
  by : (b : Bool) → AllByRecursion (IsBelow id) (map (λ (x : Write). x.id) (filter p ws))
      → AllByRecursion (IsBelow id) (map (λ (x : Write). x.id) (cond b (w ∷ filter p ws) (filter p ws)))
  by true rest = (all.0, rest)
  by false rest = rest

pub AscendById-filter : (p : Write → Bool) (ws : List Write) → AscendById ws → AscendById (filter p ws)
unfolding IsStrictlySortedBy
AscendById-filter p [] ascend = tt
AscendById-filter p (w ∷ ws) ascend = by (p w) (AscendById-filter p ws ascend.1) where
  by : (b : Bool) → AscendById (filter p ws) → AscendById (cond b (w ∷ filter p ws) (filter p ws))
  by true rest = (heads-filter p w.id ws ascend.0, rest)
  by false rest = rest

-- what is found may be merged
pub is-found : (criterion : Criterion) (searcher : Searcher) → AreRows (searcher_rows searcher) → AreFound (found_in criterion searcher)
is-found criterion searcher are =
    let keeps = finds searcher.range criterion in
    record {
      ascend = AscendById-filter keeps (searcher_rows searcher) are.ascend;
      bounded = omega (arith, length-filter keeps (searcher_rows searcher), count_by-le-length keeps (searcher_rows searcher), are.bounded);
    }

pub are-found : (criterion : Criterion) (searchers : List Searcher) → All (λ (searcher : Searcher). AreRows (searcher_rows searcher)) searchers
    → All AreFound (map (found_in criterion) searchers)
are-found criterion searchers rows =
    All-map AreFound (found_in criterion) searchers
    (All-weaker (λ (searcher : Searcher). AreRows (searcher_rows searcher)) (λ (searcher : Searcher). AreFound (found_in criterion searcher))
    (is-found criterion) searchers rows)
