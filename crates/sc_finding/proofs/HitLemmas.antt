-- The hits of a searcher lead to the first documents that it finds.
use Rattle.std.proofs.Common.{◌≡◌, ℕ, ◌<◌, ◌≤◌, List, [], ◌∷◌, ◌++◌, length, map, take, get_or, slice_get, option_to_list, Option, Some, refl, sym, ap, subst, ◌∙◌, arith, All}
use Rattle.std.specs.List.{flat_map, AllByRecursion}
use Rattle.std.proofs.lemmas.List.{take-map, take-take, get_or-map, length-map}
use Rattle.std.proofs.lemmas.List.Elements.{recursion_from_All}
use Rattle.sc_record.specs.Writes.{Write}
use Rattle.sc_replicas.specs.declared.standing.Searcher.{Searcher}
use Rattle.sc_eval.specs.Criteria.{Criterion}
use Rattle.sc_eval.specs.Matching.{finds}
use Rattle.sc_eval.specs.Numbers.{numbers_of, AreMatches}
use Rattle.sc_eval.specs.declared.numbers.Matches.{Matches}
use Rattle.sc_eval.proofs.NumberLemmas.{led}
use Rattle.sc_replicas.specs.Searchers.{searcher_rows}
use Rattle.sc_finding.specs.SearcherRows.{found_in}
use Rattle.sc_finding.specs.Merging.{AscendsBy, goes_before}
use Rattle.sc_finding.specs.Lists.{AreFound}
use Rattle.sc_finding.specs.Hits.{StandAt, HasMatches, AreHits, BeginAlike, HitsAscend, hit_rows, lists_of, searchers_of}
use Rattle.sc_finding.specs.declared.hits.Hits.{Hits}
use Rattle.sc_finding.proofs.MergeLemmas.{ascends-take}
use Rattle.sc_finding.proofs.OrderLemmas.{ascends-by_id}

-- the first rows stand at the first numbers
stand-first : (rows : List Write) (numbers : List ℕ) (these : List Write) (most : ℕ) → StandAt rows numbers these
    → StandAt rows (take most numbers) (take most these)
stand-first rows numbers these most stand =
    sym (take-map (slice_get rows) most numbers) ∙ ap (take most) stand ∙ take-map (λ (write : Write). Some write) most these

-- there are as many rows as numbers
stand-count : (rows : List Write) (numbers : List ℕ) (these : List Write) → StandAt rows numbers these → length numbers ≡ length these
stand-count rows numbers these stand =
    sym (length-map numbers (slice_get rows)) ∙ ap (λ (os : List (Option Write)). length os) stand ∙ length-map these (λ (write : Write). Some write)

-- the rows that stand at numbers are those that are read there
stand-read : (rows : List Write) (numbers : List ℕ) (these : List Write) → StandAt rows numbers these
    → flat_map (λ number. option_to_list (slice_get rows number)) numbers ≡ these
stand-read rows [] [] stand = refl
stand-read rows [] (w ∷ ws) stand = cc
stand-read rows (n ∷ ns) [] stand = cc
stand-read rows (n ∷ ns) (w ∷ ws) stand =
    let here : slice_get rows n ≡ Some w = cc in
    let later : StandAt rows ns ws = cc in
    ap (λ (o : Option Write). option_to_list o ++ flat_map (λ number. option_to_list (slice_get rows number)) ns) here
    ∙ ap (λ (l : List Write). w ∷ l) (stand-read rows ns ws later)

-- the rows at the numbers of hits are the first that are found
hits-alike : (criterion : Criterion) (most far : ℕ) (hits : Hits) → most ≤ far → AreHits criterion far hits
    → take most (hit_rows hits) ≡ take most (found_in criterion hits.searcher.now)
hits-alike criterion most far hits le are =
    ap (take most) (stand-read (searcher_rows hits.searcher.now) (numbers_of hits.numbers) (take far (found_in criterion hits.searcher.now)) are)
    ∙ take-take most far (found_in criterion hits.searcher.now) le

-- the rows of all hits begin as the lists of all that is found do
pub hits-begin : (criterion : Criterion) (most far : ℕ) (all : List Hits) → most ≤ far → All (AreHits criterion far) all
    → BeginAlike most (lists_of criterion all) (map hit_rows all)
hits-begin criterion most far all le are = by all (recursion_from_All (AreHits criterion far) all are)
  where
    by : (hs : List Hits) → AllByRecursion (AreHits criterion far) hs → map (take most) (map hit_rows hs) ≡ map (take most) (lists_of criterion hs)
    by [] each = refl
    by (hits ∷ hs) each =
        let here = hits-alike criterion most far hits le each.0 in
        let later = by hs each.1 in
        ap (λ (l : List Write). l ∷ map (take most) (map hit_rows hs)) here
        ∙ ap (λ (ls : List (List Write)). take most (found_in criterion hits.searcher.now) ∷ ls) later

-- the rows of hits ascend, as what is found does
pub hits-ascend : (criterion : Criterion) (far : ℕ) (all : List Hits) → All AreFound (lists_of criterion all) → All (AreHits criterion far) all
    → All HitsAscend all
hits-ascend criterion far all found are = λ k d within.
    let hits : Hits = get_or all k d in
    let rows : List Write = found_in criterion hits.searcher.now in
    let searcher : Searcher = d.searcher.now in
    let many : k < length (searchers_of all) = omega (arith, within, length-map all (λ (h : Hits). h.searcher.now)) in
    let one : get_or (lists_of criterion all) k [] ≡ rows =
    get_or-map (found_in criterion) (searchers_of all) k searcher [] many
    ∙ ap (found_in criterion) (get_or-map (λ (h : Hits). h.searcher.now) all k d searcher within) in
    let inside : k < length (lists_of criterion all) = omega (arith, many, length-map (searchers_of all) (found_in criterion)) in
    let whole : AreFound rows = subst AreFound one (found k [] inside) in
    subst (AscendsBy goes_before)
    (sym (stand-read (searcher_rows hits.searcher.now) (numbers_of hits.numbers) (take far rows) (are k d within)))
    (ascends-take goes_before far rows (ascends-by_id rows whole.ascend))

-- the first that a search of its rows gives are the first that a searcher finds, and it counts them all
pub has-matches : (criterion : Criterion) (most : ℕ) (searcher : Searcher) (rows : List Write) (found : Matches)
    → rows ≡ searcher_rows searcher → AreMatches searcher.range criterion rows most found → HasMatches criterion most searcher found
has-matches criterion most searcher rows found same are =
    let these = searcher_rows searcher in
    let here : AreMatches searcher.range criterion these most found =
    subst (λ (ws : List Write). AreMatches searcher.range criterion ws most found) same are in
    let stand : StandAt these here.numbers (found_in criterion searcher) =
    led (finds searcher.range criterion) these here.numbers (record { members = here.members; ascending = here.ascending }) in
    record {
      count = here.beginning.count ∙ stand-count these here.numbers (found_in criterion searcher) stand;
      first = subst (λ (ns : List ℕ). StandAt these ns (take most (found_in criterion searcher))) (sym here.beginning.first)
          (stand-first these here.numbers (found_in criterion searcher) most stand);
    }
