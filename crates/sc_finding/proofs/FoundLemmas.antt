-- What the parts of a search find, put together in order, is what all of it finds.
use Rattle.std.proofs.Common.{◌≡◌, ℕ, ◌+◌, ◌*◌, ◌<◌, ◌≤◌, List, ◌∷◌, ◌++◌, length, map, take, drop, sym, ap, subst, ◌∙◌, arith, All}
use Rattle.std.specs.Prelude.{Result, Ok, IfOk, slice_index_or}
use Rattle.std.specs.Fork.{slice_chunk}
use Rattle.std.specs.Int.{div_ceil}
use Rattle.std.specs.declared.alloc.AllocError.{AllocError}
use Rattle.std.proofs.lemmas.List.{map-append, length-append, take-append-drop, take-take, take_all, drop-take}
use Rattle.std.proofs.lemmas.List.Elements.{All-append}
use Rattle.std.proofs.lemmas.Grind.{div_ceil_times}
use Rattle.std.proofs.Math.Nat.{mul_comm}
use Rattle.std.proofs.Math.Seq.{get_or-append_seam}
use Rattle.sc_replicas.specs.declared.standing.Searcher.{Searcher}
use Rattle.sc_eval.specs.Criteria.{Criterion}
use Rattle.sc_finding.specs.Lists.{all_of}
use Rattle.sc_finding.specs.SearcherRows.{found_in}
use Rattle.sc_finding.specs.Hits.{AreHits, HasFound, lists_of, searchers_of}
use Rattle.sc_finding.specs.declared.hits.Hits.{Hits}
use Rattle.sc_finding.specs.declared.hits.Found.{Found}
use Rattle.sc_finding.proofs.CountLemmas.{count-more}

-- what is found with these searchers and then with those
pub HasFound-more : (criterion : Criterion) (most : ℕ) (these those : List Searcher) (first next both : Found)
    → HasFound criterion most these first → HasFound criterion most those next
    → both.count ≡ first.count + next.count → both.hits.items ≡ first.hits.items ++ next.hits.items
    → HasFound criterion most (these ++ those) both
HasFound-more criterion most these those first next both before more count hits = record {
  count =
      let joined = ap (λ (ls : List (List _)). length (all_of ls)) (map-append (found_in criterion) these those) in
      let each = count-more (map (found_in criterion) these) (map (found_in criterion) those) in
      omega (arith, count, before.count, more.count, joined, each);
  few = omega (arith, count, before.few, more.few, length-append these those);
  searchers_are = ap searchers_of hits ∙ map-append (λ (h : Hits). h.searcher.now) first.hits.items next.hits.items
      ∙ ap (λ (ss : List Searcher). ss ++ searchers_of next.hits.items) before.searchers_are
      ∙ ap (λ (ss : List Searcher). these ++ ss) more.searchers_are;
  kept = subst (All (AreHits criterion most)) (sym hits)
      (All-append (AreHits criterion most) first.hits.items next.hits.items before.kept more.kept);
}

-- the first parts and the next one are one part more
pub chunk-next : {X : Type 0} (xs : List X) (size n m : ℕ) → m ≡ n + 1
    → take (m * size) xs ≡ take (n * size) xs ++ slice_chunk xs size n
chunk-next xs size n m is =
    let long : m * size ≡ n * size + size = ap (λ k. k * size) is ∙ omega arith in
    let within : n * size ≤ n * size + size = omega arith in
    ap (λ k. take k xs) long ∙ sym (take-append-drop (n * size) (take (n * size + size) xs))
    ∙ ap (λ (ys : List _). ys ++ drop (n * size) (take (n * size + size) xs)) (take-take (n * size) (n * size + size) xs within)
    ∙ ap (λ (ys : List _). take (n * size) xs ++ ys) (drop-take (n * size) size xs)

-- of results that stand in order, each of its part, the one that comes after the first ones is that of the next part
pub found-next : (criterion : Criterion) (most size parts : ℕ) (searchers : List Searcher)
    (each yielded rest : List (Result Found AllocError)) (part : Result Found AllocError) (found : Found)
    → ((n : ℕ) (default : Result Found AllocError) → n < parts
    → IfOk (slice_index_or each n default) (HasFound criterion most (slice_chunk searchers size n)))
    → length each ≡ parts → yielded ++ part ∷ rest ≡ each → part ≡ Ok found
    → HasFound criterion most (slice_chunk searchers size (length yielded)) found
found-next criterion most size parts searchers each yielded rest part found all count is ok =
    let within : length yielded < parts =
    omega (arith, count, length-append yielded (part ∷ rest), ap (λ (rs : List (Result Found AllocError)). length rs) is) in
    let here : slice_index_or each (length yielded) part ≡ Ok found =
    ap (λ (rs : List (Result Found AllocError)). slice_index_or rs (length yielded) part) (sym is)
    ∙ get_or-append_seam yielded part rest part ∙ ok in
    subst (λ (r : Result Found AllocError). IfOk r (HasFound criterion most (slice_chunk searchers size (length yielded)))) here
    (all (length yielded) part within)

-- the lists of the hits are what their searchers find
pub lists-found : (criterion : Criterion) (most : ℕ) (searchers : List Searcher) (found : Found) → HasFound criterion most searchers found
    → lists_of criterion found.hits.items ≡ map (found_in criterion) searchers
lists-found criterion most searchers found has = ap (map (found_in criterion)) has.searchers_are

-- so many parts are all
pub all-parts : {X : Type 0} (xs : List X) (size parts n : ℕ) → 1 ≤ parts → size ≡ div_ceil (length xs) parts → n ≡ parts
    → take (n * size) xs ≡ xs
all-parts xs size parts n some is same =
    let enough = (div_ceil_times (length xs) parts (omega (arith, some))).0 in
    let times : n * size ≡ size * parts = ap (λ k. k * size) same ∙ mul_comm parts size in
    let long : size * parts ≡ div_ceil (length xs) parts * parts = ap (λ k. k * parts) is in
    take_all (n * size) xs (omega (arith, enough, times, long))
