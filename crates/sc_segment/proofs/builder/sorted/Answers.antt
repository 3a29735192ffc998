-- No two keys of a map are equal, so that a sort gives its entries in the order of their keys.
use Rattle.std.proofs.Common.{◌≡◌, IsPermutation, rules}
use Rattle.std.proofs.lemmas.Fn.{always_returns_same}
use Rattle.std.proofs.lemmas.List.Sorted.{ranks_by, IsPermutation-trans}
use Rattle.std.specs.List.{IsDistinct}
use Rattle.std.specs.Map.{keys_of}
use Rattle.std.specs.Ordering.{eq_by_cmp, is_lt}
use Rattle.sc_segment.proofs.FilingLemmas.{eq-by_cmp}
use Rattle.sc_segment.proofs.SortingLemmas.{strict-from_sort, distinct-moved}
use Rattle.sc_segment.proofs.builder.sorted.Goals as goal

pub returns : goal.returns
returns g c =
    let o = g.met.K.Ord.total in
    let es = c.args.keys.entries in
    let mid = c.sort_by_cached_key.new.self.items in
    let ys = c.sort_by.new.self.items in
    let collected : c.in_ok-entries.entries.items ≡ es = search rules in
    let ranked : IsPermutation es mid = rw collected at c.in_ok-sort_by_cached_key.ensures.permutation in
    let moved = IsPermutation-trans es mid ys ranked c.in_ok-sort_by.ensures.permutation in
    let apart : IsDistinct (eq_by_cmp g.K.Ord.cmp) (keys_of es) = rw (eq-by_cmp g.K.PartialEq.eq g.K.Ord.cmp g.met.K.Ord.matches_eq) at c.into_iter.ensures.into_iter_gives.4 in
    let up = c.in_ok-sort_by.ensures.sorted (λ a b. is_lt (g.K.Ord.cmp a.0 b.0)) (ranks_by o (λ e. e.0)) (always_returns_same _ _ _ (λ a r f' called. search rules)) in
    record { same = moved; ascending = strict-from_sort o ys (distinct-moved o es ys moved apart) up }
