-- Keys that are sorted and then left once each are those that were found, in order.
use Rattle.std.proofs.Common.{rules, List, ℕ, sym, subst, nat_cmp}
use Rattle.std.specs.Cmp.Lexicographic.{slice_cmp}
use Rattle.std.specs.Ordering.{is_lt}
use Rattle.std.proofs.lemmas.Cmp.{nat_list_cmp_total}
use Rattle.std.proofs.lemmas.List.Filters.{dedup_is}
use Rattle.std.proofs.lemmas.List.Sorted.{ranks_by, answers_always}
use Rattle.sc_schema.specs.Keys.{AreKeys}
use Rattle.sc_schema.proofs.KeyLemmas.{AreKeys-sorted}
use Rattle.sc_schema.proofs.terms.in_order.Goals as goal

pub returns : goal.returns
returns c =
    let sorted = c.sort_unstable_by.new.self.items in
    let found : List (List ℕ) = c.args.found.items in
    let up =
    c.sort_unstable_by.ensures.sorted (λ x y. is_lt (slice_cmp nat_cmp x y)) (ranks_by nat_list_cmp_total (λ (x : List ℕ). x))
    (answers_always _ _ _ (λ f a r g h. search rules)) in
    subst (AreKeys found) (sym (dedup_is _ _ _ c.dedup.ensures.filtered)) (AreKeys-sorted found sorted c.sort_unstable_by.ensures.permutation up)
