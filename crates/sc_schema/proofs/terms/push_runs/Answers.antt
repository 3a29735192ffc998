-- Runs that are sorted and then left once each are the keys that were found, in order.
use Rattle.std.proofs.Common.{rules, ◌∙◌, map, nat_cmp}
use Rattle.std.specs.Cmp.Lexicographic.{slice_cmp}
use Rattle.std.specs.Ordering.{is_lt}
use Rattle.std.proofs.lemmas.Cmp.{nat_list_cmp_total}
use Rattle.std.proofs.lemmas.List.Filters.{dedup_is}
use Rattle.std.proofs.lemmas.List.Sorted.{ranks_by, answers_always}
use Rattle.std.proofs.lemmas.Result.{on_ok_weaker}
use Rattle.sc_schema.specs.Runs.{runs}
use Rattle.sc_schema.proofs.LentLemmas.{AreKeys-lent}
use Rattle.sc_schema.proofs.terms.push_runs.Goals as goal

pub returns : goal.returns
returns c =
    let words = c.in_ok-words.words.items in
    let sorted = c.sort_unstable_by.new.self.items in
    let kept = c.as_slice.result.now in
    let up =
    c.sort_unstable_by.ensures.sorted (λ x y. is_lt (slice_cmp nat_cmp x.now y.now)) (ranks_by nat_list_cmp_total (λ x. x.now))
    (answers_always _ _ _ (λ f a r g h. search rules)) in
    on_ok_weaker c.push_lent_keys.result
    (λ put. record {
      keys = map (λ x. x.now) kept;
      are = AreKeys-lent (λ x. x.now) (runs c.args.text.now) words sorted kept c.in_ok-words.ensures c.sort_unstable_by.ensures.permutation up
          (c.as_slice.ensures.value ∙ dedup_is _ _ _ c.dedup.ensures.filtered);
      put = put;
    })
    c.push_lent_keys.ensures
