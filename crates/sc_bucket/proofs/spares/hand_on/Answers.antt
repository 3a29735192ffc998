-- Those of the subs come after those of the other slices.
use Rattle.std.proofs.Common.{◌∙◌, ◌++◌, List, map, filter, ap}
use Rattle.sc_cluster.specs.declared.slice.Slice.{Slice}
use Rattle.sc_cluster.specs.Slices.{forming}
use Rattle.sc_replicas.specs.Searchers.{StandingState, standing_of}
use Rattle.sc_bucket.specs.Searchers.{cut_to}
use Rattle.sc_replicas.specs.declared.standing.Standing.{Standing}
use Rattle.sc_bucket.proofs.SpareLemmas.{is_other}
use Rattle.sc_bucket.proofs.spares.hand_on.Goals as goal

pub returns : goal.returns
returns c =
    let searcher = c.searcher_for.result.now in
    let cut : Slice → StandingState = λ (sub : Slice). cut_to sub (standing_of searcher) in
    record {
      searcher = searcher;
      there = c.searcher_for.ensures.there;
      of_parent = c.searcher_for.ensures.of_slice;
      handed = ap (map standing_of) (c.from_vec.ensures ∙ c.shrink_to_fit.ensures.items)
          ∙ c.in_ok-push_subs.ensures
          ∙ ap (λ these. these ++ map cut (forming c.args.slices.now))
          (c.in_ok-push_others.ensures
          ∙ ap (λ (items : List Standing). map standing_of items ++ filter (is_other c.args.parent) (map standing_of c.as_slice.result.now))
          c.new-handed.ensures.items
          ∙ ap (λ (searchers : List Standing). filter (is_other c.args.parent) (map standing_of searchers)) c.as_slice.ensures);
    }
