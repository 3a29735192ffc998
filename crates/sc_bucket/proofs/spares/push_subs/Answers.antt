-- The next slice's searcher comes to the end where it is a sub.
use Rattle.std.proofs.Common.{◌∙◌, ◌++◌, List, map, sym, ap, arith}
use Rattle.std.specs.Option.{option_copied}
use Rattle.std.proofs.lemmas.List.{append-nil, take_all}
use Rattle.sc_cluster.specs.declared.slice.Slice.{Slice}
use Rattle.sc_cluster.specs.Slices.{forming}
use Rattle.sc_replicas.specs.Searchers.{standing_of}
use Rattle.sc_bucket.specs.Searchers.{cut_to}
use Rattle.sc_bucket.proofs.SpareLemmas.{subs-next}
use Rattle.sc_bucket.proofs.spares.push_subs.Goals as goal

pub loop-at-preserved : goal.loop-at-preserved
loop-at-preserved c =
    subs-next c.args.searcher.now c.args.slices.now c.loop-at.at c.unwrap-slice.result.now (map standing_of c.args.handed.now.items)
    (map standing_of c.loop-at.handed.items) (map standing_of c.push_sub.new.handed.items)
    (sym c.get.ensures.slice ∙ ap option_copied c.unwrap-slice.ensures) c.loop-at.invariant c.in_ok-push_sub.ensures

pub loop-at-init : goal.loop-at-init
loop-at-init c = sym (append-nil (map standing_of c.args.handed.now.items))

pub returns : goal.returns
returns c =
    c.loop-at.invariant
    ∙ ap (λ (these : List Slice). map standing_of c.args.handed.now.items
    ++ map (λ (sub : Slice). cut_to sub (standing_of c.args.searcher.now)) (forming these))
    (take_all c.loop-at.at c.args.slices.now (omega (arith, c.loop-at-test.false, c.len-at-end.ensures)))
