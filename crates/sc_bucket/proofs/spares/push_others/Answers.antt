-- The next searcher's share comes to the end where it is not the parent's.
use Rattle.std.proofs.Common.{◌∙◌, ◌++◌, List, length, map, filter, refl, sym, ap, arith}
use Rattle.std.proofs.lemmas.List.{append-nil, take_all}
use Rattle.std.proofs.lemmas.Option.{slice_get_read}
use Rattle.sc_replicas.specs.Searchers.{standing_of}
use Rattle.sc_replicas.specs.declared.standing.Standing.{Standing}
use Rattle.sc_bucket.proofs.SpareLemmas.{is_other, others-next}
use Rattle.sc_bucket.proofs.spares.push_others.Goals as goal

pub loop-searcher-init : goal.loop-searcher-init
loop-searcher-init c = sym (append-nil (map standing_of c.args.handed.now.items))

pub loop-searcher-preserved : goal.loop-searcher-preserved
loop-searcher-preserved c =
    others-next c.args.parent c.args.searchers.now c.loop-searcher.searcher-index c.searcher-item.result
    (map standing_of c.args.handed.now.items) (map standing_of c.loop-searcher.handed.items) (map standing_of c.push_other.new.handed.items)
    (slice_get_read c.args.searchers.now (length c.args.searchers.now) c.loop-searcher.searcher-index c.searcher-item.result refl
    c.loop-searcher-test.true c.searcher-item.is) c.loop-searcher.invariant c.in_ok-push_other.ensures

pub returns : goal.returns
returns c =
    c.loop-searcher.invariant
    ∙ ap (λ (these : List Standing). map standing_of c.args.handed.now.items ++ filter (is_other c.args.parent) (map standing_of these))
    (take_all c.loop-searcher.searcher-index c.args.searchers.now (omega (arith, c.loop-searcher-test.false)))
