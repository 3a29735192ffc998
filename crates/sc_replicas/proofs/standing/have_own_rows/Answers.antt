-- The rows of one more searcher are of its range alone.
use Rattle.std.proofs.Common.{All, length, refl, sym, subst, arith}
use Rattle.std.proofs.lemmas.List.{take_all}
use Rattle.std.proofs.lemmas.List.Elements.{All-push}
use Rattle.std.proofs.lemmas.Option.{slice_get_read}
use Rattle.sc_replicas.specs.Searchers.{HasOwnRows}
use Rattle.sc_replicas.proofs.FindLemmas.{take-next}
use Rattle.sc_replicas.proofs.standing.have_own_rows.Goals as goal

pub loop-searcher-preserved : goal.loop-searcher-preserved
loop-searcher-preserved c =
    let searchers = c.args.searchers.now in
    let at = c.loop-searcher.searcher-index in
    let there = slice_get_read searchers (length searchers) at c.searcher-item.result refl c.loop-searcher-test.true c.searcher-item.is in
    subst (All HasOwnRows) (sym (take-next searchers at c.searcher-item.result there))
    (All-push HasOwnRows _ c.searcher-item.result c.loop-searcher.invariant (c.has_own_rows.ensures c.if-not-has_own_rows.false))

pub returns : goal.returns
returns c = λ _.
    subst (All HasOwnRows) (take_all c.loop-searcher.searcher-index c.args.searchers.now (omega (arith, c.loop-searcher-test.false)))
    c.loop-searcher.invariant
