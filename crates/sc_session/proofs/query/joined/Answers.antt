-- What is read and joined, text by text.
use Rattle.std.proofs.Common.{◌≡◌, Err, ap}
use Rattle.std.proofs.lemmas.Result.{err_from_is_err_and}
use Rattle.sc_eval.specs.declared.fault.BindFault.TheVariants.{At}
use Rattle.sc_query.specs.Tree.{tree_of}
use Rattle.sc_session.proofs.QueryLemmas.{HaveJoined-first, HaveJoined-next, HasTextFault-one, HasTextFault-next}
use Rattle.sc_session.proofs.query.joined.Goals as goal

pub returns-in_err-query-clause-fault : goal.returns-in_err-query-clause-fault
returns-in_err-query-clause-fault c at is =
    let p = err_from_is_err_and c.from_residual.result c.from_residual.ensures.1 in
    let given = p.1 in
    let kept = p.2 in
    let same : c.in_err-query.field-0.0 ≡ At at = cc in
    HasTextFault-one c.args.texts.now c.index-texts-0.result at c.requires c.index-texts-0.is
    (c.in_err-query.ensures.fault at (ap Err same))

pub loop-text-init : goal.loop-text-init
loop-text-init c =
    HaveJoined-first c.args.texts.now c.index-texts-0.result (tree_of c.in_ok-query.query) c.requires c.index-texts-0.is
    c.in_ok-query.ensures.tree

pub returns-in_err-next-clause-fault : goal.returns-in_err-next-clause-fault
returns-in_err-next-clause-fault c at is =
    let p = err_from_is_err_and c.from_residual-in_err-next.result c.from_residual-in_err-next.ensures.1 in
    let given = p.1 in
    let kept = p.2 in
    let same : c.in_err-next.field-0.0 ≡ At at = cc in
    HasTextFault-next c.args.texts.now c.loop-text.text-index c.text-item.result (tree_of c.loop-text.query) at
    c.loop-text-test.true c.text-item.is c.loop-text.invariant (c.in_err-next.ensures.fault at (ap Err same))

pub loop-text-preserved : goal.loop-text-preserved
loop-text-preserved c =
    HaveJoined-next c.args.texts.now c.loop-text.text-index c.text-item.result (tree_of c.loop-text.query)
    (tree_of c.in_ok-next.next) (tree_of c.in_ok-query-2.query) c.loop-text-test.true c.text-item.is
    c.loop-text.invariant c.in_ok-next.ensures.tree c.in_ok-query-2.ensures
