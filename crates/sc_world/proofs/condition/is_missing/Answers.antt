-- The slice that is found is the one of the core, which is missing where it may join and is not found.
use Rattle.std.proofs.Common.{◌≡◌, ◌↔◌, ◌∙◌, Bool, not, is_some, IsTrue, ap, subst}
use Rattle.std.proofs.Math.Bool.{not-not}
use Rattle.sc_cluster.specs.declared.slice.Slice.{Slice}
use Rattle.sc_world.specs.Checks.{IsMissing}
use Rattle.sc_world.proofs.ConditionLemmas.{missing_where_joins, not_missing}
use Rattle.sc_world.proofs.condition.is_missing.Goals as goal

pub returns-then-may_join : goal.returns-then-may_join
returns-then-may_join c =
    let b = c.args.bucket.now in
    let is : not (is_some c.position.result) ≡ c.is_none.result = ap not c.is_none.ensures ∙ not-not c.is_none.result in
    subst (λ (test : Bool). IsTrue test ↔ ((sub : Slice) × IsMissing b c.args.core sub)) is
    (missing_where_joins b c.args.core c.in-Some.slice.now c.position.result c.in-Some.ensures.slice
    (c.may_join.ensures.0 c.if-may_join.true) c.position.ensures)

pub returns-else-may_join : goal.returns-else-may_join
returns-else-may_join c =
    not_missing c.args.bucket.now c.args.core c.in-Some.slice.now c.may_join.result c.by_id.ensures.map c.in-Some.ensures.slice
    c.may_join.ensures c.if-may_join.false
