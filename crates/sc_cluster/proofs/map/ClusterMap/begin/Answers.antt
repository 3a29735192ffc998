-- A begin is one step of `after`, or leaves the map.
use Rattle.std.proofs.Common.{◌≡◌, ◌++◌, map, OnOk, subst, sym}
use Rattle.std.proofs.lemmas.Result.{on_ok_weaker}
use Rattle.sc_cluster.specs.Changes.{Change, MayChange, begun_slice}
use Rattle.sc_cluster.proofs.MapAnswerLemmas.{IsMap-tried}
use Rattle.sc_cluster.proofs.BegunLemmas.{All-forming_begun}
use Rattle.sc_cluster.proofs.MapLemmas.{begun_is_split}
use Rattle.sc_cluster.proofs.map.ClusterMap.begin.Goals as goal

pub invariant_of-self : goal.invariant_of-self
invariant_of-self c =
    let plan = c.args.plan.now in
    let old = c.self.inside.slices.items in
    let ok = subst (λ subs. OnOk c.add_subs.result (c.add_subs.new.slices.items ≡ old ++ map begun_slice subs)) c.as_slice.ensures c.add_subs.ensures.ok in
    IsMap-tried c.add_subs.result old c.args.self.now _ (Change.Begun plan.parent plan.subs) c.self.view_is ok c.add_subs.ensures.err c.self.invariant c.requires

pub returns-clause-split : goal.returns-clause-split
returns-clause-split c =
    let plan = c.args.plan.now in
    let old = c.self.inside.slices.items in
    let ok = subst (λ subs. OnOk c.add_subs.result (c.add_subs.new.slices.items ≡ old ++ map begun_slice subs)) c.as_slice.ensures c.add_subs.ensures.ok in
    let may = subst (λ slices. MayChange slices (Change.Begun plan.parent plan.subs)) (sym c.self.view_is) c.requires in
    let next : MayChange (old ++ map begun_slice plan.subs) (Change.Recovering plan.parent) =
    (begun_is_split old plan.parent plan.subs c.self.invariant may, All-forming_begun old plan.subs may.idle) in
    on_ok_weaker c.add_subs.result (λ begun. subst (λ slices. MayChange slices (Change.Recovering plan.parent)) (sym begun) next) ok

pub returns-clause-map : goal.returns-clause-map
returns-clause-map c =
    let plan = c.args.plan.now in
    let old = c.self.inside.slices.items in
    let ok = subst (λ subs. OnOk c.add_subs.result (c.add_subs.new.slices.items ≡ old ++ map begun_slice subs)) c.as_slice.ensures c.add_subs.ensures.ok in
    IsMap-tried c.add_subs.result old c.args.self.now _ (Change.Begun plan.parent plan.subs) c.self.view_is ok c.add_subs.ensures.err c.self.invariant c.requires
