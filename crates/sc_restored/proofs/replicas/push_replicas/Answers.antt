-- One core more is the next replica of the slice.
use Rattle.std.proofs.Common.{List, Global, map, filter, refl, sym, subst, arith}
use Rattle.std.specs.Arc.{arc_value}
use Rattle.std.specs.declared.sync.Arc.{Arc}
use Rattle.sc_record.specs.Writes.{Write, AscendById}
use Rattle.sc_snapshot.specs.Rows.{is_within}
use Rattle.sc_bucket.specs.Taking.{AreLastOf}
use Rattle.sc_restored.proofs.AddedLemmas.{added_none, added_one, added_slice}
use Rattle.sc_restored.proofs.replicas.push_replicas.Goals as goal

pub replica_of-requires : goal.replica_of-requires
replica_of-requires c =
    subst (λ (cells : List (Arc Write Global)). AscendById (map arc_value cells)) (sym c.as_slice.ensures.value) c.in_ok-cells.ensures.ascend

pub loop-below-init : goal.loop-below-init
loop-below-init c = added_none c.args.slice.now c.args.marks.now (map arc_value c.args.writes.now) c.args.replicas.now.items

pub loop-below-preserved : goal.loop-below-preserved
loop-below-preserved c =
    added_one c.args.slice.now c.loop-below.below c.args.marks.now (map arc_value c.args.writes.now) (map arc_value c.as_slice.result.now)
    c.args.replicas.now.items c.loop-below.replicas.items c.push.new.self.items _ c.in_ok-replica_of.field-0 c.in_ok-replica_of.ensures refl refl
    (subst (λ (cells : List (Arc Write Global)). AscendById (map arc_value cells)) (sym c.as_slice.ensures.value) c.in_ok-cells.ensures.ascend)
    (subst (λ (cells : List (Arc Write Global)). AreLastOf (filter (is_within c.args.slice.now.range) (map arc_value c.args.writes.now)) (map arc_value cells))
    (sym c.as_slice.ensures.value) c.in_ok-cells.ensures.last)
    c.in_ok-push.ensures.items c.loop-below.invariant

pub returns : goal.returns
returns c =
    added_slice c.args.slice.now c.loop-below.below c.args.marks.now (map arc_value c.args.writes.now) c.args.replicas.now.items
    c.loop-below.replicas.items (omega (arith, c.loop-below-test.false, c.loop-below.auto.below-end)) c.loop-below.invariant
