-- The next slice's cores come to the end.
use Rattle.std.proofs.Common.{◌∙◌, map, sym, ap, subst, arith}
use Rattle.std.specs.Arc.{arc_value}
use Rattle.std.specs.Option.{option_copied}
use Rattle.std.proofs.lemmas.List.{take_all}
use Rattle.sc_replicas.specs.Cores.{core_keys}
use Rattle.sc_bucket.proofs.TakenLemmas.{Contains-slice_get}
use Rattle.sc_restored.specs.Restored.{AreRestored}
use Rattle.sc_restored.proofs.AddedLemmas.{restored_none, restored_more}
use Rattle.sc_restored.proofs.replicas.replicas_of.Goals as goal

pub loop-at-init : goal.loop-at-init
loop-at-init c =
    restored_none c.args.slices.now c.args.marks.now (map arc_value c.args.writes.now) c.new-replicas.result.items c.new-replicas.ensures.items

pub loop-at-preserved : goal.loop-at-preserved
loop-at-preserved c =
    let slices = c.args.slices.now in
    let slice = c.unwrap.result.now in
    let there = sym c.get.ensures.slice ∙ ap option_copied c.unwrap.ensures in
    restored_more slices c.loop-at.at slice c.args.marks.now (map arc_value c.args.writes.now) c.loop-at.replicas.items c.push_replicas.new.replicas.items
    there (Contains-slice_get slices c.loop-at.at slice there) c.in_ok-push_replicas.ensures c.loop-at.invariant

pub returns : goal.returns
returns c =
    let slices = c.args.slices.now in
    let is = c.loop-at.invariant in
    subst (AreRestored slices c.args.marks.now (map arc_value c.args.writes.now)) (sym (c.from_vec.ensures ∙ c.shrink_to_fit.ensures.items))
    (record {
      keys = is.keys ∙ ap core_keys (take_all c.loop-at.at slices (omega (arith, c.loop-at-test.false, c.len-at-end.ensures)));
      each = is.each;
    })
