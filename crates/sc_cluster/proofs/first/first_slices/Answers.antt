-- One more slice is that of the next place.
use Rattle.std.proofs.Common.{◌∙◌, ap, ◌+◌, length}
use Rattle.std.proofs.lemmas.List.{length_push}
use Rattle.sc_cluster.specs.Map.{IsFirst}
use Rattle.sc_cluster.proofs.ItemLemmas.{each_push}
use Rattle.sc_cluster.proofs.first.first_slices.Goals as goal

pub loop-i-preserved : goal.loop-i-preserved
loop-i-preserved c =
    let new = c.in_ok-first_slice.field-0 in
    let IsNext = IsFirst c.args.shards c.args.replicas c.args.nodes in
    let last : IsNext (length c.loop-i.slices.items) new = rw c.loop-i.invariant.count c.in_ok-first_slice.ensures in
    record {
      count = ap length c.in_ok-push.ensures.items ∙ length_push _ _ ∙ ap (λ n. n + 1) c.loop-i.invariant.count;
      each = rw c.in_ok-push.ensures.items (each_push IsNext _ new c.loop-i.invariant.each last);
    }
