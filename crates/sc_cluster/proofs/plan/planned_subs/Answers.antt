-- One more sub is the planned one of the next place.
use Rattle.std.proofs.Common.{◌≡◌, ◌<◌, ◌∙◌, ap, sym, ◌∷◌, [], ◌++◌, length, map, take, arith}
use Rattle.std.proofs.lemmas.List.{length-map, map_push, map_more, length-take-le}
use Rattle.sc_hash.specs.Bounds.{bounds}
use Rattle.sc_cluster.specs.Plans.{sub_bounds, IsPlanned}
use Rattle.sc_cluster.proofs.ItemLemmas.{each_push}
use Rattle.sc_cluster.proofs.plan.planned_subs.Goals as goal

pub loop-i-preserved : goal.loop-i-preserved
loop-i-preserved c =
    let new = c.in_ok-planned_sub.field-0 in
    let so_far = c.loop-i.subs.items in
    let ranges = c.args.ranges.now in
    let range = c.index-ranges-i.result in
    let within : c.loop-i.i < length ranges = omega arith in
    let IsNext = IsPlanned c.args.parent.now c.args.greatest in
    let count : length so_far ≡ c.loop-i.i =
    sym (length-map so_far sub_bounds) ∙ ap length c.loop-i.invariant.ranges ∙ length-map (take c.loop-i.i ranges) bounds ∙ length-take-le c.loop-i.i ranges (omega arith) in
    let last : IsNext (length so_far) new = rw count c.in_ok-planned_sub.ensures.sub in
    record {
      ranges = ap (map sub_bounds) c.in_ok-push.ensures.items ∙ map_push sub_bounds so_far new
          ∙ ap (λ bs. bs ++ sub_bounds new ∷ []) c.loop-i.invariant.ranges
          ∙ ap (λ b. map bounds (take c.loop-i.i ranges) ++ b ∷ []) (c.in_ok-planned_sub.ensures.range ∙ ap bounds c.index-ranges-i.is)
          ∙ sym (map_more bounds ranges c.loop-i.i range within);
      planned = rw c.in_ok-push.ensures.items (each_push IsNext so_far new c.loop-i.invariant.planned last);
    }
