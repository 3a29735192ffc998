-- A count of the items is one of their ranges.
use Rattle.std.proofs.Common.{◌≡◌, count_by, rules, sym, ◌∙◌}
use Rattle.sc_hash.specs.Bounds.{contains}
use Rattle.sc_cluster.proofs.CountLemmas.{count_by-map}
use Rattle.sc_cluster.proofs.tile.holders.Goals as goal

pub returns : goal.returns
returns g c =
    let range = g.T.Ranged.range_bounds in
    let counted : c.count.result ≡ count_by (λ item. contains c.args.h (range item)) c.args.items.now = search rules in
    counted ∙ sym (count_by-map range (contains c.args.h) c.args.items.now)
