-- The state and the range are tested as the definition does.
use Rattle.std.proofs.Common.{◌≡◌, true, sym, ◌∙◌}
use Rattle.std.proofs.lemmas.Bool.Decides.{same_from_decides}
use Rattle.std.proofs.lemmas.Int.{to_z-of_z}
use Rattle.sc_cluster.specs.Slices.{is_active}
use Rattle.sc_hash.proofs.BoundsLemmas.{contains-Decides}
use Rattle.sc_cluster.proofs.map.is_leader.Goals as goal

pub returns-then-is_active : goal.returns-then-is_active
returns-then-is_active c =
    let slice = c.args.slice.now in
    let fits = c.ranges.h in
    let active : is_active slice ≡ true = sym c.is_active.ensures ∙ c.if-is_active.true in
    rw active (same_from_decides _ _ (simp to_z-of_z at c.contains.ensures) (contains-Decides c.args.h slice.range.min slice.range.max))
