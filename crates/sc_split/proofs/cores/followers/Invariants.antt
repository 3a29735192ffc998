-- The cores so far are those of the first subs.
use Rattle.std.proofs.Common.{◌≡◌, take}
use Rattle.std.specs.List.{flat_map}
use Rattle.sc_split.specs.Stages.{further_names}
use Rattle.sc_split.proofs.cores.followers.Given as goal

abbrev pub invariant-loop-sub : goal.invariant-loop-sub
invariant-loop-sub l = l.cores.items ≡ flat_map further_names (take l.sub-index l.subs)
