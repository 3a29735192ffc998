-- After the cores from before come the further ones so far.
use Rattle.std.proofs.Common.{◌≡◌, ◌++◌, ◌-◌, map}
use Rattle.std.specs.List.{range_with_len}
use Rattle.sc_split.specs.Stages.{follower_of}
use Rattle.sc_split.proofs.cores.push_followers.Given as goal

abbrev pub invariant-loop-k : goal.invariant-loop-k
invariant-loop-k l = l.cores.items ≡ l.initial.cores.items ++ map (follower_of l.sub) (range_with_len 0 (l.k - 1))
