-- So far the bytes of the first slices stand at the end.
use Rattle.std.proofs.Common.{◌≡◌, ◌++◌, map, take}
use Rattle.std.specs.List.{flat_map, AllByRecursion}
use Rattle.sc_frames.specs.Stored.{stored_sub, FitsSub}
use Rattle.sc_frames.specs.Entries.{spelling_of_sub}
use Rattle.sc_frames.proofs.push.push_subs.Given as goal

abbrev pub invariant-loop-sub : goal.invariant-loop-sub
invariant-loop-sub l =
    (l.out.items ≡ l.fn.out.items ++ flat_map spelling_of_sub (map stored_sub (take l.sub-index l.subs)))
    × AllByRecursion FitsSub (map stored_sub (take l.sub-index l.subs))
