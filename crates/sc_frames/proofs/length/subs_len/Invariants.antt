-- So far the sum is the bytes of the first slices.
use Rattle.std.proofs.Common.{◌≡◌, length, map, take}
use Rattle.std.specs.List.{flat_map}
use Rattle.sc_frames.specs.Stored.{stored_sub}
use Rattle.sc_frames.specs.Entries.{spelling_of_sub}
use Rattle.sc_frames.proofs.length.subs_len.Given as goal

abbrev pub invariant-loop-sub : goal.invariant-loop-sub
invariant-loop-sub l = l.sum ≡ length (flat_map spelling_of_sub (map stored_sub (take l.sub-index l.subs)))
