-- What the split beside the workers leaves.
use Rattle.std.specs.Prelude.{List, [], codes}
use Rattle.sc_seen.specs.Seen.{Layout}
use Rattle.sc_seen.specs.Moments.{view_of}
use Rattle.sc_seen.specs.declared.stop.Stop.{Stop}
use Rattle.sc_board.specs.Splits.{AskedSplit, asked_for}
use Rattle.sc_board.specs.declared.cut.Cut.TheVariants.{Parts}
use Rattle.sc_split.specs.Splits.{IsSplit, split_moment}
use Rattle.sc_split.specs.declared.end.SplitEnd.{SplitEnd}
use Rattle.sc_session.specs.Commands.{Situation}

-- what is asked for: `shard1` in two parts
abbrev pub first_shard : AskedSplit
first_shard = asked_for (codes "shard1") (Parts 2)

-- `shard1` was split in two, or why it was not: as every split leaves its desk and its hosts, and as it is answered
pub record SplitsFirst (layout : Layout) (old new : Situation) (end : SplitEnd) : Type 0 where
  pub stops : List Stop
  pub is : IsSplit layout first_shard (split_moment (view_of old.seen []) old.outside) (split_moment (view_of new.seen stops) new.outside) end
