-- What the parts of a piece of a feed do.
use Rattle.std.specs.Prelude.{◌≡◌, ℕ, ◌+◌, List, filter, take, drop, slice_get, slice_set, Some}
use Rattle.sc_record.specs.Writes.{Write}
use Rattle.sc_replica.specs.Core.{Core, fed_all}
use Rattle.sc_bucket.specs.Kept.{FeedState}
use Rattle.sc_snapshot.specs.Rows.{is_within}
use Rattle.sc_bucket.specs.declared.bucket.Bucket.{Bucket}
use Rattle.sc_handover.specs.Events.{HasSameRest}

-- a feed and the core that it feeds, each with its place in a bucket
pub record FedCore : Type 0 where
  pub feed_at : ℕ
  pub core_at : ℕ
  pub feed : FeedState
  pub core : Core

abbrev pub fed_core_at : (feed_at core_at : ℕ) → FeedState → Core → FedCore
fed_core_at feed_at core_at feed core = record { feed_at = feed_at; core_at = core_at; feed = feed; core = core }

-- they are at these places of the bucket
pub record IsFedAt (b : Bucket) (one : FedCore) : Type 0 where
  pub feed_found : slice_get b.feeds one.feed_at ≡ Some one.feed
  pub core_found : slice_get b.replicas one.core_at ≡ Some one.core
  pub core_is : one.core.core ≡ one.feed.core

-- of the next n rows of a feed those whose hash is in the core's range
abbrev pub next_fed : ℕ → FeedState → List Write
next_fed n feed = filter (is_within feed.range) (take n (drop feed.next feed.rows))

-- the feed once it looked at n rows more
abbrev pub after_rows : ℕ → FeedState → FeedState
after_rows n feed = record feed { next = feed.next + n }

-- the feed at its place looked at its next n rows, and the core at its place was fed those of them that are in its
-- range
pub record FeedsRows (old : Bucket) (one : FedCore) (n : ℕ) (new : Bucket) : Type 0 where
  pub rest : HasSameRest old new
  pub cores : new.replicas ≡ slice_set old.replicas one.core_at (fed_all one.core (next_fed n one.feed))
  pub feeds_are : new.feeds ≡ slice_set old.feeds one.feed_at (after_rows n one.feed)
