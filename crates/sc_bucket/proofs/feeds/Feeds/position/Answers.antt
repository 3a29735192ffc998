-- The first feed of the core is found.
use Rattle.std.proofs.Common.{◌≡◌, true, false, Some, None, MatchOption, All, Option, ℕ, List, slice_get, subst, rules}
use Rattle.std.proofs.lemmas.Iterator.{IsFirst-from_position, YieldsList-from_slice}
use borrow.Author.Tests.{tests}
use Rattle.sc_record.specs.declared.slice.CoreId.{CoreId}
use Rattle.sc_bucket.specs.Kept.{FeedState}
use Rattle.sc_bucket.specs.Pending.{is_feed_of}
use Rattle.sc_replicas.proofs.FindLemmas.{IsFirstThat, first_from_search}
use Rattle.sc_bucket.proofs.feeds.Feeds.position.Goals as goal

-- what is found, but that it is the first
found_is : (core : CoreId) (feeds : List FeedState) (found : Option ℕ) → IsFirstThat (is_feed_of core) feeds found
    → MatchOption found (All (λ (feed : FeedState). is_feed_of core feed ≡ false) feeds)
    (λ at. (feed : FeedState) × (slice_get feeds at ≡ Some feed) × (is_feed_of core feed ≡ true))
found_is core feeds None none = none
found_is core feeds (Some at) (feed, there, is, first) = (feed, there, is)

pub returns : goal.returns
returns c =
    found_is c.args.core c.args.self.now c.position.result
    (subst (λ feeds. IsFirstThat (is_feed_of c.args.core) feeds c.position.result) c.self.view_is
    (first_from_search (is_feed_of c.args.core) c.self.inside.feeds.items c.position.result
    (IsFirst-from_position _ _ _ (λ (feed : FeedState). is_feed_of c.args.core feed ≡ true) (λ (feed : FeedState). is_feed_of c.args.core feed ≡ false)
    c.position.ensures.ran (YieldsList-from_slice c.self.inside.feeds.items cc)
    (λ x q k. search (rules, tests)) (λ x q k. search (rules, tests)))))
