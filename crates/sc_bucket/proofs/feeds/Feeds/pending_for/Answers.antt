-- The core's feed is the only one of it.
use Rattle.std.proofs.Common.{◌≡◌, ◌∙◌, ap, sym, length, get_or, List}
use Rattle.std.proofs.lemmas.Option.{get_or_from_slice_get}
use Rattle.sc_bucket.specs.Kept.{FeedState}
use Rattle.sc_bucket.specs.Pending.{left_of}
use Rattle.sc_bucket.proofs.FeedLemmas.{to_feed-of, to_feed-none}
use Rattle.sc_bucket.proofs.feeds.Feeds.pending_for.Goals as goal

pub returns-in-Some : goal.returns-in-Some
returns-in-Some c =
    let (feed, there, is) = c.in-Some.ensures in
    let here : c.index.result.now ≡ feed =
    c.index.ensures ∙ ap (λ (feeds : List FeedState). get_or feeds c.in-Some.at c.index.result.now) c.self.view_is
    ∙ get_or_from_slice_get c.args.self.now c.in-Some.at feed c.index.result.now there in
    c.pending.ensures
    ∙ ap (λ (one : FeedState). length (left_of one)) here
    ∙ ap length (sym (to_feed-of c.args.self.now c.in-Some.at feed c.args.core c.requires there is))

pub returns-in-None : goal.returns-in-None
returns-in-None c = ap length (sym (to_feed-none c.args.self.now c.args.core c.in-None.ensures))
