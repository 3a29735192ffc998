-- The feed at the place looked at its next row.
use Rattle.std.proofs.Common.{◌≡◌, ◌+◌, Some, None, slice_get, if◌then◌else◌, refl, subst}
use Rattle.std.specs.Arc.{arc_value}
use Rattle.std.specs.Option.{option_map}
use Rattle.sc_snapshot.specs.Rows.{is_within}
use Rattle.sc_bucket.specs.Kept.{FeedState}
use Rattle.sc_replicas.proofs.ChangedAtLemmas.{here_at, changed_at, set_at}
use Rattle.sc_bucket.proofs.feeds.Feeds.look.Goals as goal

pub look-requires : goal.look-requires
look-requires c =
    c.requires.left c.index_mut.result.now (here_at c.self.inside.feeds.items c.args.self.now c.args.at c.index_mut.result.now c.self.view_is
    c.requires.within c.index_mut.ensures.value)

pub returns-clause-next : goal.returns-clause-next
returns-clause-next c feed there =
    set_at (λ (one : FeedState). record one { next = one.next + 1 }) c.self.inside.feeds.items c.args.self.now c.args.at feed
    c.index_mut.result.now c.look.new.self c.self.view_is there c.index_mut.ensures.value c.look.ensures.next

pub returns-clause-row : goal.returns-clause-row
returns-clause-row c feed row there =
    subst (λ (one : FeedState). slice_get one.rows one.next ≡ Some row
    → option_map arc_value c.look.result ≡ (if is_within one.range row then Some row else None))
    (changed_at (λ (one : FeedState). one) c.self.inside.feeds.items c.args.self.now c.args.at feed c.index_mut.result.now c.index_mut.result.now
    c.self.view_is there c.index_mut.ensures.value refl) (c.look.ensures.row row)
