-- One more sub has its leader and its feed.
use Rattle.std.proofs.Common.{◌≡◌, ◌<◌, ◌∙◌, List, [], ◌∷◌, ◌++◌, length, get_or, map, take, sym, ap, subst, arith}
use Rattle.std.specs.List.{AllZip}
use Rattle.std.specs.Arc.{arc_value}
use Rattle.std.proofs.lemmas.List.{map-append, map_more}
use Rattle.sc_replica.specs.Core.{Core}
use Rattle.sc_replicas.specs.Cores.{without_room}
use Rattle.sc_bucket.specs.Kept.{FeedState}
use Rattle.sc_handover.specs.Made.{first_feed, IsRoomyFor}
use Rattle.sc_handover.proofs.MadeLemmas.{made_core}
use Rattle.sc_handover.proofs.beginning.made.Goals as goal

-- what holds of the items of two lists, place by place, with one more of each
AllZip-more : {A B : Type 0} (R : A → B → Type 0) (xs : List A) (ys : List B) (x : A) (y : B) → AllZip R xs ys → R x y
    → AllZip R (xs ++ x ∷ []) (ys ++ y ∷ [])
AllZip-more R [] [] x y all last = (last, tt)
AllZip-more R [] (v ∷ ys) x y all last = absurd all
AllZip-more R (u ∷ xs) [] x y all last = absurd all
AllZip-more R (u ∷ xs) (v ∷ ys) x y all last = (all.0, AllZip-more R xs ys x y all.1 last)

pub loop-sub-preserved : goal.loop-sub-preserved
loop-sub-preserved c =
    let at = c.loop-sub.sub-index in
    let subs = c.args.subs.now in
    let below : at < length subs = omega arith in
    let snapshot = arc_value c.args.snapshot.now in
    let here : get_or subs at c.sub-item.result ≡ c.sub-item.result = sym c.sub-item.is in
    record {
      cores = ap (map without_room) c.in_ok-push.ensures.items
          ∙ map-append without_room c.loop-sub.cores.items (c.in_ok-core.core ∷ [])
          ∙ ap (λ (cores : List Core). cores ++ without_room c.in_ok-core.core ∷ []) c.loop-sub.invariant.cores
          ∙ ap (λ (core : Core). map made_core (take at subs) ++ core ∷ [])
          (c.in_ok-core.ensures.core ∙ ap made_core (sym here))
          ∙ sym (map_more made_core subs at c.sub-item.result below);
      feeds = c.in_ok-push-2.ensures.items
          ∙ ap (λ (feeds : List FeedState). feeds ++ c.in_ok-core.feed ∷ []) c.loop-sub.invariant.feeds
          ∙ ap (λ (feed : FeedState). map (first_feed snapshot) (take at subs) ++ feed ∷ [])
          (c.in_ok-core.ensures.feed ∙ ap (first_feed snapshot) (sym here))
          ∙ sym (map_more (first_feed snapshot) subs at c.sub-item.result below);
      roomy = subst (λ (feeds : List FeedState). AllZip IsRoomyFor feeds c.push.new.self.items)
          (sym c.in_ok-push-2.ensures.items)
          (subst (AllZip IsRoomyFor (c.loop-sub.feeds.items ++ c.in_ok-core.feed ∷ [])) (sym c.in_ok-push.ensures.items)
          (AllZip-more IsRoomyFor c.loop-sub.feeds.items c.loop-sub.cores.items c.in_ok-core.feed c.in_ok-core.core
          c.loop-sub.invariant.roomy c.in_ok-core.ensures.roomy));
    }
