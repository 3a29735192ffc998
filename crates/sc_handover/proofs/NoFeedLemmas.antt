-- Without feeds the feeds of a bucket are as they have to be.
use Rattle.std.proofs.Common.{◌≡◌, List, [], ◌∷◌, map, All, refl, sym, subst}
use Rattle.std.specs.List.{IsDistinct}
use Rattle.std.proofs.lemmas.List.Elements.{All-head, All-nil}
use Rattle.sc_bucket.specs.Kept.{FeedState}
use Rattle.sc_record.specs.Names.{is_core}
use Rattle.sc_bucket.specs.Sound.{IsFeed, AreFeeds}
use Rattle.sc_bucket.specs.declared.bucket.Bucket.{Bucket}
use Rattle.sc_bucket.proofs.FeedLemmas.{fed_core}

-- there is no element where something holds of each that holds of none
pub none_where : {A : Type 0} (P : A → Type 0) → ((x : A) → P x → ⊥) → (xs : List A) → All P xs → xs ≡ []
none_where P fails [] each = refl
none_where P fails (x ∷ xs) each = absurd (fails x (All-head P x xs each))

-- without feeds they are as they have to be
pub AreFeeds-none : (b : Bucket) → b.feeds ≡ [] → AreFeeds b
unfolding IsDistinct
AreFeeds-none b none = record {
  each = subst (All (IsFeed b)) (sym none) (All-nil (IsFeed b));
  once = subst (λ (feeds : List FeedState). IsDistinct is_core (map fed_core feeds)) (sym none) tt;
}
