-- What is so of some buckets after a hold of the next.
use Rattle.std.proofs.Common.{◌≡◌, ◌≢◌, ◌⊎◌, inl, inr, ℕ, ◌+◌, ◌<◌, ◌≤◌, Bool, true, false, List, nat_lt, refl, sym, subst, arith, below_more}
use Rattle.std.proofs.lemmas.Bool.Decides.{nat_tests}
use Rattle.sc_cluster.specs.declared.slice.Slice.{Slice}
use Rattle.sc_cluster.specs.declared.plan.SplitPlan.{SplitPlan}
use Rattle.sc_collection.specs.Known.{Known, OfBuckets, IsSameIn}
use Rattle.sc_split.specs.Buckets.{LeavesOthers}
use Rattle.sc_split.specs.Stages.{Stage, IsAtStage, IsUnbegun}
use Rattle.sc_split.proofs.OpenLemmas.{same-other, same-then, stage-same, stage-from, unbegun-from, unbegun-yet}

pub apart-below : (k b : ℕ) → k < b → k ≢ b
apart-below k b below same = omega arith

apart-above : (k b : ℕ) → b < k → k ≢ b
apart-above k b above same = omega arith

-- what was so of those before it, and is of it, is of one more
pub one-more : (IsSo : Known → ℕ → Type 0) (old new : Known) (from b : ℕ)
    → ((k : ℕ) → IsSameIn old new k → IsSo old k → IsSo new k) → LeavesOthers b old new → OfBuckets from b (IsSo old) → IsSo new b
    → OfBuckets from (b + 1) (IsSo new)
one-more IsSo old new from b stays leaves before here k low below =
    below_more (λ (k : ℕ). from ≤ k → IsSo new k) b
    (λ (k : ℕ) (below : k < b) (low : from ≤ k). stays k (same-other b k old new leaves (apart-below k b below)) (before k low below))
    (λ (low : from ≤ b). here) k below low

-- what was so of it and of those after it is of those after it
pub those-after : (IsSo : Known → ℕ → Type 0) (old new : Known) (b to : ℕ)
    → ((k : ℕ) → IsSameIn old new k → IsSo old k → IsSo new k) → LeavesOthers b old new → OfBuckets b to (IsSo old)
    → OfBuckets (b + 1) to (IsSo new)
those-after IsSo old new b to stays leaves after k low below =
    let above : b < k = omega arith in
    let from : b ≤ k = omega arith in
    stays k (same-other b k old new leaves (apart-above k b above)) (after k from below)

-- the split has begun in the buckets before one, and perhaps in that
pub opened-so-far : (plan : SplitPlan) (stage : Stage) (base now new : Known) (b n begun : ℕ)
    → OfBuckets 0 b (IsAtStage (record { plan = plan; base = base }) stage now) → OfBuckets b n (IsSameIn base now) → b < n
    → LeavesOthers b now new → (begun ≡ b) ⊎ (begun ≡ b + 1)
    → (begun ≡ b + 1 → IsAtStage (record { plan = plan; base = now }) stage new b)
    → OfBuckets 0 begun (IsAtStage (record { plan = plan; base = base }) stage new)
opened-so-far plan stage base now new b n begun before same below leaves (inl is) here =
    λ k low within. stage-same (record { plan = plan; base = base }) stage now new k
    (same-other b k now new leaves (apart-below k b (subst (λ (end : ℕ). k < end) is within)))
    (before k low (subst (λ (end : ℕ). k < end) is within))
opened-so-far plan stage base now new b n begun before same below leaves (inr is) here =
    subst (λ (end : ℕ). OfBuckets 0 end (IsAtStage (record { plan = plan; base = base }) stage new)) (sym is)
    (one-more (IsAtStage (record { plan = plan; base = base }) stage) now new 0 b
    (λ k. stage-same (record { plan = plan; base = base }) stage now new k) leaves before
    (stage-from plan stage base now new b (same b (omega arith) below) (here is)))

-- nothing was done of the buckets after it
pub same-after : (base now new : Known) (b n : ℕ) → OfBuckets b n (IsSameIn base now) → LeavesOthers b now new
    → OfBuckets (b + 1) n (IsSameIn base new)
same-after base now new b n same leaves =
    those-after (IsSameIn base) now new b n (λ k stays was. same-then k base now new was stays) leaves same

-- it has not begun in the others
pub unbegun-from-here : (plan : SplitPlan) (first : List Slice) (base now new : Known) (b n begun : ℕ)
    → OfBuckets b n (IsSameIn base now) → b < n → LeavesOthers b now new → (begun ≡ b) ⊎ (begun ≡ b + 1)
    → (begun ≡ b → IsUnbegun (record { plan = plan; base = now }) first new b)
    → OfBuckets begun n (IsUnbegun (record { plan = plan; base = base }) first new)
unbegun-from-here plan first base now new b n begun same below leaves (inr is) here =
    subst (λ (from : ℕ). OfBuckets from n (IsUnbegun (record { plan = plan; base = base }) first new)) (sym is)
    (λ k low within. unbegun-yet plan first base new k (same-after base now new b n same leaves k low within))
unbegun-from-here plan first base now new b n begun same below leaves (inl is) here =
    subst (λ (from : ℕ). OfBuckets from n (IsUnbegun (record { plan = plan; base = base }) first new)) (sym is)
    (λ k low within. by k low within (nat_lt b k) refl) where
      by : (k : ℕ) → b ≤ k → k < n → (later : Bool) → nat_lt b k ≡ later → IsUnbegun (record { plan = plan; base = base }) first new k
      by k low within true test =
          let above : b < k = grind (arith, nat_tests) in
          let next : b + 1 ≤ k = omega arith in
          unbegun-yet plan first base new k (same-after base now new b n same leaves k next within)
      by k low within false test =
          let here_is : b ≡ k = grind (arith, nat_tests) in
          subst (λ (at : ℕ). IsUnbegun (record { plan = plan; base = base }) first new at) here_is
          (unbegun-from plan first base now new b (same b (omega arith) below) (here is))

-- what is so of those before it, of it, and of those after it is so of all
pub in-all : (IsSo : ℕ → Type 0) (b n : ℕ) → OfBuckets 0 b IsSo → IsSo b → OfBuckets (b + 1) n IsSo → OfBuckets 0 n IsSo
in-all IsSo b n before here after k low below = by (nat_lt k b) refl (nat_lt b k) refl where
  by : (less : Bool) → nat_lt k b ≡ less → (more : Bool) → nat_lt b k ≡ more → IsSo k
  by true is more is_more = before k low (let under : k < b = grind (arith, nat_tests) in under)
  by false is true is_more = after k (let above : b < k = grind (arith, nat_tests) in let next : b + 1 ≤ k = omega arith in next) below
  by false is false is_more = subst IsSo (let same : b ≡ k = grind (arith, nat_tests) in same) here

-- what is so of the first of them, and of those after, is so of all
pub in-both : (IsSo : ℕ → Type 0) (m n : ℕ) → OfBuckets 0 m IsSo → OfBuckets m n IsSo → (k : ℕ) → k < n → IsSo k
in-both IsSo m n before after k below = by (nat_lt k m) refl where
  by : (less : Bool) → nat_lt k m ≡ less → IsSo k
  by true is = let zero : 0 ≤ k = omega arith in before k zero (let under : k < m = grind (arith, nat_tests) in under)
  by false is = after k (let above : m ≤ k = grind (arith, nat_tests) in above) below
