-- Two splits that are the same part by part are equal, and so are two changes.
use Rattle.std.proofs.Common.{ℕ, nat_eq, ◌≡◌, ◌<◌, ap}
use Rattle.std.specs.Prelude.{ℤ, ◌≤ℤ◌}
use Rattle.std.specs.Bool.{Decides}
use Rattle.std.specs.Cmp.Lexicographic.{pointwise_decides}
use Rattle.std.proofs.lemmas.Bool.Decides.{Decides-and, Decides-like, Decides-eqb, Decides-int_eq}
use Rattle.std.proofs.lemmas.Slice.Eq.{bytes_eq-Decides}
use Rattle.std.proofs.Math.Dec.{T_prop}
use mathlib.Core.HLevel.{is_prop→PathP}
use native.Mathlib.Bridge.{le_prop}
use Rattle.sc_record.specs.declared.slice.SubSlice.{SubSlice}
use Rattle.sc_cluster.specs.declared.plan.SplitPlan.{SplitPlan}
use Rattle.sc_opening.specs.declared.change.Change.{Change}
use Rattle.sc_opening.specs.declared.change.Change.TheVariants as change
use Rattle.sc_opening.specs.Same.{same_sub, same_plan, same_change}
use Rattle.sc_opening.specs.Laws.{TestsDecide}

-- that one number is not above another has one proof
ordered_prop : (a b : ℤ) → IsProp (a ≤ℤ b)
ordered_prop a b = hlevel T_prop

-- a slice that a split makes, by its parts
same_sub_by : (one other : SubSlice) → one.id.0 ≡ other.id.0 → one.name ≡ other.name → one.min ≡ other.min → one.max ≡ other.max
    → one.replicas ≡ other.replicas → one.node ≡ other.node → one ≡ other
same_sub_by one other id name min max replicas node = λ i. record {
  id = record { 0 = id i };
  name = name i;
  min = min i;
  max = max i;
  replicas = replicas i;
  node = node i;
  ordered = is_prop→PathP (λ j. min j ≤ℤ max j) (λ j. ordered_prop (min j) (max j)) one.ordered other.ordered i;
  replicated = is_prop→PathP (λ j. 0 < replicas j) (λ j. le_prop) one.replicated other.replicated i;
  placed = is_prop→PathP (λ j. 0 < node j) (λ j. le_prop) one.placed other.placed i;
}

same_sub-Decides : (one other : SubSlice) → Decides (same_sub one other) (one ≡ other)
same_sub-Decides one other =
    Decides-like (same_sub one other)
    (λ parts. same_sub_by one other parts.0.0.0.0.0 parts.0.0.0.0.1 parts.0.0.0.1 parts.0.0.1 parts.0.1 parts.1)
    (λ same. (
      (
        (
          ((ap (λ (sub : SubSlice). sub.id.0) same, ap (λ (sub : SubSlice). sub.name) same), ap (λ (sub : SubSlice). sub.min) same),
          ap (λ (sub : SubSlice). sub.max) same,
        ),
        ap (λ (sub : SubSlice). sub.replicas) same,
      ),
      ap (λ (sub : SubSlice). sub.node) same,
    ))
    (Decides-and _ _ (Decides-and _ _ (Decides-and _ _ (Decides-and _ _ (Decides-and _ _ (Decides-eqb one.id.0 other.id.0)
    (bytes_eq-Decides one.name other.name)) (Decides-int_eq one.min other.min)) (Decides-int_eq one.max other.max))
    (Decides-eqb one.replicas other.replicas)) (Decides-eqb one.node other.node))

-- the test on two splits tells whether they are the same
pub same_plan-Decides : (one other : SplitPlan) → Decides (same_plan one other) (one ≡ other)
same_plan-Decides one other =
    Decides-like (same_plan one other) (λ parts. by parts.0 parts.1)
    (λ same. (ap (λ (plan : SplitPlan). plan.parent.0) same, ap (λ (plan : SplitPlan). plan.subs) same))
    (Decides-and _ _ (Decides-eqb one.parent.0 other.parent.0) (pointwise_decides same_sub-Decides one.subs other.subs))
  where
    by : one.parent.0 ≡ other.parent.0 → one.subs ≡ other.subs → one ≡ other
    by parent subs = λ i. record { parent = record { 0 = parent i }; subs = subs i }

-- and that on two changes
pub same_change-Decides : (one other : Change) → Decides (same_change one other) (one ≡ other)
same_change-Decides (change.Switched plan) (change.Switched other) =
    Decides-like (same_plan plan other) (λ same. ap change.Switched same) (λ same. ap (plan_or plan) same) (same_plan-Decides plan other)
  where
    plan_or : SplitPlan → Change → SplitPlan
    plan_or none (change.Switched plan) = plan
    plan_or none (change.Dropped slice) = none
same_change-Decides (change.Dropped slice) (change.Dropped other) =
    Decides-like (nat_eq slice.0 other.0) (λ same. λ i. change.Dropped (record { 0 = same i })) (λ same. ap number_of same) (Decides-eqb slice.0 other.0)
  where
    number_of : Change → ℕ
    number_of (change.Switched plan) = 0
    number_of (change.Dropped slice) = slice.0
same_change-Decides (change.Switched plan) (change.Dropped other) = (λ is. absurd (cc), λ same. absurd (cc))
same_change-Decides (change.Dropped slice) (change.Switched other) = (λ is. absurd (cc), λ same. absurd (cc))

pub tests_decide : TestsDecide
tests_decide = (
  λ one other. ((same_plan-Decides one other).0, (same_plan-Decides one other).1),
  λ one other. ((same_change-Decides one other).0, (same_change-Decides one other).1),
)
