-- Which cores may still be catching up.
use Rattle.std.proofs.Common.{◌≡◌, ◌∙◌, Bool, true, false, not, ◌&&◌, ◌||◌, nat_eq, refl, sym, ap}
use Rattle.std.proofs.lemmas.Bool.{false≢true}
use Rattle.sc_record.specs.declared.slice.CoreId.{CoreId}
use Rattle.sc_cluster.specs.declared.slice.State.TheVariants as states
use Rattle.sc_cluster.specs.declared.slice.Slice.{Slice}
use Rattle.sc_cluster.specs.Slices.{is_active, is_forming}
use Rattle.sc_cluster.proofs.StateLemmas.{active_settled}
use Rattle.sc_bucket.specs.declared.phase.Phase.{Phase}
use Rattle.sc_bucket.specs.Sound.{is_idle, may_catch_up}

-- a core of a slice that a split is making may
pub forming_catches_up : (phase : Phase) (slice : Slice) (core : CoreId) → is_forming slice ≡ true → may_catch_up phase slice core ≡ true
forming_catches_up phase slice core forming =
    ap (λ (b : Bool). b || (is_idle phase && is_active slice && not (nat_eq core.replica 1))) forming

-- while a split is open no other may
pub only_forming : (phase : Phase) (slice : Slice) (core : CoreId) → is_idle phase ≡ false
    → may_catch_up phase slice core ≡ is_forming slice
only_forming phase slice core busy =
    ap (λ (b : Bool). is_forming slice || (b && is_active slice && not (nat_eq core.replica 1))) busy ∙ or_false (is_forming slice)
  where
    or_false : (b : Bool) → (b || false) ≡ b
    or_false true = refl
    or_false false = refl

-- nor may ever the leader of another slice
pub leader_caught_up : (phase : Phase) (slice : Slice) (core : CoreId) → core.replica ≡ 1 → is_forming slice ≡ false
    → may_catch_up phase slice core ≡ false
leader_caught_up phase slice core leads settled =
    ap (λ (b : Bool). b || (is_idle phase && is_active slice && not (nat_eq core.replica 1))) settled
    ∙ ap (λ (n : _). is_idle phase && is_active slice && not (nat_eq n 1)) leads ∙ none (is_idle phase) (is_active slice)
  where
    none : (idle active : Bool) → (idle && active && false) ≡ false
    none true true = refl
    none true false = refl
    none false active = refl

-- nor a core of a slice that is neither being made nor active
pub inactive_caught_up : (phase : Phase) (slice : Slice) (core : CoreId) → is_active slice ≡ false → is_forming slice ≡ false
    → may_catch_up phase slice core ≡ false
inactive_caught_up phase slice core passive settled =
    ap (λ (b : Bool). b || (is_idle phase && is_active slice && not (nat_eq core.replica 1))) settled
    ∙ ap (λ (b : Bool). is_idle phase && b && not (nat_eq core.replica 1)) passive
    ∙ none (is_idle phase) (not (nat_eq core.replica 1))
  where
    none : (idle follows : Bool) → (idle && false && follows) ≡ false
    none true follows = refl
    none false follows = refl

-- so the leader of an active slice has no feed
pub leader_unfed : (phase : Phase) (slice : Slice) (core : CoreId) → core.replica ≡ 1 → slice.state ≡ states.Active
    → may_catch_up phase slice core ≡ true → ⊥
leader_unfed phase slice core leads active catches_up =
    false≢true (sym (leader_caught_up phase slice core leads (active_settled slice active)) ∙ catches_up)
