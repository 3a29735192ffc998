-- Which cores of a slice that no split is making may still be catching up: while no split is open, the followers of an active one.
use Rattle.std.proofs.Common.{◌≡◌, ◌<◌, ◌∙◌, Bool, true, false, not, ◌&&◌, ◌||◌, nat_eq, refl, sym, ap, arith}
use Rattle.std.proofs.lemmas.Bool.{ne_eqb}
use Rattle.sc_record.specs.declared.slice.CoreId.{CoreId}
use Rattle.sc_cluster.specs.declared.slice.State.TheVariants as states
use Rattle.sc_cluster.specs.declared.slice.Slice.{Slice}
use Rattle.sc_cluster.specs.Slices.{is_active_state, is_active, is_forming}
use Rattle.sc_bucket.specs.Sound.{is_idle, may_catch_up}
use Rattle.sc_bucket.specs.declared.phase.Phase.{Phase}
use Rattle.sc_bucket.specs.declared.phase.Phase.TheVariants as phases

-- each follower of an active slice may
pub follower_catches_up : (phase : Phase) (slice : Slice) (name : CoreId) → phase ≡ phases.Idle → slice.state ≡ states.Active
    → 1 < name.replica → may_catch_up phase slice name ≡ true
follower_catches_up phase slice name idle active above =
    ap (λ p. is_forming slice || (is_idle p && is_active slice && not (nat_eq name.replica 1))) idle
    ∙ ap (λ t. is_forming slice || (true && t && not (nat_eq name.replica 1))) (ap is_active_state active)
    ∙ ap (λ t. is_forming slice || (true && true && not t)) (ne_eqb name.replica 1 (λ same. omega (arith, same, above)))
    ∙ by (is_forming slice)
  where
    by : (t : Bool) → t || true ≡ true
    by true = refl
    by false = refl

-- and no core of a slice that is not active
pub catching_follows : (phase : Phase) (slice : Slice) (name : CoreId) → is_forming slice ≡ false
    → may_catch_up phase slice name ≡ true → is_active slice ≡ true
catching_follows phase slice name settled catches =
    let rest : is_idle phase && is_active slice && not (nat_eq name.replica 1) ≡ true =
    ap (λ t. t || (is_idle phase && is_active slice && not (nat_eq name.replica 1))) (sym settled) ∙ catches in
    active (is_idle phase) (is_active slice) (not (nat_eq name.replica 1)) rest
  where
    active : (t u v : Bool) → t && u && v ≡ true → u ≡ true
    active true true v is = refl
    active true false v is = is
    active false u v is = absurd (cc)
