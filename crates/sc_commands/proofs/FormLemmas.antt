-- The commands that the values of an array are.
use Rattle.std.proofs.Common.{◌≡◌, ℕ, zero, suc, ◌+◌, ◌<◌, ◌≤◌, List, [], ◌∷◌, length, get_or, map, Bool, true, false, cond, Some, None, Ok, Err, refl, ap, subst, arith}
use Rattle.serde_json.specs.Data.{Data}
use Rattle.serde_json.specs.View.{view, items_view}
use Rattle.serde_json.specs.declared.value.Value.{Value}
use Rattle.sc_commands.specs.Commands.{Command, each}

-- the first i values pass the test
abbrev pub PassBefore : (Data → Bool) → ℕ → List Value → Type 0
PassBefore test zero vs = Unit {0}
PassBefore test (suc i) [] = Unit {0}
PassBefore test (suc i) (v ∷ vs) = (test (view v) ≡ true) × PassBefore test i vs

pass_suc : (test : Data → Bool) (vs : List Value) (i : ℕ) (d : Value) → i < length vs → PassBefore test i vs → test (view (get_or vs i d)) ≡ true → PassBefore test (suc i) vs
pass_suc test [] i d within before here = tt
pass_suc test (v ∷ vs) zero d within before here = (here, tt)
pass_suc test (v ∷ vs) (suc i) d within before here = (before.0, pass_suc test vs i d (omega arith) before.1 here)

-- one more value passes
pub pass_more : (test : Data → Bool) (vs : List Value) (i : ℕ) (d : Value) → i < length vs → PassBefore test i vs → test (view (get_or vs i d)) ≡ true → PassBefore test (i + 1) vs
pass_more test vs i d within before here =
    let next : suc i ≡ i + 1 = omega arith in
    subst (λ n. PassBefore test n vs) next (pass_suc test vs i d within before here)

-- the reading ends at the first value that does not pass
pub ends_at : (test : Data → Bool) (make : Data → Command) (vs : List Value) (i : ℕ) (d : Value) → i < length vs → PassBefore test i vs → test (view (get_or vs i d)) ≡ false
    → each (λ value. cond (test value) (Some (make value)) None) (items_view vs) ≡ Err i
ends_at test make [] i d within before here = absurd (omega arith)
ends_at test make (v ∷ vs) zero d within before here = rw here
ends_at test make (v ∷ vs) (suc i) d within before here =
    let rest = ends_at test make vs i d (omega arith) before.1 here in
    let place : 1 + i ≡ suc i = omega arith in
    rw (before.0, rest) (ap (λ n. Err n) place)

-- where all values pass, each is a command
pub all_pass : (test : Data → Bool) (make : Data → Command) (vs : List Value) (i : ℕ) → length vs ≤ i → PassBefore test i vs
    → each (λ value. cond (test value) (Some (make value)) None) (items_view vs) ≡ Ok (map (λ v. make (view v)) vs)
all_pass test make [] i within before = refl
all_pass test make (v ∷ vs) zero within before = absurd (omega arith)
all_pass test make (v ∷ vs) (suc i) within before =
    let rest = all_pass test make vs i (omega arith) before.1 in
    rw (before.0, rest)
