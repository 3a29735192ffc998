-- What the clock of a worker gives.
use Rattle.std.specs.Prelude.{◌≡◌, ℕ, Option, Some, None}

-- with no moment, what the clock that was handed in gives; else that moment, and that clock is left as it was
abbrev pub gives_at : {C : Type 0} → (C → ℕ → C → Type 0) → Option ℕ → C → ℕ → Option ℕ → C → Type 0
gives_at gives None old now moment new = (moment ≡ None) × gives old now new
gives_at gives (Some at) old now moment new = (moment ≡ Some at) × (now ≡ at) × (new ≡ old)
