-- How an object's count of faults says whether a call reports one.
use Rattle.std.specs.Prelude.{◌≡◌, ℕ, ◌<◌, ◌≤◌}

-- where the call reports a fault the count rose, where it reports none the count stands, and it never falls
pub record CountsFaults (reports : Type 0) (old new : ℕ) : Type 0 where
  pub cause : reports → old < new
  pub steady : ¬ reports → new ≡ old
  pub no_fall : old ≤ new
