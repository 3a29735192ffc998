-- The test of a range decides which numbers are within it.
use Rattle.std.proofs.Common.{◌≡◌, Bool, true, false, T, ℤ, ◌≤ℤ◌, refl, Decides}
use Rattle.std.specs.Prelude.{int_le}
use Rattle.std.proofs.lemmas.Bool.Decides.{Decides-and}
use Rattle.sc_hash.specs.Range.{IsWithin}
use Rattle.sc_hash.specs.Bounds.{contains}

int_le-Decides : (a b : ℤ) → Decides (int_le a b) (a ≤ℤ b)
int_le-Decides a b = (λ is. record { le = rw is tt }, λ most. by (int_le a b) most.le) where
  by : (t : Bool) → T t → t ≡ true
  by true holds = refl
  by false holds = absurd holds

pub contains-Decides : (h min max : ℤ) → Decides (contains h (min, max)) (IsWithin min max h)
contains-Decides h min max = Decides-and (int_le min h) (int_le h max) (int_le-Decides min h) (int_le-Decides h max)
