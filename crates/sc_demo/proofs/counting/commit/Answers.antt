-- The commits' trail begins empty.
use Rattle.std.proofs.Common.{◌≡◌, ℕ, length, ap, arith, subst, refl, [], List}
use Rattle.sc_collection.specs.Kept.{Kept}
use Rattle.sc_demo.proofs.counting.commit.Goals as goal

pub commit_all-requires-clause-room : goal.commit_all-requires-clause-room
commit_all-requires-clause-room g c =
    let none : length c.clear.new.self.stops ≡ 0 = ap (λ (kept : Kept). length kept.stops) c.clear.ensures in
    omega (arith, none, c.requires.buckets)
