-- The rows that were taken, and then what is left, are all rows in order.
use Rattle.std.proofs.Common.{◌≡◌, ◌-◌, ◌++◌, All, length, map}
use Rattle.sc_finding.specs.Hits.{FrontAscends, front_rows, hit_rows, lent_in}
use Rattle.sc_finding.specs.Merging.{gathered, goes_before}
use Rattle.sc_finding.proofs.merging.first_of_all.Given as goal

abbrev pub invariant-taking : goal.invariant-taking
invariant-taking g l = record {
  same : lent_in l.kept ++ gathered goes_before (map front_rows l.fronts.items) ≡ gathered goes_before (map hit_rows l.all);
  ascend : All FrontAscends l.fronts.items;
}

abbrev pub decreases-taking : goal.decreases-taking
decreases-taking g l = l.most - length l.kept.items
