-- So far the least of the first rows that were passed.
use Rattle.std.proofs.Common.{◌<◌, ◌≤◌, length}
use Rattle.sc_finding.specs.Hits.{IsLeast, leads_of}
use Rattle.sc_finding.proofs.merging.least.Given as goal

abbrev pub invariant-loop-at : goal.invariant-loop-at
invariant-loop-at l = record {
  within : l.least < l.at;
  inside : l.at ≤ length l.fronts;
  least : IsLeast (leads_of l.fronts) l.at l.least;
}
