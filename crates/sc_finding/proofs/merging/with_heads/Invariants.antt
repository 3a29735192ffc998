-- The fronts that were put have the rows of the leads that were passed.
use Rattle.std.proofs.Common.{◌≡◌, All, map, take}
use Rattle.sc_finding.specs.Hits.{FrontAscends, front_rows, lead_rows}
use Rattle.sc_finding.proofs.merging.with_heads.Given as goal

abbrev pub invariant-loop-lead : goal.invariant-loop-lead
invariant-loop-lead l = record {
  same : map front_rows l.fronts.items ≡ map lead_rows (take l.lead-index l.leads);
  ascend : All FrontAscends l.fronts.items;
}
