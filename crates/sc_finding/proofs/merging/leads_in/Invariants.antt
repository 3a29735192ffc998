-- The leads that were put stand for the hits that were passed, whatever lists come after them.
use Rattle.std.proofs.Common.{◌≡◌, ◌++◌, All, List, map, take}
use Rattle.sc_record.specs.Writes.{Write}
use Rattle.sc_finding.specs.Hits.{LeadAscends, lead_rows, hit_rows}
use Rattle.sc_finding.specs.Merging.{gathered, goes_before}
use Rattle.sc_finding.proofs.merging.leads_in.Given as goal

abbrev pub invariant-loop-hits : goal.invariant-loop-hits
invariant-loop-hits g l = record {
  same : (rest : List (List Write)) → gathered goes_before (map lead_rows l.leads.items ++ rest)
      ≡ gathered goes_before (map hit_rows (take l.hits-index l.all) ++ rest);
  ascend : All LeadAscends l.leads.items;
}
