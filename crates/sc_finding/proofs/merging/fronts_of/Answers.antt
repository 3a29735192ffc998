-- The heads change no row.
use Rattle.std.proofs.Common.{List, map, ap, ◌∙◌}
use Rattle.sc_finding.specs.Hits.{lead_rows}
use Rattle.sc_finding.specs.Merging.{gathered, goes_before}
use Rattle.sc_finding.specs.declared.hits.Lead.{Lead}
use Rattle.sc_finding.proofs.merging.fronts_of.Goals as goal

pub returns-clause-rows : goal.returns-clause-rows
returns-clause-rows g c =
    ap (gathered goes_before) c.in_ok-fronts.ensures.rows
    ∙ ap (λ (ls : List Lead). gathered goes_before (map lead_rows ls)) c.as_slice.ensures.value
    ∙ c.in_ok-leads.ensures.rows
