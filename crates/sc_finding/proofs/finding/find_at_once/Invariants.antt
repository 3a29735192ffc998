-- So far the hits of the first searchers, the count of what these find, and the steps that it took.
use Rattle.std.proofs.Common.{◌≡◌, ◌≤◌, ◌-◌, ◌*◌, ◌^◌, length, map, take, All}
use Rattle.sc_eval.specs.Criteria.{criterion_of}
use Rattle.sc_finding.specs.Lists.{all_of}
use Rattle.sc_finding.specs.SearcherRows.{found_in}
use Rattle.sc_finding.specs.Hits.{AreHits, searchers_of}
use Rattle.sc_finding.specs.Steps.{AreStepsOfSearches}
use Rattle.sc_finding.proofs.finding.find_at_once.Given as goal

abbrev pub invariant-loop-searcher : goal.invariant-loop-searcher
invariant-loop-searcher g l = record {
  count : l.count ≡ length (all_of (map (found_in (criterion_of l.query)) (take l.searcher-index l.searchers)));
  few : l.count ≤ 2 ^ 24 * length (take l.searcher-index l.searchers);
  searchers_are : searchers_of l.hits.items ≡ take l.searcher-index l.searchers;
  kept : All (AreHits (criterion_of l.query) l.most) l.hits.items;
  counted : l.fn.steps ≤ l.steps;
  bound : AreStepsOfSearches (criterion_of l.query) (take l.searcher-index l.searchers) (l.steps - l.fn.steps);
}
