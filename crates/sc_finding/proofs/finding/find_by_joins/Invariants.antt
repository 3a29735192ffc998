-- The first searchers were looked in, in so many steps; all were, and the ends of some are noted; of the first ones the lists are joined.
use Rattle.std.proofs.Common.{◌≡◌, ◌≤◌, ◌-◌, ◌*◌, ◌^◌, ◌++◌, length, map, take, All}
use Rattle.sc_eval.specs.Criteria.{criterion_of}
use Rattle.sc_finding.specs.Lists.{all_of}
use Rattle.sc_finding.specs.SearcherRows.{found_in}
use Rattle.sc_finding.specs.Hits.{AreHits, searchers_of}
use Rattle.sc_finding.specs.Steps.{AreStepsOfSearches}
use Rattle.sc_finding.proofs.LookedLemmas.{IsLookedUp, looked_with}
use Rattle.sc_finding.proofs.finding.find_by_joins.Given as goal

abbrev pub invariant-loop-searcher : goal.invariant-loop-searcher
invariant-loop-searcher g l = record {
  searchers_are : looked_with l.looked.items ≡ take l.searcher-index l.searchers;
  are : All (IsLookedUp (criterion_of l.query)) l.looked.items;
  counted : l.fn.steps ≤ l.steps;
  bound : AreStepsOfSearches (criterion_of l.query) (take l.searcher-index l.searchers) (l.steps - l.fn.steps);
}

abbrev pub invariant-loop-waiting : goal.invariant-loop-waiting
invariant-loop-waiting g l = record {
  searchers_are : looked_with l.waiting-items ≡ l.searchers;
  are : All (IsLookedUp (criterion_of l.query)) l.waiting-items;
}

abbrev pub invariant-loop-one : goal.invariant-loop-one
invariant-loop-one g l = record {
  searchers_are : searchers_of l.hits.items ++ looked_with l.one-iterator.rest.items ≡ l.searchers;
  count : l.count ≡ length (all_of (map (found_in (criterion_of l.query)) (searchers_of l.hits.items)));
  few : l.count ≤ 2 ^ 24 * length (searchers_of l.hits.items);
  kept : All (AreHits (criterion_of l.query) l.most) l.hits.items;
  left : All (IsLookedUp (criterion_of l.query)) l.one-iterator.rest.items;
}
