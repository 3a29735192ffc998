-- The first buckets were looked at, and the searchers are those that were taken there.
use Rattle.std.proofs.Common.{◌≡◌, ◌+◌, map, length, All}
use Rattle.sc_snapshot.specs.Rows.{AreRows}
use Rattle.sc_replicas.specs.declared.standing.Searcher.{Searcher}
use Rattle.sc_eval.specs.Criteria.{criterion_of}
use Rattle.sc_seen.specs.Moments.{view_of}
use Rattle.sc_collection.specs.Desks.{IsDeskAtRest}
use Rattle.sc_finding.specs.SearcherRows.{found_in, HaveTerms}
use Rattle.sc_replicas.specs.Searchers.{searcher_rows}
use Rattle.sc_collection.proofs.LookLemmas.{Looked}
use Rattle.sc_fanout.proofs.SearchLemmas.{FoundSoFar}
use Rattle.sc_fanout.proofs.searching.search.Given as goal

abbrev pub invariant-loop-b : goal.invariant-loop-b
invariant-loop-b g l = record {
  looked : Looked (g.D.Desk.layout l.fn.desk) (view_of (g.D.Desk.seen l.fn.desk) l.fn.trail.stops) (view_of (g.D.Desk.seen l.desk) l.trail.stops) l.b;
  far : All (λ (searcher : Searcher). AreRows (searcher_rows searcher)) l.searchers.items
      → FoundSoFar (g.D.Desk.layout l.fn.desk) (view_of (g.D.Desk.seen l.fn.desk) l.fn.trail.stops) (view_of (g.D.Desk.seen l.desk) l.trail.stops)
      l.ask l.b (map (found_in (criterion_of l.ask.query)) l.searchers.items);
  terms : All HaveTerms l.searchers.items;
  layout : g.D.Desk.layout l.desk ≡ g.D.Desk.layout l.fn.desk;
  rest : IsDeskAtRest (g.D.Desk.layout l.desk) (g.D.Desk.out l.desk) (g.D.Desk.seen l.desk);
  stops : length l.trail.stops ≡ length l.fn.trail.stops + l.b;
  requests : l.trail.requests ≡ l.fn.trail.requests;
}
