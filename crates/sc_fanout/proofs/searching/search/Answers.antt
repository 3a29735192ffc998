-- The searchers of the buckets are taken in turn, and a page is shown of what they find.
use Rattle.std.proofs.Common.{◌≡◌, ◌+◌, ◌^◌, ◌≤◌, ◌++◌, List, length, map, All, refl, sym, ap, ◌∙◌, subst, arith}
use Rattle.std.specs.Prelude.{⊤, IfOk}
use Rattle.std.proofs.Math.Pow.{pow_mono}
use Rattle.std.proofs.lemmas.List.{length-map, map-append}
use Rattle.std.proofs.lemmas.List.Elements.{All-nil, All-append}
use Rattle.std.proofs.lemmas.Result.{err_from_is_err_and}
use Rattle.sc_record.specs.Writes.{Write}
use Rattle.sc_record.specs.declared.entry.Entry.{Entry}
use Rattle.sc_snapshot.specs.Rows.{AreRows}
use Rattle.sc_replicas.specs.declared.standing.Searcher.{Searcher}
use Rattle.sc_eval.specs.Criteria.{criterion_of}
use Rattle.sc_seen.specs.Seen.{Layout}
use Rattle.sc_seen.specs.Moments.{view_of}
use Rattle.sc_finding.specs.SearcherRows.{found_in, HaveTerms}
use Rattle.sc_replicas.specs.Searchers.{searcher_rows}
use Rattle.sc_collection.specs.Looks.{AreAsked, LooksAtOne}
use Rattle.sc_finding.specs.Lists.{all_of}
use Rattle.sc_fanout.specs.Pages.{IsPageOf}
use Rattle.sc_finding.specs.Hits.{lists_of}
use Rattle.sc_collection.proofs.LookLemmas.{asked-terms, Looked-none, Looked-more}
use Rattle.sc_finding.proofs.FoundLemmas.{lists-found}
use Rattle.sc_fanout.proofs.SearchLemmas.{all-left, all-right, FoundSoFar-none, FoundSoFar-more, searched-fault, searched}
use Rattle.sc_fanout.proofs.searching.search.Goals as goal

pub loop-b-init : goal.loop-b-init
loop-b-init g c = record {
  looked = Looked-none (g.D.Desk.layout c.args.desk.now) (view_of (g.D.Desk.seen c.args.desk.now) c.args.trail.now.stops);
  far = λ rows. FoundSoFar-none (g.D.Desk.layout c.args.desk.now) (view_of (g.D.Desk.seen c.args.desk.now) c.args.trail.now.stops) c.args.ask.now
      (map (found_in (criterion_of c.args.ask.now.query)) c.with_room-searchers.result.items)
      (ap (map (found_in (criterion_of c.args.ask.now.query))) c.with_room-searchers.ensures);
  terms = subst (All HaveTerms) (sym c.with_room-searchers.ensures) (All-nil HaveTerms);
  layout = refl;
  rest = record { nothing_out = c.requires.nothing_out; legal = c.buckets-b-end.ensures.legal };
  stops = omega arith;
  requests = refl;
}

pub returns-in_err-take_searchers-clause-searched : goal.returns-in_err-take_searchers-clause-searched
returns-in_err-take_searchers-clause-searched g c =
    let layout = g.D.Desk.layout c.args.desk.now in
    let old = view_of (g.D.Desk.seen c.args.desk.now) c.args.trail.now.stops in
    let between = view_of (g.D.Desk.seen c.loop-b.desk) c.loop-b.trail.stops in
    let new = view_of (g.D.Desk.seen c.take_searchers.new.desk) c.take_searchers.new.trail.stops in
    let failed = err_from_is_err_and c.from_residual.result c.from_residual.ensures.1 in
    let looks : LooksAtOne layout between new c.loop-b.b (λ (journal : List Entry). ⊤) =
    subst (λ (l : Layout). LooksAtOne l between new c.loop-b.b (λ (journal : List Entry). ⊤))
    c.loop-b.invariant.layout c.in_err-take_searchers.ensures.looks in
    searched-fault layout old new c.args.ask.now (c.loop-b.b + 1) failed.0 c.from_residual.result
    failed.1 (omega (arith, c.loop-b-test.true, c.buckets-b-end.ensures.count))
    (Looked-more layout old between new c.loop-b.b (λ (journal : List Entry). ⊤)
    c.loop-b.invariant.looked looks)

pub loop-b-preserved : goal.loop-b-preserved
loop-b-preserved g c =
    let layout = g.D.Desk.layout c.args.desk.now in
    let old = view_of (g.D.Desk.seen c.args.desk.now) c.args.trail.now.stops in
    let between = view_of (g.D.Desk.seen c.loop-b.desk) c.loop-b.trail.stops in
    let new = view_of (g.D.Desk.seen c.take_searchers.new.desk) c.take_searchers.new.trail.stops in
    let criterion = criterion_of c.args.ask.now.query in
    let route = c.args.ask.now.route in
    let before = c.loop-b.searchers.items in
    let AreAll : List Searcher → Type 0 = All (λ (searcher : Searcher). AreRows (searcher_rows searcher)) in
    let taken = c.in_ok-take_searchers.ensures.looks in
    let more = taken.is_taken.more in
    let next = taken.is_taken.added in
    let one : LooksAtOne (g.D.Desk.layout c.loop-b.desk) between new c.loop-b.b
    (λ (journal : List Entry). AreAsked (g.D.Desk.layout c.loop-b.desk) c.loop-b.b journal route more) =
    record { journal = taken.journal; begins = taken.begins; keeps = taken.keeps; is_taken = taken.is_taken.are } in
    let looks : LooksAtOne layout between new c.loop-b.b
    (λ (journal : List Entry). AreAsked layout c.loop-b.b journal route more) =
    subst (λ (l : Layout). LooksAtOne l between new c.loop-b.b
    (λ (journal : List Entry). AreAsked l c.loop-b.b journal route more))
    c.loop-b.invariant.layout one in
    record {
      looked = Looked-more layout old between new c.loop-b.b (λ (journal : List Entry). AreAsked layout c.loop-b.b journal route more)
          c.loop-b.invariant.looked looks;
      far = λ rows.
          let all : AreAll (before ++ more) = subst AreAll next rows in
          FoundSoFar-more layout old between new c.args.ask.now c.loop-b.b
          (map (found_in criterion) before) (map (found_in criterion) c.take_searchers.new.searchers.items) more
          (c.loop-b.invariant.far (all-left (λ (searcher : Searcher). AreRows (searcher_rows searcher)) before more all)) looks
          (all-right (λ (searcher : Searcher). AreRows (searcher_rows searcher)) before more all)
          (ap (map (found_in criterion)) next ∙ map-append (found_in criterion) before more);
      terms = subst (All HaveTerms) (sym next) (All-append HaveTerms before more c.loop-b.invariant.terms
          (asked-terms (g.D.Desk.layout c.loop-b.desk) c.loop-b.b taken.journal route more taken.is_taken.are));
      layout = c.take_searchers.ensures.layout ∙ c.loop-b.invariant.layout;
      rest = c.take_searchers.ensures.rest;
      stops = omega (arith, c.take_searchers.ensures.stops, c.loop-b.invariant.stops);
      requests = c.take_searchers.ensures.requests ∙ c.loop-b.invariant.requests;
    }

pub find_in_parts-requires-clause-few : goal.find_in_parts-requires-clause-few
find_in_parts-requires-clause-few g c =
    let searchers = c.loop-b.searchers.items in
    let rows : All (λ (searcher : Searcher). AreRows (searcher_rows searcher)) searchers =
    subst (All (λ (searcher : Searcher). AreRows (searcher_rows searcher))) c.as_slice.ensures.value c.rows_of.ensures in
    let few = (c.loop-b.invariant.far rows).few in
    let many = length-map searchers (found_in (criterion_of c.args.ask.now.query)) in
    let same = ap (λ (ss : List Searcher). length ss) c.as_slice-2.ensures.value in
    let (k, small, is) = c.buckets-b-end.ensures.power in
    let most : 2 ^ k ≤ 256 = pow_mono {i = k} {j = 8} small in
    omega (arith, few, many, same, c.loop-b.auto.b-end, is, most)

pub returns-clause-searched : goal.returns-clause-searched
returns-clause-searched g c =
    let low = c.loop-b-test.false in
    let high = c.loop-b.auto.b-end in
    let ask = c.args.ask.now in
    let criterion = criterion_of ask.query in
    let searchers = c.loop-b.searchers.items in
    let rows : All (λ (searcher : Searcher). AreRows (searcher_rows searcher)) searchers =
    subst (All (λ (searcher : Searcher). AreRows (searcher_rows searcher))) c.as_slice.ensures.value c.rows_of.ensures in
    let found : lists_of criterion c.as_slice-3.result.now ≡ map (found_in criterion) searchers =
    ap (lists_of criterion) c.as_slice-3.ensures.value
    ∙ lists-found criterion (ask.start + ask.rows) c.as_slice-2.result.now c.in_ok-found.found c.in_ok-found.ensures
    ∙ ap (map (found_in criterion)) c.as_slice-2.ensures.value in
    searched (g.D.Desk.layout c.args.desk.now) (view_of (g.D.Desk.seen c.args.desk.now) c.args.trail.now.stops)
    (view_of (g.D.Desk.seen c.loop-b.desk) c.loop-b.trail.stops) ask c.loop-b.b (map (found_in criterion) searchers) c.page.result
    (omega (arith, low, high, c.buckets-b-end.ensures.count)) (c.loop-b.invariant.far rows)
    (subst (λ (lists : List (List Write)). IfOk c.page.result (IsPageOf (all_of lists) ask.start ask.rows)) found c.page.ensures)
