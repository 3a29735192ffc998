-- One searcher more is searched, and its hits stand at the end.
use Rattle.std.proofs.Common.{◌≡◌, ◌+◌, ◌≤◌, ◌^◌, List, [], ◌∷◌, ◌++◌, length, map, take, refl, sym, ap, ◌∙◌, subst, All, arith}
use Rattle.std.proofs.lemmas.List.{map-append, length-append, length-take-le, take_more}
use Rattle.std.proofs.lemmas.List.Elements.{All-push}
use Rattle.sc_eval.specs.Criteria.{criterion_of}
use Rattle.sc_replicas.specs.declared.standing.Searcher.{Searcher}
use Rattle.sc_finding.specs.Lists.{all_of}
use Rattle.sc_finding.specs.SearcherRows.{found_in}
use Rattle.sc_finding.specs.Hits.{AreHits, searchers_of}
use Rattle.sc_finding.specs.declared.hits.Hits.{Hits}
use Rattle.sc_finding.proofs.AscendLemmas.{is-found}
use Rattle.sc_finding.proofs.CountLemmas.{count-next}
use Rattle.sc_finding.proofs.StepLemmas.{no-steps, more-steps, first-steps}
use Rattle.sc_finding.proofs.finding.find_at_once.Goals as goal

pub overflow_add-count : goal.overflow_add-count
overflow_add-count g c =
    let searcher : Searcher = c.searcher-item.result in
    let has = c.in_ok-found.ensures.found in
    let bound : length (found_in (criterion_of c.args.query.now) searcher) ≤ 2 ^ 24 =
    (is-found (criterion_of c.args.query.now) searcher c.in_ok-found.ensures.rows).bounded in
    let index = c.loop-searcher.searcher-index in
    let few : length (take index c.args.searchers.now) ≤ 65536 =
    omega (arith, length-take-le index c.args.searchers.now c.loop-searcher.auto.searcher-index-end, c.loop-searcher.auto.searcher-index-end, c.requires.few) in
    omega (arith, c.loop-searcher.invariant.few, few, has.count, bound)

pub loop-searcher-preserved : goal.loop-searcher-preserved
loop-searcher-preserved g c =
    let i = c.loop-searcher.invariant in
    let criterion = criterion_of c.args.query.now in
    let searcher : Searcher = c.searcher-item.result in
    let before = take c.loop-searcher.searcher-index c.args.searchers.now in
    let next : take (c.loop-searcher.searcher-index + 1) c.args.searchers.now ≡ before ++ searcher ∷ [] =
    take_more c.args.searchers.now c.loop-searcher.searcher-index searcher c.loop-searcher-test.true
    ∙ ap (λ (s : Searcher). before ++ s ∷ []) (sym c.searcher-item.is) in
    let has = c.in_ok-found.ensures.found in
    let bound : length (found_in criterion searcher) ≤ 2 ^ 24 = (is-found criterion searcher c.in_ok-found.ensures.rows).bounded in
    record {
      count = count-next (found_in criterion) before searcher c.loop-searcher.count c.in_ok-found.found.count i.count has.count
          ∙ ap (λ (ss : List Searcher). length (all_of (map (found_in criterion) ss))) (sym next);
      few = omega (arith, i.few, has.count, bound, length-append before (searcher ∷ []), ap (λ (ss : List Searcher). length ss) next);
      searchers_are = ap searchers_of c.in_ok-push.ensures.items
          ∙ map-append (λ (h : Hits). h.searcher.now) c.loop-searcher.hits.items (_ ∷ [])
          ∙ ap (λ (ss : List Searcher). ss ++ searcher ∷ []) i.searchers_are
          ∙ sym next;
      kept = subst (All (AreHits criterion c.args.most)) (sym c.in_ok-push.ensures.items)
          (All-push (AreHits criterion c.args.most) c.loop-searcher.hits.items _ i.kept has.first);
      counted = omega (arith, i.counted, c.find_in.ensures.counted);
      bound = more-steps criterion before (take (c.loop-searcher.searcher-index + 1) c.args.searchers.now) searcher
          c.args.steps.now c.loop-searcher.steps c.find_in.new.steps next i.counted c.find_in.ensures.counted i.bound c.find_in.ensures.bound;
    }

pub returns-in_err-hits-clause-bound : goal.returns-in_err-hits-clause-bound
returns-in_err-hits-clause-bound g c = no-steps (criterion_of c.args.query.now) c.args.searchers.now c.args.steps.now c.args.steps.now refl

pub returns-in_err-found-clause-bound : goal.returns-in_err-found-clause-bound
returns-in_err-found-clause-bound g c =
    let i = c.loop-searcher.invariant in
    let criterion = criterion_of c.args.query.now in
    let at = c.loop-searcher.searcher-index in
    let searchers = c.args.searchers.now in
    let searcher : Searcher = c.searcher-item.result in
    let next : take (at + 1) searchers ≡ take at searchers ++ searcher ∷ [] =
    take_more searchers at searcher c.loop-searcher-test.true ∙ ap (λ (s : Searcher). take at searchers ++ s ∷ []) (sym c.searcher-item.is) in
    first-steps criterion searchers (at + 1) _
    (more-steps criterion (take at searchers) (take (at + 1) searchers) searcher c.args.steps.now c.loop-searcher.steps c.find_in.new.steps next
    i.counted c.find_in.ensures.counted i.bound c.find_in.ensures.bound)

pub returns-in_err-push-clause-bound : goal.returns-in_err-push-clause-bound
returns-in_err-push-clause-bound g c =
    let i = c.loop-searcher.invariant in
    let criterion = criterion_of c.args.query.now in
    let at = c.loop-searcher.searcher-index in
    let searchers = c.args.searchers.now in
    let searcher : Searcher = c.searcher-item.result in
    let next : take (at + 1) searchers ≡ take at searchers ++ searcher ∷ [] =
    take_more searchers at searcher c.loop-searcher-test.true ∙ ap (λ (s : Searcher). take at searchers ++ s ∷ []) (sym c.searcher-item.is) in
    first-steps criterion searchers (at + 1) _
    (more-steps criterion (take at searchers) (take (at + 1) searchers) searcher c.args.steps.now c.loop-searcher.steps c.find_in.new.steps next
    i.counted c.find_in.ensures.counted i.bound c.find_in.ensures.bound)

pub returns-clause-bound : goal.returns-clause-bound
returns-clause-bound g c =
    first-steps (criterion_of c.args.query.now) c.args.searchers.now c.loop-searcher.searcher-index _ c.loop-searcher.invariant.bound
