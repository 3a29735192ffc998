-- One searcher more is looked in, one end more is noted, and of one more the lists are joined: its hits stand at the end.
use Rattle.std.proofs.Common.{◌≡◌, ◌+◌, List, [], ◌∷◌, ◌++◌, append_assoc, get_or, length, map, take, sym, ap, ◌∙◌, subst, All, arith, refl, rules}
use Rattle.std.proofs.Math.ListN.{drop_of_length-le}
use Rattle.std.proofs.Math.Seq.{map-set_same}
use Rattle.std.proofs.lemmas.List.{append-nil, map-append, length-append, take_all, take_more}
use Rattle.std.proofs.lemmas.List.Elements.{All-push, All-head, All-tail, All-set}
use Rattle.sc_eval.specs.Criteria.{criterion_of}
use Rattle.sc_replicas.specs.declared.standing.Searcher.{Searcher}
use Rattle.sc_finding.specs.Lists.{all_of}
use Rattle.sc_finding.specs.SearcherRows.{found_in}
use Rattle.sc_finding.specs.Hits.{AreHits, searchers_of}
use Rattle.sc_finding.specs.declared.hits.Hits.{Hits}
use Rattle.sc_finding.specs.declared.hits.Looked.{Looked}
use Rattle.sc_finding.proofs.AscendLemmas.{is-found}
use Rattle.sc_finding.proofs.CountLemmas.{count-next}
use Rattle.sc_finding.proofs.LookedLemmas.{IsLookedUp, looked_with, looked-matches, noted, written}
use Rattle.sc_finding.proofs.StepLemmas.{no-steps, more-steps, first-steps}
use Rattle.sc_finding.proofs.finding.find_by_joins.Goals as goal

pub loop-searcher-preserved : goal.loop-searcher-preserved
loop-searcher-preserved g c =
    let i = c.loop-searcher.invariant in
    let criterion = criterion_of c.args.query.now in
    let searcher : Searcher = c.searcher-item.result in
    let before = take c.loop-searcher.searcher-index c.args.searchers.now in
    let next : take (c.loop-searcher.searcher-index + 1) c.args.searchers.now ≡ before ++ searcher ∷ [] =
    take_more c.args.searchers.now c.loop-searcher.searcher-index searcher c.loop-searcher-test.true
    ∙ ap (λ (s : Searcher). before ++ s ∷ []) (sym c.searcher-item.is) in
    record {
      searchers_are = ap looked_with c.in_ok-push.ensures.items
          ∙ map-append (λ (l : Looked). l.searcher.now) c.loop-searcher.looked.items (_ ∷ [])
          ∙ ap (λ (ss : List Searcher). ss ++ searcher ∷ []) i.searchers_are
          ∙ sym next;
      are = subst (All (IsLookedUp criterion)) (sym c.in_ok-push.ensures.items)
          (All-push (IsLookedUp criterion) c.loop-searcher.looked.items _ i.are
          (record { will = c.in_ok-unjoined.ensures.found; rows = c.in_ok-unjoined.ensures.rows }));
      counted = omega (arith, i.counted, c.look_in.ensures.counted);
      bound = more-steps criterion before (take (c.loop-searcher.searcher-index + 1) c.args.searchers.now) searcher
          c.args.steps.now c.loop-searcher.steps c.look_in.new.steps next i.counted c.look_in.ensures.counted i.bound c.look_in.ensures.bound;
    }

pub loop-waiting-init : goal.loop-waiting-init
loop-waiting-init g c =
    let same = c.deref_mut-waiting-items.ensures.value in
    record {
      searchers_are = ap looked_with same ∙ c.loop-searcher.invariant.searchers_are
          ∙ take_all c.loop-searcher.searcher-index c.args.searchers.now (omega (arith, c.loop-searcher-test.false));
      are = subst (All (IsLookedUp (criterion_of c.args.query.now))) (sym same) c.loop-searcher.invariant.are;
    }

pub loop-waiting-preserved : goal.loop-waiting-preserved
loop-waiting-preserved g c =
    let i = c.loop-waiting.invariant in
    let criterion = criterion_of c.args.query.now in
    let all = c.loop-waiting.waiting-items in
    let k = c.loop-waiting.waiting-index in
    let one : Looked = get_or all k c.waiting-item.result in
    let is : IsLookedUp criterion one = i.are k _ (omega (arith, c.loop-waiting-test.true, c.loop-waiting.auto.waiting-items)) in
    let more = noted criterion one c.note_end.new.self is c.note_end.ensures.ready (λ numbers joined. (c.note_end.ensures.same numbers).0 joined) in
    record {
      searchers_are = map-set_same (λ (l : Looked). l.searcher.now) all k _ _ refl ∙ i.searchers_are;
      are = All-set (IsLookedUp criterion) all k _ more i.are;
    }

pub overflow_add-count : goal.overflow_add-count
overflow_add-count g c =
    let i = c.loop-one.invariant in
    let criterion = criterion_of c.args.query.now in
    let one : Looked = c.in-Some.one in
    let rest = c.next.new.self.rest.items in
    let left = subst (All (IsLookedUp criterion)) (c.in-Some.ensures.steps).0 i.left in
    let is = All-head (IsLookedUp criterion) one rest left in
    let has = looked-matches criterion c.args.most one c.in_ok-begun.begun is c.in_ok-begun.ensures in
    let bound = (is-found criterion one.searcher.now is.rows).bounded in
    let many = ap (λ (ss : List Searcher). length ss) i.searchers_are in
    omega (arith, i.few, has.count, bound, many, length-append (searchers_of c.loop-one.hits.items) (looked_with c.loop-one.one-iterator.rest.items), c.requires.few)

pub loop-one-preserved : goal.loop-one-preserved
loop-one-preserved g c =
    let i = c.loop-one.invariant in
    let criterion = criterion_of c.args.query.now in
    let one : Looked = c.in-Some.one in
    let searcher : Searcher = one.searcher.now in
    let before = searchers_of c.loop-one.hits.items in
    let rest = c.next.new.self.rest.items in
    let step = (c.in-Some.ensures.steps).0 in
    let left = subst (All (IsLookedUp criterion)) step i.left in
    let is = All-head (IsLookedUp criterion) one rest left in
    let has = looked-matches criterion c.args.most one c.in_ok-begun.begun is c.in_ok-begun.ensures in
    let bound = (is-found criterion searcher is.rows).bounded in
    let hits = ap searchers_of c.in_ok-push-2.ensures.items
    ∙ map-append (λ (h : Hits). h.searcher.now) c.loop-one.hits.items (_ ∷ []) in
    record {
      searchers_are = ap (λ (ss : List Searcher). ss ++ looked_with rest) hits
          ∙ append_assoc before (searcher ∷ []) (looked_with rest)
          ∙ ap (λ (ls : List Looked). before ++ looked_with ls) (sym step)
          ∙ i.searchers_are;
      count = count-next (found_in criterion) before searcher c.loop-one.count c.in_ok-begun.begun.count i.count has.count
          ∙ ap (λ (ss : List Searcher). length (all_of (map (found_in criterion) ss))) (sym hits);
      few = omega (arith, i.few, has.count, bound, length-append before (searcher ∷ []), ap (λ (ss : List Searcher). length ss) hits);
      kept = subst (All (AreHits criterion c.args.most)) (sym c.in_ok-push-2.ensures.items)
          (All-push (AreHits criterion c.args.most) c.loop-one.hits.items _ i.kept has.first);
      left = All-tail (IsLookedUp criterion) one rest left;
    }

pub loop-one-init : goal.loop-one-init
loop-one-init g c =
    let i = c.loop-waiting.invariant in
    let criterion = criterion_of c.args.query.now in
    let lent = c.deref_mut-waiting-items.ensures in
    let whole = written c.loop-searcher.looked.items c.loop-waiting.waiting-items c.loop-searcher.looked.len
    (omega (arith, ap (λ (ls : List Looked). length ls) lent.value, lent.len))
    (omega (arith, c.loop-waiting.auto.waiting-items, lent.len)) in
    let all = c.into_iter-one-iterator.ensures.into_iter_gives.0 ∙ whole in
    let none = c.in_ok-hits.ensures.items in
    record {
      searchers_are = ap (λ (hs : List Hits). searchers_of hs ++ looked_with c.into_iter-one-iterator.result.rest.items) none
          ∙ ap looked_with all ∙ i.searchers_are;
      count = ap (λ (hs : List Hits). length (all_of (map (found_in criterion) (searchers_of hs)))) (sym none);
      few = omega arith;
      kept = search rules;
      left = subst (All (IsLookedUp criterion)) (sym all) i.are;
    }

pub returns-clause-found : goal.returns-clause-found
returns-clause-found g c =
    let i = c.loop-one.invariant in
    let rest = c.loop-one.one-iterator.rest.items in
    let none : length rest ≡ 0 = omega (arith, c.loop-one.one-iterator.rest.ok.0, (c.in-None.ensures.steps).0) in
    let all : searchers_of c.loop-one.hits.items ≡ c.args.searchers.now =
    sym (append-nil (searchers_of c.loop-one.hits.items))
    ∙ ap (λ (ls : List Looked). searchers_of c.loop-one.hits.items ++ looked_with ls) (sym (drop_of_length-le rest {i = 0} (omega (arith, none))))
    ∙ i.searchers_are in
    record {
      count = i.count ∙ ap (λ (ss : List Searcher). length (all_of (map (found_in (criterion_of c.args.query.now)) ss))) all;
      few = omega (arith, i.few, ap (λ (ss : List Searcher). length ss) all);
      searchers_are = all;
      kept = i.kept;
    }

pub returns-in_err-looked-clause-bound : goal.returns-in_err-looked-clause-bound
returns-in_err-looked-clause-bound g c = no-steps (criterion_of c.args.query.now) c.args.searchers.now c.args.steps.now c.args.steps.now refl

pub returns-in_err-unjoined-clause-bound : goal.returns-in_err-unjoined-clause-bound
returns-in_err-unjoined-clause-bound g c =
    let i = c.loop-searcher.invariant in
    let criterion = criterion_of c.args.query.now in
    let at = c.loop-searcher.searcher-index in
    let searchers = c.args.searchers.now in
    let searcher : Searcher = c.searcher-item.result in
    let next : take (at + 1) searchers ≡ take at searchers ++ searcher ∷ [] =
    take_more searchers at searcher c.loop-searcher-test.true ∙ ap (λ (s : Searcher). take at searchers ++ s ∷ []) (sym c.searcher-item.is) in
    first-steps criterion searchers (at + 1) _
    (more-steps criterion (take at searchers) (take (at + 1) searchers) searcher c.args.steps.now c.loop-searcher.steps c.look_in.new.steps next
    i.counted c.look_in.ensures.counted i.bound c.look_in.ensures.bound)

pub returns-in_err-push-clause-bound : goal.returns-in_err-push-clause-bound
returns-in_err-push-clause-bound g c =
    let i = c.loop-searcher.invariant in
    let criterion = criterion_of c.args.query.now in
    let at = c.loop-searcher.searcher-index in
    let searchers = c.args.searchers.now in
    let searcher : Searcher = c.searcher-item.result in
    let next : take (at + 1) searchers ≡ take at searchers ++ searcher ∷ [] =
    take_more searchers at searcher c.loop-searcher-test.true ∙ ap (λ (s : Searcher). take at searchers ++ s ∷ []) (sym c.searcher-item.is) in
    first-steps criterion searchers (at + 1) _
    (more-steps criterion (take at searchers) (take (at + 1) searchers) searcher c.args.steps.now c.loop-searcher.steps c.look_in.new.steps next
    i.counted c.look_in.ensures.counted i.bound c.look_in.ensures.bound)

pub returns-in_err-hits-clause-bound : goal.returns-in_err-hits-clause-bound
returns-in_err-hits-clause-bound g c =
    first-steps (criterion_of c.args.query.now) c.args.searchers.now c.loop-searcher.searcher-index _ c.loop-searcher.invariant.bound

pub returns-in_err-begun-clause-bound : goal.returns-in_err-begun-clause-bound
returns-in_err-begun-clause-bound g c =
    first-steps (criterion_of c.args.query.now) c.args.searchers.now c.loop-searcher.searcher-index _ c.loop-searcher.invariant.bound

pub returns-in_err-push-2-clause-bound : goal.returns-in_err-push-2-clause-bound
returns-in_err-push-2-clause-bound g c =
    first-steps (criterion_of c.args.query.now) c.args.searchers.now c.loop-searcher.searcher-index _ c.loop-searcher.invariant.bound

pub returns-clause-bound : goal.returns-clause-bound
returns-clause-bound g c =
    first-steps (criterion_of c.args.query.now) c.args.searchers.now c.loop-searcher.searcher-index _ c.loop-searcher.invariant.bound
