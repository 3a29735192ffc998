-- What is taken are the last of each run of one id.
use Rattle.std.proofs.Common.{◌≡◌, ◌∙◌, ◌+◌, ◌≤◌, List, [], ◌∷◌, ◌++◌, not, map, drop, length, sym, ap, subst, append_assoc, arith, Bor, Vec}
use Rattle.std.specs.declared.alloc.Global.{Global}
use Rattle.std.specs.declared.sync.Arc.{Arc}
use Rattle.std.proofs.lemmas.List.{at_drop_all, drop_more, map-append}
use Rattle.sc_record.specs.Writes.{Write, is_of, AscendById}
use Rattle.sc_snapshot.specs.Rows.{lent}
use Rattle.sc_bucket.proofs.ChangesLemmas.{last_of_runs, runs-apart, runs-same, differs, ascend-none, ascend-from_runs, last-from_runs}
use Rattle.sc_bucket.proofs.changes.last_of_each.Goals as goal
use Rattle.sc_bucket.proofs.changes.last_of_each.Goals.{then-ne+in_ok-push, else-ne}

pub returns-in_default-clause-ascend : goal.returns-in_default-clause-ascend
returns-in_default-clause-ascend c = subst (λ (changes : List (Bor (Arc Write Global))). AscendById (map lent changes)) (sym c.in_ok-changes.ensures.items) ascend-none

pub loop-cell-init : goal.loop-cell-init
loop-cell-init c =
    ap (λ (changes : List (Bor (Arc Write Global))). map lent changes ++ last_of_runs (lent c.in-Some.first.now) (map lent c.in-Some.rest.now))
    c.in_ok-changes.ensures.items

pub loop-cell-preserved : goal.loop-cell-preserved
loop-cell-preserved c =
    let all = c.in-Some.rest.now in
    let at = c.loop-cell.cell-index in
    let before : List (Bor (Arc Write Global)) = c.loop-cell.changes.items in
    let latest : Write = lent c.loop-cell.latest in
    let next : Write = lent c.cell-item.result in
    let left : List Write = map lent (drop (at + 1) all) in
    let here : map lent (drop at all) ≡ next ∷ left =
    ap (map lent) (drop_more all at c.cell-item.result c.loop-cell-test.true)
    ∙ ap (λ (one : Bor (Arc Write Global)). lent one ∷ left) (sym c.cell-item.is) in
    let test : c.ne.result ≡ not (is_of latest.id next) = differs _ _ _ latest next
    (c.id.ensures ∙ ap (λ (write : Write). write.id) c.deref.ensures)
    (c.id-in-loop-cell.ensures ∙ ap (λ (write : Write). write.id) c.deref-in-loop-cell.ensures) c.ne.ensures in
    elim c.if-ne.branch [
      | then-ne+in_ok-push w ↦
          ap (λ (v : Vec (Bor (Arc Write Global)) Global). map lent v.items ++ last_of_runs next left) w.changes-is
          ∙ ap (λ (items : List (Bor (Arc Write Global))). map lent items ++ last_of_runs next left) w.in_ok-push.ensures.items
          ∙ ap (λ (these : List Write). these ++ last_of_runs next left) (map-append lent before (c.loop-cell.latest ∷ []))
          ∙ append_assoc (map lent before) (latest ∷ []) (last_of_runs next left)
          ∙ ap (λ (these : List Write). map lent before ++ these) (sym (runs-apart latest next left (sym test ∙ w.if-ne.true)))
          ∙ ap (λ (these : List Write). map lent before ++ last_of_runs latest these) (sym here)
          ∙ c.loop-cell.invariant
      | else-ne w ↦
          ap (λ (v : Vec (Bor (Arc Write Global)) Global). map lent v.items ++ last_of_runs next left) w.changes-is
          ∙ ap (λ (these : List Write). map lent before ++ these) (sym (runs-same latest next left (sym test ∙ w.if-ne.false)))
          ∙ ap (λ (these : List Write). map lent before ++ last_of_runs latest these) (sym here)
          ∙ c.loop-cell.invariant
    ]

-- what is taken at the end
taken : (c : goal.In_ok-push-2) → map lent c.push-2.new.self.items ≡ last_of_runs (lent c.in-Some.first.now) (map lent c.in-Some.rest.now)
taken c =
    let before = c.loop-cell.changes.items in
    let all = c.in-Some.rest.now in
    let over : length all ≤ c.loop-cell.cell-index = omega (arith, c.loop-cell-test.false) in
    let end = at_drop_all (λ (left : List (Bor (Arc Write Global))). map lent before ++ last_of_runs (lent c.loop-cell.latest) (map lent left)) all c.loop-cell.cell-index over in
    ap (map lent) c.in_ok-push-2.ensures.items
    ∙ map-append lent before (c.loop-cell.latest ∷ [])
    ∙ sym end
    ∙ c.loop-cell.invariant

pub returns-clause-ascend : goal.returns-clause-ascend
returns-clause-ascend c = ascend-from_runs _ _ _ _ (ap (map lent) c.in-Some.ensures.cases.0) c.requires (taken c)

pub returns-clause-last : goal.returns-clause-last
returns-clause-last c = last-from_runs _ _ _ _ (ap (map lent) c.in-Some.ensures.cases.0) c.requires (taken c)
