-- One row more is taken, or enough are, or none is left.
use Rattle.std.proofs.Common.{◌≡◌, List, [], ◌∷◌, ◌++◌, append-nil, append_assoc, map, take, sym, ap, vec_len, ◌∙◌, arith}
use Rattle.std.proofs.lemmas.Bool.{eqb-true}
use Rattle.std.proofs.lemmas.List.{length-map, map-append, nil_from_length, take-append-le}
use Rattle.sc_record.specs.Writes.{Write}
use Rattle.sc_snapshot.specs.Rows.{lent}
use Rattle.sc_finding.specs.Hits.{front_rows, hit_rows, lent_in}
use Rattle.sc_finding.specs.Merging.{gathered, goes_before}
use Rattle.sc_finding.specs.declared.hits.Front.{Front}
use Rattle.sc_finding.proofs.StartLemmas.{starts}
use Rattle.sc_finding.proofs.merging.first_of_all.Goals.{then-taking-test+else-not-is_empty, else-taking-test}
use Rattle.sc_finding.proofs.merging.first_of_all.Goals as goal

pub returns-then-most-eq0 : goal.returns-then-most-eq0
returns-then-most-eq0 g c = λ wholes found alike.
    let kept = lent_in c.in_ok-kept.kept in
    let all = gathered goes_before (map hit_rows c.args.all.now) in
    starts c.args.most wholes (map hit_rows c.args.all.now) kept all found alike
    (ap (λ cells. map lent cells ++ all) c.in_ok-kept.ensures.items)
    (ap (λ n. take n kept) c.if-most-eq0.true ∙ sym (ap (λ n. take n (kept ++ all)) c.if-most-eq0.true))

pub taking-preserved : goal.taking-preserved
taking-preserved g c =
    let kept = lent_in c.taking.kept in
    let row = c.take_first-row.result in
    let rest = gathered goes_before (map front_rows c.take_first-row.new.fronts.items) in
    record {
      same =
          ap (λ (l : List Write). l ++ rest) (ap (map lent) c.in_ok-push.ensures.items ∙ map-append lent c.taking.kept.items (row ∷ []))
          ∙ append_assoc kept (lent row ∷ []) rest
          ∙ ap (λ (l : List Write). kept ++ l) (sym c.take_first-row.ensures.first)
          ∙ c.taking.invariant.same;
      ascend = c.take_first-row.ensures.ascend;
    }

pub returns : goal.returns
returns g c = λ wholes found alike.
    let kept = lent_in c.taking.kept in
    let rest = gathered goes_before (map front_rows c.taking.fronts.items) in
    starts c.args.most wholes (map hit_rows c.args.all.now) kept rest found alike c.taking.invariant.same
    (elim c.taking-test.branch [
      | then-taking-test+else-not-is_empty w ↦
          let none : c.taking.fronts.items ≡ [] =
          nil_from_length c.taking.fronts.items
          (omega (arith, c.taking.fronts.ok.0, eqb-true (vec_len c.taking.fronts) 0 (sym w.is_empty.ensures ∙ w.if-not-is_empty.false))) in
          ap (take c.args.most) (sym (ap (λ (fs : List Front). kept ++ gathered goes_before (map front_rows fs)) none ∙ append-nil kept))
      | else-taking-test w ↦ sym (take-append-le c.args.most kept rest (omega (arith, w.taking-test.false, length-map c.taking.kept.items lent)))
    ])
