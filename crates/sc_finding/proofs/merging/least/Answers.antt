-- The next first row is less, or it is not.
use Rattle.std.proofs.Common.{◌≡◌, ◌+◌, ◌<◌, ℕ, List, length, get_or, sym, ap, ap₂, subst, ◌∙◌, arith}
use Rattle.std.proofs.lemmas.Bool.{not-false, not-true}
use Rattle.std.proofs.lemmas.List.{get_or-map}
use Rattle.sc_record.specs.Writes.{Write}
use Rattle.sc_finding.specs.Hits.{IsLeast, leads_of}
use Rattle.sc_finding.specs.Merging.{goes_before}
use Rattle.sc_finding.specs.declared.hits.Front.{Front}
use Rattle.sc_finding.proofs.StartLemmas.{first-next, first-stays, lead}
use Rattle.sc_finding.proofs.merging.least.Goals.{then-is_before, else-is_before}
use Rattle.sc_finding.proofs.merging.least.Goals as goal

-- the first row of the front at a place
lead-there : (fronts : List Front) (at : ℕ) (front : Front) (d : Write) → at < length fronts → front ≡ get_or fronts at front → get_or (leads_of fronts) at d ≡ lead front
lead-there fronts at front d within is = get_or-map lead fronts at front d within ∙ ap lead (sym is)

pub loop-at-preserved : goal.loop-at-preserved
loop-at-preserved c =
    let fronts = c.args.fronts.now in
    let at = c.loop-at.at in
    let least = c.loop-at.least in
    let i = c.loop-at.invariant in
    let one : Front = c.index-fronts-at.result in
    let other : Front = c.index-fronts-least.result in
    let inside : at < length fronts = omega (arith, c.loop-at-test.true) in
    let held : least < length fronts = omega (arith, i.within, inside) in
    let there : (d : Write) → goes_before (get_or (leads_of fronts) least d) (get_or (leads_of fronts) at d) ≡ goes_before (lead other) (lead one) =
    λ d. ap₂ goes_before (lead-there fronts least other d held c.index-fronts-least.is) (lead-there fronts at one d inside c.index-fronts-at.is) in
    elim c.if-is_before.branch [
      | then-is_before w ↦ record {
        within = omega (arith, w.least-is);
        inside = omega (arith, inside);
        least = subst (IsLeast (leads_of fronts) (at + 1)) (sym w.least-is)
            (first-next (leads_of fronts) at least i.least i.within
            (λ d. there d ∙ not-true (goes_before (lead other) (lead one)) (sym c.is_before.ensures ∙ w.if-is_before.true)));
      }
      | else-is_before w ↦ record {
        within = omega (arith, w.least-is, i.within);
        inside = omega (arith, inside);
        least = subst (IsLeast (leads_of fronts) (at + 1)) (sym w.least-is)
            (first-stays (leads_of fronts) at least i.least i.within
            (λ d. there d ∙ not-false (goes_before (lead other) (lead one)) (sym c.is_before.ensures ∙ w.if-is_before.false)));
      }
    ]
