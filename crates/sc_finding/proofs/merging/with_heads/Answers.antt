-- One front more.
use Rattle.std.proofs.Common.{◌≡◌, ◌++◌, ◌∷◌, [], List, All, get_or, map, take, sym, ap, subst, ◌∙◌, arith}
use Rattle.std.proofs.lemmas.List.{map-append, map_more, take_all}
use Rattle.std.proofs.lemmas.List.Elements.{All-push}
use Rattle.sc_record.specs.Writes.{Write}
use Rattle.sc_finding.specs.Hits.{FrontAscends, front_rows, lead_rows}
use Rattle.sc_finding.specs.Merging.{AscendsBy, goes_before}
use Rattle.sc_finding.specs.declared.hits.Front.{Front}
use Rattle.sc_finding.specs.declared.hits.Lead.{Lead}
use Rattle.sc_finding.proofs.merging.with_heads.Goals as goal

pub loop-lead-preserved : goal.loop-lead-preserved
loop-lead-preserved c =
    let leads = c.args.leads.now in
    let k = c.loop-lead.lead-index in
    let d : Lead = c.lead-item.result in
    let fronts = c.loop-lead.fronts.items in
    let i = c.loop-lead.invariant in
    let front : Front = c.front_of.result in
    let rows : front_rows front ≡ lead_rows (get_or leads k d) = c.front_of.ensures ∙ ap lead_rows c.lead-item.is in
    let is = c.in_ok-push.ensures.items in
    record {
      same = ap (map front_rows) is
          ∙ map-append front_rows fronts (front ∷ [])
          ∙ ap (λ (l : List (List Write)). l ++ front_rows front ∷ []) i.same
          ∙ ap (λ (l : List Write). map lead_rows (take k leads) ++ l ∷ []) rows
          ∙ sym (map_more lead_rows leads k d c.loop-lead-test.true);
      ascend = subst (All FrontAscends) (sym is) (All-push FrontAscends fronts front i.ascend
          (subst (AscendsBy goes_before) (sym rows) (c.requires k d c.loop-lead-test.true)));
    }

pub returns-clause-rows : goal.returns-clause-rows
returns-clause-rows c =
    c.loop-lead.invariant.same ∙ ap (map lead_rows) (take_all c.loop-lead.lead-index c.args.leads.now (omega (arith, c.loop-lead-test.false)))
