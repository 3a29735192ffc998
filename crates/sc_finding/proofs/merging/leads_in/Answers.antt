-- One lead more, or none where the hits have no rows.
use Rattle.std.proofs.Common.{◌≡◌, ◌++◌, ◌∷◌, [], List, All, append-nil, get_or, map, take, sym, ap, subst, ◌∙◌, arith}
use Rattle.std.proofs.lemmas.List.{take_all}
use Rattle.std.proofs.lemmas.List.Elements.{All-push}
use Rattle.sc_finding.specs.Hits.{LeadAscends, lead_rows, hit_rows, rows_numbered, lead_left}
use Rattle.sc_finding.specs.Merging.{AscendsBy, gathered, goes_before}
use Rattle.sc_finding.specs.declared.hits.Hits.{Hits}
use Rattle.sc_finding.specs.declared.hits.Lead.{Lead}
use Rattle.sc_finding.proofs.StartLemmas.{leads-more, leads-same}
use Rattle.sc_finding.proofs.merging.leads_in.Goals.{in-Some+in_ok-push, in_default}
use Rattle.sc_finding.proofs.merging.leads_in.Goals as goal

pub loop-hits-preserved : goal.loop-hits-preserved
loop-hits-preserved g c =
    let all = c.args.all.now in
    let k = c.loop-hits.hits-index in
    let d : Hits = c.hits-item.result in
    let leads = c.loop-hits.leads.items in
    let i = c.loop-hits.invariant in
    let read : lead_left c.lead_at-lead.result ≡ hit_rows (get_or all k d) =
    c.lead_at-lead.ensures ∙ ap (rows_numbered _) c.as_slice.ensures ∙ ap hit_rows c.hits-item.is in
    elim c.match-lead.branch [
      | in-Some+in_ok-push w ↦
          let lead : Lead = w.in-Some.lead in
          let rows : lead_rows lead ≡ hit_rows (get_or all k d) = ap lead_left (sym w.in-Some.is) ∙ read in
          let is : c.match-lead.leads.items ≡ leads ++ lead ∷ [] = ap (λ v. v.items) w.leads-is ∙ w.in_ok-push.ensures.items in
          record {
            same = leads-more leads c.match-lead.leads.items all k d c.loop-hits-test.true i.same lead is rows;
            ascend = subst (All LeadAscends) (sym is) (All-push LeadAscends leads lead i.ascend
                (subst (AscendsBy goes_before) (sym rows) (c.requires k d c.loop-hits-test.true)));
          }
      | in_default w ↦
          let is : c.match-lead.leads.items ≡ leads = ap (λ v. v.items) w.leads-is in
          record {
            same = leads-same leads c.match-lead.leads.items all k d c.loop-hits-test.true i.same is (ap lead_left (sym w.in_default.is) ∙ read);
            ascend = subst (All LeadAscends) (sym is) i.ascend;
          }
    ]

pub returns-clause-rows : goal.returns-clause-rows
returns-clause-rows g c =
    let all = c.args.all.now in
    sym (ap (gathered goes_before) (append-nil (map lead_rows c.loop-hits.leads.items)))
    ∙ c.loop-hits.invariant.same []
    ∙ ap (gathered goes_before) (append-nil (map hit_rows (take c.loop-hits.hits-index all)))
    ∙ ap (λ (hs : List Hits). gathered goes_before (map hit_rows hs)) (take_all c.loop-hits.hits-index all (omega (arith, c.loop-hits-test.false)))
