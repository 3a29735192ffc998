-- The front of the least row goes on with its other rows, or is left out.
use Rattle.std.proofs.Common.{◌≡◌, ◌+◌, ◌<◌, ◌++◌, ◌∷◌, length, All, List, map, take, drop, set, sym, ap, subst, ◌∙◌}
use Rattle.std.proofs.lemmas.List.Elements.{All-append, All-drop, All-set, All-take}
use Rattle.sc_finding.specs.Hits.{FrontAscends, IsLeast, front_rows, leads_of, rows_numbered, rows_left}
use Rattle.sc_finding.specs.Merging.{AscendsBy, gathered, goes_before}
use Rattle.sc_replicas.specs.Searchers.{searcher_rows}
use Rattle.sc_finding.specs.declared.hits.Front.{Front}
use Rattle.sc_finding.proofs.StartLemmas.{lead, rest-ascends, taken-last, taken-next}
use Rattle.sc_finding.proofs.merging.take_first.Goals.{in-Some, in-None}
use Rattle.sc_finding.proofs.merging.take_first.Goals as goal

pub returns-clause-first : goal.returns-clause-first
returns-clause-first g c =
    let fronts = c.args.fronts.now.items in
    let at = c.least-at.result in
    let front : Front = c.index-front.result.now in
    let within : at < length fronts = subst (λ (fs : List Front). at < length fs) c.as_slice.ensures.value c.least-at.ensures.within in
    let least : IsLeast (leads_of fronts) (length fronts) at =
    subst (λ (fs : List Front). IsLeast (leads_of fs) (length fs) at) c.as_slice.ensures.value c.least-at.ensures.least in
    elim c.match-front_at.branch [
      | in-Some w ↦
          let is : c.match-front_at.fronts.items ≡ set fronts at w.in-Some.next = ap (λ v. v.items) w.fronts-is in
          taken-next fronts at front within c.index-front.ensures c.requires.ascend least w.in-Some.next (ap rows_left (sym w.in-Some.is) ∙ c.front_at.ensures)
          ∙ sym (ap (λ (fs : List Front). lead front ∷ gathered goes_before (map front_rows fs)) is)
      | in-None w ↦
          let is : c.match-front_at.fronts.items ≡ take at fronts ++ drop (at + 1) fronts = ap (λ v. v.items) w.fronts-is ∙ w.remove-ended.ensures.by_index.2 in
          taken-last fronts at front within c.index-front.ensures c.requires.ascend least (ap rows_left (sym w.in-None.is) ∙ c.front_at.ensures)
          ∙ sym (ap (λ (fs : List Front). lead front ∷ gathered goes_before (map front_rows fs)) is)
    ]

pub returns-clause-ascend : goal.returns-clause-ascend
returns-clause-ascend g c =
    let fronts = c.args.fronts.now.items in
    let at = c.least-at.result in
    let front : Front = c.index-front.result.now in
    let within : at < length fronts = subst (λ (fs : List Front). at < length fs) c.as_slice.ensures.value c.least-at.ensures.within in
    let least : IsLeast (leads_of fronts) (length fronts) at =
    subst (λ (fs : List Front). IsLeast (leads_of fs) (length fs) at) c.as_slice.ensures.value c.least-at.ensures.least in
    elim c.match-front_at.branch [
      | in-Some w ↦
          let is : c.match-front_at.fronts.items ≡ set fronts at w.in-Some.next = ap (λ v. v.items) w.fronts-is in
          let rows : front_rows w.in-Some.next ≡ rows_numbered (searcher_rows front.searcher.now) front.rest.now = ap rows_left (sym w.in-Some.is) ∙ c.front_at.ensures in
          subst (All FrontAscends) (sym is)
          (All-set FrontAscends fronts at w.in-Some.next
          (subst (AscendsBy goes_before) (sym rows) (rest-ascends fronts at front within c.index-front.ensures c.requires.ascend least)) c.requires.ascend)
      | in-None w ↦
          let is : c.match-front_at.fronts.items ≡ take at fronts ++ drop (at + 1) fronts = ap (λ v. v.items) w.fronts-is ∙ w.remove-ended.ensures.by_index.2 in
          subst (All FrontAscends) (sym is)
          (All-append FrontAscends (take at fronts) (drop (at + 1) fronts) (All-take FrontAscends at fronts c.requires.ascend) (All-drop FrontAscends (at + 1) fronts c.requires.ascend))
    ]
