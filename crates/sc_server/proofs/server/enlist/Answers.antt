-- One worker more has its crew.
use Rattle.std.proofs.Common.{◌≡◌, ◌∙◌, ℕ, ◌++◌, ◌∷◌, true, None, Some, IfSome, List, [], length, refl, sym, subst, ap, append_assoc}
use Rattle.sc_server.specs.declared.needs.Kit.{Kit}
use Rattle.sc_session.specs.Stations.{SetsAt, SetsReported}
use Rattle.sc_server.specs.Needs.{IsKit}
use Rattle.sc_server.specs.Crews.{SetsReportedBelow}
use Rattle.sc_server.proofs.CrewLemmas.{as_at_first}
use Rattle.sc_server.proofs.MatchLemmas.{element_of}
use Rattle.sc_server.proofs.EnlistLemmas.{none_enlisted, none_given, none_out, few_yet, same_count, still_few, one_more_given, one_more_out, one_more_enlisted}
use Rattle.sc_server.proofs.server.enlist.Goals as goal

pub loop-kit-init : goal.loop-kit-init
loop-kit-init g c = record {
  left = c.into_iter-kit-iterator.ensures.into_iter_gives.0;
  count = ap length c.requires.none;
  at_most = few_yet c.args.workers.now.items c.args.kits.items c.requires.none;
  room = refl;
  enlisted = none_enlisted c.args.server.now c.args.collection.now (g.T.Station.crews c.args.station.now) c.args.workers.now.items c.requires.none;
  crews = none_given None (g.T.Station.crews c.args.station.now) c.args.workers.now.items c.requires.none;
  out = none_out true (g.T.Station.out c.args.station.now) c.args.workers.now.items c.requires.none;
  crews_back = refl;
  faults = refl;
  opened = refl;
}

pub loop-kit-preserved : goal.loop-kit-preserved
loop-kit-preserved g c =
    let i = c.loop-kit.invariant in
    let kit = c.in-Some.kit in
    let yielded = c.loop-kit.yielded in
    let rest = c.next.new.self.rest.items in
    let workers = c.loop-kit.workers.items in
    let new = c.push_reserved.new.self.items in
    let ends = c.push_reserved.ensures.items in
    let old = g.T.Station.crews c.args.station.now in
    let now = g.T.Station.crews c.loop-kit.station in
    let number : c.len.result ≡ length workers = c.len.ensures ∙ c.loop-kit.workers.ok.0 in
    let left = append_assoc yielded (kit ∷ []) rest ∙ ap (λ (end : List Kit). yielded ++ end) (sym (c.in-Some.ensures.steps).0) ∙ i.left in
    let is = element_of (IsKit c.args.collection.now) c.args.kits.items yielded kit rest c.requires.kits
    (sym i.left ∙ ap (λ (end : List Kit). yielded ++ end) (c.in-Some.ensures.steps).0) in
    let given = subst (λ (n : ℕ). IfSome now (λ all. all n ≡ Some c.in_ok-clock.field-0)) number c.in_ok-clock.ensures.given in
    record {
      left = left;
      count = same_count workers new _ yielded kit ends i.count;
      at_most = still_few workers new _ yielded kit rest c.args.kits.items ends i.count left;
      room = c.push_reserved.ensures.capacity ∙ i.room;
      enlisted = one_more_enlisted c.args.server.now c.args.collection.now old workers new _ ends i.enlisted (record {
        given = c.in_ok-clock.field-0;
        given_is = as_at_first (length workers) None (Some c.in_ok-clock.field-0) old now i.crews given;
        crew = refl;
        passes = kit.passes;
        there = refl;
        new = is.passes;
        over = refl;
        most = refl;
      });
      crews = one_more_given None old now (g.T.Station.crews c.crew.new.self) workers new _ ends i.crews
          (subst (λ (n : ℕ). SetsReported n None now (g.T.Station.crews c.crew.new.self)) number c.in_ok-clock.ensures.crews);
      out = one_more_out true (g.T.Station.out c.args.station.now) (g.T.Station.out c.loop-kit.station) (g.T.Station.out c.crew.new.self) workers new _ ends i.out
          (subst (λ (n : ℕ). SetsAt n true (g.T.Station.out c.loop-kit.station) (g.T.Station.out c.crew.new.self)) number c.in_ok-clock.ensures.out);
      crews_back = c.crew.ensures.crews_back ∙ i.crews_back;
      faults = c.crew.ensures.faults ∙ i.faults;
      opened = c.crew.ensures.opened ∙ i.opened;
    }

pub returns-in_err-clock-clause-have : goal.returns-in_err-clock-clause-have
returns-in_err-clock-clause-have g c =
    let i = c.loop-kit.invariant in
    record {
      enlisted = i.enlisted;
      crews = subst (SetsReportedBelow (length c.loop-kit.workers.items) None (g.T.Station.crews c.args.station.now)) (sym c.in_err-clock.ensures.refused) i.crews;
      out = record {
        below = λ number below. c.in_err-clock.ensures.refused_out number ∙ i.out.below number below;
        rest = λ number beyond. c.in_err-clock.ensures.refused_out number ∙ i.out.rest number beyond;
      };
      crews_back = c.crew.ensures.crews_back ∙ i.crews_back;
      faults = c.crew.ensures.faults ∙ i.faults;
      opened = c.crew.ensures.opened ∙ i.opened;
    }

pub returns-clause-have : goal.returns-clause-have
returns-clause-have g c =
    let i = c.loop-kit.invariant in
    record { enlisted = i.enlisted; crews = i.crews; out = i.out; crews_back = i.crews_back; faults = i.faults; opened = i.opened }
