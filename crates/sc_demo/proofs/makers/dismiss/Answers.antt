-- The last of the makers that are left gives its crew back, and its passes are joined.
use Rattle.std.proofs.Common.{◌≡◌, ◌∙◌, ℕ, true, false, Some, [], length, refl, sym, subst, arith}
use Rattle.std.proofs.lemmas.List.{nil_from_length}
use Rattle.sc_session.specs.Stations.{SetsAt, SetsReported}
use Rattle.sc_demo.proofs.CrewLemmas.{none_done, still_out, still_home, one_more_done, inside, story, own, back, out, home_passes}
use Rattle.sc_demo.proofs.makers.dismiss.Goals as goal

pub loop-maker-init : goal.loop-maker-init
loop-maker-init g c = record {
  halfway = none_done c.args.collection.now c.args.passes.now c.args.makers.items (g.T.Station.crews_back c.args.station.now)
      (g.T.Station.out c.args.station.now) c.requires.passes c.requires.none;
  crews = refl;
  faults = refl;
  opened = refl;
}

pub join_worked-requires-clause-into : goal.join_worked-requires-clause-into
join_worked-requires-clause-into g c = c.loop-maker.invariant.halfway.are

pub join_worked-requires-clause-from : goal.join_worked-requires-clause-from
join_worked-requires-clause-from g c =
    home_passes c.args.collection.now c.in-Some.maker
    (still_home c.args.collection.now c.loop-maker.passes c.args.makers.items c.loop-maker.makers.items
    (g.T.Station.crews_back c.args.station.now) (g.T.Station.crews_back c.loop-maker.station) (g.T.Station.out c.args.station.now)
    (g.T.Station.out c.loop-maker.station) c.loop-maker.invariant.halfway c.pop.new.self.items c.in-Some.maker c.in-Some.ensures.items
    c.requires.makers)

pub overflow_cast-len : goal.overflow_cast-len
overflow_cast-len g c =
    let below = inside c.args.collection.now c.loop-maker.passes c.args.makers.items c.loop-maker.makers.items
    (g.T.Station.crews_back c.args.station.now) (g.T.Station.crews_back c.loop-maker.station) (g.T.Station.out c.args.station.now)
    (g.T.Station.out c.loop-maker.station) c.loop-maker.invariant.halfway c.pop.new.self.items c.in-Some.maker c.in-Some.ensures.items in
    omega (arith, below, c.len.ensures, c.pop.new.self.ok.0, c.requires.few)

pub loop-maker-smaller : goal.loop-maker-smaller
loop-maker-smaller g c = omega (arith, c.in-Some.ensures.len)

pub destroy_empty-requires : goal.destroy_empty-requires
destroy_empty-requires g c = omega (arith, c.in_default.ensures.cases.0)

pub back-requires : goal.back-requires
back-requires g c =
    let number : length c.pop.new.self.items ≡ c.len.result = sym (c.len.ensures ∙ c.pop.new.self.ok.0) in
    subst (λ (n : ℕ). g.T.Station.out c.loop-maker.station n ≡ true) number
    (still_out c.args.collection.now c.loop-maker.passes c.args.makers.items c.loop-maker.makers.items
    (g.T.Station.crews_back c.args.station.now) (g.T.Station.crews_back c.loop-maker.station) (g.T.Station.out c.args.station.now)
    (g.T.Station.out c.loop-maker.station) c.loop-maker.invariant.halfway c.pop.new.self.items c.in-Some.maker c.in-Some.ensures.items
    c.requires.out)

pub loop-maker-preserved : goal.loop-maker-preserved
loop-maker-preserved g c =
    let number : c.len.result ≡ length c.pop.new.self.items = c.len.ensures ∙ c.pop.new.self.ok.0 in
    record {
      halfway = one_more_done c.args.collection.now c.loop-maker.passes c.args.makers.items c.loop-maker.makers.items
          (g.T.Station.crews_back c.args.station.now) (g.T.Station.crews_back c.loop-maker.station) (g.T.Station.out c.args.station.now)
          (g.T.Station.out c.loop-maker.station) c.loop-maker.invariant.halfway c.pop.new.self.items c.in-Some.maker c.in-Some.ensures.items
          c.join_worked.new.passes (g.T.Station.crews_back c.back.new.self) (g.T.Station.out c.back.new.self) c.join_worked.ensures.passes
          c.join_worked.ensures.joined
          (subst (λ (n : ℕ). SetsReported n (Some c.in-Some.maker.crew) (g.T.Station.crews_back c.loop-maker.station)
          (g.T.Station.crews_back c.back.new.self)) number c.back.ensures.crews_back)
          (subst (λ (n : ℕ). SetsAt n false (g.T.Station.out c.loop-maker.station) (g.T.Station.out c.back.new.self)) number c.back.ensures.out);
      crews = c.back.ensures.crews ∙ c.loop-maker.invariant.crews;
      faults = c.back.ensures.faults ∙ c.loop-maker.invariant.faults;
      opened = c.back.ensures.opened ∙ c.loop-maker.invariant.opened;
    }

pub returns : goal.returns
returns g c =
    let none : c.loop-maker.makers.items ≡ [] = nil_from_length c.loop-maker.makers.items (omega (arith, c.in_default.ensures.cases.0, c.loop-maker.makers.ok.0)) in
    let locks = c.args.collection.now in
    let is = c.loop-maker.invariant.halfway in
    record {
      joined = record {
        are = is.are;
        own = own locks c.loop-maker.passes c.args.makers.items c.loop-maker.makers.items (g.T.Station.crews_back c.args.station.now)
            (g.T.Station.crews_back c.loop-maker.station) (g.T.Station.out c.args.station.now) (g.T.Station.out c.loop-maker.station) is none;
        story = story locks c.loop-maker.passes c.args.makers.items c.loop-maker.makers.items (g.T.Station.crews_back c.args.station.now)
            (g.T.Station.crews_back c.loop-maker.station) (g.T.Station.out c.args.station.now) (g.T.Station.out c.loop-maker.station) is none;
      };
      back = record {
        crews_back = back locks c.loop-maker.passes c.args.makers.items c.loop-maker.makers.items (g.T.Station.crews_back c.args.station.now)
            (g.T.Station.crews_back c.loop-maker.station) (g.T.Station.out c.args.station.now) (g.T.Station.out c.loop-maker.station) is none;
        out = out locks c.loop-maker.passes c.args.makers.items c.loop-maker.makers.items (g.T.Station.crews_back c.args.station.now)
            (g.T.Station.crews_back c.loop-maker.station) (g.T.Station.out c.args.station.now) (g.T.Station.out c.loop-maker.station) is none;
        crews = c.loop-maker.invariant.crews;
        faults = c.loop-maker.invariant.faults;
        opened = c.loop-maker.invariant.opened;
      };
    }
