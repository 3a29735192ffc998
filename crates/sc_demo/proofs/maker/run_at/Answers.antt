-- The maker has its passes back, and has made what it was to make.
use Rattle.std.proofs.Common.{◌≡◌, refl, sym, ap, ◌∙◌, subst, arith}
use Rattle.std.proofs.lemmas.Option.{same_Some}
use Rattle.sc_cores.specs.Cores.{outside_of}
use Rattle.sc_shared.specs.Passes.{seen_of}
use Rattle.sc_shared.specs.Collections.{Locks, layout_of}
use Rattle.sc_shared.specs.Sharing.{ArePasses}
use Rattle.sc_demo.proofs.MadeLemmas.{made_at, made_few}
use Rattle.sc_demo.proofs.maker.run_at.Goals as goal

pub returns-clause-home : goal.returns-clause-home
returns-clause-home g c = record {
  passes = c.into_passes.result;
  there = refl;
  are = subst (λ (locks : Locks). ArePasses locks c.into_passes.result)
      (same_Some c.make-made.new.desk.locks c.args.maker.now.collection.now (sym c.into_passes.ensures.home ∙ c.requires.home)) c.into_passes.ensures.passes;
  of_collection = refl;
}

pub returns-clause-made : goal.returns-clause-made
returns-clause-made g c =
    let same : c.unwrap-passes.result ≡ c.requires.ready.home.passes =
    same_Some c.unwrap-passes.result c.requires.ready.home.passes (sym c.unwrap-passes.ensures ∙ c.take.ensures.value ∙ c.requires.ready.home.there) in
    let made = made_at
    (record {
      gives = g.C.Clock.gives;
      outside = λ hosts pace. outside_of (g.H.Hosts.started hosts) (g.H.Hosts.start_faults hosts) (g.H.Hosts.stop_faults hosts) (g.P.Pace.stops pace) (g.H.Hosts.reached hosts);
    })
    (layout_of c.new-desk.result.locks) (layout_of c.args.maker.now.collection.now) (seen_of c.new-desk.result.passes) (seen_of c.requires.ready.home.passes)
    (seen_of c.make-made.new.desk.passes) (seen_of c.into_passes.result) c.args.maker.now.demo c.args.maker.now.task c.args.maker.now.crew
    (record { clock = c.make-made.new.clock; hosts = c.make-made.new.hosts; pace = c.make-made.new.pace; listener = c.args.maker.now.crew.listener }) c.make-made.result
    (ap layout_of c.new-desk.ensures.locks) (ap seen_of (c.new-desk.ensures.passes ∙ same)) (ap seen_of (sym c.into_passes.ensures.are))
    c.make-made.ensures.made in
    record {
      before = c.requires.ready.home.passes;
      after = c.into_passes.result;
      did = c.make-made.result;
      before_is = c.requires.ready.home.there;
      after_is = refl;
      did_is = refl;
      made = made;
      few = made_few _ _ c.args.maker.now.demo c.args.maker.now.task _ _ c.make-made.result c.requires.ready.demo made;
      listener = refl;
    }
