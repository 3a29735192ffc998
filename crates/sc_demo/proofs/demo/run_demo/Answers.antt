-- Nothing was given, or the crews of the makers are back.
use Rattle.std.proofs.Common.{◌≡◌, ◌∙◌, ◌+◌, ◌≤◌, length, refl, sym, ap, subst, arith}
use Rattle.std.specs.List.{All}
use Rattle.std.proofs.lemmas.List.Elements.{All-weaker}
use Rattle.sc_shared.specs.Passes.{seen_of}
use Rattle.sc_shared.specs.Collections.{layout_of}
use Rattle.sc_server.proofs.EndLemmas.{same_items, same_length, as_served, told_of}
use Rattle.sc_demo.specs.declared.task.Outcome.{Outcome}
use Rattle.sc_demo.specs.Makers.{IsMakerHome, IsMakerReady, IsReadyToMake, MakesAll}
use Rattle.sc_demo.specs.Telling.{TellsOutcome, after_makers}
use Rattle.sc_demo.proofs.NumberLemmas.{numbers}
use Rattle.sc_demo.proofs.MakerLemmas.{all_home, ready_to_make}
use Rattle.sc_demo.proofs.CrewLemmas.{all_ready}
use Rattle.sc_demo.proofs.DemoLemmas.{leaves, none_given, early_ends, ends, made_as}
use Rattle.sc_demo.proofs.demo.run_demo.Goals.{in-Ok-enlist, in-Err-enlist}
use Rattle.sc_demo.proofs.demo.run_demo.Goals as goal

pub returns-in-Err : goal.returns-in-Err
returns-in-Err g c = record { ends = none_given _ c.args.demo.now _ _ refl refl (λ number. refl) refl (record { written = refl; write_faults = refl }) }

pub returns-in_default : goal.returns-in_default
returns-in_default g c = record { ends = none_given _ c.args.demo.now _ _ refl refl (λ number. refl) refl (record { written = refl; write_faults = refl }) }

pub enlist-requires-clause-few : goal.enlist-requires-clause-few
enlist-requires-clause-few g c κs within = omega (arith, c.in-Ok.ensures.count, (numbers c.args.demo.now c.requires.demo).workers.1)

pub make_all-outcome-requires-clause-ready : goal.make_all-outcome-requires-clause-ready
make_all-outcome-requires-clause-ready g c κs within =
    let locks = c.in-Ok.needs.collection in
    let makers = c.enlist.new.makers.items in
    subst (All IsReadyToMake) (sym c.as_mut_slice.ensures.value)
    (All-weaker (IsMakerReady locks) IsReadyToMake (ready_to_make locks) makers
    (all_ready c.args.demo.now locks (g.T.Station.crews c.args.station.now) makers c.requires.demo c.enlist.ensures.have.enlisted))

pub make_all-outcome-requires-clause-some : goal.make_all-outcome-requires-clause-some
make_all-outcome-requires-clause-some g c κs within =
    let all : length c.as_mut_slice.result.now ≡ length c.enlist.new.makers.items = ap length c.as_mut_slice.ensures.value in
    omega (arith, all, c.in-Ok-enlist.ensures.all, c.in-Ok.ensures.count)

pub make_all-outcome-requires-clause-most : goal.make_all-outcome-requires-clause-most
make_all-outcome-requires-clause-most g c κs within =
    let all : length c.as_mut_slice.result.now ≡ length c.enlist.new.makers.items = ap length c.as_mut_slice.ensures.value in
    omega (arith, all, c.in-Ok-enlist.ensures.all, c.in-Ok.ensures.count, (numbers c.args.demo.now c.requires.demo).workers.1)

pub dismiss-requires-clause-few : goal.dismiss-requires-clause-few
dismiss-requires-clause-few g c κs within =
    let most = (numbers c.args.demo.now c.requires.demo).workers.1 in
    elim c.match-enlist.branch [
      | in-Ok-enlist w ↦
          let made = as_served c.enlist.new.makers c.match-enlist.makers w.make_all-outcome.new.makers w.as_mut_slice.result.now w.makers-is
          w.make_all-outcome.ensures.count w.as_mut_slice.ensures.value c.enlist.new.makers.ok.0 in
          let long : length c.match-enlist.makers.items ≡ length w.make_all-outcome.new.makers = ap length made in
          let all : length w.as_mut_slice.result.now ≡ length c.enlist.new.makers.items = ap length w.as_mut_slice.ensures.value in
          omega (arith, long, all, w.make_all-outcome.ensures.count, c.enlist.ensures.at_most, c.in-Ok.ensures.count, most)
      | in-Err-enlist w ↦
          let long : length c.match-enlist.makers.items ≡ length c.enlist.new.makers.items = same_length c.match-enlist.makers c.enlist.new.makers w.makers-is in
          omega (arith, long, c.enlist.ensures.at_most, c.in-Ok.ensures.count, most)
    ]

pub dismiss-requires-clause-makers : goal.dismiss-requires-clause-makers
dismiss-requires-clause-makers g c κs within =
    let locks = c.in-Ok.needs.collection in
    let each = all_ready c.args.demo.now locks (g.T.Station.crews c.args.station.now) c.enlist.new.makers.items c.requires.demo c.enlist.ensures.have.enlisted in
    elim c.match-enlist.branch [
      | in-Ok-enlist w ↦
          subst (All (IsMakerHome locks))
          (sym (as_served c.enlist.new.makers c.match-enlist.makers w.make_all-outcome.new.makers w.as_mut_slice.result.now w.makers-is
          w.make_all-outcome.ensures.count w.as_mut_slice.ensures.value c.enlist.new.makers.ok.0))
          (w.make_all-outcome.ensures.home locks (subst (All (IsMakerReady locks)) (sym w.as_mut_slice.ensures.value) each))
      | in-Err-enlist w ↦
          subst (All (IsMakerHome locks)) (sym (same_items c.match-enlist.makers c.enlist.new.makers w.makers-is)) (all_home locks c.enlist.new.makers.items each)
    ]

pub dismiss-requires-clause-out : goal.dismiss-requires-clause-out
dismiss-requires-clause-out g c κs within =
    elim c.match-enlist.branch [
      | in-Ok-enlist w ↦ λ number below.
          let made = as_served c.enlist.new.makers c.match-enlist.makers w.make_all-outcome.new.makers w.as_mut_slice.result.now w.makers-is
          w.make_all-outcome.ensures.count w.as_mut_slice.ensures.value c.enlist.new.makers.ok.0 in
          let long : length c.match-enlist.makers.items ≡ length w.make_all-outcome.new.makers = ap length made in
          let all : length w.as_mut_slice.result.now ≡ length c.enlist.new.makers.items = ap length w.as_mut_slice.ensures.value in
          c.enlist.ensures.have.out.below number (omega (arith, below, long, all, w.make_all-outcome.ensures.count))
      | in-Err-enlist w ↦ λ number below.
          let long : length c.match-enlist.makers.items ≡ length c.enlist.new.makers.items = same_length c.match-enlist.makers c.enlist.new.makers w.makers-is in
          c.enlist.ensures.have.out.below number (omega (arith, below, long))
    ]

pub dismiss-requires-clause-none : goal.dismiss-requires-clause-none
dismiss-requires-clause-none g c κs within = c.in-Ok.ensures.passes.seen.own

pub returns : goal.returns
returns g c =
    let locks = c.in-Ok.needs.collection in
    let enlisted = c.enlist.new.makers.items in
    let new = c.match-enlist.makers.items in
    let old_told = told_of (g.W.Sink.written c.args.sink.now) (g.W.Sink.faults c.args.sink.now) in
    let new_told = told_of (g.W.Sink.written c.tell.new.sink) (g.W.Sink.faults c.tell.new.sink) in
    record {
      ends = elim c.match-enlist.branch [
        | in-Ok-enlist w ↦
            let made = as_served c.enlist.new.makers c.match-enlist.makers w.make_all-outcome.new.makers w.as_mut_slice.result.now w.makers-is
            w.make_all-outcome.ensures.count w.as_mut_slice.ensures.value c.enlist.new.makers.ok.0 in
            let count = ap length made ∙ w.make_all-outcome.ensures.count ∙ ap length w.as_mut_slice.ensures.value in
            ends _ c.args.demo.now _ _ locks enlisted new
            (leaves c.args.demo.now locks _ _ enlisted new _ _ (g.T.Station.out c.enlist.new.station) (g.T.Station.faults c.enlist.new.station) c.enlist.ensures.have.enlisted c.enlist.ensures.have.crews
            c.enlist.ensures.have.out c.enlist.ensures.have.crews_back c.enlist.ensures.have.faults count c.dismiss.ensures.back.crews_back c.dismiss.ensures.back.out
            c.dismiss.ensures.back.crews c.dismiss.ensures.back.faults)
            (w.in-Ok-enlist.ensures.all ∙ c.in-Ok.ensures.count) w.as_slice.result.now (w.as_slice.ensures ∙ c.in-Ok.ensures.cores) c.in-Ok.ensures.shape
            c.in-Ok.ensures.passes.opened
            (seen_of c.dismiss.new.passes) c.dismiss.ensures.joined.story c.dismiss.ensures.joined.own c.requires.demo w.make_all-outcome.result _
            (made_as _ w.as_slice.result.now w.as_mut_slice.result.now enlisted w.make_all-outcome.new.makers new w.make_all-outcome.result
            w.as_mut_slice.ensures.value made w.make_all-outcome.ensures.makes)
            (subst (λ (outcome : Outcome). TellsOutcome (after_makers (layout_of locks) (seen_of c.dismiss.new.passes)) c.args.demo.now.count old_told new_told outcome c.tell.result) w.outcome-is
            c.tell.ensures)
        | in-Err-enlist w ↦
            early_ends _ c.args.demo.now _ _ locks enlisted new
            (leaves c.args.demo.now locks _ _ enlisted new _ _ (g.T.Station.out c.enlist.new.station) (g.T.Station.faults c.enlist.new.station) c.enlist.ensures.have.enlisted c.enlist.ensures.have.crews
            c.enlist.ensures.have.out c.enlist.ensures.have.crews_back c.enlist.ensures.have.faults (same_length c.match-enlist.makers c.enlist.new.makers w.makers-is)
            c.dismiss.ensures.back.crews_back c.dismiss.ensures.back.out c.dismiss.ensures.back.crews c.dismiss.ensures.back.faults)
            (seen_of c.dismiss.new.passes) _ (omega (arith, c.enlist.ensures.at_most, c.in-Ok.ensures.count))
            (subst (λ (outcome : Outcome). TellsOutcome (after_makers (layout_of locks) (seen_of c.dismiss.new.passes)) c.args.demo.now.count old_told new_told outcome c.tell.result) w.outcome-is
            c.tell.ensures)
      ];
    }
