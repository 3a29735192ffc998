-- `entries_of_both`: each bucket is given back as it was handed out.
use Rattle.std.proofs.Common.{false, refl, sym, ap, subst}
use Rattle.sc_seen.specs.Seen.{Layout}
use Rattle.sc_collection.specs.Desks.{Held, Out, MayReplace}
use Rattle.sc_collection.proofs.ReplaceLemmas.{same_may_replace}
use Rattle.sc_tests.proofs.collections.entries_of_both.Goals as goal

pub give-requires : goal.give-requires
give-requires g c =
    let held : Held = record { number = 0; bucket = c.hold-first.result; by_keeper = false } in
    record {
      is_out = (
        held,
        ap (λ (o : Out). o.bucket) c.hold-first.ensures.handed.out,
        refl,
        subst (λ (layout : Layout). MayReplace layout held c.hold-first.result) (sym c.hold-first.ensures.handed.layout)
            (same_may_replace (g.D.Desk.layout c.args.one.now) held c.hold-first.result c.hold-first.ensures.handed.is_of c.hold-first.ensures.handed.sound refl refl),
      );
    }

pub give-requires-2 : goal.give-requires-2
give-requires-2 g c =
    let held : Held = record { number = 1; bucket = c.hold-second.result; by_keeper = false } in
    record {
      is_out = (
        held,
        ap (λ (o : Out). o.bucket) c.hold-second.ensures.handed.out,
        refl,
        subst (λ (layout : Layout). MayReplace layout held c.hold-second.result) (sym c.hold-second.ensures.handed.layout)
            (same_may_replace (g.D.Desk.layout c.args.other.now) held c.hold-second.result c.hold-second.ensures.handed.is_of c.hold-second.ensures.handed.sound refl refl),
      );
    }
