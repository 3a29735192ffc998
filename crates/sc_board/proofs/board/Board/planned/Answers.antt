-- The ranges tile the slice's range, they are few, and the ids of the subs are below 2^32.
use Rattle.std.proofs.Common.{◌∙◌, ◌+◌, ◌≤◌, length, refl, sym, ap, subst, arith}
use Rattle.std.proofs.lemmas.List.{length-map}
use Rattle.sc_hash.specs.Bounds.{bounds}
use Rattle.sc_cluster.specs.Limits.{most_slices}
use Rattle.sc_board.specs.Splits.{parts_of, AreOf}
use Rattle.sc_board.proofs.NamedLemmas.{named_there, parts_count}
use Rattle.sc_board.proofs.SoundLemmas.{ids_short}
use Rattle.sc_board.proofs.board.Board.planned.Goals as goal

pub plan-requires-clause-parent : goal.plan-requires-clause-parent
plan-requires-clause-parent g c =
    let may = c.requires.slice.1 in (
      c.args.slice.now,
      record {
        there = named_there c.args.self.now.map c.requires.slice.0 c.args.slice.now may.named;
        named = refl;
        active = may.active;
        tile = c.in-Ok.ensures.tiles;
      },
    )

pub plan-requires-clause-few : goal.plan-requires-clause-few
plan-requires-clause-few g c =
    let range = c.args.slice.now.range in
    let count = sym (length-map c.in-Ok.ranges bounds) ∙ ap length c.in-Ok.ensures.value
    ∙ parts_count range.min range.max c.in-Parts.n c.in-Parts.n in
    let few = subst (λ how. length c.args.self.now.map + parts_of how ≤ most_slices) c.in-Parts.is c.requires.few in
    omega (arith, count, few)

pub plan-requires-clause-ids : goal.plan-requires-clause-ids
plan-requires-clause-ids g c =
    let few = plan-requires-clause-few g c in
    ids_short c.args.self.now (length c.in-Ok.ranges) c.requires.sound c.requires.room (omega (arith, few))

pub plan-requires-in-Ranges-clause-parent : goal.plan-requires-in-Ranges-clause-parent
plan-requires-in-Ranges-clause-parent g c =
    let may = c.requires.slice.1 in (
      c.args.slice.now,
      record {
        there = named_there c.args.self.now.map c.requires.slice.0 c.args.slice.now may.named;
        named = refl;
        active = may.active;
        tile = subst (λ how. AreOf how c.args.slice.now) c.in-Ranges.is c.requires.fits.tile;
      },
    )

pub plan-requires-in-Ranges-clause-ids : goal.plan-requires-in-Ranges-clause-ids
plan-requires-in-Ranges-clause-ids g c =
    let few = subst (λ how. length c.args.self.now.map + parts_of how ≤ most_slices) c.in-Ranges.is c.requires.few in
    ids_short c.args.self.now (length c.in-Ranges.list) c.requires.sound c.requires.room (omega (arith, few))
