-- A row in the middle is below the id, has it or is above it.
use Rattle.std.proofs.Common.{◌≡◌, ◌+◌, ◌-◌, ◌/◌, Some, slice_get, sym, ap, ◌∙◌, arith}
use Rattle.sc_record.specs.Writes.{Write}
use Rattle.sc_snapshot.proofs.PlaceLemmas.{order, below-more, above-more, place-found}
use Rattle.sc_snapshot.proofs.edits.search.Goals as goal

pub halving-preserved-in-Less : goal.halving-preserved-in-Less
halving-preserved-in-Less c =
    let i = c.halving.invariant in
    let middle = c.halving.low + (c.halving.high - c.halving.low) / 2 in
    let row = c.deref.result.now in
    let is : slice_get c.args.rows.now middle ≡ Some row = c.cell.ensures ∙ ap (λ (w : Write). Some w) (sym c.deref.ensures) in
    let test = c.halving-test.true in
    record {
      from = omega (arith, i.from);
      order = omega (arith, test);
      high = i.high;
      below = below-more c.args.rows.now c.requires.rows middle row is c.args.id.now (ap (λ x. order x c.args.id.now) (sym c.id.ensures) ∙ sym c.in-Less.ensures);
      above = i.above;
    }

pub returns-in-Equal-clause-place : goal.returns-in-Equal-clause-place
returns-in-Equal-clause-place c =
    let middle = c.halving.low + (c.halving.high - c.halving.low) / 2 in
    let row = c.deref.result.now in
    let is : slice_get c.args.rows.now middle ≡ Some row = c.cell.ensures ∙ ap (λ (w : Write). Some w) (sym c.deref.ensures) in
    place-found c.args.rows.now c.requires.rows middle row is c.args.id.now (ap (λ x. order x c.args.id.now) (sym c.id.ensures) ∙ sym c.in-Equal.ensures)

pub halving-preserved : goal.halving-preserved
halving-preserved c =
    let i = c.halving.invariant in
    let middle = c.halving.low + (c.halving.high - c.halving.low) / 2 in
    let row = c.deref.result.now in
    let is : slice_get c.args.rows.now middle ≡ Some row = c.cell.ensures ∙ ap (λ (w : Write). Some w) (sym c.deref.ensures) in
    let test = c.halving-test.true in
    record {
      from = i.from;
      order = omega arith;
      high = omega (arith, i.high, test);
      below = i.below;
      above = above-more c.args.rows.now c.requires.rows middle row is c.args.id.now (ap (λ x. order x c.args.id.now) (sym c.id.ensures) ∙ sym c.in-Greater.ensures);
    }
