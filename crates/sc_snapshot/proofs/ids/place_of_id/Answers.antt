-- A comparison leaves half of the live rows.
use Rattle.std.proofs.Common.{◌≡◌, ◌+◌, ◌-◌, ◌^◌, ◌/◌, ◌<◌, Some, length, get_or, slice_get, sym, ap, ◌∙◌, arith}
use Rattle.std.proofs.lemmas.Option.{slice_get-get_or}
use Rattle.std.specs.declared.cmp.Ordering.TheVariants.{Less, Equal, Greater}
use Rattle.sc_record.specs.Writes.{Write}
use Rattle.sc_keys.proofs.SearchLemmas.{pow-step, halved_more, bound_more}
use Rattle.sc_snapshot.proofs.IdSearchLemmas.{live-within, lower-more, higher-more, place-found, place-none}
use Rattle.sc_snapshot.proofs.PlaceLemmas.{order}
use Rattle.sc_snapshot.proofs.ids.place_of_id.Goals as goal

pub cell-row-requires : goal.cell-row-requires
cell-row-requires g c =
    let i = c.halving.invariant in
    let live = c.args.live.now in
    let middle = c.halving.low + (c.halving.high - c.halving.low) / 2 in
    let test = c.halving-test.true in
    let within : middle < length live = omega (arith, i.within, test) in
    live-within c.args.rows.now live c.requires.live middle (get_or live middle 0) (slice_get-get_or live middle 0 within)

pub halving-preserved-in-Less : goal.halving-preserved-in-Less
halving-preserved-in-Less g c =
    let i = c.halving.invariant in
    let live = c.args.live.now in
    let rows = c.args.rows.now in
    let id = c.args.id.now in
    let middle = c.halving.low + (c.halving.high - c.halving.low) / 2 in
    let here = get_or live middle 0 in
    let row = c.deref.result.now in
    let test = c.halving-test.true in
    let within : middle < length live = omega (arith, i.within, test) in
    let is_live = slice_get-get_or live middle 0 within in
    let is : slice_get rows here ≡ Some row = c.cell-row.ensures ∙ ap (λ (w : Write). Some w) (sym c.deref.ensures) in
    let h : order row.id id ≡ Less =
    ap (λ x. order x id) (sym (c.as_str.ensures.value ∙ c.id.ensures)) ∙ ap (order c.as_str.result.now) (sym c.as_str-in-halving.ensures) ∙ sym c.in-Less.ensures in
    let steps = ap (λ n. 2 ^ (n - c.args.steps.now)) c.tick.ensures ∙ pow-step c.args.steps.now c.halving.steps i.counted in
    record {
      in_order = omega (arith, test);
      within = i.within;
      lower = lower-more rows live c.requires.live c.requires.ascend id middle here row is_live is h;
      higher = i.higher;
      counted = omega (arith, c.tick.ensures);
      halved = rw steps (halved_more (2 ^ (c.halving.steps - c.args.steps.now)) (c.halving.high - c.halving.low) (c.halving.high - (middle + 1)) (length live) i.halved (omega (arith, test)));
      bound = rw steps (bound_more _ _ _ i.halved (omega (arith, test)));
    }

pub halving-preserved : goal.halving-preserved
halving-preserved g c =
    let i = c.halving.invariant in
    let live = c.args.live.now in
    let rows = c.args.rows.now in
    let id = c.args.id.now in
    let middle = c.halving.low + (c.halving.high - c.halving.low) / 2 in
    let here = get_or live middle 0 in
    let row = c.deref.result.now in
    let test = c.halving-test.true in
    let within : middle < length live = omega (arith, i.within, test) in
    let is_live = slice_get-get_or live middle 0 within in
    let is : slice_get rows here ≡ Some row = c.cell-row.ensures ∙ ap (λ (w : Write). Some w) (sym c.deref.ensures) in
    let h : order row.id id ≡ Greater =
    ap (λ x. order x id) (sym (c.as_str.ensures.value ∙ c.id.ensures)) ∙ ap (order c.as_str.result.now) (sym c.as_str-in-halving.ensures) ∙ sym c.in-Greater.ensures in
    let steps = ap (λ n. 2 ^ (n - c.args.steps.now)) c.tick.ensures ∙ pow-step c.args.steps.now c.halving.steps i.counted in
    record {
      in_order = omega arith;
      within = omega (arith, within);
      lower = i.lower;
      higher = higher-more rows live c.requires.live c.requires.ascend id middle here row is_live is h;
      counted = omega (arith, c.tick.ensures);
      halved = rw steps (halved_more (2 ^ (c.halving.steps - c.args.steps.now)) (c.halving.high - c.halving.low) (middle - c.halving.low) (length live) i.halved (omega (arith, test)));
      bound = rw steps (bound_more _ _ _ i.halved (omega (arith, test)));
    }

pub returns-in-Equal-clause-place : goal.returns-in-Equal-clause-place
returns-in-Equal-clause-place g c =
    let i = c.halving.invariant in
    let live = c.args.live.now in
    let rows = c.args.rows.now in
    let id = c.args.id.now in
    let middle = c.halving.low + (c.halving.high - c.halving.low) / 2 in
    let here = get_or live middle 0 in
    let row = c.deref.result.now in
    let test = c.halving-test.true in
    let within : middle < length live = omega (arith, i.within, test) in
    let is_live = slice_get-get_or live middle 0 within in
    let is : slice_get rows here ≡ Some row = c.cell-row.ensures ∙ ap (λ (w : Write). Some w) (sym c.deref.ensures) in
    let h : order row.id id ≡ Equal =
    ap (λ x. order x id) (sym (c.as_str.ensures.value ∙ c.id.ensures)) ∙ ap (order c.as_str.result.now) (sym c.as_str-in-halving.ensures) ∙ sym c.in-Equal.ensures in
    place-found rows live c.requires.live c.requires.ascend id middle here row is_live is h

pub returns-in-Equal-clause-bound : goal.returns-in-Equal-clause-bound
returns-in-Equal-clause-bound g c =
    let i = c.halving.invariant in
    let test = c.halving-test.true in
    let steps = ap (λ n. 2 ^ (n - c.args.steps.now)) c.tick.ensures ∙ pow-step c.args.steps.now c.halving.steps i.counted in
    rw steps (bound_more _ _ _ i.halved (omega (arith, test)))

pub returns-clause-place : goal.returns-clause-place
returns-clause-place g c =
    let i = c.halving.invariant in
    place-none c.args.rows.now c.args.live.now c.requires.live c.requires.ascend c.args.id.now c.halving.low c.halving.high c.halving-test.false i.lower i.higher
