-- Each turn reads one more item, up to the bracket that closes the array.
use Rattle.std.proofs.Common.{◌≡◌, ◌-◌, ◌<◌, None, length, sym, ap, ◌∙◌, arith}
use Rattle.json.specs.Json.{after_end_array}
use Rattle.sc_json.specs.Flat.{item_depth, items_by}
use Rattle.sc_json.specs.RawDocs.{raw_items}
use Rattle.sc_json.proofs.FlatLemmas.{items_left, with_ones, no_ones, one_more, ones_over}
use Rattle.sc_json.proofs.flat_value.rest_of_items.Goals as goal

pub items-init : goal.items-init
items-init c =
    let all = items_by raw_items item_depth c.args.reader.now in
    (length c.args.reader.now, omega arith, no_ones all ∙ ap (λ found. with_ones found all) (sym c.new-found.ensures), omega arith)

pub items-preserved : goal.items-preserved
items-preserved c =
    let l = c.items in
    let n = l.invariant.0 in
    let going : (after_end_array l.reader ≡ None) × (c.take_end_array.new.self ≡ l.reader) = grind arith in
    let done = c.in_ok-one.ensures in
    let one = c.in_ok-one.one in
    let r = c.next_one.new.reader in
    let less : length r < length l.reader = rw (← going.1) done.shorter in
    let turn = one_more item_depth n l.reader r one l.found (omega (arith, l.invariant.1)) going.0 (rw (← going.1) done.value) in (
      n - 1,
      omega (arith, l.invariant.1),
      l.invariant.2 ∙ turn ∙ ap (λ found. with_ones found (items_left raw_items item_depth (n - 1) r)) (sym c.in_ok-push.ensures.ok),
      omega (arith, l.invariant.3),
    )

pub returns-clause-value : goal.returns-clause-value
returns-clause-value c =
    let l = c.items in
    let n = l.invariant.0 in
    l.invariant.2 ∙ ones_over item_depth n l.reader c.take_end_array.new.self l.found l.invariant.1 (grind arith)
