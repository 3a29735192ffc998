-- One row more, with its number where it has one.
use Rattle.std.proofs.Common.{◌<◌, ℕ, [], ◌++◌, All, Option, take, append-nil, sym, ap, subst, ◌∙◌, arith}
use Rattle.std.proofs.lemmas.List.Elements.{All-push}
use Rattle.std.specs.List.{cons_option}
use Rattle.sc_rows.proofs.NumberLemmas.{numbers-more, numbers-next}
use Rattle.sc_rows.specs.Moving.{new_numbers}
use Rattle.sc_rows.proofs.moving.with_below.Goals.{in-Some+else-limit-number, in_default}
use Rattle.sc_rows.proofs.moving.with_below.Goals as goal

pub loop-at-preserved : goal.loop-at-preserved
loop-at-preserved c =
    let moved = c.args.moved.now in
    let rows = c.args.rows.now in
    let list = c.loop-at.list.items in
    let passed = new_numbers moved (take c.loop-at.at rows) in
    let found = rw c.numbers-numbers.ensures at c.number_at.ensures in
    let next = numbers-next moved rows c.loop-at.at c.number_at.result c.loop-at-test.true found in
    elim c.match-number_at.branch [
      | in-Some+else-limit-number w ↦ rw w.list-is (record {
        items = numbers-more moved rows c.loop-at.at c.number_at.result c.args.list.items list w.push_reserved.new.self.items c.loop-at-test.true found c.loop-at.invariant.items
            (w.push_reserved.ensures.items ∙ ap (λ (n : Option ℕ). list ++ cons_option n []) (sym w.in-Some.is));
        room = omega (arith, w.push_reserved.ensures.len, w.push_reserved.ensures.capacity, c.loop-at.invariant.room);
        below = subst (All (λ (number : ℕ). number < c.args.limit)) (sym (next ∙ ap (λ (n : Option ℕ). passed ++ cons_option n []) w.in-Some.is))
            (All-push (λ (number : ℕ). number < c.args.limit) passed w.in-Some.number c.loop-at.invariant.below (omega (arith, w.if-limit-number.false)));
      })
      | in_default w ↦ rw w.list-is (record {
        items = numbers-more moved rows c.loop-at.at c.number_at.result c.args.list.items list list c.loop-at-test.true found c.loop-at.invariant.items
            (sym (append-nil list) ∙ ap (λ (n : Option ℕ). list ++ cons_option n []) (sym w.in_default.is));
        room = omega (arith, c.loop-at.invariant.room);
        below = subst (All (λ (number : ℕ). number < c.args.limit)) (sym (next ∙ ap (λ (n : Option ℕ). passed ++ cons_option n []) w.in_default.is ∙ append-nil passed)) c.loop-at.invariant.below;
      })
    ]
