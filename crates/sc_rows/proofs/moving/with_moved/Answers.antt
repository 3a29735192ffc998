-- One row more.
use Rattle.std.proofs.Common.{ℕ, [], ◌++◌, Option, append-nil, sym, ap, ◌∙◌, arith}
use Rattle.std.specs.List.{cons_option}
use Rattle.sc_rows.proofs.NumberLemmas.{numbers-more}
use Rattle.sc_rows.proofs.moving.with_moved.Goals.{in-Some, in_default}
use Rattle.sc_rows.proofs.moving.with_moved.Goals as goal

pub loop-row-preserved : goal.loop-row-preserved
loop-row-preserved c =
    let moved = c.args.moved.now in
    let rows = c.args.rows.now in
    let list = c.loop-row.list.items in
    let found = rw c.numbers-numbers.ensures at c.number_at.ensures in
    elim c.match-number_at.branch [
      | in-Some w ↦ rw w.list-is (record {
        items = numbers-more moved rows c.loop-row.row-index c.number_at.result c.args.list.items list w.push_reserved.new.self.items c.loop-row-test.true found c.loop-row.invariant.items
            (w.push_reserved.ensures.items ∙ ap (λ (n : Option ℕ). list ++ cons_option n []) (sym w.in-Some.is));
        room = omega (arith, w.push_reserved.ensures.len, w.push_reserved.ensures.capacity, c.loop-row.invariant.room);
        capacity = w.push_reserved.ensures.capacity ∙ c.loop-row.invariant.capacity;
        len = omega (arith, w.push_reserved.ensures.len, c.loop-row.invariant.len);
      })
      | in_default w ↦ rw w.list-is (record {
        items = numbers-more moved rows c.loop-row.row-index c.number_at.result c.args.list.items list list c.loop-row-test.true found c.loop-row.invariant.items
            (sym (append-nil list) ∙ ap (λ (n : Option ℕ). list ++ cons_option n []) (sym w.in_default.is));
        room = omega (arith, c.loop-row.invariant.room);
        capacity = c.loop-row.invariant.capacity;
        len = omega (arith, c.loop-row.invariant.len);
      })
    ]
