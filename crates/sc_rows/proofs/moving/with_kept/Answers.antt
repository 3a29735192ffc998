-- One row more, which has a number.
use Rattle.std.proofs.Common.{ℕ, [], ◌++◌, Option, sym, ap, ◌∙◌, arith}
use Rattle.std.specs.List.{cons_option}
use Rattle.sc_rows.proofs.NumberLemmas.{numbers-more}
use Rattle.sc_rows.proofs.moving.with_kept.Goals as goal

pub loop-at-preserved : goal.loop-at-preserved
loop-at-preserved c =
    let list = c.loop-at.list.items in
    let found = rw c.numbers-numbers.ensures at c.number_at.ensures in
    record {
      items = numbers-more c.args.moved.now c.args.rows.now c.loop-at.at c.number_at.result c.args.list.items list c.push_reserved.new.self.items c.loop-at-test.true found c.loop-at.invariant.items
          (c.push_reserved.ensures.items ∙ ap (λ (n : Option ℕ). list ++ cons_option n []) (sym c.in-Some.is));
      room = omega (arith, c.push_reserved.ensures.len, c.push_reserved.ensures.capacity, c.loop-at.invariant.room);
      capacity = c.push_reserved.ensures.capacity ∙ c.loop-at.invariant.capacity;
      len = omega (arith, c.push_reserved.ensures.len, c.loop-at.invariant.len);
    }
