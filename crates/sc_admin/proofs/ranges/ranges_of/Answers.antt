-- What is yielded is what lies between the commas.
use Rattle.std.proofs.Common.{length, map, ap, sym, ◌∙◌, arith, lit<}
use Rattle.std.proofs.lemmas.Iterator.Splits.{YieldsList-from_str_split}
use Rattle.std.proofs.lemmas.Iterator.Consumers.{YieldsList-turn, YieldsList-end}
use Rattle.std.proofs.lemmas.List.{length-map, length_push}
use Rattle.sc_hash.specs.Bounds.{bounds}
use Rattle.sc_admin.specs.Ranges.{range_of}
use Rattle.sc_admin.proofs.PartLemmas.{one_more, same_number, ranges_of-no_range, ranges_of-too_many, ranges_of-too_few, ranges_of-all}
use Rattle.sc_admin.proofs.ranges.ranges_of.Goals as goal

pub loop-part-preserved : goal.loop-part-preserved
loop-part-preserved c =
    let longer = ap length c.in_ok-push.ensures.ok ∙ length_push c.loop-part.ranges c.in-Some-range_of.range in
    let test = c.if-len-eq-MOST_PARTS.false in
    let number = c.len.ensures in
    record {
      read = one_more c.loop-part.ranges c.push.new.self c.in-Some-range_of.range c.loop-part.yielded c.in-Some.part
          c.loop-part.invariant.read c.in_ok-push.ensures.ok c.in-Some-range_of.ensures;
      few = omega (arith, longer, test, number, c.loop-part.invariant.few);
    }

pub returns-clause-ranges : goal.returns-clause-ranges
returns-clause-ranges c =
    let road = YieldsList-from_str_split {s = c.into_iter-part-iterator.result} 44 c.args.text.now (lit< tt) (cc) (cc) (cc) in
    let t = YieldsList-end road c.loop-part.yielded _ c.loop-part.yielded_by _ _ c.in-None.is c.next.ensures.steps in
    let number = length-map c.loop-part.ranges bounds in
    let full = c.len-2.ensures in
    let test = c.if-len-lt-LEAST_PARTS.false in
    ranges_of-all c.args.text.now (map bounds c.loop-part.ranges) (c.loop-part.invariant.read ∙ ap (map range_of) t.0)
    (omega (arith, number, full, test)) (omega (arith, number, c.loop-part.invariant.few))

pub returns-in_default-clause-ranges : goal.returns-in_default-clause-ranges
returns-in_default-clause-ranges c =
    let road = YieldsList-from_str_split {s = c.into_iter-part-iterator.result} 44 c.args.text.now (lit< tt) (cc) (cc) (cc) in
    let t = YieldsList-turn road c.loop-part.yielded _ c.loop-part.yielded_by _ _ c.in-Some.part c.in-Some.is c.next.ensures.steps in
    ranges_of-no_range c.args.text.now (length c.loop-part.yielded) c.in-Some.part.now t.0 t.1 (sym c.in_default.ensures)

pub returns-then-len-eq-MOST_PARTS-clause-ranges : goal.returns-then-len-eq-MOST_PARTS-clause-ranges
returns-then-len-eq-MOST_PARTS-clause-ranges c =
    let road = YieldsList-from_str_split {s = c.into_iter-part-iterator.result} 44 c.args.text.now (lit< tt) (cc) (cc) (cc) in
    let t = YieldsList-turn road c.loop-part.yielded _ c.loop-part.yielded_by _ _ c.in-Some.part c.in-Some.is c.next.ensures.steps in
    let same = same_number c.loop-part.ranges c.loop-part.yielded c.loop-part.invariant.read in
    let full = c.len.ensures in
    let test = c.if-len-eq-MOST_PARTS.true in
    ranges_of-too_many c.args.text.now (omega (arith, t.0, same, full, test))

pub returns-then-len-lt-LEAST_PARTS-clause-ranges : goal.returns-then-len-lt-LEAST_PARTS-clause-ranges
returns-then-len-lt-LEAST_PARTS-clause-ranges c =
    let road = YieldsList-from_str_split {s = c.into_iter-part-iterator.result} 44 c.args.text.now (lit< tt) (cc) (cc) (cc) in
    let t = YieldsList-end road c.loop-part.yielded _ c.loop-part.yielded_by _ _ c.in-None.is c.next.ensures.steps in
    let number = length-map c.loop-part.ranges bounds in
    let full = c.len-2.ensures in
    let test = c.if-len-lt-LEAST_PARTS.true in
    ranges_of-too_few c.args.text.now (map bounds c.loop-part.ranges) (c.loop-part.invariant.read ∙ ap (map range_of) t.0)
    (omega (arith, number, full, test))
