-- What is yielded is what lies between the commas.
use Rattle.std.proofs.Common.{ℕ, List, length, ap, ◌∙◌, arith, lit<, Bor}
use Rattle.std.proofs.lemmas.Iterator.Splits.{YieldsList-from_str_split}
use Rattle.std.proofs.lemmas.Iterator.Consumers.{YieldsList-turn, YieldsList-end}
use Rattle.std.proofs.lemmas.List.{length-map}
use Rattle.sc_session.specs.Requests as asking
use Rattle.sc_session.proofs.AskedLemmas.{asked_list-no_id, asked_list-too_many, asked_list-all, not_chosen}
use Rattle.sc_session.proofs.asked.asked_list.Goals as goal

pub returns-clause-asked : goal.returns-clause-asked
returns-clause-asked c =
    let road = YieldsList-from_str_split {s = c.into_iter-part-iterator.result} 44 c.args.text.now (lit< tt) (cc) (cc) (cc) in
    let t = YieldsList-end road c.loop-part.yielded _ c.loop-part.yielded_by _ _ c.in-None.is c.next.ensures.steps in
    asked_list-all c.args.text.now c.loop-part.ids (c.loop-part.invariant.0 ∙ t.0) c.loop-part.invariant.1
    c.loop-part.invariant.2

pub returns-then-len-eq-MOST_IDS-clause-asked : goal.returns-then-len-eq-MOST_IDS-clause-asked
returns-then-len-eq-MOST_IDS-clause-asked c =
    let road = YieldsList-from_str_split {s = c.into_iter-part-iterator.result} 44 c.args.text.now (lit< tt) (cc) (cc) (cc) in
    let t = YieldsList-turn road c.loop-part.yielded _ c.loop-part.yielded_by _ _ c.in-Some.part c.in-Some.is c.next.ensures.steps in
    let same = ap length c.loop-part.invariant.0 ∙ length-map c.loop-part.yielded (λ (part : Bor (List ℕ)). part.now) in
    let full = c.len.ensures in
    let test = c.if-len-eq-MOST_IDS.true in
    asked_list-too_many c.args.text.now (omega (arith, t.0, same, full, test))

pub returns-in_default-clause-asked : goal.returns-in_default-clause-asked
returns-in_default-clause-asked c =
    let road = YieldsList-from_str_split {s = c.into_iter-part-iterator.result} 44 c.args.text.now (lit< tt) (cc) (cc) (cc) in
    let t = YieldsList-turn road c.loop-part.yielded _ c.loop-part.yielded_by _ _ c.in-Some.part c.in-Some.is c.next.ensures.steps in
    asked_list-no_id c.args.text.now (length c.loop-part.yielded) c.in-Some.part.now t.0 t.1
    (not_chosen (asking.is_id c.in-Some.part.now) c.in-Some.part.now c.in_ok-id.field-0 c.in_ok-id.ensures c.in_default.is)
