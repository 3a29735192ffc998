-- The rows up to one edit more are made.
use Rattle.std.proofs.Common.{◌≡◌, ◌+◌, ◌-◌, ◌<◌, ◌≤◌, ◌∷◌, ◌++◌, [], List, map, take, drop, length, sym, ap, ap₂, subst, ◌∙◌, ◌&&◌, arith, append_assoc}
use Rattle.std.proofs.lemmas.List.{take_all}
use Rattle.std.proofs.lemmas.List.Elements.{All-from_recursion}
use Rattle.std.proofs.lemmas.List.Folds.{list_all_more}
use Rattle.std.proofs.lemmas.Option.{IfSome_then}
use Rattle.std.specs.List.{list_all, AllByRecursion}
use Rattle.sc_record.specs.Writes.{Write}
use Rattle.sc_snapshot.specs.Change.{IsChange}
use Rattle.sc_snapshot.specs.Edits.{edited, next_of, put_in, IsRest, AreInOrder}
use Rattle.sc_snapshot.specs.Postings.{has_id_alone}
use Rattle.sc_snapshot.specs.Surveying.{BoundsHashOf}
use Rattle.sc_snapshot.specs.declared.edits.Edit.{Edit}
use Rattle.sc_snapshot.proofs.EditLemmas.{rest-init, rest-at, rest-end, rest-next, last-kept, last-size, left-at, some-rows}
use Rattle.sc_snapshot.proofs.EditedLemmas.{each-edited}
use Rattle.sc_snapshot.proofs.LoopLemmas.{one-more}
use Rattle.sc_snapshot.proofs.PlaceLemmas.{each-append}
use Rattle.sc_snapshot.proofs.MadeLemmas.{edit-within, edit-next, bits-size}
use Rattle.sc_snapshot.proofs.SurveyLemmas.{surveyed-all, wider, same-bounds, bounds-on, each-from_all}
use Rattle.sc_snapshot.proofs.made.Told.put_all.Goals as goal

pub loop-edit-init : goal.loop-edit-init
loop-edit-init c =
    let old = c.args.old.now in
    let edits = c.args.edits.now in
    let begun = c.requires.begun in
    record {
      rest = rest-init old edits c.requires.in_order;
      rows = ap (λ (ws : List Write). ws ++ edited old 0 edits) c.requires.none;
      change = begun.change;
      alone = begun.alone;
      surveyed = begun.surveyed;
      size = begun.size;
      bounds = begun.bounds;
      hashes = tt;
    }

pub put-requires-clause-to : goal.put-requires-clause-to
put-requires-clause-to c =
    let old = c.args.old.now in
    let all = c.args.edits.now in
    let new = edited old 0 all in
    let i = c.loop-edit.invariant in
    let within = edit-within old new c.loop-edit.from c.loop-edit.number all c.loop-edit.edit-index c.edit-item.result c.loop-edit-test.true c.edit-item.is i.rest in
    within.0

pub put-requires-clause-bounded : goal.put-requires-clause-bounded
put-requires-clause-bounded c =
    let old = c.args.old.now in
    let all = c.args.edits.now in
    let new = edited old 0 all in
    let from = c.loop-edit.from in
    let index = c.loop-edit.edit-index in
    let edit = c.edit-item.result in
    let within = c.loop-edit-test.true in
    let is = c.edit-item.is in
    let i = c.loop-edit.invariant in
    let cutting = c.loop-edit.cutting in
    let order = left-at (AreInOrder (length old) from) all index edit within is i.rest.in_order in
    let whole = left-at (λ (es : List Edit). cutting ++ edited old from es ≡ new) all index edit within is i.rows in
    let few = some-rows old cutting new from edit (drop (index + 1) all) order whole in
    let bound = c.requires.new in
    omega (arith, few, bound)

pub put-requires-in-loop-edit-clause-next : goal.put-requires-in-loop-edit-clause-next
put-requires-in-loop-edit-clause-next c =
    let old = c.args.old.now in
    let all = c.args.edits.now in
    edit-next old (edited old 0 all) c.loop-edit.from c.loop-edit.number all c.loop-edit.edit-index c.edit-item.result c.loop-edit-test.true c.edit-item.is
    c.loop-edit.invariant.rest

pub put-requires-in-loop-edit-clause-last_lost : goal.put-requires-in-loop-edit-clause-last_lost
put-requires-in-loop-edit-clause-last_lost c = IfSome_then c.loop-edit.self.change.lost c.loop-edit.invariant.change.lost (λ lost loses. loses.last_row)

pub put-requires-in-loop-edit-clause-number : goal.put-requires-in-loop-edit-clause-number
put-requires-in-loop-edit-clause-number c =
    let old = c.args.old.now in
    let all = c.args.edits.now in
    let new = edited old 0 all in
    let i = c.loop-edit.invariant in
    let within = edit-within old new c.loop-edit.from c.loop-edit.number all c.loop-edit.edit-index c.edit-item.result c.loop-edit-test.true c.edit-item.is i.rest in
    let bound = c.requires.new in
    omega (arith, within.1, bound)

pub put-requires-in-loop-edit-2-clause-to : goal.put-requires-in-loop-edit-2-clause-to
put-requires-in-loop-edit-2-clause-to c =
    let old = c.args.old.now in
    let all = c.args.edits.now in
    let new = edited old 0 all in
    let i = c.loop-edit.invariant in
    let within = edit-within old new c.loop-edit.from c.loop-edit.number all c.loop-edit.edit-index c.edit-item.result c.loop-edit-test.true c.edit-item.is i.rest in
    let size = bits-size old c.args.last.now.live_bits c.requires.survey.live_bits in
    omega (arith, within.0, size)

pub put-requires-in-loop-edit-2-clause-number : goal.put-requires-in-loop-edit-2-clause-number
put-requires-in-loop-edit-2-clause-number c =
    let old = c.args.old.now in
    let all = c.args.edits.now in
    let new = edited old 0 all in
    let i = c.loop-edit.invariant in
    let within = edit-within old new c.loop-edit.from c.loop-edit.number all c.loop-edit.edit-index c.edit-item.result c.loop-edit-test.true c.edit-item.is i.rest in
    omega (arith, within.1, i.size)

pub overflow_add-number : goal.overflow_add-number
overflow_add-number c =
    let old = c.args.old.now in
    let all = c.args.edits.now in
    let new = edited old 0 all in
    let i = c.loop-edit.invariant in
    let within = edit-within old new c.loop-edit.from c.loop-edit.number all c.loop-edit.edit-index c.edit-item.result c.loop-edit-test.true c.edit-item.is i.rest in
    let bound = c.requires.new in
    omega (arith, within.1, bound)

pub overflow_add-number-in-loop-edit : goal.overflow_add-number-in-loop-edit
overflow_add-number-in-loop-edit c =
    let old = c.args.old.now in
    let all = c.args.edits.now in
    let new = edited old 0 all in
    let i = c.loop-edit.invariant in
    let within = edit-within old new c.loop-edit.from c.loop-edit.number all c.loop-edit.edit-index c.edit-item.result c.loop-edit-test.true c.edit-item.is i.rest in
    let bound = c.requires.new in
    omega (arith, within.1, bound)

pub next-from-requires : goal.next-from-requires
next-from-requires c =
    let old = c.args.old.now in
    let all = c.args.edits.now in
    let new = edited old 0 all in
    let i = c.loop-edit.invariant in
    let within = edit-within old new c.loop-edit.from c.loop-edit.number all c.loop-edit.edit-index c.edit-item.result c.loop-edit-test.true c.edit-item.is i.rest in
    let bound = c.requires.old.bounded in
    omega (arith, within.0, bound)

pub keep_all-requires-clause-number : goal.keep_all-requires-clause-number
keep_all-requires-clause-number c =
    let old = c.args.old.now in
    let all = c.args.edits.now in
    let new = edited old 0 all in
    let i = c.loop-edit.invariant in
    let rest = rest-end old new c.loop-edit.from c.loop-edit.number all c.loop-edit.edit-index c.loop-edit-test.false i.rest in
    let whole = last-size old new c.loop-edit.from c.loop-edit.number rest in
    let bound = c.requires.new in
    omega (arith, whole, bound, c.len-2.ensures)

pub keep_all-requires-2-clause-number : goal.keep_all-requires-2-clause-number
keep_all-requires-2-clause-number c =
    let old = c.args.old.now in
    let all = c.args.edits.now in
    let new = edited old 0 all in
    let i = c.loop-edit.invariant in
    let rest = rest-end old new c.loop-edit.from c.loop-edit.number all c.loop-edit.edit-index c.loop-edit-test.false i.rest in
    let whole = last-size old new c.loop-edit.from c.loop-edit.number rest in
    omega (arith, whole, i.size, c.len-3.ensures)

pub loop-edit-preserved : goal.loop-edit-preserved
loop-edit-preserved c =
    let old = c.args.old.now in
    let all = c.args.edits.now in
    let new = edited old 0 all in
    let edit = c.edit-item.result in
    let from = c.loop-edit.from in
    let number = c.loop-edit.number in
    let index = c.loop-edit.edit-index in
    let edits = drop (index + 1) all in
    let i = c.loop-edit.invariant in
    let rest = rest-at old new from number all index edit c.loop-edit-test.true c.edit-item.is i.rest in
    let cutting = c.loop-edit.cutting in
    let front = take (edit.at - from) (drop from old) in
    let more = edited old (next_of edit) edits in
    let whole = left-at (λ (es : List Edit). cutting ++ edited old from es ≡ new) all index edit c.loop-edit-test.true c.edit-item.is i.rows in
    let cut = c.in_ok-put.ensures in
    let told = c.in_ok-put-2.ensures in
    let marked = c.in_ok-put-3.ensures in
    let before = c.loop-edit.self.survey in
    let now = c.put-in-loop-edit-2.new.self in
    record {
      rest = subst (λ n. IsRest old new n (number + (edit.at - from) + 1) edits) (sym c.next-from.ensures) (rest-next old new from number edit edits rest);
      rows = ap (λ n. c.put.new.self ++ edited old n edits) c.next-from.ensures
          ∙ ap (λ (ws : List Write). ws ++ more) cut
          ∙ append_assoc (cutting ++ front) (put_in edit ∷ []) more
          ∙ append_assoc cutting front (put_in edit ∷ more)
          ∙ whole;
      change = subst (λ n. IsChange old new n (number + (edit.at - from) + 1) c.put-in-loop-edit.new.self) (sym c.next-from.ensures) (told.change new edits rest i.change);
      alone = told.alone ∙ ap₂ (λ b (e : Edit). b && has_id_alone (put_in e)) i.alone c.edit-item.is
          ∙ sym (list_all_more (λ (e : Edit). has_id_alone (put_in e)) all index edit c.loop-edit-test.true);
      surveyed = marked.surveyed old new edits c.requires.survey.live_bits rest i.surveyed;
      size = marked.size ∙ i.size;
      bounds = bounds-on c.args.last.now before now i.bounds marked.bounds;
      hashes = subst (AllByRecursion (BoundsHashOf now)) (sym (one-more put_in all index edit c.loop-edit-test.true c.edit-item.is))
          (each-append (BoundsHashOf now) (map put_in (take index all)) (put_in edit ∷ [])
          (wider before now (map put_in (take index all)) marked.bounds i.hashes) (marked.hash, tt));
    }

pub returns-clause-told : goal.returns-clause-told
returns-clause-told c =
    let old = c.args.old.now in
    let all = c.args.edits.now in
    let new = edited old 0 all in
    let last = c.args.last.now in
    let from = c.loop-edit.from in
    let number = c.loop-edit.number in
    let i = c.loop-edit.invariant in
    let rest = rest-end old new from number all c.loop-edit.edit-index c.loop-edit-test.false i.rest in
    let whole = last-size old new from number rest in
    let size = c.len-2.ensures in
    let kept = c.in_ok-keep_all.ensures.change old new i.change (let most : c.len-2.result ≤ length old = omega (arith, size) in most)
    (λ k below. last-kept old new from number rest k (let few : k < length old - from = omega (arith, below, size) in few)) in
    let bits = c.len-3.ensures in
    let marked = c.in_ok-keep_all-2.ensures in
    let survey = c.keep_all-2.new.self in
    let before = c.loop-edit.self.survey in
    let surveyed = marked.surveyed new old c.requires.survey.live_bits i.surveyed
    (let few : number + (c.len-3.result - from) ≤ length new = omega (arith, whole, bits) in few)
    (λ k below. last-kept old new from number rest k (let few : k < length old - from = omega (arith, below, bits) in few)) in
    let same = same-bounds before survey marked.least_hash marked.greatest_hash in
    let changes = wider before survey (map put_in all) same
    (subst (λ (es : List Edit). AllByRecursion (BoundsHashOf before) (map put_in es)) (take_all c.loop-edit.edit-index all c.loop-edit-test.false) i.hashes) in
    let rows = wider last survey old (bounds-on last before survey i.bounds same) (each-from_all (BoundsHashOf last) old c.requires.survey.hashes) in
    record {
      change = subst (λ n. IsChange old new (length old) n c.keep_all.new.self) whole
          (subst (λ n. IsChange old new n (number + (n - from)) c.keep_all.new.self) size kept);
      alone = c.in_ok-keep_all.ensures.alone ∙ i.alone
          ∙ ap (list_all (λ (e : Edit). has_id_alone (put_in e))) (take_all c.loop-edit.edit-index all c.loop-edit-test.false);
      survey = surveyed-all new (number + (c.len-3.result - from)) survey surveyed (omega (arith, whole, bits))
          (All-from_recursion (BoundsHashOf survey) new (each-edited (BoundsHashOf survey) old 0 all c.requires.in_order rows changes));
    }
