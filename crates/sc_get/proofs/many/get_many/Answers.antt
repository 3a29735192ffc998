-- The ids were read in turn, up to the end or up to where memory ran out.
use Rattle.std.proofs.Common.{◌≡◌, ℕ, ◌+◌, ◌<◌, Vec, List, ◌++◌, length, refl, sym, ap, ◌∙◌, subst, arith, length-append}
use Rattle.std.specs.Prelude.{get_or, Option, Result, Ok, Err, option_to_list, vec_capacity}
use Rattle.std.specs.declared.alloc.AllocError.{AllocError}
use Rattle.std.specs.declared.alloc.Global.{Global}
use Rattle.std.specs.declared.sync.Arc.{Arc}
use Rattle.std.proofs.lemmas.List.{append-nil}
use Rattle.std.proofs.lemmas.Result.{err_from_is_err_and}
use Rattle.sc_record.specs.Writes.{Write}
use Rattle.sc_seen.specs.Seen.{Layout}
use Rattle.sc_collection.specs.Resting.{looked_at}
use Rattle.sc_get.specs.Got.{IsGot, AreGot}
use Rattle.sc_get.proofs.ManyLemmas.{SoFar-none, SoFar-then, one_at_most, ran_out, ran_out_at, all_got}
use Rattle.sc_get.proofs.many.get_many.Goals.{in-Some, in_default}
use Rattle.sc_get.proofs.many.get_many.Goals as goal

pub returns-in_err-found-clause-got : goal.returns-in_err-found-clause-got
returns-in_err-found-clause-got g c =
    let layout = g.D.Desk.layout c.args.desk.now in
    let view = looked_at g.D.Desk c.args.desk.now c.args.trail.now in
    let failed = err_from_is_err_and c.from_residual.result c.from_residual.ensures.1 in
    subst (λ (r : Result (List (Arc Write Global)) AllocError). AreGot layout view view c.args.ids.now r)
    (sym failed.1) (ran_out layout view c.args.ids.now failed.0)

pub loop-id-init : goal.loop-id-init
loop-id-init g c = record {
  far = SoFar-none (g.D.Desk.layout c.args.desk.now) (looked_at g.D.Desk c.args.desk.now c.args.trail.now) c.args.ids.now
      c.in_ok-found.found.items c.in_ok-found.ensures.items;
  leaves = record { layout = refl; rest = c.requires.rest; requests = refl };
  stops = omega arith;
  found = omega (arith, ap length c.in_ok-found.ensures.items);
  room = omega (arith, c.in_ok-found.ensures.capacity, c.len.ensures);
}

pub returns-in_err-cell-clause-got : goal.returns-in_err-cell-clause-got
returns-in_err-cell-clause-got g c =
    let layout = g.D.Desk.layout c.args.desk.now in
    let old = looked_at g.D.Desk c.args.desk.now c.args.trail.now in
    let between = looked_at g.D.Desk c.loop-id.desk c.loop-id.trail in
    let new = looked_at g.D.Desk c.get_one.new.desk c.get_one.new.trail in
    let failed = err_from_is_err_and c.from_residual-in_err-cell.result c.from_residual-in_err-cell.ensures.1 in
    let some : c.loop-id.id-index < length c.args.ids.now = omega (arith, c.loop-id-test.true, ap length c.as_slice-id-items.ensures) in
    let at : get_or c.args.ids.now c.loop-id.id-index c.id-item.result ≡ c.id-item.result =
    ap (λ (ids : List (List ℕ)). get_or ids c.loop-id.id-index c.id-item.result) (sym c.as_slice-id-items.ensures) ∙ sym c.id-item.is in
    let one : IsGot layout between new c.id-item.result (Err c.in_err-cell.field-0.0) =
    subst (λ (l : Layout). IsGot l between new c.id-item.result (Err c.in_err-cell.field-0.0))
    c.loop-id.invariant.leaves.layout c.in_err-cell.ensures.got in
    subst (λ (r : Result (List (Arc Write Global)) AllocError). AreGot layout old new c.args.ids.now r)
    (sym failed.1)
    (ran_out_at layout old between new c.args.ids.now c.loop-id.id-index
    c.loop-id.found.items c.id-item.result c.loop-id.invariant.far some at c.in_err-cell.field-0.0 failed.0 one)

pub loop-id-preserved : goal.loop-id-preserved
loop-id-preserved g c =
    let layout = g.D.Desk.layout c.args.desk.now in
    let old = looked_at g.D.Desk c.args.desk.now c.args.trail.now in
    let between = looked_at g.D.Desk c.loop-id.desk c.loop-id.trail in
    let new = looked_at g.D.Desk c.get_one.new.desk c.get_one.new.trail in
    let some : c.loop-id.id-index < length c.args.ids.now = omega (arith, c.loop-id-test.true, ap length c.as_slice-id-items.ensures) in
    let at : get_or c.args.ids.now c.loop-id.id-index c.id-item.result ≡ c.id-item.result =
    ap (λ (ids : List (List ℕ)). get_or ids c.loop-id.id-index c.id-item.result) (sym c.as_slice-id-items.ensures) ∙ sym c.id-item.is in
    let one : IsGot layout between new c.id-item.result (Ok c.in_ok-cell.field-0) =
    subst (λ (l : Layout). IsGot l between new c.id-item.result (Ok c.in_ok-cell.field-0))
    c.loop-id.invariant.leaves.layout c.in_ok-cell.ensures.got in
    let all : c.match-branch-3.found.items ≡ c.loop-id.found.items ++ option_to_list c.in_ok-cell.field-0 = elim c.match-branch-3.branch [
      | in-Some w ↦ ap (λ (v : Vec (Arc Write Global) Global). v.items) w.found-is ∙ w.push_reserved.ensures.items
          ∙ ap (λ (cell : Option (Arc Write Global)). c.loop-id.found.items ++ option_to_list cell) (sym w.in-Some.is)
      | in_default w ↦ ap (λ (v : Vec (Arc Write Global) Global). v.items) w.found-is ∙ sym (append-nil c.loop-id.found.items)
          ∙ ap (λ (cell : Option (Arc Write Global)). c.loop-id.found.items ++ option_to_list cell) (sym w.in_default.is)
    ] in
    let capacity : vec_capacity c.match-branch-3.found ≡ vec_capacity c.loop-id.found = elim c.match-branch-3.branch [
      | in-Some w ↦ ap vec_capacity w.found-is ∙ w.push_reserved.ensures.capacity
      | in_default w ↦ ap vec_capacity w.found-is
    ] in
    record {
      far = SoFar-then layout old between new c.args.ids.now c.loop-id.id-index
          c.loop-id.found.items c.id-item.result c.loop-id.invariant.far some at c.in_ok-cell.field-0 c.match-branch-3.found.items all one;
      leaves = record {
        layout = c.get_one.ensures.leaves.layout ∙ c.loop-id.invariant.leaves.layout;
        rest = c.get_one.ensures.leaves.rest;
        requests = c.get_one.ensures.leaves.requests ∙ c.loop-id.invariant.leaves.requests;
      };
      stops = omega (arith, c.get_one.ensures.stops, c.loop-id.invariant.stops);
      found = omega (
        arith,
        ap length all,
        length-append c.loop-id.found.items (option_to_list c.in_ok-cell.field-0),
        one_at_most c.in_ok-cell.field-0,
        c.loop-id.invariant.found,
      );
      room = omega (arith, capacity, c.loop-id.invariant.room);
    }

pub returns-clause-got : goal.returns-clause-got
returns-clause-got g c =
    all_got (g.D.Desk.layout c.args.desk.now) (looked_at g.D.Desk c.args.desk.now c.args.trail.now)
    (looked_at g.D.Desk c.loop-id.desk c.loop-id.trail) c.args.ids.now c.loop-id.id-index c.loop-id.found.items c.from_vec.result c.loop-id.invariant.far
    (omega (arith, c.loop-id-test.false, c.loop-id.auto.id-index-end, ap length c.as_slice-id-items.ensures)) c.from_vec.ensures
