-- Each step puts the field that comes next after the new fields, or is refused as all changes are.
use Rattle.std.proofs.Common.{◌≡◌, ◌∷◌, List, [], length, None, Some, Option, refl, sym, ap, subst, arith, rules, Less, Equal, Greater}
use Rattle.std.specs.Bool.{IsTrue, if◌then◌else◌}
use Rattle.std.specs.List.{AllByRecursion}
use Rattle.std.specs.Ordering.{nat_cmp}
use Rattle.std.specs.Cmp.Lexicographic.{slice_cmp}
use Rattle.std.proofs.lemmas.Result.{err_from_is_err_and}
use Rattle.sc_values.specs.Fields.{FitsField}
use Rattle.sc_values.specs.declared.value.Value.{Value}
use Rattle.sc_spelling.specs.Lent.{field_of}
use Rattle.sc_spelling.specs.declared.field.FieldRef.{FieldRef}
use Rattle.sc_partial.specs.Changed.{can_change, changed}
use Rattle.sc_partial.specs.Resolved.{some_field, IsRefusalOf}
use Rattle.sc_record.specs.DocParts.{Adds}
use Rattle.sc_partial.specs.Runs.{next_fields}
use Rattle.sc_partial.proofs.StepLemmas.{refused_same, refused_missing, below_first}
use Rattle.sc_partial.proofs.RunLemmas.{same_left, kept_spelled, same_spelled, missing_spelled, all_spelled, next_all}
use Rattle.sc_partial.proofs.merge.merged.Goals as goal

-- a list of no length is empty
empty_list : {A : Type 0} (xs : List A) → length xs ≡ 0 → xs ≡ []
empty_list [] h = refl
empty_list (x ∷ xs) h = absurd (omega arith)

pub loop-change-preserved-in-Less : goal.loop-change-preserved-in-Less
loop-change-preserved-in-Less c =
    let first = c.in-Some.ensures.cases.0 in
    let head = ap (λ (n : Option FieldRef). next_fields n c.loop-change.fields) c.in-Some-next.is in
    let before : slice_cmp nat_cmp c.in-Some-next.field.name.now c.in-Some.change.now.name ≡ Less = search rules in
    let so_far = same_left head first c.loop-change.invariant in
    let left = next_all c.next-next-in-Less.result c.loop-change.fields c.next-next-in-Less.new.self c.next-next-in-Less.ensures.steps in
    same_left left (sym first) (kept_spelled _ _ _ _ _ _ _ _ so_far before c.in_ok-push_lent-in-Less.ensures)

pub loop-change-preserved-in-Equal : goal.loop-change-preserved-in-Equal
loop-change-preserved-in-Equal c =
    let first = c.in-Some.ensures.cases.0 in
    let head = ap (λ (n : Option FieldRef). next_fields n c.loop-change.fields) c.in-Some-next.is in
    let same : slice_cmp nat_cmp c.in-Some-next.field.name.now c.in-Some.change.now.name ≡ Equal = search rules in
    let so_far = same_left head first c.loop-change.invariant in
    let values : c.as_slice.result.now ≡ c.in-Some-next.field.values = search rules in
    let can = subst (λ (v : List Value). IsTrue (can_change c.in-Some.change.now.name v c.in-Some.change.now.how)) values
    c.in_ok-add_changed-in-Equal.ensures.accepted in
    let fits = subst (λ (v : List Value). AllByRecursion FitsField (some_field c.in-Some.change.now.name (changed c.in-Some.change.now.name v c.in-Some.change.now.how))) values
    c.in_ok-add_changed-in-Equal.ensures.fits in
    let adds = subst (λ (v : List Value). Adds (some_field c.in-Some.change.now.name (changed c.in-Some.change.now.name v c.in-Some.change.now.how)) c.loop-change.made c.add_changed-in-Equal.new.made)
    values c.in_ok-add_changed-in-Equal.ensures.added in
    let left = next_all c.next-next-in-Equal.result c.loop-change.fields c.next-next-in-Equal.new.self c.next-next-in-Equal.ensures.steps in
    same_left left refl (same_spelled _ _ _ _ _ _ _ _ so_far same can fits adds)

pub loop-change-preserved : goal.loop-change-preserved
loop-change-preserved c =
    let first = c.in-Some.ensures.cases.0 in
    let head = ap (λ (n : Option FieldRef). next_fields n c.loop-change.fields) c.in-Some-next.is in
    let after : slice_cmp nat_cmp c.in-Some-next.field.name.now c.in-Some.change.now.name ≡ Greater = search rules in
    let so_far = same_left head first c.loop-change.invariant in
    let below = below_first (field_of c.in-Some-next.field) c.loop-change.fields c.in-Some.change.now after in
    missing_spelled _ _ _ _ _ _ _ so_far below c.in_ok-add_changed-in-Greater.ensures.accepted c.in_ok-add_changed-in-Greater.ensures.fits c.in_ok-add_changed-in-Greater.ensures.added

pub loop-change-preserved-in_default-next : goal.loop-change-preserved-in_default-next
loop-change-preserved-in_default-next c =
    let first = c.in-Some.ensures.cases.0 in
    let none : next_fields c.loop-change.next c.loop-change.fields ≡ [] = ap (λ (n : Option FieldRef). next_fields n c.loop-change.fields) c.in_default-next.is in
    let so_far = same_left none first c.loop-change.invariant in
    missing_spelled _ _ _ _ _ _ _ so_far tt c.in_ok-add_changed.ensures.accepted c.in_ok-add_changed.ensures.fits c.in_ok-add_changed.ensures.added

pub returns-in_err-add_changed-in-Equal-clause-refused : goal.returns-in_err-add_changed-in-Equal-clause-refused
returns-in_err-add_changed-in-Equal-clause-refused c =
    let first = c.in-Some.ensures.cases.0 in
    let head = ap (λ (n : Option FieldRef). next_fields n c.loop-change.fields) c.in-Some-next.is in
    let same : slice_cmp nat_cmp c.in-Some-next.field.name.now c.in-Some.change.now.name ≡ Equal = search rules in
    let so_far = same_left head first c.loop-change.invariant in
    let values : c.as_slice.result.now ≡ c.in-Some-next.field.values = search rules in
    let is = subst (λ (v : List Value). IsRefusalOf (if can_change c.in-Some.change.now.name v c.in-Some.change.now.how then None else Some c.in-Some.change.now.name)
    c.in_err-add_changed-in-Equal.field-0.0) values c.in_err-add_changed-in-Equal.ensures.refused in
    let all = refused_same _ _ _ _ _ _ _ _ so_far.merged same is in
    let p = err_from_is_err_and c.from_residual-in_err-add_changed-in-Equal.result c.from_residual-in_err-add_changed-in-Equal.ensures.1 in
    rw (p.1, p.2) all

pub returns-in_err-add_changed-in-Greater-clause-refused : goal.returns-in_err-add_changed-in-Greater-clause-refused
returns-in_err-add_changed-in-Greater-clause-refused c =
    let first = c.in-Some.ensures.cases.0 in
    let head = ap (λ (n : Option FieldRef). next_fields n c.loop-change.fields) c.in-Some-next.is in
    let after : slice_cmp nat_cmp c.in-Some-next.field.name.now c.in-Some.change.now.name ≡ Greater = search rules in
    let so_far = same_left head first c.loop-change.invariant in
    let below = below_first (field_of c.in-Some-next.field) c.loop-change.fields c.in-Some.change.now after in
    let all = refused_missing _ _ _ _ _ _ _ so_far.merged below c.in_err-add_changed-in-Greater.ensures.refused in
    let p = err_from_is_err_and c.from_residual-in_err-add_changed-in-Greater.result c.from_residual-in_err-add_changed-in-Greater.ensures.1 in
    rw (p.1, p.2) all

pub returns-clause-whole : goal.returns-clause-whole
returns-clause-whole c =
    let none = empty_list c.loop-change.changes_left.now c.in_default.ensures.cases in
    (all_spelled _ _ _ _ _ (same_left refl none c.loop-change.invariant) c.in_ok-push_left.ensures c.len-count.ensures.few).whole

pub returns-clause-document : goal.returns-clause-document
returns-clause-document c =
    let none = empty_list c.loop-change.changes_left.now c.in_default.ensures.cases in
    (all_spelled _ _ _ _ _ (same_left refl none c.loop-change.invariant) c.in_ok-push_left.ensures c.len-count.ensures.few).document
