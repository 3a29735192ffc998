-- The rows after edits ascend, and are the old ones with the changes.
use Rattle.std.proofs.Common.{◌≡◌, ℕ, suc, ◌+◌, ◌-◌, ◌^◌, ◌<◌, ◌≤◌, List, [], ◌∷◌, ◌++◌, true, false, cond, is_some, map, take, drop, length, slice_get, get_or, Option, Some, None, refl, sym, ap, subst, ◌∙◌, arith}
use Rattle.std.proofs.Math.Seq.{take-add}
use Rattle.std.proofs.lemmas.List.{drop-drop, drop-take, take-append-drop}
use Rattle.std.proofs.lemmas.List.Folds.{find-append}
use Rattle.std.proofs.lemmas.Option.{slice_get_read, slice_get-map}
use Rattle.std.specs.List.{AllByRecursion}
use Rattle.std.specs.Option.{option_or, option_map}
use Rattle.std.specs.declared.cmp.Ordering.{Ordering}
use Rattle.std.specs.declared.cmp.Ordering.TheVariants.{Less, Equal, Greater}
use Rattle.std.proofs.lemmas.Slice.Eq.{bytes_eq-Decides}
use Rattle.sc_record.specs.Writes.{Write, is_of, write_of, AscendById}
use Rattle.sc_snapshot.specs.declared.edits.Edit.{Edit}
use Rattle.sc_snapshot.specs.Edits.{put_in, next_of, edited, AreInOrder, AreBelow, AreAbove, IsPlace, AreEdits}
use Rattle.sc_snapshot.specs.Rows.{AreRows, AreChanged}
use Rattle.sc_snapshot.proofs.EditLemmas.{slice_get-drop}
use Rattle.sc_snapshot.proofs.PlaceLemmas.{order, order-back, one_id, lower_id, higher_id, each-at, after-at, each-append, each-take, each-drop, Ascend, ascend-from, ascend-to, ascend-take, ascend-drop, ascend-join, below-higher, above-lower, none_below, none_above, none_there}

-- the write of an id in two lists: that of the first, or else that of the second
abbrev first_of : Option Write → Option Write → Option Write
first_of one other = cond (is_some one) one other

-- ---- one edit
module _ (front there rest changes new : List Write) (write : Write) (id : List ℕ)
    (before : AreBelow write.id front) (same : AllByRecursion (λ (row : Write). row.id ≡ write.id) there)
    (after : AreAbove write.id rest) (later : AreAbove write.id changes)
    (is : write_of new id ≡ first_of (write_of changes id) (write_of rest id)) where
  left : write_of (front ++ write ∷ new) id ≡ option_or (write_of front id) (cond (is_of id write) (Some write) (write_of new id))
  left = find-append (is_of id) front (write ∷ new)

  right : write_of (front ++ (there ++ rest)) id ≡ option_or (write_of front id) (option_or (write_of there id) (write_of rest id))
  right = find-append (is_of id) front (there ++ rest) ∙ ap (option_or (write_of front id)) (find-append (is_of id) there rest)

  -- the id is lower than the write's, equal to it or higher
  by_order : (o : Ordering) → order id write.id ≡ o
      → option_or (write_of front id) (cond (is_of id write) (Some write) (write_of new id))
      ≡ first_of (cond (is_of id write) (Some write) (write_of changes id)) (option_or (write_of front id) (option_or (write_of there id) (write_of rest id)))
  by_order Less low =
      let apart : is_of id write ≡ false = higher_id write.id id low in
      let none_later = none_above id changes (above-lower id write.id changes low later) in
      let none_after = none_above id rest (above-lower id write.id rest low after) in
      let none_same = none_there id write.id there apart same in
      rw (apart, is, none_later, none_after, none_same) refl
  by_order Equal equal =
      let one : id ≡ write.id = one_id id write.id equal in
      let found : is_of id write ≡ true = (bytes_eq-Decides write.id id).1 (sym one) in
      let none_before : write_of front id ≡ None = none_below id front (subst (λ (x : List ℕ). AreBelow x front) (sym one) before) in
      rw (found, none_before) refl
  by_order Greater high =
      let low : order write.id id ≡ Less = order-back id write.id Greater high in
      let apart : is_of id write ≡ false = lower_id write.id id low in
      let none_before = none_below id front (below-higher write.id id front low before) in
      let none_same = none_there id write.id there apart same in
      rw (apart, is, none_before, none_same) refl

  pub changed-step : write_of (front ++ write ∷ new) id ≡ first_of (write_of (write ∷ changes) id) (write_of (front ++ (there ++ rest)) id)
  changed-step =
      left ∙ by_order (order id write.id) refl
      ∙ ap (first_of (cond (is_of id write) (Some write) (write_of changes id))) (sym right)

-- ---- all edits
-- what holds of the old rows and of the changes holds of the new rows
pub each-edited : (P : Write → Type 0) (old : List Write) (from : ℕ) (edits : List Edit) → AreInOrder (length old) from edits
    → AllByRecursion P (drop from old) → AllByRecursion P (map put_in edits) → AllByRecursion P (edited old from edits)
each-edited P old from [] in_order rows changes = rows
each-edited P old from (edit ∷ edits) in_order rows changes =
    let first = in_order.0 in
    each-append P (take (edit.at - from) (drop from old)) (put_in edit ∷ edited old (next_of edit) edits)
    (each-take P (edit.at - from) (drop from old) rows) (
      changes.0,
      each-edited P old (next_of edit) edits in_order.1
          (subst (AllByRecursion P) (drop-drop (next_of edit - from) from old ∙ ap (λ n. drop n old) (omega (arith, first)))
          (each-drop P (next_of edit - from) (drop from old) rows)) changes.1,
    )

module _ (old : List Write) (ascend : Ascend old) where
  -- the old rows from a number on are those up to an edit, those in its place and those after it
  split : (from : ℕ) (edit : Edit) → from ≤ edit.at
      → drop from old ≡ take (edit.at - from) (drop from old) ++ (take (next_of edit - edit.at) (drop edit.at old) ++ drop (next_of edit) old)
  split from edit first =
      let at : drop (edit.at - from) (drop from old) ≡ drop edit.at old =
      drop-drop (edit.at - from) from old ∙ ap (λ n. drop n old) (omega (arith, first)) in
      let next : drop (next_of edit - edit.at) (drop edit.at old) ≡ drop (next_of edit) old =
      drop-drop (next_of edit - edit.at) edit.at old ∙ ap (λ n. drop n old) (omega arith) in
      sym (take-append-drop (edit.at - from) (drop from old))
      ∙ ap (λ (rows : List Write). take (edit.at - from) (drop from old) ++ rows)
      (at ∙ sym (take-append-drop (next_of edit - edit.at) (drop edit.at old))
      ∙ ap (λ (rows : List Write). take (next_of edit - edit.at) (drop edit.at old) ++ rows) next)

  -- those up to the edit are below it
  below_front : (from : ℕ) (edit : Edit) → from ≤ edit.at → IsPlace old edit.at (next_of edit) (put_in edit).id
      → AreBelow (put_in edit).id (take (edit.at - from) (drop from old))
  below_front from edit first place =
      subst (AreBelow (put_in edit).id)
      (ap (λ n. drop from (take n old)) (let sum : edit.at ≡ from + (edit.at - from) = omega (arith, first) in sum) ∙ drop-take from (edit.at - from) old)
      (each-drop (λ (row : Write). order row.id (put_in edit).id ≡ Less) from (take edit.at old) place.before)

  pub edited-ascend : (from : ℕ) (edits : List Edit) → AreInOrder (length old) from edits
      → AllByRecursion (λ (edit : Edit). IsPlace old edit.at (next_of edit) (put_in edit).id) edits → Ascend (map put_in edits)
      → Ascend (edited old from edits)
  edited-ascend from [] in_order places changes = ascend-drop from old ascend
  edited-ascend from (edit ∷ edits) in_order places changes =
      ascend-join (take (edit.at - from) (drop from old)) (put_in edit) (edited old (next_of edit) edits)
      (ascend-take (edit.at - from) (drop from old) (ascend-drop from old ascend))
      (below_front from edit in_order.0 places.0) (
        each-edited (λ (row : Write). order (put_in edit).id row.id ≡ Less) old (next_of edit) edits in_order.1 places.0.after changes.0,
        edited-ascend (next_of edit) edits in_order.1 places.1 changes.1,
      )

  pub edited-changed : (from : ℕ) (edits : List Edit) → AreInOrder (length old) from edits
      → AllByRecursion (λ (edit : Edit). IsPlace old edit.at (next_of edit) (put_in edit).id) edits → Ascend (map put_in edits)
      → AreChanged (drop from old) (map put_in edits) (edited old from edits)
  edited-changed from [] in_order places changes id = refl
  edited-changed from (edit ∷ edits) in_order places changes id =
      let front = take (edit.at - from) (drop from old) in
      let there = take (next_of edit - edit.at) (drop edit.at old) in
      changed-step front there (drop (next_of edit) old) (map put_in edits) (edited old (next_of edit) edits) (put_in edit) id
      (below_front from edit in_order.0 places.0) places.0.there places.0.after changes.0
      (edited-changed (next_of edit) edits in_order.1 places.1 changes.1 id)
      ∙ ap (λ (rows : List Write). first_of (write_of (map put_in (edit ∷ edits)) id) (write_of rows id)) (sym (split from edit in_order.0))

-- the rows after the edits of changes
pub edits-ascend : (old changes : List Write) (edits : List Edit) → AscendById old → AscendById changes → AreEdits old changes edits
    → AscendById (edited old 0 edits)
edits-ascend old changes edits rows ascend are =
    ascend-to (edited old 0 edits) (edited-ascend old (ascend-from old rows) 0 edits are.in_order are.places
    (ascend-from (map put_in edits) (subst AscendById (sym are.put_in_all) ascend)))

pub edits-changed : (old changes : List Write) (edits : List Edit) → AscendById old → AscendById changes → AreEdits old changes edits
    → AreChanged old changes (edited old 0 edits)
edits-changed old changes edits rows ascend are =
    subst (λ (writes : List Write). AreChanged old writes (edited old 0 edits)) are.put_in_all
    (edited-changed old (ascend-from old rows) 0 edits are.in_order are.places
    (ascend-from (map put_in edits) (subst AscendById (sym are.put_in_all) ascend)))

-- they are rows, and have the changes
pub rows-after : (before old changes : List Write) (edits : List Edit) → old ≡ before → AreRows old → AscendById changes → AreEdits old changes edits
    → ((rows : List Write) → AscendById rows → AreChanged before changes rows → length rows ≤ 2 ^ 24)
    → AreRows (edited old 0 edits) × AreChanged before changes (edited old 0 edits)
rows-after before old changes edits same rows ascend are bounded =
    let up = edits-ascend old changes edits rows.ascend ascend are in
    let changed = subst (λ (these : List Write). AreChanged these changes (edited old 0 edits)) same (edits-changed old changes edits rows.ascend ascend are) in
    (record { ascend = up; bounded = bounded (edited old 0 edits) up changed }, changed)

-- ---- an edit more
-- where the edits so far leave off
abbrev pub end_of : ℕ → List Edit → ℕ
end_of from [] = from
end_of from (edit ∷ edits) = end_of (next_of edit) edits

pub order-push : (rows from : ℕ) (edits : List Edit) (edit : Edit) → AreInOrder rows from edits → end_of from edits ≤ edit.at → next_of edit ≤ rows
    → AreInOrder rows from (edits ++ edit ∷ [])
order-push rows from [] edit in_order after bounded = (after, bounded)
order-push rows from (first ∷ edits) edit in_order after bounded = (in_order.0, order-push rows (next_of first) edits edit in_order.1 after bounded)

pub end-bounded : (rows from : ℕ) (edits : List Edit) → AreInOrder rows from edits → end_of from edits ≤ rows
end-bounded rows from [] in_order = in_order
end-bounded rows from (edit ∷ edits) in_order = end-bounded rows (next_of edit) edits in_order.1

pub end-push : (from : ℕ) (edits : List Edit) (edit : Edit) → end_of from (edits ++ edit ∷ []) ≡ next_of edit
end-push from [] edit = refl
end-push from (first ∷ edits) edit = end-push (next_of first) edits edit

-- the rows before the first after an edit are below each higher id
pub below-next : (old : List Write) (at next : ℕ) (id higher : List ℕ) → at ≤ next → IsPlace old at next id → order id higher ≡ Less
    → AreBelow higher (take next old)
below-next old at next id higher more place h =
    subst (AreBelow higher)
    (take-two at (next - at) old ∙ ap (λ n. take n old) (let sum : at + (next - at) ≡ next = omega (arith, more) in sum))
    (each-append (λ (row : Write). order row.id higher ≡ Less) (take at old) (take (next - at) (drop at old))
    (below-higher id higher (take at old) h place.before)
    (alike (take (next - at) (drop at old)) place.there))
  where
    alike : (rows : List Write) → AllByRecursion (λ (row : Write). row.id ≡ id) rows → AreBelow higher rows
    alike [] all = tt
    alike (row ∷ rows) all = (ap (λ (x : List ℕ). order x higher) all.0 ∙ h, alike rows all.1)

    take-two : (n m : ℕ) (rows : List Write) → take n rows ++ take m (drop n rows) ≡ take (n + m) rows
    take-two n m rows = sym (take-add n m rows)

-- ---- a change more
-- a cell that was read is the row of that number
pub row_at : {C : Type 0} (value : C → Write) (cells : List C) (number : ℕ) (cell : C) → number < length cells → cell ≡ get_or cells number cell
    → slice_get (map value cells) number ≡ Some (value cell)
row_at value cells number cell within is =
    slice_get-map value cells number ∙ ap (option_map value) (slice_get_read cells (length cells) number cell refl within is)

-- a later change is above
pub later-above : (changes : List Write) (index k : ℕ) (one other : Write) → AscendById changes → slice_get changes index ≡ Some one
    → slice_get changes k ≡ Some other → index < k → order one.id other.id ≡ Less
later-above changes index k one other ascend at_one at_other before =
    each-at (λ (row : Write). order one.id row.id ≡ Less) (drop (suc index) changes) (k - suc index) other
    (after-at changes index one (ascend-from changes ascend) at_one)
    (slice_get-drop (suc index) changes (k - suc index) k (omega (arith, before)) ∙ at_other)
