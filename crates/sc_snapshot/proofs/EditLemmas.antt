-- What edits make of rows, an edit at a time.
use Rattle.std.proofs.Common.{◌≡◌, ℕ, zero, suc, ◌+◌, ◌-◌, ◌<◌, ◌≤◌, List, [], ◌∷◌, ◌++◌, take, drop, length, slice_get, get_or, Some, refl, sym, ap, subst, ◌∙◌, arith, length-append}
use Rattle.std.proofs.lemmas.List.{drop_more, drop-drop, drop_all, length-take-le, length-drop}
use Rattle.std.proofs.lemmas.Option.{slice_get_within}
use Rattle.sc_record.specs.Writes.{Write}
use Rattle.sc_snapshot.specs.declared.edits.Edit.{Edit}
use Rattle.sc_snapshot.specs.Edits.{put_in, next_of, edited, AreInOrder, IsRest}

-- ---- the n-th of lists
-- within the first of two lists
pub slice_get-front : {X : Type 0} (xs ys : List X) (k : ℕ) → k < length xs → slice_get (xs ++ ys) k ≡ slice_get xs k
slice_get-front [] ys k within = absurd (omega (arith, within))
slice_get-front (x ∷ xs) ys zero within = refl
slice_get-front (x ∷ xs) ys (suc k) within = slice_get-front xs ys k (omega (arith, within))

-- past the first of two lists
pub slice_get-back : {X : Type 0} (xs ys : List X) (n k : ℕ) → n ≡ length xs + k → slice_get (xs ++ ys) n ≡ slice_get ys k
slice_get-back [] ys n k is = ap (slice_get ys) (omega (arith, is))
slice_get-back (x ∷ xs) ys zero k is = absurd (omega (arith, is))
slice_get-back (x ∷ xs) ys (suc n) k is = slice_get-back xs ys n k (omega (arith, is))

-- within the first so many
pub slice_get-take : {X : Type 0} (n : ℕ) (xs : List X) (k : ℕ) → k < n → slice_get (take n xs) k ≡ slice_get xs k
slice_get-take zero xs k below = absurd (omega (arith, below))
slice_get-take (suc n) [] k below = refl
slice_get-take (suc n) (x ∷ xs) zero below = refl
slice_get-take (suc n) (x ∷ xs) (suc k) below = slice_get-take n xs k (omega (arith, below))

-- past the first so many
pub slice_get-drop : {X : Type 0} (n : ℕ) (xs : List X) (k m : ℕ) → m ≡ n + k → slice_get (drop n xs) k ≡ slice_get xs m
slice_get-drop zero xs k m is = ap (slice_get xs) (omega (arith, is))
slice_get-drop (suc n) [] k m is = refl
slice_get-drop (suc n) (x ∷ xs) k zero is = absurd (omega (arith, is))
slice_get-drop (suc n) (x ∷ xs) k (suc m) is = slice_get-drop n xs k m (omega (arith, is))

-- ---- edits in order
-- the first is within the rows
pub order-bounded : (rows from : ℕ) (edits : List Edit) → AreInOrder rows from edits → from ≤ rows
order-bounded rows from [] order = order
order-bounded rows from (edit ∷ edits) order =
    let rest = order-bounded rows (next_of edit) edits order.1 in
    let first = order.0 in
    omega (arith, rest, first)

-- nothing is made yet
pub rest-init : (old : List Write) (edits : List Edit) → AreInOrder (length old) 0 edits → IsRest old (edited old 0 edits) 0 0 edits
rest-init old edits order = record { rest = refl; within = omega arith; in_order = order }

module _ (old new : List Write) (from number : ℕ) where
  -- the rows up to an edit are the old ones
  kept_first : (edits : List Edit) (stop k : ℕ) (more : List Write) → drop number new ≡ take (stop - from) (drop from old) ++ more
      → stop ≤ length old → k < stop - from → slice_get old (from + k) ≡ slice_get new (number + k)
  kept_first edits stop k more is bounded below =
      let size = length-drop from old in
      let long : length (take (stop - from) (drop from old)) ≡ stop - from =
      length-take-le (stop - from) (drop from old) (omega (arith, size, bounded)) in
      sym (sym (slice_get-drop number new k (number + k) refl)
      ∙ ap (λ (rows : List Write). slice_get rows k) is
      ∙ slice_get-front (take (stop - from) (drop from old)) more k (omega (arith, long, below))
      ∙ slice_get-take (stop - from) (drop from old) k below
      ∙ slice_get-drop from old k (from + k) refl)

  module _ (edit : Edit) (edits : List Edit) (is : IsRest old new from number (edit ∷ edits)) where
    -- an edit is within the rows
    pub edit-bounded : (from ≤ edit.at) × (edit.at ≤ length old) × (next_of edit ≤ length old) × (edit.at ≤ next_of edit)
    edit-bounded =
        let next = order-bounded (length old) (next_of edit) edits is.in_order.1 in
        (is.in_order.0, omega (arith, next), next, omega arith)

    kept_size : length (take (edit.at - from) (drop from old)) ≡ edit.at - from
    kept_size =
        let size = length-drop from old in
        let bounds = edit-bounded in
        length-take-le (edit.at - from) (drop from old) (omega (arith, size, bounds.1))

    pub rest-kept : (k : ℕ) → k < edit.at - from → slice_get old (from + k) ≡ slice_get new (number + k)
    rest-kept k below = kept_first edits edit.at k (put_in edit ∷ edited old (next_of edit) edits) is.rest edit-bounded.1 below

    -- the edit's write is the next new row
    pub rest-put : slice_get new (number + (edit.at - from)) ≡ Some (put_in edit)
    rest-put =
        sym (slice_get-drop number new (edit.at - from) (number + (edit.at - from)) refl)
        ∙ ap (λ (rows : List Write). slice_get rows (edit.at - from)) is.rest
        ∙ slice_get-back (take (edit.at - from) (drop from old)) (put_in edit ∷ edited old (next_of edit) edits) (edit.at - from) 0
        (let size = kept_size in omega (arith, size))

    -- which is within the new rows
    pub rest-within : number + (edit.at - from) < length new
    rest-within = slice_get_within new (number + (edit.at - from)) (put_in edit) rest-put

    -- and the rest follows
    pub rest-next : IsRest old new (next_of edit) (number + (edit.at - from) + 1) edits
    rest-next =
        let front = take (edit.at - from) (drop from old) in
        let more = edited old (next_of edit) edits in
        let size = kept_size in
        let within = rest-within in
        record {
          rest = sym (drop-drop (edit.at - from + 1) number new
              ∙ ap (λ n. drop n new) (number-is))
              ∙ ap (drop (edit.at - from + 1)) is.rest
              ∙ drop_front front (put_in edit) more (edit.at - from + 1) (omega (arith, size));
          within = omega (arith, within);
          in_order = is.in_order.1;
        }
      where
        number-is : number + (edit.at - from + 1) ≡ number + (edit.at - from) + 1
        number-is = omega arith

        drop_front : (xs : List Write) (y : Write) (ys : List Write) (n : ℕ) → n ≡ length xs + 1 → drop n (xs ++ y ∷ ys) ≡ ys
        drop_front [] y ys zero same = absurd (omega (arith, same))
        drop_front [] y ys (suc n) same = ap (λ k. drop k ys) (let none : n ≡ 0 = omega (arith, same) in none)
        drop_front (x ∷ xs) y ys zero same = absurd (omega (arith, same))
        drop_front (x ∷ xs) y ys (suc n) same = drop_front xs y ys n (omega (arith, same))

  -- ---- past the last edit
  module _ (is : IsRest old new from number []) where
    pub last-bounded : from ≤ length old
    last-bounded = is.in_order

    pub last-kept : (k : ℕ) → k < length old - from → slice_get old (from + k) ≡ slice_get new (number + k)
    last-kept k below =
        sym (sym (slice_get-drop number new k (number + k) refl)
        ∙ ap (λ (rows : List Write). slice_get rows k) is.rest
        ∙ slice_get-drop from old k (from + k) refl)

    pub last-size : number + (length old - from) ≡ length new
    last-size =
        let there : length (drop number new) ≡ length (drop from old) = ap (λ (rows : List Write). length rows) is.rest in
        let new_size = length-drop number new in
        let old_size = length-drop from old in
        let within = is.within in
        omega (arith, there, new_size, old_size, within)

-- the next edit of those that are left
pub rest-at : (old new : List Write) (from number : ℕ) (edits : List Edit) (index : ℕ) (edit : Edit) → index < length edits
    → edit ≡ get_or edits index edit → IsRest old new from number (drop index edits) → IsRest old new from number (edit ∷ drop (index + 1) edits)
rest-at old new from number edits index edit within at is =
    subst (IsRest old new from number)
    (drop_more edits index edit within ∙ ap (λ (e : Edit). e ∷ drop (index + 1) edits) (sym at)) is

-- none is left
pub rest-end : (old new : List Write) (from number : ℕ) (edits : List Edit) (index : ℕ) → length edits ≤ index
    → IsRest old new from number (drop index edits) → IsRest old new from number []
rest-end old new from number edits index past is = subst (IsRest old new from number) (drop_all index edits past) is

-- what holds of the edits that are left
pub left-at : (P : List Edit → Type 0) (edits : List Edit) (index : ℕ) (edit : Edit) → index < length edits → edit ≡ get_or edits index edit
    → P (drop index edits) → P (edit ∷ drop (index + 1) edits)
left-at P edits index edit within at is =
    subst P (drop_more edits index edit within ∙ ap (λ (e : Edit). e ∷ drop (index + 1) edits) (sym at)) is

-- the rows so far and those up to the next edit are fewer than all
pub some-rows : (old so_far all : List Write) (from : ℕ) (edit : Edit) (edits : List Edit) → AreInOrder (length old) from (edit ∷ edits)
    → so_far ++ edited old from (edit ∷ edits) ≡ all → length so_far + (edit.at - from) < length all
some-rows old so_far all from edit edits in_order is =
    let front = take (edit.at - from) (drop from old) in
    let back = put_in edit ∷ edited old (next_of edit) edits in
    let next = order-bounded (length old) (next_of edit) edits in_order.1 in
    let size = length-drop from old in
    let kept = length-take-le (edit.at - from) (drop from old) (omega (arith, size, next)) in
    let whole : length (so_far ++ (front ++ back)) ≡ length all = ap (λ (rows : List Write). length rows) is in
    let first = length-append so_far (front ++ back) in
    let second = length-append front back in
    omega (arith, whole, first, second, kept)

-- and the last ones
pub last-rows : (old so_far all : List Write) (from : ℕ) → so_far ++ drop from old ≡ all → length so_far + (length old - from) ≡ length all
last-rows old so_far all from is =
    let size = length-drop from old in
    let whole : length (so_far ++ drop from old) ≡ length all = ap (λ (rows : List Write). length rows) is in
    let first = length-append so_far (drop from old) in
    omega (arith, whole, first, size)
