-- Rows whose new numbers were put at the end ahead of their keys.
use Rattle.std.proofs.Common.{◌≡◌, ℕ, ◌+◌, ◌-◌, ◌≤◌, List, [], ◌++◌, length, take, drop, Option, refl, sym, ap, subst, ◌∙◌, arith}
use Rattle.std.proofs.Math.Seq.{take-add}
use Rattle.std.proofs.lemmas.List.{length-append, length-take-le, take-append-drop, take-append-le, take_at, take_all, length-drop, drop-append-le, drop-drop, drop_at, drop_all}
use Rattle.std.specs.List.{slice_range}
use Rattle.sc_rows.proofs.RangeLemmas.{numbers-join, length-range}
use Rattle.sc_rows.specs.Moving.{new_numbers, AreKept}

-- ---- the rows of the next key, and those after them
-- from a place on, a list has the new numbers of old rows from one place up to another, each of which has one
pub record IsAhead (moved : List (Option ℕ)) (old_rows : List ℕ) (begins passed start : ℕ) (rows : List ℕ) : Type 0 where
  pub rises : begins ≤ passed
  pub in_old : passed ≤ length old_rows
  pub in_new : start ≤ length rows
  pub numbers : drop start rows ≡ new_numbers moved (slice_range old_rows begins passed)
  pub kept : AreKept moved (slice_range old_rows begins passed)

-- nothing is there yet
pub ahead-start : (moved : List (Option ℕ)) (old_rows : List ℕ) (begins passed start : ℕ) (rows : List ℕ) → passed ≡ begins → passed ≤ length old_rows → start ≡ length rows
    → IsAhead moved old_rows begins passed start rows
ahead-start moved old_rows begins passed start rows same within all =
    let zero_long : passed - begins ≡ 0 = omega (arith, same) in
    let none : slice_range old_rows begins passed ≡ [] = ap (λ (n : ℕ). take n (drop begins old_rows)) zero_long in
    let past : length rows ≤ start = omega (arith, all) in
    record {
      rises = omega (arith, same);
      in_old = within;
      in_new = omega (arith, all);
      numbers = drop_all start rows past ∙ sym (ap (new_numbers moved) none);
      kept = subst (AreKept moved) (sym none) refl;
    }

-- where all old rows were passed, none is ahead
pub ahead-all : (moved : List (Option ℕ)) (old_rows : List ℕ) (begins passed start : ℕ) (rows : List ℕ) → IsAhead moved old_rows begins passed start rows → length old_rows ≤ begins → take start rows ≡ rows
ahead-all moved old_rows begins passed start rows ahead all =
    let none : drop begins old_rows ≡ [] = drop_all begins old_rows all in
    let none_long : slice_range old_rows begins passed ≡ [] = ap (take (passed - begins)) none ∙ take_all (passed - begins) [] (omega arith) in
    let empty : length (drop start rows) ≡ 0 = ap length (ahead.numbers ∙ ap (new_numbers moved) none_long) in
    take_all start rows (omega (arith, empty, length-drop start rows))

-- rows were pushed at least up to where those of the next key end
module _ (moved : List (Option ℕ)) (old_rows rows rows' : List ℕ) (begins passed start old_end passed' : ℕ) (ahead : IsAhead moved old_rows begins passed start rows)
    (longer : rows' ≡ rows ++ new_numbers moved (slice_range old_rows passed passed')) (from : begins ≤ old_end) (rises : passed ≤ passed') (reaches : old_end ≤ passed') (within : passed' ≤ length old_rows)
    (kept : AreKept moved (slice_range old_rows old_end passed')) where
  -- the new numbers of the key's rows, and those after them
  abbrev of_key : List ℕ
  of_key = new_numbers moved (slice_range old_rows begins old_end)

  abbrev after : List ℕ
  after = new_numbers moved (slice_range old_rows old_end passed')

  rest : drop start rows' ≡ of_key ++ after
  rest =
      ap (drop start) longer
      ∙ drop-append-le start rows (new_numbers moved (slice_range old_rows passed passed')) ahead.in_new
      ∙ ap (λ (ns : List ℕ). ns ++ new_numbers moved (slice_range old_rows passed passed')) ahead.numbers
      ∙ sym (numbers-join moved old_rows begins passed passed' ahead.rises rises)
      ∙ numbers-join moved old_rows begins old_end passed' from reaches

  first : take start rows' ≡ take start rows
  first = ap (take start) longer ∙ take-append-le start rows (new_numbers moved (slice_range old_rows passed passed')) ahead.in_new

  -- the rows of the keys that were passed come first
  pub pushed-split : rows' ≡ take start rows ++ drop start rows'
  pushed-split = sym (take-append-drop start rows') ∙ ap (λ (ns : List ℕ). ns ++ drop start rows') first

  pub pushed-count : length rows' ≡ start + length of_key + (passed' - old_end)
  pushed-count =
      let all = length-range old_rows old_end passed' reaches within in
      let split = sym (length-drop start rows') ∙ ap length rest ∙ length-append of_key after in
      let grows = ap length longer ∙ length-append rows (new_numbers moved (slice_range old_rows passed passed')) in
      omega (arith, kept, all, split, grows, ahead.in_new)

  module _ (end : ℕ) (is : end ≡ length rows' - (passed' - old_end)) where
    -- the key's rows end where all do but those after them
    pub end-counted : end ≡ start + length of_key
    end-counted = omega (arith, is, pushed-count)

    -- up to there the list has the key's rows more
    pub end-closed : take end rows' ≡ take start rows ++ of_key
    end-closed =
        ap (λ (n : ℕ). take n rows') end-counted
        ∙ take-add start (length of_key) rows'
        ∙ ap (λ (ns : List ℕ). take start rows' ++ take (length of_key) ns) rest
        ∙ ap (λ (ns : List ℕ). take start rows' ++ ns) (take_at of_key after (length of_key) refl)
        ∙ ap (λ (ns : List ℕ). ns ++ of_key) first

    pub end-long : length (take end rows') ≡ end
    end-long = length-take-le end rows' (omega (arith, is))

    pub end-ahead : IsAhead moved old_rows old_end passed' end rows'
    end-ahead = record {
      rises = reaches;
      in_old = within;
      in_new = omega (arith, is);
      numbers = ap (λ (n : ℕ). drop n rows') end-counted ∙ sym (drop-drop (length of_key) start rows') ∙ ap (drop (length of_key)) rest ∙ drop_at of_key after (length of_key) refl;
      kept = kept;
    }
