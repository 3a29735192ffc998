-- The parts of a text are read as ranges.
use Rattle.std.proofs.Common.{◌≡◌, ℕ, zero, suc, ◌<◌, ◌≤◌, ℤ, Bool, true, false, ◌&&◌, cond, List, [], ◌∷◌, ◌++◌, length, map, get_or, Bor, Option, Some, None, refl, sym, ap, ◌∙◌, arith}
use Rattle.std.specs.Prelude.{nat_le}
use Rattle.std.specs.Option.{option_map}
use Rattle.std.proofs.lemmas.Bool.{le-leb, leb-true}
use Rattle.std.proofs.lemmas.List.{length-map, map-append}
use Rattle.sc_hash.specs.Bounds.{bounds}
use Rattle.sc_hash.specs.declared.range.Range.{Range}
use Rattle.sc_model.specs.Parameters.{between_commas}
use Rattle.sc_board.specs.Splits.{least_parts, most_parts}
use Rattle.sc_admin.specs.Ranges.{all_some, may_be_parts, range_of, ranges_of}

-- values that are all there
all_some-map : {X : Type 0} (values : List X) → all_some (map Some values) ≡ Some values
all_some-map [] = refl
all_some-map (value ∷ values) = ap (option_map (λ rest. value ∷ rest)) (all_some-map values)

-- one value that is not there
all_some-none : {X : Type 0} (of : List ℕ → Option X) (parts : List (List ℕ)) (i : ℕ) (part : List ℕ) → i < length parts
    → part ≡ get_or parts i part → of part ≡ None → all_some (map of parts) ≡ None
all_some-none of [] i part within is none = absurd (omega arith)
all_some-none of (first ∷ parts) zero part within is none = rw (sym (ap of is) ∙ none) refl
all_some-none {X = X} of (first ∷ parts) (suc i) part within is none =
    by (of first) (all_some-none of parts i part (omega arith) is none) where
      by : (value : Option X) → all_some (map of parts) ≡ None → all_some (value ∷ map of parts) ≡ None
      by None rest = refl
      by (Some value) rest = ap (option_map (λ others. value ∷ others)) rest

-- a choice whose second way is to refuse
refused : {X : Type 0} (t : Bool) (value : Option X) → value ≡ None → None ≡ cond t value None
refused true value none = sym none
refused false value none = refl

not_chosen : {X : Type 0} (t : Bool) (value : Option X) → (t ≡ true → ⊥) → None ≡ cond t value None
not_chosen true value never = absurd (never refl)
not_chosen false value never = refl

both_true : (a b : Bool) → a && b ≡ true → (a ≡ true) × (b ≡ true)
both_true true b h = (refl, h)
both_true false b h = cc

within_parts : (n : ℕ) → least_parts ≤ n → n ≤ most_parts → may_be_parts n ≡ true
within_parts n least most = rw (le-leb least_parts n least, le-leb n most_parts most) refl

parts_within : (n : ℕ) → may_be_parts n ≡ true → (least_parts ≤ n) × (n ≤ most_parts)
parts_within n h =
    let both = both_true (nat_le least_parts n) (nat_le n most_parts) h in
    (leb-true least_parts n both.0, leb-true n most_parts both.1)

-- a part that is no range
pub ranges_of-no_range : (text : List ℕ) (i : ℕ) (part : List ℕ) → i < length (between_commas text)
    → part ≡ get_or (between_commas text) i part → range_of part ≡ None → None ≡ ranges_of text
ranges_of-no_range text i part within is none =
    refused (may_be_parts (length (between_commas text))) (all_some (map range_of (between_commas text)))
    (all_some-none range_of (between_commas text) i part within is none)

-- more parts than a cut may have
pub ranges_of-too_many : (text : List ℕ) → most_parts < length (between_commas text) → None ≡ ranges_of text
ranges_of-too_many text more =
    not_chosen (may_be_parts (length (between_commas text))) (all_some (map range_of (between_commas text)))
    (λ h. let both = parts_within (length (between_commas text)) h in omega arith)

-- as many ranges as parts
same_length : (ranges : List (ℤ × ℤ)) (parts : List (List ℕ)) → map Some ranges ≡ map range_of parts → length ranges ≡ length parts
same_length ranges parts same = sym (length-map ranges Some) ∙ ap length same ∙ length-map parts range_of

-- fewer than a cut may have
pub ranges_of-too_few : (text : List ℕ) (ranges : List (ℤ × ℤ)) → map Some ranges ≡ map range_of (between_commas text)
    → length ranges < least_parts → None ≡ ranges_of text
ranges_of-too_few text ranges same few =
    let as_many = same_length ranges (between_commas text) same in
    not_chosen (may_be_parts (length (between_commas text))) (all_some (map range_of (between_commas text)))
    (λ h. let both = parts_within (length (between_commas text)) h in omega arith)

-- every part is a range
pub ranges_of-all : (text : List ℕ) (ranges : List (ℤ × ℤ)) → map Some ranges ≡ map range_of (between_commas text)
    → least_parts ≤ length ranges → length ranges ≤ most_parts → Some ranges ≡ ranges_of text
ranges_of-all text ranges same least most =
    let as_many = same_length ranges (between_commas text) same in
    let within : may_be_parts (length (between_commas text)) ≡ true = within_parts (length (between_commas text)) (omega arith) (omega arith) in
    let all : all_some (map range_of (between_commas text)) ≡ Some ranges = ap all_some (sym same) ∙ all_some-map ranges in
    rw (within, all) refl

-- as many ranges as texts that were yielded
pub same_number : (ranges : List Range) (yielded : List (Bor (List ℕ)))
    → map Some (map bounds ranges) ≡ map range_of (map (λ (part : Bor (List ℕ)). part.now) yielded) → length ranges ≡ length yielded
same_number ranges yielded same =
    let right = length-map (map (λ (part : Bor (List ℕ)). part.now) yielded) range_of ∙ length-map yielded (λ (part : Bor (List ℕ)). part.now) in
    sym (length-map (map bounds ranges) Some ∙ length-map ranges bounds) ∙ ap length same ∙ right

-- one more range, of one more text
pub one_more : (ranges new : List Range) (range : Range) (yielded : List (Bor (List ℕ))) (part : Bor (List ℕ))
    → map Some (map bounds ranges) ≡ map range_of (map (λ (part : Bor (List ℕ)). part.now) yielded)
    → new ≡ ranges ++ range ∷ [] → Some (bounds range) ≡ range_of part.now
    → map Some (map bounds new) ≡ map range_of (map (λ (part : Bor (List ℕ)). part.now) (yielded ++ part ∷ []))
one_more ranges new range yielded part read more here =
    let left : map Some (map bounds (ranges ++ range ∷ [])) ≡ map Some (map bounds ranges) ++ Some (bounds range) ∷ [] = simp map-append in
    let right : map range_of (map (λ (part : Bor (List ℕ)). part.now) (yielded ++ part ∷ []))
    ≡ map range_of (map (λ (part : Bor (List ℕ)). part.now) yielded) ++ range_of part.now ∷ [] = simp map-append in
    ap (λ list. map Some (map bounds list)) more
    ∙ left
    ∙ ap (λ list. list ++ Some (bounds range) ∷ []) read
    ∙ ap (λ last. map range_of (map (λ (part : Bor (List ℕ)). part.now) yielded) ++ last ∷ []) here
    ∙ sym right
