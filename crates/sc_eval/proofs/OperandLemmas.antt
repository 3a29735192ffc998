-- What one more waits, that what waits is smaller than the whole, and which rows two criteria find together.
use Rattle.std.proofs.Common.{◌≡◌, ◌<◌, ◌≤◌, ℕ, ◌+◌, Bool, true, false, not, ◌&&◌, ◌||◌, List, [], ◌∷◌, ◌++◌, All, Option, None, Some, slice_get, refl, ap, sym, ◌∙◌, subst, arith}
use Rattle.std.proofs.Math.Path.{ap₂}
use Rattle.std.proofs.lemmas.Option.{slice_get_within, get_or_from_slice_get}
use Rattle.std.specs.List.Sorted.{IsStrictlyIncreasing}
use Rattle.sc_values.specs.declared.field.Field.{Field}
use Rattle.sc_record.specs.declared.term.Term.{Term}
use Rattle.sc_record.specs.Writes.{Write}
use Rattle.sc_journal.specs.Legal.{HasTerms}
use Rattle.sc_snapshot.specs.Postings.{has_term, is_live_at}
use Rattle.sc_rows.specs.Joining.{has_row, keeps, IsJoin}
use Rattle.sc_rows.specs.declared.joining.Kept.{Kept}
use Rattle.sc_rows.specs.declared.joining.Kept.TheVariants.{Both, Either, LeftAlone}
use Rattle.sc_eval.specs.Criteria.{Criterion, criterion_of}
use Rattle.sc_eval.specs.Matching.{matches, is_live}
use Rattle.sc_eval.specs.Operands.{joined_by, criterion_with}
use Rattle.sc_eval.specs.Numbers.{passes, is_match, leaves, AreNumbersOf}
use Rattle.sc_eval.specs.declared.operand.Right.{Right}
use Rattle.sc_eval.proofs.TermLemmas.{terms-say}

-- the innermost of what waits is joined first
criterion_with-push : (waiting : List Right) (one : Right) (left : Criterion)
    → criterion_with (waiting ++ one ∷ []) left ≡ criterion_with waiting (joined_by one.how left (criterion_of one.operand.now))
criterion_with-push [] one left = refl
criterion_with-push (first ∷ waiting) one left =
    ap (λ (c : Criterion). joined_by first.how c (criterion_of first.operand.now)) (criterion_with-push waiting one left)

-- the whole after a step to the left
pub criterion_with-step : (waiting pushed : List Right) (one : Right) (whole left : Criterion) → pushed ≡ waiting ++ one ∷ []
    → whole ≡ criterion_with waiting (joined_by one.how left (criterion_of one.operand.now)) → whole ≡ criterion_with pushed left
criterion_with-step waiting pushed one whole left pushes is =
    is ∙ sym (criterion_with-push waiting one left) ∙ sym (ap (λ (ws : List Right). criterion_with ws left) pushes)

-- and after a step back
pub criterion_with-back : (waiting popped : List Right) (one : Right) (whole left : Criterion) → waiting ≡ popped ++ one ∷ []
    → whole ≡ criterion_with waiting left → whole ≡ criterion_with popped (joined_by one.how left (criterion_of one.operand.now))
criterion_with-back waiting popped one whole left pops is =
    is ∙ ap (λ (ws : List Right). criterion_with ws left) pops ∙ criterion_with-push popped one left

-- how many nodes a criterion has
abbrev pub size : Criterion → ℕ
size Criterion.All = 1
size (Criterion.Leaf term) = 1
size (Criterion.Not operand) = size operand + 1
size (Criterion.And left right) = size left + size right + 1
size (Criterion.Or left right) = size left + size right + 1

joined-size : (how : Kept) (left right : Criterion) → size left + size right < size (joined_by how left right)
joined-size Both left right = omega arith
joined-size Either left right = omega arith
joined-size LeftAlone left right = omega arith

with-size : (waiting : List Right) (left : Criterion) → size left ≤ size (criterion_with waiting left)
with-size [] left = omega arith
with-size (one ∷ waiting) left =
    let rest = with-size waiting left in
    let here = joined-size one.how (criterion_with waiting left) (criterion_of one.operand.now) in
    omega (arith, rest, here)

pub joined-leaves : (how : Kept) (left right : Criterion) → leaves (joined_by how left right) ≡ leaves left + leaves right
joined-leaves Both left right = refl
joined-leaves Either left right = refl
joined-leaves LeftAlone left right = refl

pub with-leaves : (waiting : List Right) (left : Criterion) → leaves left ≤ leaves (criterion_with waiting left)
with-leaves [] left = omega arith
with-leaves (one ∷ waiting) left =
    let rest = with-leaves waiting left in
    let here = joined-leaves one.how (criterion_with waiting left) (criterion_of one.operand.now) in
    omega (arith, rest, here)

-- an operand that waits is smaller than the whole
pub right-smaller : (waiting : List Right) (one : Right) (whole left : Criterion)
    → whole ≡ criterion_with waiting (joined_by one.how left (criterion_of one.operand.now)) → size (criterion_of one.operand.now) < size whole
right-smaller waiting one whole left is =
    let both = joined-size one.how left (criterion_of one.operand.now) in
    let whole_size = with-size waiting (joined_by one.how left (criterion_of one.operand.now)) in
    omega (arith, both, whole_size, ap size is)

-- and so is the operand of a NOT that stands leftmost
pub not-smaller : (waiting : List Right) (whole operand : Criterion) → whole ≡ criterion_with waiting (Criterion.Not operand)
    → size operand < size whole
not-smaller waiting whole operand is = omega (arith, with-size waiting (Criterion.Not operand), ap size is)

-- which rows are found by what is kept of two criteria' rows

both : (live l r : Bool) → (live && (l && r)) ≡ ((live && l) && (live && r))
both true l r = refl
both false l r = refl

either : (live l r : Bool) → (live && (l || r)) ≡ ((live && l) || (live && r))
either true l r = refl
either false l r = refl

left_alone : (live l r : Bool) → (live && (l && not r)) ≡ ((live && l) && not (live && r))
left_alone true l r = refl
left_alone false l r = refl

joined-match : (how : Kept) (left right : Criterion) (row : Write)
    → is_match (joined_by how left right) row ≡ keeps how (is_match left row) (is_match right row)
joined-match Both left right row = both (is_live row) (matches left row) (matches right row)
joined-match Either left right row = either (is_live row) (matches left row) (matches right row)
joined-match LeftAlone left right row = left_alone (is_live row) (matches left row) (matches right row)

none-kept : (how : Kept) → false ≡ keeps how false false
none-kept Both = refl
none-kept Either = refl
none-kept LeftAlone = refl

joined-passes : (how : Kept) (left right : Criterion) (row : Option Write)
    → passes (is_match (joined_by how left right)) row ≡ keeps how (passes (is_match left) row) (passes (is_match right) row)
joined-passes how left right None = none-kept how
joined-passes how left right (Some row) = joined-match how left right row

-- the numbers of two criteria, joined, are those of the criterion that joins them
pub joined-numbers : (how : Kept) (left right : Criterion) (rows : List Write) (ls rs found : List ℕ)
    → AreNumbersOf (is_match left) rows ls → AreNumbersOf (is_match right) rows rs → IsJoin how ls rs found
    → AreNumbersOf (is_match (joined_by how left right)) rows found
joined-numbers how left right rows ls rs found lefts rights joined = record {
  members = λ number. joined.members number
      ∙ ap₂ (keeps how) (lefts.members number) (rights.members number)
      ∙ sym (joined-passes how left right (slice_get rows number));
  ascending = joined.ascending;
}

live-alone : (operand : Criterion) (row : Option Write)
    → keeps LeftAlone (is_live_at row) (passes (is_match operand) row) ≡ passes (is_match (Criterion.Not operand)) row
live-alone operand None = refl
live-alone operand (Some row) = at (is_live row) (matches operand row)
  where
    at : (live m : Bool) → (live && not (live && m)) ≡ (live && not m)
    at true m = refl
    at false m = refl

-- what a NOT finds is what is live and its operand doesn't find
pub not-numbers : (operand : Criterion) (rows : List Write) (live ns found : List ℕ)
    → ((number : ℕ) → has_row live number ≡ is_live_at (slice_get rows number))
    → AreNumbersOf (is_match operand) rows ns → IsJoin LeftAlone live ns found
    → AreNumbersOf (is_match (Criterion.Not operand)) rows found
not-numbers operand rows live ns found alive numbers joined = record {
  members = λ number. joined.members number
      ∙ ap₂ (keeps LeftAlone) (alive number) (numbers.members number)
      ∙ live-alone operand (slice_get rows number);
  ascending = joined.ascending;
}

all-live : (row : Option Write) → is_live_at row ≡ passes (is_match Criterion.All) row
all-live None = refl
all-live (Some row) = at (is_live row)
  where
    at : (live : Bool) → live ≡ (live && true)
    at true = refl
    at false = refl

-- all that is live is found
pub all-numbers : (rows : List Write) (live : List ℕ) → ((number : ℕ) → has_row live number ≡ is_live_at (slice_get rows number))
    → IsStrictlyIncreasing live → AreNumbersOf (is_match Criterion.All) rows live
all-numbers rows live alive up = record { members = λ number. alive number ∙ all-live (slice_get rows number); ascending = up }

leaf-row : (term : Term) (row : Write) → HasTerms row.id row.doc row.terms → has_term term (Some row) ≡ is_match (Criterion.Leaf term) row
leaf-row term row has = at row.doc refl has
  where
    at : (doc : Option (List Field)) → row.doc ≡ doc → HasTerms row.id doc row.terms
        → has_term term (Some row) ≡ is_match (Criterion.Leaf term) row
    at None is has = rw is refl
    at (Some fields) is has = rw is (terms-say row.id (Some fields) row.terms has (Criterion.Leaf term))

leaf-passes : (term : Term) (rows : List Write) (number : ℕ) (row : Option Write) → slice_get rows number ≡ row
    → All (λ (each : Write). HasTerms each.id each.doc each.terms) rows → has_term term row ≡ passes (is_match (Criterion.Leaf term)) row
leaf-passes term rows number None at all = refl
leaf-passes term rows number (Some row) at all =
    leaf-row term row (subst (λ (each : Write). HasTerms each.id each.doc each.terms) (get_or_from_slice_get rows number row row at)
    (all number row (slice_get_within rows number row at)))

-- what a leaf finds is what has its term
pub leaf-numbers : (term : Term) (rows : List Write) (numbers : List ℕ)
    → All (λ (each : Write). HasTerms each.id each.doc each.terms) rows
    → ((number : ℕ) → has_row numbers number ≡ has_term term (slice_get rows number)) → IsStrictlyIncreasing numbers
    → AreNumbersOf (is_match (Criterion.Leaf term)) rows numbers
leaf-numbers term rows numbers all has up = record {
  members = λ number. has number ∙ leaf-passes term rows number (slice_get rows number) refl all;
  ascending = up;
}
