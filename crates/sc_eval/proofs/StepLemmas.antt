-- How many steps a search takes: those of its leaves, and one for each row that is read.
use Rattle.std.proofs.Common.{◌≡◌, ℕ, Bool, ◌+◌, ◌-◌, ◌*◌, ◌^◌, ◌<◌, ◌≤◌, List, [], ◌∷◌, ◌++◌, length, None, subst, sym, ap, arith, inl, inr}
use Rattle.std.proofs.Math.Nat.{pow-le-pow_right, mul-le-mul_right}
use Rattle.std.proofs.lemmas.Bool.{cases_lt}
use Rattle.sc_record.specs.Writes.{Write}
use Rattle.sc_rows.specs.Joining.{IsJoin}
use Rattle.sc_rows.specs.declared.joining.Kept.{Kept}
use Rattle.sc_snapshot.specs.Postings.{term_count}
use Rattle.sc_eval.specs.Criteria.{Criterion, criterion_of}
use Rattle.sc_eval.specs.Operands.{joined_by, criterion_with}
use Rattle.sc_eval.specs.Numbers.{numbers_of, is_match, leaves, IsLookUp, AreNumbersOf, AreStepsOfLeaves, AreStepsOfSearch}
use Rattle.sc_eval.specs.Unjoined.{IsJoined, WillBeNumbersOf}
use Rattle.sc_eval.specs.declared.numbers.Numbers.{Numbers}
use Rattle.sc_eval.specs.declared.operand.Right.{Right}
use Rattle.sc_eval.specs.declared.unjoined.Unjoined.{Unjoined}
use Rattle.sc_eval.specs.declared.unjoined.Unjoined.TheVariants.{One, Two}
use Rattle.sc_eval.proofs.NumberLemmas.{as-many, numbers-there}
use Rattle.sc_eval.proofs.OperandLemmas.{size, criterion_with-back, joined-leaves, with-leaves, right-smaller, joined-numbers}

module _ (rows : List Write) where
  -- one look-up takes no more comparisons than are enough
  pub one-leaf : (steps most : ℕ) → 2 ^ steps ≤ 2 * term_count rows + 1 → IsLookUp rows most → steps ≤ most
  one-leaf steps most bound enough =
      elim (cases_lt steps (most + 1)) [
        | inl few ↦ omega (arith, few)
        | inr many ↦
            let two : 0 < 2 = omega arith in
            let power = pow-le-pow_right two many in
            absurd (omega (arith, power, bound, enough))
      ]

  pub fewer-leaves : (one other : Criterion) (steps : ℕ) → leaves one ≤ leaves other → AreStepsOfLeaves one rows steps → AreStepsOfLeaves other rows steps
  fewer-leaves one other steps le are = λ most enough.
      let more = mul-le-mul_right most le in
      let here = are most enough in
      omega (arith, more, here)

  -- the steps of two criteria are steps of what they are together
  pub both-leaves : (how : Kept) (left right : Criterion) (one other both : ℕ) → both ≤ one + other
      → AreStepsOfLeaves left rows one → AreStepsOfLeaves right rows other → AreStepsOfLeaves (joined_by how left right) rows both
  both-leaves how left right one other both le ones others = λ most enough.
      let here = ones most enough in
      let there = others most enough in
      let product = ap (λ n. n * most) (joined-leaves how left right) in
      omega (arith, here, there, product, le)

  -- what was found of the left of a query, not joined yet, and in how many steps, while the rest waits
  pub record IsFoundSoFar (whole : Criterion) (waiting : List Right) (unjoined : Unjoined) (steps : ℕ) : Type 0 where
    pub left : Criterion
    pub is_whole : whole ≡ criterion_with waiting left
    pub found : WillBeNumbersOf (is_match left) rows unjoined
    pub bound : AreStepsOfLeaves left rows steps

  -- steps of what stands leftmost are steps of the whole
  pub first-steps : (whole left : Criterion) (waiting : List Right) (steps : ℕ) → whole ≡ criterion_with waiting left
      → AreStepsOfLeaves left rows steps → AreStepsOfLeaves whole rows steps
  first-steps whole left waiting steps is are =
      fewer-leaves left whole steps (let few = with-leaves waiting left in omega (arith, few, ap leaves is)) are

  -- nothing was taken
  pub no-steps : (criterion : Criterion) (before after : ℕ) → after ≡ before → AreStepsOfLeaves criterion rows (after - before)
  no-steps criterion before after same = λ most enough. omega (arith, same)

  -- one list is what it is
  pub one-list : (test : Write → Bool) (numbers : Numbers) → AreNumbersOf test rows (numbers_of numbers) → WillBeNumbersOf test rows (One numbers)
  one-list test numbers are = record { ready = tt; joined = λ list is. subst (AreNumbersOf test rows) (sym is) are }

  -- what was found of two criteria stands side by side until it is joined
  pub both-found : (how : Kept) (left right : Criterion) (lefts rights : Numbers)
      → AreNumbersOf (is_match left) rows (numbers_of lefts) → AreNumbersOf (is_match right) rows (numbers_of rights)
      → WillBeNumbersOf (is_match (joined_by how left right)) rows (Two how lefts rights None)
  both-found how left right lefts rights one other = record {
    ready = (one.ascending, other.ascending, tt);
    joined = λ both joined. joined-numbers how left right rows (numbers_of lefts) (numbers_of rights) both one other joined;
  }

  -- and what was found of the left one stays where nothing of the right one, whatever it is, changes it
  pub left-found : (how : Kept) (left right : Criterion) (lefts : Numbers) → AreNumbersOf (is_match left) rows (numbers_of lefts)
      → ((list : List ℕ) → IsJoin how (numbers_of lefts) list (numbers_of lefts))
      → WillBeNumbersOf (is_match (joined_by how left right)) rows (One lefts)
  left-found how left right lefts one stays =
      let others = numbers-there (is_match right) rows in
      one-list (is_match (joined_by how left right)) lefts (joined-numbers how left right rows
      (numbers_of lefts) others.0 (numbers_of lefts) one others.1 (stays others.0))

  -- the leftmost operand was looked up
  pub first-found : (whole left : Criterion) (waiting : List Right) (unjoined found : Unjoined) (start middle after : ℕ)
      → whole ≡ criterion_with waiting left → WillBeNumbersOf (is_match left) rows unjoined → found ≡ unjoined
      → AreStepsOfLeaves left rows (middle - start) → after ≡ middle → IsFoundSoFar whole waiting found (after - start)
  first-found whole left waiting unjoined found start middle after is are found_is steps after_is = record {
    left = left;
    is_whole = is;
    found = subst (WillBeNumbersOf (is_match left) rows) (sym found_is) are;
    bound = subst (λ n. AreStepsOfLeaves left rows (n - start)) (sym after_is) steps;
  }

  -- steps so far are steps of the whole
  pub so-far : (whole : Criterion) (waiting : List Right) (unjoined : Unjoined) (steps : ℕ)
      → IsFoundSoFar whole waiting unjoined steps → AreStepsOfLeaves whole rows steps
  so-far whole waiting unjoined steps far = first-steps whole far.left waiting steps far.is_whole far.bound

  module _ (whole : Criterion) (waiting popped : List Right) (one : Right) (unjoined : Unjoined) (start before after : ℕ)
      (far : IsFoundSoFar whole waiting unjoined (before - start)) (pops : waiting ≡ popped ++ one ∷ [])
      (rises : start ≤ before) (rises_again : before ≤ after)
      (steps : AreStepsOfLeaves (criterion_of one.operand.now) rows (after - before)) where
    back : whole ≡ criterion_with popped (joined_by one.how far.left (criterion_of one.operand.now))
    back = criterion_with-back waiting popped one whole far.left pops far.is_whole

    joined-steps : AreStepsOfLeaves (joined_by one.how far.left (criterion_of one.operand.now)) rows (after - start)
    joined-steps =
        both-leaves one.how far.left (criterion_of one.operand.now) (before - start) (after - before) (after - start)
        (omega (arith, rises, rises_again)) far.bound steps

    -- the steps of a right operand more are steps of the whole
    pub right-steps : AreStepsOfLeaves whole rows (after - start)
    right-steps = first-steps whole (joined_by one.how far.left (criterion_of one.operand.now)) popped (after - start) back joined-steps

    -- what was found is joined, and then what was found of the right operand stands beside it
    pub right-found : (left right : Numbers) → IsJoined unjoined (numbers_of left)
        → AreNumbersOf (is_match (criterion_of one.operand.now)) rows (numbers_of right)
        → IsFoundSoFar whole popped (Two one.how left right None) (after - start)
    right-found left right is are =
        record {
          left = joined_by one.how far.left (criterion_of one.operand.now);
          is_whole = back;
          found = both-found one.how far.left (criterion_of one.operand.now) left right (far.found.joined (numbers_of left) is) are;
          bound = joined-steps;
        }

    pub right-less : size (criterion_of one.operand.now) < size whole
    right-less = right-smaller popped one whole far.left back

    -- what was found, once it is joined, stays where nothing of the right operand, whatever it is, changes it
    pub left-stays : (left : Numbers) → IsJoined unjoined (numbers_of left)
        → ((right : List ℕ) → IsJoin one.how (numbers_of left) right (numbers_of left)) → IsFoundSoFar whole popped (One left) (after - start)
    left-stays left is stays =
        record {
          left = joined_by one.how far.left (criterion_of one.operand.now);
          is_whole = back;
          found = left-found one.how far.left (criterion_of one.operand.now) left (far.found.joined (numbers_of left) is) stays;
          bound = joined-steps;
        }

-- the rows that match are read, each once
pub search-steps : (criterion : Criterion) (rows : List Write) (numbers : List ℕ) (start between after : ℕ)
    → AreNumbersOf (is_match criterion) rows numbers → AreStepsOfLeaves criterion rows (between - start)
    → start ≤ between → after ≤ between + length numbers → AreStepsOfSearch criterion rows (after - start)
search-steps criterion rows numbers start between after are steps rises few = λ most enough.
    let here = steps most enough in
    let many = as-many (is_match criterion) rows numbers are in
    omega (arith, here, many, few, rises)
