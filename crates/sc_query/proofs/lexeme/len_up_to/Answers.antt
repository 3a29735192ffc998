-- A part has as many bytes as the loop passes.
use Rattle.std.proofs.Common.{◌≡◌, ℕ, ◌+◌, ◌≤◌, Bool, List, length, get_or, drop, false, ap, sym, ◌∙◌, inl, inr, arith}
use Rattle.std.proofs.lemmas.List.{drop_all}
use Rattle.sc_query.specs.declared.lexeme.Part.{Part}
use Rattle.sc_query.specs.declared.lexeme.Part.TheVariants.{Field, Run, Quoted}
use Rattle.sc_query.specs.Tokens.{up_to}
use Rattle.sc_query.proofs.BytesLemmas.{ends_of, ended, up_to-one, up_to-escape, up_to-none}
use Rattle.sc_query.proofs.lexeme.len_up_to.Goals as goal
use Rattle.sc_query.proofs.lexeme.len_up_to.Goals.{then-bytes-at-eq92+then-at-bytes, else-bytes-at-eq92, else-bytes-at-eq92-via-then-bytes-at-eq92+else-at-bytes, else-bytes-at-eq92-via-else-bytes-at-eq92}

-- n bytes are passed at once
passed : (ends : ℕ → Bool) (bs : List ℕ) (i k n total : ℕ) → k ≡ n → length (up_to ends (drop i bs)) ≡ n + length (up_to ends (drop (i + n) bs)) → i + length (up_to ends (drop i bs)) ≡ total → i + k + length (up_to ends (drop (i + k) bs)) ≡ total
passed ends bs i k n total e h w =
    let same : length (up_to ends (drop (i + k) bs)) ≡ length (up_to ends (drop (i + n) bs)) = ap (λ (m : ℕ). length (up_to ends (drop (i + m) bs))) e in
    omega (arith, same)

-- at the end of the bytes the whole part is passed
all_passed : (part is : Part) (bs : List ℕ) (at : ℕ) → at ≤ length bs → length bs ≤ at → at + length (up_to (ends_of part) (drop at bs)) ≡ length (up_to (ends_of part) bs) → part ≡ is → at ≡ length (up_to (ends_of is) bs)
all_passed part is bs at within over counted e =
    let none : length (up_to (ends_of part) (drop at bs)) ≡ 0 = ap (λ xs. length (up_to (ends_of part) xs)) (drop_all at bs over) in
    let len : at ≡ length (up_to (ends_of part) bs) = omega arith in
    len ∙ ap (λ (p : Part). length (up_to (ends_of p) bs)) e

pub loop-at-preserved : goal.loop-at-preserved
loop-at-preserved c =
    let ends = ends_of c.args.part in
    let bs = c.args.bytes.now in
    let at = c.loop-at.at in
    let total = length (up_to ends bs) in
    let whole = c.loop-at.invariant.counted in
    let within = c.loop-at-test.true in
    let test = ended c.args.part c.ends.result (get_or bs at 0) c.ends.ensures.field c.ends.ensures.run c.ends.ensures.quoted in
    let open_end : ends (get_or bs at 0) ≡ false = sym test ∙ c.if-not-ends.true in
    elim c.if-bytes-at-eq92.branch [
      | then-bytes-at-eq92+then-at-bytes w ↦ record {
        within = omega arith;
        counted = passed ends bs at c.if-bytes-at-eq92.at 2 total w.at-is (up_to-escape ends bs at w.if-at-bytes.true open_end w.if-bytes-at-eq92.true) whole;
      }
      | else-bytes-at-eq92 w ↦ record {
        within = omega arith;
        counted = passed ends bs at c.if-bytes-at-eq92.at 1 total w.at-is (up_to-one ends bs at within open_end (elim w.else-bytes-at-eq92.branch [
          | else-bytes-at-eq92-via-then-bytes-at-eq92+else-at-bytes v ↦ inr v.if-at-bytes.false
          | else-bytes-at-eq92-via-else-bytes-at-eq92 v ↦ inl v.if-bytes-at-eq92.false
        ])) whole;
      }
    ]

pub returns-else-not-ends : goal.returns-else-not-ends
returns-else-not-ends c =
    let bs = c.args.bytes.now in
    let at = c.loop-at.at in
    let test = ended c.args.part c.ends.result (get_or bs at 0) c.ends.ensures.field c.ends.ensures.run c.ends.ensures.quoted in
    let len : at ≡ length (up_to (ends_of c.args.part) bs) = omega (arith, c.loop-at.invariant.counted, up_to-none (ends_of c.args.part) bs at c.loop-at-test.true (sym test ∙ c.if-not-ends.false)) in
    record {
      field = λ e. len ∙ ap (λ (part : Part). length (up_to (ends_of part) bs)) e;
      run = λ e. len ∙ ap (λ (part : Part). length (up_to (ends_of part) bs)) e;
      quoted = λ e. len ∙ ap (λ (part : Part). length (up_to (ends_of part) bs)) e;
      within = c.loop-at.invariant.within;
    }

pub returns-after-loop-at-clause-field : goal.returns-after-loop-at-clause-field
returns-after-loop-at-clause-field c = all_passed c.args.part Field c.args.bytes.now c.loop-at.at c.loop-at.invariant.within c.loop-at-test.false c.loop-at.invariant.counted

pub returns-after-loop-at-clause-run : goal.returns-after-loop-at-clause-run
returns-after-loop-at-clause-run c = all_passed c.args.part Run c.args.bytes.now c.loop-at.at c.loop-at.invariant.within c.loop-at-test.false c.loop-at.invariant.counted

pub returns-after-loop-at-clause-quoted : goal.returns-after-loop-at-clause-quoted
returns-after-loop-at-clause-quoted c = all_passed c.args.part Quoted c.args.bytes.now c.loop-at.at c.loop-at.invariant.within c.loop-at-test.false c.loop-at.invariant.counted
