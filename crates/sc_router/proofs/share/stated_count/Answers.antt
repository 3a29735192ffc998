-- The cases of the text's length are those of the definition.
use Rattle.std.proofs.Common.{◌≡◌, ◌+◌, ◌*◌, leb, true, false, sym, ◌∙◌, arith, refl}
use Rattle.std.proofs.lemmas.Bool.Decides.{nat_tests}
use Rattle.sc_router.proofs.CountLemmas.{stated_count-empty, stated_count-long, stated_count-one, stated_count-two}
use Rattle.sc_router.proofs.share.stated_count.Goals as goal

pub returns-in-len1-clause-value : goal.returns-in-len1-clause-value
returns-in-len1-clause-value c = c.digit_of.ensures.value ∙ sym (stated_count-one c.args.text.now (omega arith))

pub returns-in_err-digit_of-in-len2-clause-value : goal.returns-in_err-digit_of-in-len2-clause-value
returns-in_err-digit_of-in-len2-clause-value c =
    let e = stated_count-two c.args.text.now (omega arith) in
    let tens = c.digit_of-in-len2.ensures.value in
    rw (e, ← tens, c.in_err-digit_of-in-len2.was) c.from_residual.ensures

pub returns-in_err-count-in-len2-clause-value : goal.returns-in_err-count-in-len2-clause-value
returns-in_err-count-in-len2-clause-value c =
    let e = stated_count-two c.args.text.now (omega arith) in
    let tens = c.in_ok-digit_of-in-len2.ensures.value in
    let ones = c.in_err-count-in-len2.ensures.value in
    rw (e, ← tens, ← ones) c.from_residual-in_err-count-in-len2.ensures

pub returns-then-count-le32-clause-value : goal.returns-then-count-le32-clause-value
returns-then-count-le32-clause-value c =
    let e = stated_count-two c.args.text.now (omega arith) in
    let tens = c.in_ok-digit_of-in-len2.ensures.value in
    let ones = c.in_ok-count-in-len2.ensures.value in
    let small : leb (10 * c.in_ok-digit_of-in-len2.field-0 + c.in_ok-count-in-len2.field-0) 32 ≡ true = grind (arith, nat_tests) in
    rw (e, ← tens, ← ones, small) refl

pub returns-else-count-le32-clause-value : goal.returns-else-count-le32-clause-value
returns-else-count-le32-clause-value c =
    let e = stated_count-two c.args.text.now (omega arith) in
    let tens = c.in_ok-digit_of-in-len2.ensures.value in
    let ones = c.in_ok-count-in-len2.ensures.value in
    let great : leb (10 * c.in_ok-digit_of-in-len2.field-0 + c.in_ok-count-in-len2.field-0) 32 ≡ false = grind (arith, nat_tests) in
    rw (e, ← tens, ← ones, great) refl

pub returns-in_default-clause-value : goal.returns-in_default-clause-value
returns-in_default-clause-value c = sym (stated_count-empty c.args.text.now (omega arith))

pub returns-in_default-2-clause-value : goal.returns-in_default-2-clause-value
returns-in_default-2-clause-value c = sym (stated_count-long c.args.text.now (omega arith))
