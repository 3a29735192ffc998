-- What is said of the part that is judged is said of all bytes.
use Rattle.std.proofs.Common.{◌≢◌, ◌⊎◌, ◌<◌, List, ℕ, None, ◌++◌, arith, length, take, drop, Ok, Err, inl, inr, sym, ap, subst, ◌∙◌}
use Rattle.std.specs.Prelude.{IfErr, IfSome}
use Rattle.std.proofs.lemmas.Bool.Decides.{nat_tests}
use Rattle.std.proofs.lemmas.Result.{IfOk-weaker}
use Rattle.sc_model.specs.Heads.{head_limit}
use Rattle.sc_model.specs.Messages.{EndsSo}
use Rattle.sc_http.specs.Ends.{ending_of}
use Rattle.sc_http.specs.Lines.{IsHeadOf}
use Rattle.sc_http.proofs.ParsedLemmas.{head_in_more, end_in_more, partial_says, judged_is, judged_all, is_there, is_not_there, complete_says, lines_few, partial_large, partial_cut, refused_malformed}
use Rattle.sc_http.proofs.head.parse_any_head.Goals.{then-is_some, else-is_some}
use Rattle.sc_http.proofs.head.parse_any_head.Goals as goal

pub describe-requires-clause-lines : goal.describe-requires-clause-lines
describe-requires-clause-lines c =
    let judged = judged_is c.args.bytes.now c.end_of_line-excess.result c.min.result c.unwrap_or.result c.min.ensures c.unwrap_or.ensures
    c.end_of_line-excess.ensures.found c.end_of_line-excess.ensures.fewer in
    let complete = c.in-Ok-Complete.is ∙ ap Ok c.in-Ok-Complete.field-0-is in
    lines_few c.end_of_line-excess.result c.args.bytes.now _ _ judged _ c.in-Ok-Complete.spans
    (complete_says _ complete c.parse_request.ensures.complete) (complete_says _ complete c.parse_request.ensures.within)

pub returns-in-Ok-Complete-clause-head : goal.returns-in-Ok-Complete-clause-head
returns-in-Ok-Complete-clause-head c =
    let m = c.min.result in
    let n = c.unwrap_or.result in
    let judged = take n (take m c.args.bytes.now) in
    let after = drop n (take m c.args.bytes.now) ++ drop m c.args.bytes.now in
    IfOk-weaker c.describe.result (IsHeadOf judged) (IsHeadOf c.args.bytes.now)
    (λ kept of. subst (λ (xs : List ℕ). IsHeadOf xs kept) (judged_all c.args.bytes.now m n) (head_in_more judged after kept of))
    c.describe.ensures.head

pub returns-in-Ok-Complete-clause-ends : goal.returns-in-Ok-Complete-clause-ends
returns-in-Ok-Complete-clause-ends c =
    let m = c.min.result in
    let n = c.unwrap_or.result in
    let judged = take n (take m c.args.bytes.now) in
    let after = drop n (take m c.args.bytes.now) ++ drop m c.args.bytes.now in
    subst (λ (xs : List ℕ). IfErr c.describe.result (λ end. IfSome (ending_of end) (EndsSo xs))) (judged_all c.args.bytes.now m n)
    (end_in_more c.describe.result judged after c.describe.ensures.ends c.describe.ensures.not_done c.describe.ensures.not_cut)

pub returns-in-Ok-Partial-clause-ends : goal.returns-in-Ok-Partial-clause-ends
returns-in-Ok-Partial-clause-ends c =
    let judged = judged_is c.args.bytes.now c.end_of_line-excess.result c.min.result c.unwrap_or.result c.min.ensures c.unwrap_or.ensures
    c.end_of_line-excess.ensures.found c.end_of_line-excess.ensures.fewer in
    let partial = c.in-Ok-Partial.is ∙ ap Ok c.in-Ok-Partial.field-0-is in
    let past : (c.end_of_line-excess.result ≢ None) ⊎ (head_limit < length c.args.bytes.now) =
    elim c.if-bytes-gt-MAX_HEAD.either [
      | inl some ↦ inl (is_there c.end_of_line-excess.result (sym c.is_some.ensures ∙ some))
      | inr long ↦ inr long.1
    ] in
    partial_large c.end_of_line-excess.result c.args.bytes.now _ _ judged past (partial_says partial c.parse_request.ensures.partial)
    (partial_says partial c.parse_request.ensures.unfinished)

pub returns-in-Ok-Partial-2-clause-ends : goal.returns-in-Ok-Partial-2-clause-ends
returns-in-Ok-Partial-2-clause-ends c =
    let judged = judged_is c.args.bytes.now c.end_of_line-excess.result c.min.result c.unwrap_or.result c.min.ensures c.unwrap_or.ensures
    c.end_of_line-excess.ensures.found c.end_of_line-excess.ensures.fewer in
    let partial = c.in-Ok-Partial.is ∙ ap Ok c.in-Ok-Partial.field-0-is in
    let none = is_not_there c.end_of_line-excess.result (sym c.is_some.ensures ∙ c.if-bytes-gt-MAX_HEAD.false.0) in
    let some : 0 < length c.args.bytes.now = grind (arith, nat_tests) in
    inl (partial_cut c.end_of_line-excess.result c.args.bytes.now _ _ judged none some c.if-bytes-gt-MAX_HEAD.false.1
    (partial_says partial c.parse_request.ensures.partial) (partial_says partial c.parse_request.ensures.unfinished))

pub returns-in-Ok-Partial-2-clause-cut : goal.returns-in-Ok-Partial-2-clause-cut
returns-in-Ok-Partial-2-clause-cut c = λ is_cut.
    let judged = judged_is c.args.bytes.now c.end_of_line-excess.result c.min.result c.unwrap_or.result c.min.ensures c.unwrap_or.ensures
    c.end_of_line-excess.ensures.found c.end_of_line-excess.ensures.fewer in
    let partial = c.in-Ok-Partial.is ∙ ap Ok c.in-Ok-Partial.field-0-is in
    let none = is_not_there c.end_of_line-excess.result (sym c.is_some.ensures ∙ c.if-bytes-gt-MAX_HEAD.false.0) in
    let some : 0 < length c.args.bytes.now = grind (arith, nat_tests) in
    partial_cut c.end_of_line-excess.result c.args.bytes.now _ _ judged none some c.if-bytes-gt-MAX_HEAD.false.1
    (partial_says partial c.parse_request.ensures.partial) (partial_says partial c.parse_request.ensures.unfinished)

pub returns-in-Err-clause-ends : goal.returns-in-Err-clause-ends
returns-in-Err-clause-ends c =
    let judged = judged_is c.args.bytes.now c.end_of_line-excess.result c.min.result c.unwrap_or.result c.min.ensures c.unwrap_or.ensures
    c.end_of_line-excess.ensures.found c.end_of_line-excess.ensures.fewer in
    refused_malformed c.end_of_line-excess.result c.args.bytes.now _ _ judged c.in-Err.field-0
    (λ many. c.parse_request.ensures.too_many (c.in-Err.is ∙ ap Err many)) (λ other. c.in-Err.ensures.invalid other)
