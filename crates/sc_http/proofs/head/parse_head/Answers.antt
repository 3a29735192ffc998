-- What is said of the bytes that a head may have is said of all bytes.
use Rattle.std.proofs.Common.{List, ℕ, take, drop, subst}
use Rattle.std.specs.Prelude.{IfErr, IfSome}
use Rattle.std.proofs.lemmas.List.{take-append-drop}
use Rattle.std.proofs.lemmas.Result.{IfOk-weaker}
use Rattle.sc_model.specs.Messages.{EndsSo}
use Rattle.sc_http.specs.Ends.{ending_of}
use Rattle.sc_http.specs.Lines.{IsHeadOf}
use Rattle.sc_http.proofs.ParsedLemmas.{head_in_more, end_in_more}
use Rattle.sc_http.proofs.head.parse_head.Goals as goal

pub returns-in-Ok-Complete-clause-head : goal.returns-in-Ok-Complete-clause-head
returns-in-Ok-Complete-clause-head c =
    let m = c.min.result in
    let window = take m c.args.bytes.now in
    let after = drop m c.args.bytes.now in
    IfOk-weaker c.describe.result (IsHeadOf window) (IsHeadOf c.args.bytes.now)
    (λ kept of. subst (λ (xs : List ℕ). IsHeadOf xs kept) (take-append-drop m c.args.bytes.now) (head_in_more window after kept of))
    c.describe.ensures.head

pub returns-in-Ok-Complete-clause-ends : goal.returns-in-Ok-Complete-clause-ends
returns-in-Ok-Complete-clause-ends c =
    let m = c.min.result in
    let window = take m c.args.bytes.now in
    let after = drop m c.args.bytes.now in
    subst (λ (xs : List ℕ). IfErr c.describe.result (λ end. IfSome (ending_of end) (EndsSo xs))) (take-append-drop m c.args.bytes.now)
    (end_in_more c.describe.result window after c.describe.ensures.ends c.describe.ensures.not_done c.describe.ensures.not_cut)
