-- What is said of the bytes that came is said of the connection's bytes.
use Rattle.std.proofs.Common.{inl, inr, List, ℕ, Err, ap, subst, ◌∙◌}
use Rattle.std.specs.Prelude.{IfErr, IfSome}
use Rattle.sc_model.specs.Messages.{EndsSo, EndsInHead}
use Rattle.sc_http.specs.Ends.{ending_of}
use Rattle.sc_http.proofs.MessageLemmas.{no_message_yet}
use Rattle.sc_http.proofs.ReaderLemmas.{head_ends}
use Rattle.sc_http.proofs.reader.read_head.Goals as goal

pub returns-in-Ok-clause-ends : goal.returns-in-Ok-clause-ends
returns-in-Ok-clause-ends g c =
    head_ends c.parse_head.result c.await_head.new.buffer c.args.buffer.now (g.S.Source.rest c.args.source.now) (g.S.Source.rest c.await_head.new.source)
    c.await_head.ensures.gives (inl c.in-Ok.ensures.ready)
    (subst (λ (xs : List ℕ). IfErr c.parse_head.result (λ end. IfSome (ending_of end) (EndsSo xs))) c.unread.ensures c.parse_head.ensures.ends)
    (λ e. subst EndsInHead c.unread.ensures (c.parse_head.ensures.cut e))

pub returns-in-Err-Ended-clause-ends : goal.returns-in-Err-Ended-clause-ends
returns-in-Err-Ended-clause-ends g c =
    head_ends c.parse_head-in-Err-Ended.result c.await_head.new.buffer c.args.buffer.now (g.S.Source.rest c.args.source.now) (g.S.Source.rest c.await_head.new.source)
    c.await_head.ensures.gives (inr (c.await_head.ensures.ended (c.in-Err-Ended.is ∙ ap Err c.in-Err-Ended.field-0-is)))
    (subst (λ (xs : List ℕ). IfErr c.parse_head-in-Err-Ended.result (λ end. IfSome (ending_of end) (EndsSo xs))) c.unread-in-Err-Ended.ensures c.parse_head-in-Err-Ended.ensures.ends)
    (λ e. subst EndsInHead c.unread-in-Err-Ended.ensures (c.parse_head-in-Err-Ended.ensures.cut e))

pub returns-in-Err-Failed-clause-unfinished : goal.returns-in-Err-Failed-clause-unfinished
returns-in-Err-Failed-clause-unfinished g c = λ e. no_message_yet c.await_head.new.buffer c.in-Err-Failed.ensures.waiting
