-- What was read of the head and of the body is read of the connection's bytes.
use Rattle.std.proofs.Common.{◌≡◌, ◌⊎◌, List, ℕ, [], ◌++◌, Err, ap, subst}
use Rattle.std.specs.Prelude.{IfSome}
use Rattle.std.proofs.lemmas.Result.{err_from_is_err_and}
use Rattle.sc_model.specs.Messages.{HasNoMessage, EndsSo}
use Rattle.sc_http.specs.Bodies.{HasNoBody, EndsBody, GivesBody, LacksBody}
use Rattle.sc_http.specs.Ends.{ending_of}
use Rattle.sc_http.specs.Lines.{framing_said}
use Rattle.sc_http.specs.Stream.{KeepsBytes, LeavesSuffix, ReadsWhile}
use Rattle.sc_http.specs.declared.end.MessageEnd.TheVariants as ends
use Rattle.sc_http.proofs.ReaderLemmas.{message_read, needed_both, head_unfinished, body_ends, body_unfinished, body_order}
use Rattle.sc_http.proofs.reader.Reader.next_message.Goals as goal

pub returns-in_err-head-clause-ends : goal.returns-in_err-head-clause-ends
returns-in_err-head-clause-ends g c =
    let p = err_from_is_err_and c.from_residual.result c.from_residual.ensures.1 in
    rw (p.1, p.2) (subst (λ (b : List ℕ). IfSome (ending_of c.in_err-head.field-0.0)
    (λ ending. IfSome (g.S.Source.rest c.args.source.now) (λ bytes. EndsSo (b ++ bytes) ending))) c.self.view_is c.in_err-head.ensures.ends)

pub returns-in_err-head-clause-unfinished : goal.returns-in_err-head-clause-unfinished
returns-in_err-head-clause-unfinished g c =
    let p = err_from_is_err_and c.from_residual.result c.from_residual.ensures.1 in
    let given = subst (λ (b : List ℕ). KeepsBytes [] c.read_head.new.buffer b (g.S.Source.rest c.args.source.now) (g.S.Source.rest c.read_head.new.source))
    c.self.view_is c.read_head.ensures.gives in
    λ e.
    let same : c.in_err-head.field-0.0 ≡ ends.ReadFault = cc (p.1, p.2, e) in
    head_unfinished _ _ _ _ given (c.in_err-head.ensures.unfinished (ap Err same))

pub returns-in_err-body-clause-ends : goal.returns-in_err-body-clause-ends
returns-in_err-body-clause-ends g c =
    let p = err_from_is_err_and c.from_residual-in_err-body.result c.from_residual-in_err-body.ensures.1 in
    let mid = g.S.Source.rest c.read_head.new.source in
    let given = subst (λ (b : List ℕ). KeepsBytes [] c.read_head.new.buffer b (g.S.Source.rest c.args.source.now) mid) c.self.view_is c.read_head.ensures.gives in
    rw (p.1, p.2) (body_ends (ending_of c.in_err-body.field-0.0) c.in_ok-head.head _ _ _ _ given c.in_ok-head.ensures.head
    (subst (λ (b : List ℕ). IfSome (ending_of c.in_err-body.field-0.0) (λ ending. IfSome mid (λ bytes. EndsBody (framing_said c.in_ok-head.head.framing) (b ++ bytes) ending)))
    c.give.ensures c.in_err-body.ensures.ends))

pub returns-in_err-body-clause-unfinished : goal.returns-in_err-body-clause-unfinished
returns-in_err-body-clause-unfinished g c =
    let p = err_from_is_err_and c.from_residual-in_err-body.result c.from_residual-in_err-body.ensures.1 in
    let mid = g.S.Source.rest c.read_head.new.source in
    let given = subst (λ (b : List ℕ). KeepsBytes [] c.read_head.new.buffer b (g.S.Source.rest c.args.source.now) mid) c.self.view_is c.read_head.ensures.gives in
    λ e.
    let same : c.in_err-body.field-0.0 ≡ ends.ReadFault = cc (p.1, p.2, e) in
    body_unfinished c.in_ok-head.head _ _ _ _ (g.S.Source.rest c.read_body.new.source) given c.in_ok-head.ensures.head
    (subst (λ (b : List ℕ). LacksBody (framing_said c.in_ok-head.head.framing) b mid (g.S.Source.rest c.read_body.new.source))
    c.give.ensures (c.in_err-body.ensures.unfinished (ap Err same)))

pub returns-in_err-body-clause-order : goal.returns-in_err-body-clause-order
returns-in_err-body-clause-order g c =
    let p = err_from_is_err_and c.from_residual-in_err-body.result c.from_residual-in_err-body.ensures.1 in
    let mid = g.S.Source.rest c.read_head.new.source in
    let given = subst (λ (b : List ℕ). KeepsBytes [] c.read_head.new.buffer b (g.S.Source.rest c.args.source.now) mid) c.self.view_is c.read_head.ensures.gives in
    rw p.1 (body_order c.in_ok-head.head.size _ _ _ _ _ (g.S.Source.rest c.read_body.new.source) given
    (subst (λ (b : List ℕ). LeavesSuffix c.read_body.new.buffer b mid (g.S.Source.rest c.read_body.new.source)) c.give.ensures c.in_err-body.ensures.order))

pub returns-clause-needed : goal.returns-clause-needed
returns-clause-needed g c =
    let old = g.S.Source.rest c.args.source.now in
    let mid = g.S.Source.rest c.read_head.new.source in
    let given = subst (λ (b : List ℕ). KeepsBytes [] c.read_head.new.buffer b old mid) c.self.view_is c.read_head.ensures.gives in
    let first = subst (λ (b : List ℕ). (c.read_head.new.source ≡ c.args.source.now) ⊎ ReadsWhile (λ xs. HasNoMessage (b ++ xs)) old mid)
    c.self.view_is c.read_head.ensures.needed in
    let second = subst (λ (b : List ℕ). (c.read_body.new.source ≡ c.read_head.new.source)
    ⊎ ReadsWhile (λ xs. HasNoBody (framing_said c.in_ok-head.head.framing) (b ++ xs)) mid (g.S.Source.rest c.read_body.new.source))
    c.give.ensures c.in_ok-body.ensures.needed in
    needed_both g.S.Source.rest c.in_ok-head.head _ _ _ _ _ given c.in_ok-head.ensures.head first second

pub returns-clause-message : goal.returns-clause-message
returns-clause-message g c =
    let mid = g.S.Source.rest c.read_head.new.source in
    let given = subst (λ (b : List ℕ). KeepsBytes [] c.read_head.new.buffer b (g.S.Source.rest c.args.source.now) mid) c.self.view_is c.read_head.ensures.gives in
    let out = subst (λ (b : List ℕ). GivesBody (framing_said c.in_ok-head.head.framing) c.in_ok-body.body.items c.read_body.new.buffer b mid (g.S.Source.rest c.read_body.new.source))
    c.give.ensures c.in_ok-body.ensures.body in
    message_read c.in_ok-head.head _ _ c.in_ok-body.body.items c.read_body.new.buffer _ _ _ _ given c.in_ok-head.ensures.head out
    (λ h d i. record {
      method = d.method i;
      path = d.path i;
      params = d.params i;
      body = c.from_vec.ensures i;
      encoded = d.encoded i;
      lengthless = d.lengthless i;
      close = d.close i;
    })
