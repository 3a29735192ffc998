-- The parsed lines are those of the head.
use Rattle.std.proofs.Common.{◌≡◌, Err, take, drop, inl, inr, refl, sym, ap, ◌∙◌}
use Rattle.std.proofs.lemmas.Bool.{eq-eqb, false≢true}
use Rattle.sc_model.specs.Heads.{method_of, is_head, path_of, params_of, asks_close}
use Rattle.sc_http.specs.Lines.{fault_of}
use Rattle.sc_http.proofs.ParsedLemmas.{framing_said, lengthless_said, encoded_said, old_closes, head_closes, close_said, head_is}
use Rattle.sc_http.proofs.head.describe.Goals.{then-spans-eq0, else-spans-eq0, then-is_head, else-is_head}
use Rattle.sc_http.proofs.head.describe.Goals as goal

pub returns-in-Err-Malformed-clause-ends : goal.returns-in-Err-Malformed-clause-ends
returns-in-Err-Malformed-clause-ends c =
    let h = c.requires.parsed.0 in
    let at = c.requires.parsed.1 in
    let same : take c.args.spans.now.headers c.args.headers.now ≡ take c.args.spans.now.headers c.args.headers.now = refl in
    inr (inl (
      h,
      drop c.args.spans.now.len c.args.window.now,
      head_is c.args.window.now c.args.headers.now c.args.spans.now h at c.requires.within c.requires.size c.requires.lines,
      sym (framing_said c.args.window.now c.args.headers.now c.args.spans.now h at _ same) ∙ sym c.in-Err-Malformed.ensures.framing
          ∙ ap (λ f. Err (fault_of f)) c.in-Err-Malformed.field-0-is,
    ))

pub returns-in-Err-TooLarge-clause-ends : goal.returns-in-Err-TooLarge-clause-ends
returns-in-Err-TooLarge-clause-ends c =
    let h = c.requires.parsed.0 in
    let at = c.requires.parsed.1 in
    let same : take c.args.spans.now.headers c.args.headers.now ≡ take c.args.spans.now.headers c.args.headers.now = refl in
    inr (inr (inl (
      h,
      drop c.args.spans.now.len c.args.window.now,
      head_is c.args.window.now c.args.headers.now c.args.spans.now h at c.requires.within c.requires.size c.requires.lines,
      sym (framing_said c.args.window.now c.args.headers.now c.args.spans.now h at _ same) ∙ sym c.in-Err-TooLarge.ensures.framing
          ∙ ap (λ f. Err (fault_of f)) c.in-Err-TooLarge.field-0-is,
    )))

pub returns-clause-head : goal.returns-clause-head
returns-clause-head c =
    let h = c.requires.parsed.0 in
    let at = c.requires.parsed.1 in
    let same : take c.args.spans.now.headers c.args.headers.now ≡ take c.args.spans.now.headers c.args.headers.now = refl in
    let target = c.in-Ok-from_utf8.ensures.cases.0 ∙ c.of.ensures ∙ at.path in
    let method = c.of-method.ensures ∙ at.method in
    let close : c.if-is_head.result ≡ asks_close h =
    elim c.if-is_head.branch [
      | then-is_head w ↦ w.result-is ∙ w.if-is_head.true ∙ elim c.if-spans-eq0.branch [
        | then-spans-eq0 v ↦ old_closes c.args.window.now c.args.headers.now c.args.spans.now h at v.if-spans-eq0.true
        | else-spans-eq0 v ↦ head_closes c.args.window.now c.args.headers.now c.args.spans.now h at v.if-spans-eq0.false
            (sym (v.is_head.ensures ∙ ap is_head method) ∙ sym v.value-is ∙ w.if-is_head.true)
      ]
      | else-is_head w ↦ w.result-is ∙ elim c.if-spans-eq0.branch [
        | then-spans-eq0 v ↦ absurd (false≢true (sym w.if-is_head.false ∙ v.value-is ∙ eq-eqb c.args.spans.now.version 0 v.if-spans-eq0.true))
        | else-spans-eq0 v ↦ close_said c.args.window.now c.args.headers.now c.args.spans.now h at _ same v.if-spans-eq0.false
            (sym (v.is_head.ensures ∙ ap is_head method) ∙ sym v.value-is ∙ w.if-is_head.false) w.asks_close.result w.asks_close.ensures
      ]
    ] in
    record {
      head = h;
      has = head_is c.args.window.now c.args.headers.now c.args.spans.now h at c.requires.within c.requires.size c.requires.lines;
      fits = c.requires.within.section.len_fits;
      describes = record {
        method = c.method_of.ensures ∙ ap method_of method;
        path = c.in-Ok-split_target.ensures.path ∙ ap path_of target;
        params = c.in-Ok-split_target.ensures.params ∙ ap params_of target;
        encoded = encoded_said c.args.window.now c.args.headers.now c.args.spans.now h at _ same c.is_encoded.result c.is_encoded.ensures;
        lengthless = lengthless_said c.args.window.now c.args.headers.now c.args.spans.now h at _ same c.has_framing.result c.has_framing.ensures;
        close = close;
        framed = sym (framing_said c.args.window.now c.args.headers.now c.args.spans.now h at _ same) ∙ sym c.in-Ok.ensures.framing;
      };
    }
