-- The token at a place is that of the definition, and its parts are cut between characters.
use Rattle.std.proofs.Common.{◌≡◌, ℕ, ◌+◌, List, length, drop, true, false, refl, sym, ap, subst, ◌∙◌}
use Rattle.std.specs.Str.{IsCharBoundary}
use Rattle.sc_query.specs.Tokens.{up_to, ends_field, ends_run, ends_quoted, opens_quoted, quoted_leaf, run_token}
use Rattle.sc_query.proofs.CutsLemmas.{prefix_is, up_to-boundary, field_ascii, run_ascii, quoted-boundary, word_at-quoted, word_at-run}
use Rattle.sc_query.proofs.lexeme.word_at.Goals as goal

pub range-field-requires-clause-end_boundary : goal.range-field-requires-clause-end_boundary
range-field-requires-clause-end_boundary c =
    let text = c.args.text.now in
    let len : c.len_up_to-len.result ≡ length (up_to ends_field text) = c.len_up_to-len.ensures.field refl ∙ ap (λ xs. length (up_to ends_field xs)) c.as_bytes-bytes.ensures.value in
    subst (λ (n : ℕ). IsCharBoundary text n) (sym len) (up_to-boundary ends_field field_ascii text)

pub range_from-requires : goal.range_from-requires
range_from-requires c =
    let text = c.args.text.now in
    let opens : opens_quoted (drop c.len_up_to-len.result text) ≡ true = ap (λ xs. opens_quoted (drop c.len_up_to-len.result xs)) (sym c.as_bytes-bytes.ensures.value) ∙ (sym c.opens_quoted.ensures ∙ c.if-opens_quoted.true) in
    λ _. (quoted-boundary text c.len_up_to-len.result c.utf8.text opens).1

pub returns-then-opens_quoted-clause-token : goal.returns-then-opens_quoted-clause-token
returns-then-opens_quoted-clause-token c =
    let text = c.args.text.now in
    let prefix = up_to ends_field text in
    let len : c.len_up_to-len.result ≡ length prefix = c.len_up_to-len.ensures.field refl ∙ ap (λ xs. length (up_to ends_field xs)) c.as_bytes-bytes.ensures.value in
    let field : c.range-field.result.now ≡ prefix = prefix_is ends_field text c.range-field.result.now c.len_up_to-len.result len c.range-field.ensures.value in
    let rest : c.range_from.result.now ≡ drop (length prefix + 2) text = c.range_from.ensures.value ∙ ap (λ (n : ℕ). drop (n + 2) text) len in
    let opens : opens_quoted (drop (length prefix) text) ≡ true = ap (λ (n : ℕ). opens_quoted (drop n text)) (sym len) ∙ (ap (λ xs. opens_quoted (drop c.len_up_to-len.result xs)) (sym c.as_bytes-bytes.ensures.value) ∙ (sym c.opens_quoted.ensures ∙ c.if-opens_quoted.true)) in
    c.quoted_lexeme.ensures.token
    ∙ (ap (λ (xs : List ℕ). (quoted_leaf xs (up_to ends_quoted c.range_from.result.now) c.range_from.result.now).0) field
    ∙ (ap (λ (xs : List ℕ). (quoted_leaf prefix (up_to ends_quoted xs) xs).0) rest
    ∙ ap (λ x. x.0) (sym (word_at-quoted prefix text opens))))

pub range-requires-clause-end_boundary : goal.range-requires-clause-end_boundary
range-requires-clause-end_boundary c =
    let text = c.args.text.now in
    let len : c.len_up_to-len-2.result ≡ length (up_to ends_run text) = c.len_up_to-len-2.ensures.run refl ∙ ap (λ xs. length (up_to ends_run xs)) c.as_bytes-bytes.ensures.value in
    subst (λ (n : ℕ). IsCharBoundary text n) (sym len) (up_to-boundary ends_run run_ascii text)

pub returns-clause-token : goal.returns-clause-token
returns-clause-token c =
    let text = c.args.text.now in
    let prefix = up_to ends_field text in
    let len : c.len_up_to-len.result ≡ length prefix = c.len_up_to-len.ensures.field refl ∙ ap (λ xs. length (up_to ends_field xs)) c.as_bytes-bytes.ensures.value in
    let field : c.range-field.result.now ≡ prefix = prefix_is ends_field text c.range-field.result.now c.len_up_to-len.result len c.range-field.ensures.value in
    let run_len : c.len_up_to-len-2.result ≡ length (up_to ends_run text) = c.len_up_to-len-2.ensures.run refl ∙ ap (λ xs. length (up_to ends_run xs)) c.as_bytes-bytes.ensures.value in
    let run : c.range.result.now ≡ up_to ends_run text = prefix_is ends_run text c.range.result.now c.len_up_to-len-2.result run_len c.range.ensures.value in
    let opens : opens_quoted (drop (length prefix) text) ≡ false = ap (λ (n : ℕ). opens_quoted (drop n text)) (sym len) ∙ (ap (λ xs. opens_quoted (drop c.len_up_to-len.result xs)) (sym c.as_bytes-bytes.ensures.value) ∙ (sym c.opens_quoted.ensures ∙ c.if-opens_quoted.false)) in
    c.run_lexeme.ensures
    ∙ (ap (λ (xs : List ℕ). run_token xs c.range.result.now) field
    ∙ (ap (λ (xs : List ℕ). run_token prefix xs) run
    ∙ ap (λ x. x.0) (sym (word_at-run prefix text opens))))
