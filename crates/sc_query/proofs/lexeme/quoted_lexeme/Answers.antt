-- The token of a quoted leaf is that of the definition, and the value is cut between characters.
use Rattle.std.proofs.Common.{◌≡◌, ℕ, List, length, refl, sym, ap, subst, ◌∙◌, false-eqb}
use Rattle.std.specs.Str.{IsCharBoundary}
use Rattle.sc_query.specs.Tokens.{Token, up_to, plain, ends_quoted}
use Rattle.sc_query.proofs.CutsLemmas.{prefix_is, up_to-boundary, quoted_ascii, quoted_leaf-whole}
use Rattle.sc_query.proofs.lexeme.quoted_lexeme.Goals as goal

pub range-value-requires-clause-end_boundary : goal.range-value-requires-clause-end_boundary
range-value-requires-clause-end_boundary c =
    let text = c.args.text.now in
    let inside : c.len_up_to-inside.result ≡ length (up_to ends_quoted text) = c.len_up_to-inside.ensures.quoted refl ∙ ap (λ xs. length (up_to ends_quoted xs)) c.as_bytes.ensures.value in
    subst (λ (n : ℕ). IsCharBoundary text n) (sym inside) (up_to-boundary ends_quoted quoted_ascii text)

pub returns-clause-token : goal.returns-clause-token
returns-clause-token c =
    let text = c.args.text.now in
    let inside : c.len_up_to-inside.result ≡ length (up_to ends_quoted text) = c.len_up_to-inside.ensures.quoted refl ∙ ap (λ xs. length (up_to ends_quoted xs)) c.as_bytes.ensures.value in
    let value : c.range-value.result.now ≡ up_to ends_quoted text = prefix_is ends_quoted text c.range-value.result.now c.len_up_to-inside.result inside c.range-value.ensures.value in
    ap (λ (xs : List ℕ). Token.Leaf c.args.field.now (plain xs)) value ∙ sym (ap (λ x. x.0) (quoted_leaf-whole c.args.field.now (up_to ends_quoted text) text (false-eqb (length c.args.field.now) 0 c.if-is_empty.ensures) (λ h. c.if-inside-text.false (inside ∙ h)) (λ h. c.if-inside-eq0.false (inside ∙ h))))
