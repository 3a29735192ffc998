-- What is left after `_` are the digits.
use Rattle.std.proofs.Common.{◌≡◌, ◌∷◌, [], Some, None, ap, sym, ◌∙◌}
use Rattle.std.specs.Fmt.{decimal}
use Rattle.std.proofs.lemmas.Bool.{false≢true}
use Rattle.std.proofs.lemmas.Bool.Decides.{Decides-eqb}
use Rattle.std.proofs.lemmas.Slice.Eq.{bytes_eq-Decides, strip_prefix_is}
use Rattle.sc_cluster.proofs.name.is_sub_ending.Goals as goal

pub returns-in-Some : goal.returns-in-Some
returns-in-Some c =
    let text = c.args.text.now in
    let digits = c.in-Some.digits.now in
    let cut = strip_prefix_is Decides-eqb text (95 ∷ []) (Some c.in-Some.digits) c.in-Some.ensures.cases in
    let shown : c.as_bytes.result.now ≡ decimal c.args.i = c.as_bytes.ensures.value ∙ c.format.ensures.text in
    let decides = bytes_eq-Decides digits c.as_bytes.result.now in (
      λ passes. cut ∙ ap (λ ds. 95 ∷ ds) (decides.0 (sym c.eq.ensures ∙ passes) ∙ shown),
      λ is. let rest : digits ≡ decimal c.args.i = cc (cut, is) in c.eq.ensures ∙ decides.1 (rest ∙ sym shown),
    )

pub returns-in-None : goal.returns-in-None
returns-in-None c =
    let none = strip_prefix_is Decides-eqb c.args.text.now (95 ∷ []) None c.in-None.ensures.cases in
    (λ passes. absurd (false≢true passes), λ is. absurd (none (decimal c.args.i) is))
