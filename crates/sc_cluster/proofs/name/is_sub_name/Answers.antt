-- What is left after the parent's name is the ending.
use Rattle.std.proofs.Common.{◌≡◌, ◌∷◌, ◌++◌, Some, None, ap, sym, ◌∙◌}
use Rattle.std.specs.Fmt.{decimal}
use Rattle.std.proofs.lemmas.Bool.{false≢true}
use Rattle.std.proofs.lemmas.Bool.Decides.{Decides-eqb}
use Rattle.std.proofs.lemmas.List.{append_cancel_left}
use Rattle.std.proofs.lemmas.Slice.Eq.{strip_prefix_is}
use Rattle.sc_cluster.proofs.NameLemmas.{sub_name-cut}
use Rattle.sc_cluster.proofs.name.is_sub_name.Goals as goal

pub returns-in-Some : goal.returns-in-Some
returns-in-Some c =
    let parent = c.args.parent.now in
    let ending = c.in-Some.ending.now in
    let cut : c.args.name.now ≡ parent ++ ending =
    sym c.as_bytes.ensures.value
    ∙ strip_prefix_is Decides-eqb c.as_bytes.result.now c.as_bytes-2.result.now (Some c.in-Some.ending) c.in-Some.ensures.cases
    ∙ ap (λ prefix. prefix ++ ending) c.as_bytes-2.ensures.value in
    let name = sub_name-cut parent c.args.i in (
      λ passes. cut ∙ ap (λ rest. parent ++ rest) (c.is_sub_ending.ensures.0 passes) ∙ sym name,
      λ is. c.is_sub_ending.ensures.1 (append_cancel_left parent ending (95 ∷ decimal c.args.i) (sym cut ∙ is ∙ name)),
    )

pub returns-in-None : goal.returns-in-None
returns-in-None c =
    let parent = c.args.parent.now in
    let none = strip_prefix_is Decides-eqb c.as_bytes.result.now c.as_bytes-2.result.now None c.in-None.ensures.cases in (
      λ passes. absurd (false≢true passes),
      λ is. absurd (none (95 ∷ decimal c.args.i) (c.as_bytes.ensures.value ∙ is ∙ sub_name-cut parent c.args.i
          ∙ ap (λ prefix. prefix ++ 95 ∷ decimal c.args.i) (sym c.as_bytes-2.ensures.value))),
    )
