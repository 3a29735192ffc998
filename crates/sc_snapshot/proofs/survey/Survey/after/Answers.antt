-- No row is surveyed yet.
use Rattle.std.proofs.Common.{◌≡◌, Bool, List, true, length, replicate, to_z, of_z, w32, sym, ap, ◌∙◌, arith}
use Rattle.std.proofs.lemmas.Int.{ints}
use Rattle.std.proofs.lemmas.List.{length-replicate}
use Rattle.sc_snapshot.proofs.SurveyLemmas.{surveyed-none, same-bounds}
use Rattle.sc_snapshot.proofs.survey.Survey.after.Goals as goal

pub returns-clause-surveyed : goal.returns-clause-surveyed
returns-clause-surveyed c = λ new size.
    let begun = c.in_ok-survey.ensures in
    surveyed-none new c.in_ok-survey.survey begun.live_rows (begun.live_bits ∙ ap (λ n. replicate n true) (sym size))

pub returns-clause-size : goal.returns-clause-size
returns-clause-size c = ap (λ (l : List Bool). length l) c.in_ok-survey.ensures.live_bits ∙ length-replicate c.args.rows true

pub returns-clause-hashes : goal.returns-clause-hashes
returns-clause-hashes c =
    let begun = c.in_ok-survey.ensures in
    let least = c.args.last.now.least_hash in
    let greatest = c.args.last.now.greatest_hash in
    let same_least : to_z w32 (of_z w32 least) ≡ least = omega (arith, ints) in
    let same_greatest : to_z w32 (of_z w32 greatest) ≡ greatest = omega (arith, ints) in
    same-bounds c.args.last.now c.in_ok-survey.survey (begun.least_hash ∙ same_least) (begun.greatest_hash ∙ same_greatest)
