-- The words of a plain text, folded, are the runs of the text in small letters.
use Rattle.std.proofs.Common.{rules, ◌≡◌, List, ℕ, sym, ap, subst, ◌∙◌, IsAscii, map}
use Rattle.std.specs.Char.{to_ascii_lowercase}
use Rattle.std.specs.Result.{OnOk}
use Rattle.std.proofs.lemmas.Str.Ascii.{IsAscii-map, lowercase_ascii}
use Rattle.sc_schema.specs.Keys.{PutsKeys}
use Rattle.sc_schema.specs.Runs.{runs}
use Rattle.sc_schema.proofs.FoldLemmas.{lower_text}
use Rattle.sc_schema.proofs.RunLemmas.{folded-words-plain, IsAscii-plain}
use Rattle.sc_schema.proofs.terms.push_plain_words.Goals as goal

pub push_runs-requires : goal.push_runs-requires
push_runs-requires c =
    let text = c.args.text.now in
    let lower : c.as_str.result.now ≡ map to_ascii_lowercase text = search rules in
    subst IsAscii (sym lower) (IsAscii-map to_ascii_lowercase text lowercase_ascii (IsAscii-plain text c.requires))

pub returns-then-has_capital : goal.returns-then-has_capital
returns-then-has_capital c =
    let text = c.args.text.now in
    let lower : c.as_str.result.now ≡ map to_ascii_lowercase text = search rules in
    subst (λ (ws : List (List ℕ)). OnOk c.push_runs.result (PutsKeys ws c.args.terms.now c.push_runs.new.terms))
    (ap runs lower ∙ sym (folded-words-plain text c.requires)) c.push_runs.ensures

pub push_runs-requires-2 : goal.push_runs-requires-2
push_runs-requires-2 c = IsAscii-plain c.args.text.now c.requires

pub returns : goal.returns
returns c =
    let text = c.args.text.now in
    let same = lower_text text (sym c.if-has_capital.ensures) in
    subst (λ (ws : List (List ℕ)). OnOk c.push_runs-2.result (PutsKeys ws c.args.terms.now c.push_runs-2.new.terms))
    (ap runs (sym same) ∙ sym (folded-words-plain text c.requires)) c.push_runs-2.ensures
