-- The first rows of a list that ascends ascend.
use Rattle.std.proofs.Common.{ℕ, take, ap, ◌∙◌}
use Rattle.std.proofs.lemmas.List.{take_min}
use Rattle.sc_rows.proofs.StartLemmas.{IsStrictlyIncreasing-take}
use Rattle.sc_rows.proofs.start.first_of.Goals as goal

pub returns : goal.returns
returns c =
    let rows = c.args.rows.now in
    record {
      first = ap (λ (n : ℕ). take n rows) c.min.ensures ∙ take_min c.args.most rows;
      ascending = IsStrictlyIncreasing-take c.min.result rows c.requires;
    }
