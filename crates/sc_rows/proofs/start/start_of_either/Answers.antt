-- The union has the right list's rows and the left one's beside them, and begins with the union of their first rows.
use Rattle.std.proofs.Common.{refl, ◌∙◌, arith}
use Rattle.sc_rows.specs.declared.joining.Kept.TheVariants.{Either}
use Rattle.sc_rows.proofs.JoinLemmas.{IsJoin-joined}
use Rattle.sc_rows.proofs.StartLemmas.{united, count-united, first-united}
use Rattle.sc_rows.proofs.start.start_of_either.Goals as goal

pub returns : goal.returns
returns c =
    let left = c.args.left.now in
    let right = c.args.right.now in
    let first_left = c.first_of-first_left.ensures in
    let first_right = c.first_of-first_right.ensures in
    let beside = c.count.ensures.counted right c.requires.sieve in
    let all = count-united left right c.requires.left c.requires.right in (
      united left right,
      IsJoin-joined Either left right (united left right) c.requires.left c.requires.right refl,
      record {
        count = omega (arith, beside, all);
        first = c.truncate.ensures.items ∙ first-united c.args.most left right _ _ c.in_ok-rows.rows.items first_left.first first_right.first first_left.ascending first_right.ascending c.in_ok-rows.ensures;
      },
    )
