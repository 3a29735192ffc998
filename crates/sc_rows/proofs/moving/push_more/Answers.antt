-- The rows of keys that stay are their own new numbers.
use Rattle.std.proofs.Common.{List, ℕ, ◌++◌, get_or, sym, ap, ◌∙◌}
use Rattle.std.specs.List.{slice_range}
use Rattle.sc_rows.proofs.OwnLemmas.{own-numbers, own-kept, own-from}
use Rattle.sc_rows.proofs.moving.push_more.Goals as goal

pub returns-in-Some-true-clause-items : goal.returns-in-Some-true-clause-items
returns-in-Some-true-clause-items c =
    let key = c.last_staying-key in
    let run = c.requires.runs key.result key.ensures.rises key.ensures.within key.ensures.stay in
    c.copy_rows.ensures.items
    ∙ ap (λ (ns : List ℕ). c.args.list.now.items ++ ns) (sym (own-numbers c.args.moved.now (slice_range c.args.rows.now c.args.from (get_or c.args.runs.now.ends.now key.result 0)) run.own))

pub returns-in-Some-true-clause-kept : goal.returns-in-Some-true-clause-kept
returns-in-Some-true-clause-kept c =
    let key = c.last_staying-key in
    let end = get_or c.args.runs.now.ends.now key.result 0 in
    let run = c.requires.runs key.result key.ensures.rises key.ensures.within key.ensures.stay in
    own-kept c.args.moved.now (slice_range c.args.rows.now c.args.to end) (own-from c.args.moved.now c.args.rows.now c.args.from c.args.to end c.requires.rises run.own)
