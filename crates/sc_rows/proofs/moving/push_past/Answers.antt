-- The rows up to a place, and from there on those that have numbers.
use Rattle.std.proofs.Common.{◌≡◌, List, ℕ, ◌+◌, ◌-◌, ◌++◌, length, drop, take, append_assoc, sym, ap, ◌∙◌, arith}
use Rattle.std.proofs.lemmas.List.{take_rest}
use Rattle.std.specs.List.{slice_range}
use Rattle.sc_rows.proofs.RangeLemmas.{numbers-join}
use Rattle.sc_rows.specs.Moving.{new_numbers}
use Rattle.sc_rows.proofs.moving.push_past.Goals as goal

pub returns-clause-items : goal.returns-clause-items
returns-clause-items c =
    let moved = c.args.moved.now in
    let rows = c.args.rows.now in
    let count = c.push_kept.result in
    let up_to = new_numbers moved (slice_range rows c.args.from c.args.to) in
    let sum : c.args.to + count - c.args.to ≡ count = omega arith in
    let tail : take count (take (length rows - c.args.to) (drop c.args.to rows)) ≡ slice_range rows c.args.to (c.args.to + count) =
    ap (take count) (take_rest rows c.args.to) ∙ ap (λ (n : ℕ). take n (drop c.args.to rows)) (sym sum) in
    c.push_kept.ensures.items
    ∙ ap (λ (ns : List ℕ). c.push_moved.new.list.items ++ new_numbers moved ns) tail
    ∙ ap (λ (ns : List ℕ). ns ++ new_numbers moved (slice_range rows c.args.to (c.args.to + count))) c.push_moved.ensures.items
    ∙ append_assoc c.args.list.now.items up_to (new_numbers moved (slice_range rows c.args.to (c.args.to + count)))
    ∙ ap (λ (ns : List ℕ). c.args.list.now.items ++ ns) (sym (numbers-join moved rows c.args.from c.args.to (c.args.to + count) (omega arith) (omega arith)))
