-- What is left of one list, once the other one is passed, is kept or not as a whole.
use Rattle.std.proofs.Common.{◌≡◌, ℕ, true, false, cond, List, [], ◌++◌, drop, ap, ◌∙◌}
use Rattle.std.proofs.lemmas.List.{take_rest}
use Rattle.sc_rows.specs.Joining.{keeps}
use Rattle.sc_rows.proofs.JoinLemmas.{joined, rest-left, rest-right, IsJoin-joined}
use Rattle.sc_rows.proofs.joining.merged.Goals.{then-merging-test+else-high-right, else-merging-test}
use Rattle.sc_rows.proofs.joining.merged.Goals as goal

pub returns : goal.returns
returns c =
    let k = keeps c.args.how in
    let left = c.args.left.now in
    let right = c.args.right.now in
    let rows = c.merging.rows.items in
    let low = c.merging.low in
    let high = c.merging.high in
    let first : c.extend_kept.new.rows.items ≡ rows ++ cond c.is_kept-2.result (drop low left) [] =
    c.in_ok-extend_kept.ensures ∙ ap (λ (zs : List ℕ). rows ++ cond c.is_kept-2.result zs []) (take_rest left low) in
    let both : c.extend_kept-2.new.rows.items ≡ (rows ++ cond c.is_kept-2.result (drop low left) []) ++ cond c.is_kept-3.result (drop high right) [] =
    c.in_ok-extend_kept-2.ensures
    ∙ ap (λ (zs : List ℕ). c.extend_kept.new.rows.items ++ cond c.is_kept-3.result zs []) (take_rest right high)
    ∙ ap (λ (rs : List ℕ). rs ++ cond c.is_kept-3.result (drop high right) []) first in
    let made : c.extend_kept-2.new.rows.items ≡ (rows ++ cond (k true false) (drop low left) []) ++ cond (k false true) (drop high right) [] =
    both ∙ ap (λ b. (rows ++ cond b (drop low left) []) ++ cond c.is_kept-3.result (drop high right) []) c.is_kept-2.ensures
    ∙ ap (λ b. (rows ++ cond (k true false) (drop low left) []) ++ cond b (drop high right) []) c.is_kept-3.ensures in
    IsJoin-joined c.args.how left right c.extend_kept-2.new.rows.items c.requires.left c.requires.right
    (made ∙ elim c.merging-test.branch [
      | then-merging-test+else-high-right w ↦ rest-left k left right rows (joined k left right) low high c.merging.invariant.same w.if-high-right.false
      | else-merging-test w ↦ rest-right k left right rows (joined k left right) low high c.merging.invariant.same w.merging-test.false
    ])
