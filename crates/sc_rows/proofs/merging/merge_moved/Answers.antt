-- What is below the other list's row follows first, and what is left of one list, once the other one is passed, as a whole.
use Rattle.std.proofs.Common.{◌≡◌, ℕ, ◌+◌, ◌-◌, ◌<◌, All, List, ◌++◌, length, take, drop, get_or, refl, ap, subst, ◌∙◌, inl, inr, arith}
use Rattle.std.proofs.lemmas.List.{length-drop, take_rest}
use Rattle.sc_rows.proofs.JoinLemmas.{joined, IsJoin-joined}
use Rattle.sc_rows.proofs.NumberLemmas.{new_numbers-ascend, merged-below, merged-rest}
use Rattle.sc_rows.specs.declared.joining.Kept.TheVariants.{Either}
use Rattle.sc_rows.specs.Joining.{keeps}
use Rattle.sc_rows.specs.Moving.{new_numbers}
use Rattle.sc_rows.proofs.merging.merge_moved.Goals.{then-merging-test+else-high-added, else-merging-test}
use Rattle.sc_rows.proofs.merging.merge_moved.Goals as goal

pub merging-preserved-in-Less : goal.merging-preserved-in-Less
merging-preserved-in-Less c =
    let moved = c.args.moved.now in
    let rows = c.args.rows.now in
    let added = c.args.added.now in
    let low = c.merging.low in
    let high = c.merging.high in
    let count = c.in_ok-low-in-Less.field-0 in
    let passed = c.in_ok-low-in-Less.ensures in
    let whole = c.args.list.now.items ++ joined (keeps Either) (new_numbers moved rows) added in
    let rest = joined (keeps Either) (new_numbers moved (drop (low + count) rows)) (drop high added) in
    let tail : take count (take (length rows - low) (drop low rows)) ≡ take count (drop low rows) = ap (take count) (take_rest rows low) in
    let below = subst (λ (rs : List ℕ). All (λ (n : ℕ). n < get_or added high 0) (new_numbers moved rs)) tail passed.below in
    record {
      grows = omega (arith, c.merging.invariant.grows, passed.grows);
      same = ap (λ (rs : List ℕ). rs ++ rest) passed.added
          ∙ ap (λ (rs : List ℕ). (c.merging.list.items ++ new_numbers moved rs) ++ rest) tail
          ∙ merged-below moved rows added c.merging.list.items whole low high count (get_or added high 0) c.merging.invariant.same c.if-high-added.true refl below;
      low = omega (arith, passed.within, ap length (take_rest rows low), length-drop low rows, c.merging.invariant.low);
      high = c.merging.invariant.high;
    }

pub returns-clause-merged : goal.returns-clause-merged
returns-clause-merged c =
    let moved = c.args.moved.now in
    let rows = c.args.rows.now in
    let added = c.args.added.now in
    let low = c.merging.low in
    let high = c.merging.high in
    let whole = joined (keeps Either) (new_numbers moved rows) added in
    let made : c.extend_from_slice.new.self.items ≡ (c.merging.list.items ++ new_numbers moved (drop low rows)) ++ drop high added =
    c.in_ok-extend_from_slice.ensures.items
    ∙ ap (λ (rs : List ℕ). c.add_moved.new.list.items ++ rs) (take_rest added high)
    ∙ ap (λ (rs : List ℕ). rs ++ drop high added) c.in_ok-add_moved.ensures.added
    ∙ ap (λ (rs : List ℕ). (c.merging.list.items ++ new_numbers moved rs) ++ drop high added) (take_rest rows low) in (
      whole,
      made ∙ merged-rest moved rows added c.merging.list.items (c.args.list.now.items ++ whole) low high c.merging.invariant.same
          (elim c.merging-test.branch [
            | then-merging-test+else-high-added w ↦ inr w.if-high-added.false
            | else-merging-test w ↦ inl w.merging-test.false
          ]),
      IsJoin-joined Either (new_numbers moved rows) added whole (new_numbers-ascend moved rows c.requires.moved c.requires.rows) c.requires.added refl,
    )
