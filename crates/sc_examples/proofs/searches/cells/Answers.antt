-- The ids of the three cells ascend.
use Rattle.std.proofs.Common.{◌≡◌, ℕ, List, [], ◌∷◌, ◌++◌, map, codes, refl, sym, ap, subst, ◌∙◌, arith}
use Rattle.std.specs.Arc.{arc_value}
use Rattle.std.specs.Cmp.Lexicographic.{slice_cmp}
use Rattle.std.specs.List.Sorted.{IsStrictlySortedBy}
use Rattle.std.specs.Ordering.{nat_cmp}
use Rattle.sc_record.specs.Writes.{Write}
use Rattle.sc_snapshot.specs.Rows.{AreRows}
use Rattle.sc_examples.proofs.searches.cells.Goals as goal

three : (a b c : Write) → a.id ≡ codes "a" → b.id ≡ codes "b" → c.id ≡ codes "c" → AreRows (a ∷ b ∷ c ∷ [])
unfolding IsStrictlySortedBy
three a b c ha hb hc =
    let Sorted : List ℕ → List ℕ → List ℕ → Type 0 = λ x y z. IsStrictlySortedBy (slice_cmp nat_cmp) (x ∷ y ∷ z ∷ []) in
    let plain : Sorted (codes "a") (codes "b") (codes "c") = ((refl, (refl, tt)), ((refl, tt), (tt, tt))) in
    record {
      ascend = subst (λ x. Sorted x b.id c.id) (sym ha)
          (subst (λ y. Sorted (codes "a") y c.id) (sym hb) (subst (Sorted (codes "a") (codes "b")) (sym hc) plain));
      bounded = omega arith;
    }

pub returns-clause-rows : goal.returns-clause-rows
returns-clause-rows c =
    let e : map arc_value c.push-3.new.self ≡ arc_value c.in_ok-first.field-0
    ∷ arc_value c.in_ok-write.field-0 ∷ arc_value c.in_ok-last.field-0 ∷ [] =
    ap (map arc_value) (c.in_ok-push-3.ensures.ok
    ∙ ap (λ xs. xs ++ c.in_ok-last.field-0 ∷ []) (c.in_ok-push-2.ensures.ok
    ∙ ap (λ xs. xs ++ c.in_ok-write.field-0 ∷ []) (c.in_ok-push.ensures.ok
    ∙ ap (λ xs. xs ++ c.in_ok-first.field-0 ∷ []) c.new-cells.ensures))) in
    subst AreRows (sym e) (three _ _ _ c.in_ok-first.ensures.id c.in_ok-write.ensures.id c.in_ok-last.ensures.id)
