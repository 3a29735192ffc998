-- Rows whose ids ascend are each the write of its id.
use Rattle.std.proofs.Common.{◌≡◌, ℕ, zero, suc, ◌<◌, List, [], ◌∷◌, false, map, cond, Some, refl, sym, ap, subst, ◌∙◌, arith, length, get_or}
use Rattle.std.specs.List.{AllByRecursion, find}
use Rattle.std.specs.Cmp.Lexicographic.{slice_cmp, texts_ties}
use Rattle.std.specs.Ordering.{nat_cmp, is_eq}
use Rattle.std.specs.Str.{bytes_eq}
use Rattle.std.specs.declared.cmp.Ordering.TheVariants.{Less}
use Rattle.std.proofs.lemmas.Slice.Eq.{bytes_eq-Decides}
use Rattle.std.proofs.lemmas.Map.Keys.{sorted_head, sorted_tail}
use Rattle.sc_record.specs.Writes.{Write, is_of, write_of, AscendById}
use Rattle.sc_snapshot.specs.Laws.{AreEachOfOneId}

-- an id that is below those of all rows is not that of any
below-at : (id : List ℕ) (rows : List Write)
    → AllByRecursion (λ other. slice_cmp nat_cmp id other ≡ Less) (map (λ (row : Write). row.id) rows)
    → (row : Write) (k : ℕ) → k < length rows → get_or rows k row ≡ row → bytes_eq id row.id ≡ false
below-at id [] all row k within at = absurd (omega arith)
below-at id (r ∷ rs) all row zero within at =
    subst (λ (w : Write). bytes_eq id w.id ≡ false) at (texts_ties id r.id ∙ ap is_eq all.0)
below-at id (r ∷ rs) all row (suc k) within at = below-at id rs all.1 row k (omega arith) at

-- a row is the write of its id
each_at : (rows : List Write) → AscendById rows → (row : Write) (k : ℕ) → k < length rows → get_or rows k row ≡ row
    → write_of rows row.id ≡ Some row
each_at [] ascend row k within at = absurd (omega arith)
each_at (r ∷ rs) ascend row zero within at =
    subst (λ (w : Write). write_of (r ∷ rs) w.id ≡ Some w) at
    (ap (λ b. cond b (Some r) (find (is_of r.id) rs)) ((bytes_eq-Decides r.id r.id).1 refl))
each_at (r ∷ rs) ascend row (suc k) within at =
    ap (λ b. cond b (Some r) (find (is_of row.id) rs))
    (below-at r.id rs (sorted_head (slice_cmp nat_cmp) r.id (map (λ (w : Write). w.id) rs) ascend) row k (omega arith) at)
    ∙ each_at rs (sorted_tail (slice_cmp nat_cmp) r.id (map (λ (w : Write). w.id) rs) ascend) row k (omega arith) at

pub each_of_one_id : AreEachOfOneId
each_of_one_id rows are = (
  λ row has. each_at rows are.ascend row has.0 has.1 has.2,
  λ one other has also same.
      let first = each_at rows are.ascend one has.0 has.1 has.2 in
      let second = each_at rows are.ascend other also.0 also.1 also.2 in
      let found : Some one ≡ Some other = sym first ∙ ap (write_of rows) same ∙ second in
      cc,
)
