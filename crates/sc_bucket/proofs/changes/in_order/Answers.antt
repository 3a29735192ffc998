-- The sort is by the ids, and stable.
use Rattle.std.proofs.Common.{◌∙◌, ℕ, List, map, rules, subst, sym, ap, Bor}
use Rattle.std.specs.Cmp.Lexicographic.{slice_cmp, texts_ties}
use Rattle.std.specs.List.Sorted.{IsSorted}
use Rattle.std.specs.Ordering.{is_lt, nat_cmp}
use Rattle.std.specs.declared.alloc.Global.{Global}
use Rattle.std.specs.declared.sync.Arc.{Arc}
use Rattle.std.proofs.lemmas.Cmp.{nat_list_cmp_total}
use Rattle.std.proofs.lemmas.Fn.{always_returns_same}
use Rattle.std.proofs.lemmas.List.Sorted.{ranks_by}
use Rattle.std.proofs.lemmas.Simd.{map-map}
use Rattle.sc_record.specs.Writes.{is_of, Write}
use Rattle.sc_cluster.proofs.ListLemmas.{filter-map}
use Rattle.sc_journal.proofs.JournalLemmas.{id_from_is_of}
use Rattle.sc_snapshot.specs.Rows.{lent}
use Rattle.sc_bucket.proofs.StableLemmas.{IsSorted-keys, filter-stable}
use Rattle.sc_bucket.proofs.changes.in_order.Goals as goal

pub returns : goal.returns
returns c =
    let xs = c.args.cells.items in
    let ys = c.sort_by.new.self.items in
    let key : Bor (Arc Write Global) → List ℕ = λ cell. (lent cell).id in
    let by_key = ranks_by nat_list_cmp_total key in
    let compares = always_returns_same _ _ _ (λ a r f' called. search rules) in
    let up = c.in_ok-sort_by.ensures.sorted (λ a b. is_lt (slice_cmp nat_cmp (key a) (key b))) by_key compares in
    let kept = c.in_ok-sort_by.ensures.stable (λ a b. is_lt (slice_cmp nat_cmp (key a) (key b))) by_key compares in
    record {
      sorted = subst (IsSorted (slice_cmp nat_cmp)) (sym (map-map (λ (write : Write). write.id) lent ys)) (IsSorted-keys (slice_cmp nat_cmp) key ys up);
      stable = λ id.
          filter-map (is_of id) lent ys
          ∙ ap (map lent)
          (filter-stable nat_list_cmp_total key xs ys kept id (λ cell. is_of id (lent cell)) (λ cell. texts_ties (key cell) id)
          (λ cell is. id_from_is_of id (lent cell) is))
          ∙ sym (filter-map (is_of id) lent xs);
    }
