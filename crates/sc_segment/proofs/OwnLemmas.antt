-- The rows of keys one after another that are told to stay keep their numbers.
use Rattle.std.proofs.Common.{◌≡◌, ℕ, zero, suc, ◌+◌, ◌-◌, ◌<◌, ◌≤◌, Bool, List, ◌++◌, length, take, get_or, Option, Some, sym, ap, subst, ◌∙◌, arith}
use Rattle.std.proofs.lemmas.List.Elements.{All-append, All-same}
use Rattle.std.specs.List.{slice_range}
use Rattle.sc_rows.proofs.OwnLemmas.{own-from}
use Rattle.sc_rows.proofs.RangeLemmas.{range-join, range-take}
use Rattle.sc_rows.specs.Moving.{new_number, AllStay, AreOwn}
use Rattle.sc_segment.proofs.FlatLemmas.{IsPlaced, rows_among-rises}
use Rattle.sc_segment.specs.Carrying.{StayAt}
use Rattle.sc_segment.specs.Flat.{rows_among}

module _ (moved : List (Option ℕ)) where
  -- a row keeps its number
  abbrev IsOwn : ℕ → Type 0
  IsOwn row = new_number moved row ≡ Some row

  module _ {K : Type 0} (keys : List K) (ends rows : List ℕ) (entries : List (K × List ℕ)) (stays : List Bool)
      (placed : (i : ℕ) → i < length entries → IsPlaced keys ends rows entries i (rows_among (take i entries))) (own : StayAt moved entries stays) where
    own-key : (key : ℕ) → key < length entries → AllStay stays key (key + 1) → AreOwn moved (slice_range rows (rows_among (take key entries)) (get_or ends key 0))
    own-key key within stay =
        let p = placed key within in
        own key (p.key, slice_range rows (rows_among (take key entries)) (get_or ends key 0)) p.entry (stay key (omega arith) (omega arith))

    -- the rows of all keys from one up to another
    own-run : (at n key : ℕ) → key ≡ at + n → key < length entries → AllStay stays at (key + 1) → AreOwn moved (slice_range rows (rows_among (take at entries)) (get_or ends key 0))
    own-run at zero key is within stay =
        let same : key ≡ at = omega (arith, is) in
        subst (λ (k : ℕ). AreOwn moved (slice_range rows (rows_among (take k entries)) (get_or ends key 0))) same
        (own-key key within (λ i low high. stay i (omega (arith, low, same)) high))
    own-run at (suc n) key is within stay =
        let p = placed key within in
        let before = placed (key - 1) (omega (arith, within)) in
        let one : key - 1 + 1 ≡ key = omega (arith, is) in
        let next : get_or ends (key - 1) 0 ≡ rows_among (take key entries) = before.next ∙ ap (λ (k : ℕ). rows_among (take k entries)) one in
        let earlier = subst (λ (e : ℕ). AreOwn moved (slice_range rows (rows_among (take at entries)) e)) next
        (own-run at n (key - 1) (omega (arith, is)) (omega (arith, within)) (λ i low high. stay i low (omega (arith, high, one)))) in
        let last = own-key key within (λ i low high. stay i (omega (arith, low, is)) high) in
        let rises = rows_among-rises entries at key (omega (arith, is)) in
        All-same IsOwn (slice_range rows (rows_among (take at entries)) (get_or ends key 0))
        (slice_range rows (rows_among (take at entries)) (rows_among (take key entries)) ++ slice_range rows (rows_among (take key entries)) (get_or ends key 0))
        (range-join rows (rows_among (take at entries)) (rows_among (take key entries)) (get_or ends key 0) rises p.rises)
        (All-append IsOwn (slice_range rows (rows_among (take at entries)) (rows_among (take key entries))) (slice_range rows (rows_among (take key entries)) (get_or ends key 0)) earlier last)

    -- those of them that were not passed, among the first rows
    pub own-ahead : (at key passed last : ℕ) → at ≤ key → key < length entries → AllStay stays at (key + 1) → rows_among (take at entries) ≤ passed → get_or ends key 0 ≤ last
        → AreOwn moved (slice_range (take last rows) passed (get_or ends key 0))
    own-ahead at key passed last rises within stay begins fits =
        let p = placed key within in
        let before = rows_among-rises entries at key rises in
        let all = own-run at (key - at) key (omega (arith, rises)) within stay in
        let part = range-take rows last (rows_among (take at entries)) (get_or ends key 0) (omega (arith, before, p.rises)) fits in
        own-from moved (take last rows) (rows_among (take at entries)) passed (get_or ends key 0) begins (subst (AreOwn moved) (sym part) all)
