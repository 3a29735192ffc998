-- No rows wait, and the keys from one place on have no fewer rows before them than those before it.
use Rattle.std.proofs.Common.{◌≡◌, List, ℕ, [], ◌++◌, length, take, drop, sym, ap, subst, ◌∙◌, arith}
use Rattle.sc_segment.proofs.FlatLemmas.{flat, rows_among-rises, closed-from}
use Rattle.sc_segment.specs.Flat.{FlatState, last_end, entries_from}
use Rattle.sc_segment.specs.Storing.{IsCarriedAt}
use Rattle.sc_segment.proofs.flat_index.FlatIndex+u32.carry.Goals as goal

pub overflow_sub-more : goal.overflow_sub-more
overflow_sub-more g c =
    let rises = rows_among-rises c.args.old.now.entries c.args.from c.args.to c.requires.rises in
    omega (arith, rises, c.rows_before.ensures, c.rows_before-2.ensures)

pub carry_range-places-requires-clause-none : goal.carry_range-places-requires-clause-none
carry_range-places-requires-clause-none g c =
    let none : drop (last_end 0 c.self.inside.ends.items) c.self.inside.rows.items ≡ [] = ap (λ (s : FlatState _). s.pending) c.self.view_is ∙ c.requires.none in
    ap (last_end 0) (ap (λ list. list.items) c.replace-ends.ensures.value ∙ c.reserve-2.ensures.items)
    ∙ closed-from c.self.inside.ends.items c.self.inside.rows.items c.self.invariant.1 none
    ∙ sym (ap (λ (rs : List ℕ). length rs) c.reserve-3.ensures.items)

-- the entries are the same after room was made
as_reserved : (places places' ends ends' rows rows' : List ℕ) (state : FlatState ℕ) → flat places ends rows ≡ state → places' ≡ places → ends' ≡ ends → rows' ≡ rows
    → state.entries ≡ entries_from 0 places' ends' rows'
as_reserved places places' ends ends' rows rows' state was as_places as_ends as_rows =
    sym (ap (λ (s : FlatState ℕ). s.entries) was)
    ∙ ap (λ (ps : List ℕ). entries_from 0 ps ends rows) (sym as_places)
    ∙ ap (λ (es : List ℕ). entries_from 0 places' es rows) (sym as_ends)
    ∙ ap (λ (rs : List ℕ). entries_from 0 places' ends' rs) (sym as_rows)

pub returns-clause-carried : goal.returns-clause-carried
returns-clause-carried g c = λ more before are so_far.
    let same = as_reserved c.self.inside.keys.items c.replace-places.result.items c.self.inside.ends.items c.replace-ends.result.items c.self.inside.rows.items c.reserve-3.new.self.items c.args.self.now
    c.self.view_is (ap (λ list. list.items) c.replace-places.ensures.value ∙ c.reserve.ensures.items) (ap (λ list. list.items) c.replace-ends.ensures.value ∙ c.reserve-2.ensures.items)
    c.reserve-3.ensures.items in
    c.carry_range-places.ensures.carried more before are
    (subst (IsCarriedAt g.K.Key.order (c.args.old.now.stored ++ more) c.args.moved.now (take c.args.from c.args.old.now.entries) before) same so_far)
