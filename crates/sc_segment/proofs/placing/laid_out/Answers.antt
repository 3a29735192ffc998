-- The postings are placed in as many rows as are counted.
use Rattle.std.proofs.Common.{◌≡◌, ◌++◌, List, ℕ, length, take, drop, ap, subst, ◌∙◌, rules, arith}
use Rattle.std.proofs.lemmas.List.{take_at}
use Rattle.std.specs.Map.{keys_of, values_of}
use Rattle.sc_segment.specs.declared.tally.Posting.{Posting}
use Rattle.sc_segment.specs.Flat.{entries_from}
use Rattle.sc_segment.specs.Placing.{ArePlaced, IsBegun, ends_from, rows_counted}
use Rattle.sc_segment.proofs.PlacingLemmas.{counted_rows, entries-placed, laid_out_by}
use Rattle.sc_segment.proofs.placing.laid_out.Goals as goal

-- what stands in a list after all of it was written
written : (new old : List ℕ) (count : ℕ) → length new ≡ count → take count (new ++ drop (length new) old) ≡ new
written new old count long = take_at new (drop (length new) old) count long

pub of-requires : goal.of-requires
of-requires g c =
    let new = c.place.new.rows in
    let old = c.in_ok-rows.rows in
    let long : length new ≡ old.len = omega (arith, c.place.ensures.room, ap length c.as_mut_slice-2.ensures.value, old.ok.0) in
    let same = written new old.items old.len long in
    let room : length (take old.len (new ++ drop (length new) old.items)) ≡ rows_counted (values_of c.args.keys.items) =
    omega (arith, ap length same, long, c.in_ok-rows.ensures.len, c.in_ok-layout.ensures.count, ap (λ (keys : List _). rows_counted (values_of keys)) c.as_slice.ensures.value) in
    laid_out_by c.args.keys.items c.in_ok-alone.alone.items c.in_ok-layout.layout.ends.items (take old.len (new ++ drop (length new) old.items))
    c.in_ok-alone.ensures (c.in_ok-layout.ensures.ends ∙ ap (λ (keys : List _). ends_from 0 (values_of keys)) c.as_slice.ensures.value) room

pub returns : goal.returns
returns g c =
    let new = c.place.new.rows in
    let old = c.in_ok-rows.rows in
    let keys = c.args.keys.items in
    let postings = c.args.postings.items in
    let long : length new ≡ old.len = omega (arith, c.place.ensures.room, ap length c.as_mut_slice-2.ensures.value, old.ok.0) in
    let begun : IsBegun (values_of keys) c.as_slice-2.result.now c.as_mut_slice.result.now c.as_mut_slice-2.result.now = search rules in
    let placed = subst (λ (ps : List Posting). ArePlaced 0 (values_of keys) ps c.place.new.next new) c.as_slice-2.ensures.value (c.place.ensures.placed (values_of keys) begun) in
    c.of.ensures
    ∙ ap (λ (ks : List _). entries_from 0 ks c.in_ok-layout.layout.ends.items (take old.len (new ++ drop (length new) old.items))) c.in_ok-alone.ensures
    ∙ ap (λ (es : List ℕ). entries_from 0 (keys_of keys) es (take old.len (new ++ drop (length new) old.items))) (c.in_ok-layout.ensures.ends ∙ ap (λ (ks : List _). ends_from 0 (values_of ks)) c.as_slice.ensures.value)
    ∙ ap (λ (rs : List ℕ). entries_from 0 (keys_of keys) (ends_from 0 (values_of keys)) rs) (written new old.items old.len long)
    ∙ entries-placed 0 keys postings c.place.new.next new (counted_rows (values_of keys) postings c.requires) placed
