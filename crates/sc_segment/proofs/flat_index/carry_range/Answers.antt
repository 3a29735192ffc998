-- One key of the old index more.
use Rattle.std.proofs.Common.{◌≡◌, ◌+◌, ◌-◌, ◌<◌, ◌≤◌, ℕ, List, ◌++◌, Some, length, take, drop, get_or, refl, sym, ap, subst, ◌∙◌, arith}
use Rattle.std.proofs.lemmas.List.{get_or_default, length-take-le, take_all}
use Rattle.std.specs.List.{slice_range}
use Rattle.sc_keys.proofs.StoringLemmas.{in_places, key_in_more}
use Rattle.sc_rows.proofs.RangeLemmas.{range-take}
use Rattle.sc_rows.specs.Moving.{new_numbers}
use Rattle.sc_segment.proofs.AheadLemmas.{IsAhead, ahead-start, ahead-all, pushed-count, end-counted, end-closed, end-long, end-ahead}
use Rattle.sc_segment.proofs.EntryLemmas.{so_far-old}
use Rattle.sc_segment.proofs.FlatLemmas.{as_flat, length-entries, start_counted, counted_within, rows_among-rises, placed, laid_out-put, closed-put, entries-put}
use Rattle.sc_segment.proofs.OwnLemmas.{own-ahead}
use Rattle.sc_segment.proofs.StoringLemmas.{carried_at-put}
use Rattle.sc_segment.specs.Flat.{IsLaidOut, AreAllClosed, PutsKey, entries_from, key_ends, last_end, rows_among}
use Rattle.sc_segment.specs.Storing.{KeptState, IsCarriedAt, entries_of_places}
use Rattle.sc_segment.proofs.flat_index.carry_range.Goals as goal

pub start_of-requires : goal.start_of-requires
start_of-requires g c =
    let all = length-entries 0 c.old.inside.keys.keys c.old.inside.ends.items c.old.inside.rows.items c.old.invariant.0 in
    let seen = ap (λ (s : KeptState _). length s.entries) c.old.view_is in
    rw c.as_slice-old_ends.ensures.value (omega (arith, all, seen, c.requires.within))

pub start_of-passed-requires : goal.start_of-passed-requires
start_of-passed-requires g c =
    let all = length-entries 0 c.old.inside.keys.keys c.old.inside.ends.items c.old.inside.rows.items c.old.invariant.0 in
    let seen = ap (λ (s : KeptState _). length s.entries) c.old.view_is in
    rw c.as_slice-old_ends.ensures.value (omega (arith, all, seen, c.requires.rises, c.requires.within))

pub slice_bounds-old_rows-end : goal.slice_bounds-old_rows-end
slice_bounds-old_rows-end g c =
    let last = start_counted c.old.inside.keys.keys c.old.inside.ends.items c.old.inside.rows.items (as_flat (drop (last_end 0 c.old.inside.ends.items) c.old.inside.rows.items) c.args.old.now) c.args.to c.start_of.result c.as_slice-old_ends.result.now c.old.invariant.0 c.old.invariant.1 (ap (as_flat (drop (last_end 0 c.old.inside.ends.items) c.old.inside.rows.items)) c.old.view_is) c.requires.within
    c.as_slice-old_ends.ensures.value c.start_of.ensures.first c.start_of.ensures.later in
    let within = counted_within c.old.inside.keys.keys c.old.inside.ends.items c.old.inside.rows.items (as_flat (drop (last_end 0 c.old.inside.ends.items) c.old.inside.rows.items) c.args.old.now) c.args.to c.old.invariant.0 c.old.invariant.1 (ap (as_flat (drop (last_end 0 c.old.inside.ends.items) c.old.inside.rows.items)) c.old.view_is) c.requires.within in
    sym (rw c.as_slice.ensures.value (length-take-le c.start_of.result c.old.inside.rows.items (omega (arith, last, within))))

pub carrying-init : goal.carrying-init
carrying-init g c =
    let last = start_counted c.old.inside.keys.keys c.old.inside.ends.items c.old.inside.rows.items (as_flat (drop (last_end 0 c.old.inside.ends.items) c.old.inside.rows.items) c.args.old.now) c.args.to c.start_of.result c.as_slice-old_ends.result.now c.old.invariant.0 c.old.invariant.1 (ap (as_flat (drop (last_end 0 c.old.inside.ends.items) c.old.inside.rows.items)) c.old.view_is) c.requires.within
    c.as_slice-old_ends.ensures.value c.start_of.ensures.first c.start_of.ensures.later in
    let within = counted_within c.old.inside.keys.keys c.old.inside.ends.items c.old.inside.rows.items (as_flat (drop (last_end 0 c.old.inside.ends.items) c.old.inside.rows.items) c.args.old.now) c.args.to c.old.invariant.0 c.old.invariant.1 (ap (as_flat (drop (last_end 0 c.old.inside.ends.items) c.old.inside.rows.items)) c.old.view_is) c.requires.within in
    let all : length (take c.start_of.result c.as_slice.result.now) ≡ c.start_of.result = rw c.as_slice.ensures.value (length-take-le c.start_of.result c.old.inside.rows.items (omega (arith, last, within))) in
    let first = start_counted c.old.inside.keys.keys c.old.inside.ends.items c.old.inside.rows.items (as_flat (drop (last_end 0 c.old.inside.ends.items) c.old.inside.rows.items) c.args.old.now) c.args.from c.start_of-passed.result c.as_slice-old_ends.result.now c.old.invariant.0 c.old.invariant.1 (ap (as_flat (drop (last_end 0 c.old.inside.ends.items) c.old.inside.rows.items)) c.old.view_is)
    (omega (arith, c.requires.rises, c.requires.within)) c.as_slice-old_ends.ensures.value c.start_of-passed.ensures.first c.start_of-passed.ensures.later in
    let later = rows_among-rises c.args.old.now.entries c.args.from c.args.to c.requires.rises in
    let count : c.len-start.result ≡ length c.args.rows.now.items = c.len-start.ensures ∙ c.args.rows.now.ok.0 in
    let whole : take c.len-start.result c.args.rows.now.items ≡ c.args.rows.now.items = take_all c.len-start.result c.args.rows.now.items (omega (arith, count)) in
    record {
      ahead = ahead-start c.args.moved.now (take c.start_of.result c.as_slice.result.now) (rows_among (take c.args.from c.args.old.now.entries)) c.start_of-passed.result c.len-start.result c.args.rows.now.items
          first (omega (arith, first, last, later, all)) count;
      laid_out = subst (λ (rs : List ℕ). IsLaidOut c.args.places.items c.args.ends.items rs) (sym whole) c.requires.laid_out;
      none = subst (λ (rs : List ℕ). AreAllClosed c.args.ends.items rs) (sym whole) c.requires.none;
      room_for_places = c.requires.room_for_places;
      room_for_ends = c.requires.room_for_ends;
      room_for_rows = omega (arith, all, first, last, c.requires.room_for_rows);
      fits = omega (arith, all, first, last, c.requires.fits);
      carried = λ more before are so_far. subst (λ (rs : List ℕ). IsCarriedAt g.K.Key.order (c.args.old.now.stored ++ more) c.args.moved.now (take c.args.from c.args.old.now.entries) before (entries_from 0 c.args.places.items c.args.ends.items rs)) (sym whole) so_far;
    }

pub bounds-old_ends-at : goal.bounds-old_ends-at
bounds-old_ends-at g c =
    (placed c.old.inside.keys.keys c.old.inside.ends.items c.old.inside.rows.items (as_flat (drop (last_end 0 c.old.inside.ends.items) c.old.inside.rows.items) c.args.old.now) c.carrying.at (rows_among (take c.carrying.at c.args.old.now.entries)) c.as_slice-old_ends.result.now c.as_slice.result.now
    c.old.invariant.0 c.old.invariant.1 (ap (as_flat (drop (last_end 0 c.old.inside.ends.items) c.old.inside.rows.items)) c.old.view_is) (omega (arith, c.carrying-test.true, c.requires.within)) refl c.as_slice-old_ends.ensures.value c.as_slice.ensures.value).in_ends

pub offset_bounds-old_ends-at : goal.offset_bounds-old_ends-at
offset_bounds-old_ends-at g c =
    let p = placed c.old.inside.keys.keys c.old.inside.ends.items c.old.inside.rows.items (as_flat (drop (last_end 0 c.old.inside.ends.items) c.old.inside.rows.items) c.args.old.now) c.carrying.at (rows_among (take c.carrying.at c.args.old.now.entries)) c.as_slice-old_ends.result.now c.as_slice.result.now
    c.old.invariant.0 c.old.invariant.1 (ap (as_flat (drop (last_end 0 c.old.inside.ends.items) c.old.inside.rows.items)) c.old.view_is) (omega (arith, c.carrying-test.true, c.requires.within)) refl c.as_slice-old_ends.ensures.value c.as_slice.ensures.value in
    omega (arith, p.in_ends, c.as_slice-old_ends.type_inv.1)

pub bounds-old_places-at : goal.bounds-old_places-at
bounds-old_places-at g c =
    let p = placed c.old.inside.keys.keys c.old.inside.ends.items c.old.inside.rows.items (as_flat (drop (last_end 0 c.old.inside.ends.items) c.old.inside.rows.items) c.args.old.now) c.carrying.at (rows_among (take c.carrying.at c.args.old.now.entries)) c.as_slice-old_ends.result.now c.as_slice.result.now
    c.old.invariant.0 c.old.invariant.1 (ap (as_flat (drop (last_end 0 c.old.inside.ends.items) c.old.inside.rows.items)) c.old.view_is) (omega (arith, c.carrying-test.true, c.requires.within)) refl c.as_slice-old_ends.ensures.value c.as_slice.ensures.value in
    in_places c.old.inside.keys c.places-old_places.result.now c.places-old_places.ensures c.carrying.at p.key p.found

pub offset_bounds-old_places-at : goal.offset_bounds-old_places-at
offset_bounds-old_places-at g c =
    let p = placed c.old.inside.keys.keys c.old.inside.ends.items c.old.inside.rows.items (as_flat (drop (last_end 0 c.old.inside.ends.items) c.old.inside.rows.items) c.args.old.now) c.carrying.at (rows_among (take c.carrying.at c.args.old.now.entries)) c.as_slice-old_ends.result.now c.as_slice.result.now
    c.old.invariant.0 c.old.invariant.1 (ap (as_flat (drop (last_end 0 c.old.inside.ends.items) c.old.inside.rows.items)) c.old.view_is) (omega (arith, c.carrying-test.true, c.requires.within)) refl c.as_slice-old_ends.ensures.value c.as_slice.ensures.value in
    let within = in_places c.old.inside.keys c.places-old_places.result.now c.places-old_places.ensures c.carrying.at p.key p.found in
    omega (arith, within, c.places-old_places.type_inv.1)

pub push_ahead-passed-requires-clause-to : goal.push_ahead-passed-requires-clause-to
push_ahead-passed-requires-clause-to g c =
    let p = placed c.old.inside.keys.keys c.old.inside.ends.items c.old.inside.rows.items (as_flat (drop (last_end 0 c.old.inside.ends.items) c.old.inside.rows.items) c.args.old.now) c.carrying.at (rows_among (take c.carrying.at c.args.old.now.entries)) c.as_slice-old_ends.result.now c.as_slice.result.now
    c.old.invariant.0 c.old.invariant.1 (ap (as_flat (drop (last_end 0 c.old.inside.ends.items) c.old.inside.rows.items)) c.old.view_is) (omega (arith, c.carrying-test.true, c.requires.within)) refl c.as_slice-old_ends.ensures.value c.as_slice.ensures.value in
    let last = start_counted c.old.inside.keys.keys c.old.inside.ends.items c.old.inside.rows.items (as_flat (drop (last_end 0 c.old.inside.ends.items) c.old.inside.rows.items) c.args.old.now) c.args.to c.start_of.result c.as_slice-old_ends.result.now c.old.invariant.0 c.old.invariant.1 (ap (as_flat (drop (last_end 0 c.old.inside.ends.items) c.old.inside.rows.items)) c.old.view_is) c.requires.within
    c.as_slice-old_ends.ensures.value c.start_of.ensures.first c.start_of.ensures.later in
    let within = counted_within c.old.inside.keys.keys c.old.inside.ends.items c.old.inside.rows.items (as_flat (drop (last_end 0 c.old.inside.ends.items) c.old.inside.rows.items) c.args.old.now) c.args.to c.old.invariant.0 c.old.invariant.1 (ap (as_flat (drop (last_end 0 c.old.inside.ends.items) c.old.inside.rows.items)) c.old.view_is) c.requires.within in
    let all : length (take c.start_of.result c.as_slice.result.now) ≡ c.start_of.result = rw c.as_slice.ensures.value (length-take-le c.start_of.result c.old.inside.rows.items (omega (arith, last, within))) in
    let later = rows_among-rises c.args.old.now.entries (c.carrying.at + 1) c.args.to (omega (arith, c.carrying-test.true)) in
    let i = c.carrying.invariant in
    omega (arith, all, last, later, p.next)

pub push_ahead-passed-requires-clause-before : goal.push_ahead-passed-requires-clause-before
push_ahead-passed-requires-clause-before g c =
    let all = length-entries 0 c.old.inside.keys.keys c.old.inside.ends.items c.old.inside.rows.items c.old.invariant.0 in
    let seen = ap (λ (s : KeptState _). length s.entries) c.old.view_is in
    rw c.as_slice-old_ends.ensures.value (omega (arith, all, seen, c.requires.within))

pub push_ahead-passed-requires-clause-runs : goal.push_ahead-passed-requires-clause-runs
push_ahead-passed-requires-clause-runs g c = λ key low high stay.
    let pending = drop (last_end 0 c.old.inside.ends.items) c.old.inside.rows.items in
    let old = c.args.old.now.entries in
    let at_place = λ (i : ℕ) (inside : i < length old). placed c.old.inside.keys.keys c.old.inside.ends.items c.old.inside.rows.items (as_flat pending c.args.old.now) i (rows_among (take i old)) c.as_slice-old_ends.result.now c.as_slice.result.now
    c.old.invariant.0 c.old.invariant.1 (ap (as_flat pending) c.old.view_is) inside refl c.as_slice-old_ends.ensures.value c.as_slice.ensures.value in
    let p = at_place c.carrying.at (omega (arith, c.carrying-test.true, c.requires.within)) in
    let q = at_place key (omega (arith, high, c.requires.within)) in
    let last = start_counted c.old.inside.keys.keys c.old.inside.ends.items c.old.inside.rows.items (as_flat pending c.args.old.now) c.args.to c.start_of.result c.as_slice-old_ends.result.now c.old.invariant.0 c.old.invariant.1 (ap (as_flat pending) c.old.view_is) c.requires.within
    c.as_slice-old_ends.ensures.value c.start_of.ensures.first c.start_of.ensures.later in
    let within = counted_within c.old.inside.keys.keys c.old.inside.ends.items c.old.inside.rows.items (as_flat pending c.args.old.now) c.args.to c.old.invariant.0 c.old.invariant.1 (ap (as_flat pending) c.old.view_is) c.requires.within in
    let all : length (take c.start_of.result c.as_slice.result.now) ≡ c.start_of.result = rw c.as_slice.ensures.value (length-take-le c.start_of.result c.old.inside.rows.items (omega (arith, last, within))) in
    let more = rows_among-rises old (c.carrying.at + 1) (key + 1) (omega (arith, low)) in
    let later = rows_among-rises old (key + 1) c.args.to (omega (arith, high)) in
    let fits : get_or c.as_slice-old_ends.result.now key 0 ≤ c.start_of.result = omega (arith, last, later, q.next) in
    record {
      reaches = omega (arith, p.next, q.next, more);
      within = omega (arith, all, fits);
      own = own-ahead c.args.moved.now c.old.inside.keys.keys c.as_slice-old_ends.result.now c.as_slice.result.now old c.args.stays.now at_place c.requires.stays c.carrying.at key c.carrying.passed c.start_of.result
          low (omega (arith, high, c.requires.within)) stay c.carrying.invariant.ahead.rises fits;
    }

pub overflow_sub-end-in-carrying : goal.overflow_sub-end-in-carrying
overflow_sub-end-in-carrying g c =
    let p = placed c.old.inside.keys.keys c.old.inside.ends.items c.old.inside.rows.items (as_flat (drop (last_end 0 c.old.inside.ends.items) c.old.inside.rows.items) c.args.old.now) c.carrying.at (rows_among (take c.carrying.at c.args.old.now.entries)) c.as_slice-old_ends.result.now c.as_slice.result.now
    c.old.invariant.0 c.old.invariant.1 (ap (as_flat (drop (last_end 0 c.old.inside.ends.items) c.old.inside.rows.items)) c.old.view_is) (omega (arith, c.carrying-test.true, c.requires.within)) refl c.as_slice-old_ends.ensures.value c.as_slice.ensures.value in
    let last = start_counted c.old.inside.keys.keys c.old.inside.ends.items c.old.inside.rows.items (as_flat (drop (last_end 0 c.old.inside.ends.items) c.old.inside.rows.items) c.args.old.now) c.args.to c.start_of.result c.as_slice-old_ends.result.now c.old.invariant.0 c.old.invariant.1 (ap (as_flat (drop (last_end 0 c.old.inside.ends.items) c.old.inside.rows.items)) c.old.view_is) c.requires.within
    c.as_slice-old_ends.ensures.value c.start_of.ensures.first c.start_of.ensures.later in
    let within = counted_within c.old.inside.keys.keys c.old.inside.ends.items c.old.inside.rows.items (as_flat (drop (last_end 0 c.old.inside.ends.items) c.old.inside.rows.items) c.args.old.now) c.args.to c.old.invariant.0 c.old.invariant.1 (ap (as_flat (drop (last_end 0 c.old.inside.ends.items) c.old.inside.rows.items)) c.old.view_is) c.requires.within in
    let all : length (take c.start_of.result c.as_slice.result.now) ≡ c.start_of.result = rw c.as_slice.ensures.value (length-take-le c.start_of.result c.old.inside.rows.items (omega (arith, last, within))) in
    let later = rows_among-rises c.args.old.now.entries (c.carrying.at + 1) c.args.to (omega (arith, c.carrying-test.true)) in
    let i = c.carrying.invariant in
    let begins = rows_among (take c.carrying.at c.args.old.now.entries) in
    let old_rows = take c.start_of.result c.as_slice.result.now in
    let old_end = get_or c.as_slice-old_ends.result.now c.carrying.at 0 in
    let pushed = c.push_ahead-passed.ensures in
    let rows = c.carrying.rows.items in
    let rows' = c.push_ahead-passed.new.list.items in
    let count = pushed-count c.args.moved.now old_rows rows rows' begins c.carrying.passed c.carrying.start old_end c.push_ahead-passed.result i.ahead pushed.items p.rises pushed.rises pushed.reaches pushed.within (pushed.kept begins p.rises i.ahead.kept) in
    omega (arith, count, c.len.ensures, c.push_ahead-passed.new.list.ok.0)

pub carrying-preserved : goal.carrying-preserved
carrying-preserved g c =
    let p = placed c.old.inside.keys.keys c.old.inside.ends.items c.old.inside.rows.items (as_flat (drop (last_end 0 c.old.inside.ends.items) c.old.inside.rows.items) c.args.old.now) c.carrying.at (rows_among (take c.carrying.at c.args.old.now.entries)) c.as_slice-old_ends.result.now c.as_slice.result.now
    c.old.invariant.0 c.old.invariant.1 (ap (as_flat (drop (last_end 0 c.old.inside.ends.items) c.old.inside.rows.items)) c.old.view_is) (omega (arith, c.carrying-test.true, c.requires.within)) refl c.as_slice-old_ends.ensures.value c.as_slice.ensures.value in
    let last = start_counted c.old.inside.keys.keys c.old.inside.ends.items c.old.inside.rows.items (as_flat (drop (last_end 0 c.old.inside.ends.items) c.old.inside.rows.items) c.args.old.now) c.args.to c.start_of.result c.as_slice-old_ends.result.now c.old.invariant.0 c.old.invariant.1 (ap (as_flat (drop (last_end 0 c.old.inside.ends.items) c.old.inside.rows.items)) c.old.view_is) c.requires.within
    c.as_slice-old_ends.ensures.value c.start_of.ensures.first c.start_of.ensures.later in
    let within = counted_within c.old.inside.keys.keys c.old.inside.ends.items c.old.inside.rows.items (as_flat (drop (last_end 0 c.old.inside.ends.items) c.old.inside.rows.items) c.args.old.now) c.args.to c.old.invariant.0 c.old.invariant.1 (ap (as_flat (drop (last_end 0 c.old.inside.ends.items) c.old.inside.rows.items)) c.old.view_is) c.requires.within in
    let all : length (take c.start_of.result c.as_slice.result.now) ≡ c.start_of.result = rw c.as_slice.ensures.value (length-take-le c.start_of.result c.old.inside.rows.items (omega (arith, last, within))) in
    let later = rows_among-rises c.args.old.now.entries (c.carrying.at + 1) c.args.to (omega (arith, c.carrying-test.true)) in
    let i = c.carrying.invariant in
    let begins = rows_among (take c.carrying.at c.args.old.now.entries) in
    let old_rows = take c.start_of.result c.as_slice.result.now in
    let old_end = get_or c.as_slice-old_ends.result.now c.carrying.at 0 in
    let pushed = c.push_ahead-passed.ensures in
    let rows = c.carrying.rows.items in
    let rows' = c.push_ahead-passed.new.list.items in
    let start = c.carrying.start in
    let end = c.len.result - (c.push_ahead-passed.result - old_end) in
    let is : end ≡ length rows' - (c.push_ahead-passed.result - old_end) = ap (λ (n : ℕ). n - (c.push_ahead-passed.result - old_end)) (c.len.ensures ∙ c.push_ahead-passed.new.list.ok.0) in
    let count = end-counted c.args.moved.now old_rows rows rows' begins c.carrying.passed c.carrying.start old_end c.push_ahead-passed.result i.ahead pushed.items p.rises pushed.rises pushed.reaches pushed.within (pushed.kept begins p.rises i.ahead.kept) end is in
    let closed = end-closed c.args.moved.now old_rows rows rows' begins c.carrying.passed c.carrying.start old_end c.push_ahead-passed.result i.ahead pushed.items p.rises pushed.rises pushed.reaches pushed.within (pushed.kept begins p.rises i.ahead.kept) end is in
    let long = end-long c.args.moved.now old_rows rows rows' begins c.carrying.passed c.carrying.start old_end c.push_ahead-passed.result i.ahead pushed.items p.rises pushed.rises pushed.reaches pushed.within (pushed.kept begins p.rises i.ahead.kept) end is in
    let ahead = end-ahead c.args.moved.now old_rows rows rows' begins c.carrying.passed c.carrying.start old_end c.push_ahead-passed.result i.ahead pushed.items p.rises pushed.rises pushed.reaches pushed.within (pushed.kept begins p.rises i.ahead.kept) end is in
    let among = c.places-old_places.result.now in
    let place = get_or among c.carrying.at 0 in
    let has = c.places-old_places.ensures in
    let is_place : place ≡ get_or among c.carrying.at place = get_or_default among c.carrying.at 0 place (in_places c.old.inside.keys among has c.carrying.at p.key p.found) in
    let of_key = slice_range old_rows begins old_end in
    let part = range-take c.as_slice.result.now c.start_of.result begins old_end p.rises (omega (arith, p.next, last, later)) in
    let entry = p.entry ∙ ap (λ (rs : List ℕ). Some (p.key, rs)) (sym part) in
    let new = new_numbers c.args.moved.now of_key in
    let done = c.put_place.ensures in
    let places = c.carrying.places.items in
    let places' = c.put_place.new.places.items in
    let ends = c.carrying.ends.items in
    let ends' = c.put_place.new.ends.items in
    let puts = subst (λ (n : ℕ). PutsKey place new n (key_ends places ends) (key_ends places' ends')) (sym long) (done.puts new count) in
    let old = c.args.old.now.entries in
    record {
      ahead = subst (λ (n : ℕ). IsAhead c.args.moved.now old_rows n c.push_ahead-passed.result end rows') p.next ahead;
      laid_out = laid_out-put place places places' ends ends' (take start rows) (take end rows') new i.laid_out closed puts;
      none = closed-put place places places' ends ends' (take start rows) (take end rows') new i.laid_out closed i.none puts;
      room_for_places = omega (arith, i.room_for_places, done.place_room.0, done.place_room.1);
      room_for_ends = omega (arith, i.room_for_ends, done.end_room.0, done.end_room.1);
      room_for_rows = omega (arith, i.room_for_rows, pushed.capacity, pushed.len);
      fits = omega (arith, i.fits, pushed.len);
      carried = λ more before are so_far.
          let stored = c.args.old.now.stored ++ more in
          let now = entries_from 0 places ends (take start rows) in
          let found = key_in_more c.old.inside.keys among has c.carrying.at p.key p.found place is_place c.args.old.now.stored more
          (ap (λ (s : KeptState _). s.stored) c.old.view_is) in
          carried_at-put stored g.met.K.Key.total c.args.moved.now (take c.carrying.at old) before (take (c.carrying.at + 1) old) before now (entries_from 0 places' ends' (take end rows')) place new p.key found
          (entries-put place places places' ends ends' (take start rows) (take end rows') new i.laid_out closed i.none puts) (i.carried more before are so_far)
          (λ next one. so_far-old g.met.K.Key.total c.args.moved.now c.requires.moved old c.requires.old c.carrying.at (p.key, of_key) entry before (entries_of_places stored now) next
          (are c.carrying.at (p.key, of_key) c.carrying.auto.at entry) (i.carried more before are so_far).so_far one);
    }

pub returns-clause-laid_out : goal.returns-clause-laid_out
returns-clause-laid_out g c =
    let last = start_counted c.old.inside.keys.keys c.old.inside.ends.items c.old.inside.rows.items (as_flat (drop (last_end 0 c.old.inside.ends.items) c.old.inside.rows.items) c.args.old.now) c.args.to c.start_of.result c.as_slice-old_ends.result.now c.old.invariant.0 c.old.invariant.1 (ap (as_flat (drop (last_end 0 c.old.inside.ends.items) c.old.inside.rows.items)) c.old.view_is) c.requires.within
    c.as_slice-old_ends.ensures.value c.start_of.ensures.first c.start_of.ensures.later in
    let within = counted_within c.old.inside.keys.keys c.old.inside.ends.items c.old.inside.rows.items (as_flat (drop (last_end 0 c.old.inside.ends.items) c.old.inside.rows.items) c.args.old.now) c.args.to c.old.invariant.0 c.old.invariant.1 (ap (as_flat (drop (last_end 0 c.old.inside.ends.items) c.old.inside.rows.items)) c.old.view_is) c.requires.within in
    let all : length (take c.start_of.result c.as_slice.result.now) ≡ c.start_of.result = rw c.as_slice.ensures.value (length-take-le c.start_of.result c.old.inside.rows.items (omega (arith, last, within))) in
    let same : c.carrying.at ≡ c.args.to = omega (arith, c.carrying-test.false, c.carrying.auto.at-end) in
    let counted : rows_among (take c.carrying.at c.args.old.now.entries) ≡ rows_among (take c.args.to c.args.old.now.entries) = ap (λ (n : ℕ). rows_among (take n c.args.old.now.entries)) same in
    let whole = ahead-all c.args.moved.now (take c.start_of.result c.as_slice.result.now) (rows_among (take c.carrying.at c.args.old.now.entries)) c.carrying.passed c.carrying.start c.carrying.rows.items c.carrying.invariant.ahead
    (omega (arith, all, last, counted)) in
    subst (λ (rs : List ℕ). IsLaidOut c.carrying.places.items c.carrying.ends.items rs) whole c.carrying.invariant.laid_out

pub returns-clause-none : goal.returns-clause-none
returns-clause-none g c =
    let last = start_counted c.old.inside.keys.keys c.old.inside.ends.items c.old.inside.rows.items (as_flat (drop (last_end 0 c.old.inside.ends.items) c.old.inside.rows.items) c.args.old.now) c.args.to c.start_of.result c.as_slice-old_ends.result.now c.old.invariant.0 c.old.invariant.1 (ap (as_flat (drop (last_end 0 c.old.inside.ends.items) c.old.inside.rows.items)) c.old.view_is) c.requires.within
    c.as_slice-old_ends.ensures.value c.start_of.ensures.first c.start_of.ensures.later in
    let within = counted_within c.old.inside.keys.keys c.old.inside.ends.items c.old.inside.rows.items (as_flat (drop (last_end 0 c.old.inside.ends.items) c.old.inside.rows.items) c.args.old.now) c.args.to c.old.invariant.0 c.old.invariant.1 (ap (as_flat (drop (last_end 0 c.old.inside.ends.items) c.old.inside.rows.items)) c.old.view_is) c.requires.within in
    let all : length (take c.start_of.result c.as_slice.result.now) ≡ c.start_of.result = rw c.as_slice.ensures.value (length-take-le c.start_of.result c.old.inside.rows.items (omega (arith, last, within))) in
    let same : c.carrying.at ≡ c.args.to = omega (arith, c.carrying-test.false, c.carrying.auto.at-end) in
    let counted : rows_among (take c.carrying.at c.args.old.now.entries) ≡ rows_among (take c.args.to c.args.old.now.entries) = ap (λ (n : ℕ). rows_among (take n c.args.old.now.entries)) same in
    let whole = ahead-all c.args.moved.now (take c.start_of.result c.as_slice.result.now) (rows_among (take c.carrying.at c.args.old.now.entries)) c.carrying.passed c.carrying.start c.carrying.rows.items c.carrying.invariant.ahead
    (omega (arith, all, last, counted)) in
    subst (λ (rs : List ℕ). AreAllClosed c.carrying.ends.items rs) whole c.carrying.invariant.none

pub returns-clause-carried : goal.returns-clause-carried
returns-clause-carried g c = λ more before are so_far.
    let last = start_counted c.old.inside.keys.keys c.old.inside.ends.items c.old.inside.rows.items (as_flat (drop (last_end 0 c.old.inside.ends.items) c.old.inside.rows.items) c.args.old.now) c.args.to c.start_of.result c.as_slice-old_ends.result.now c.old.invariant.0 c.old.invariant.1 (ap (as_flat (drop (last_end 0 c.old.inside.ends.items) c.old.inside.rows.items)) c.old.view_is) c.requires.within
    c.as_slice-old_ends.ensures.value c.start_of.ensures.first c.start_of.ensures.later in
    let within = counted_within c.old.inside.keys.keys c.old.inside.ends.items c.old.inside.rows.items (as_flat (drop (last_end 0 c.old.inside.ends.items) c.old.inside.rows.items) c.args.old.now) c.args.to c.old.invariant.0 c.old.invariant.1 (ap (as_flat (drop (last_end 0 c.old.inside.ends.items) c.old.inside.rows.items)) c.old.view_is) c.requires.within in
    let all : length (take c.start_of.result c.as_slice.result.now) ≡ c.start_of.result = rw c.as_slice.ensures.value (length-take-le c.start_of.result c.old.inside.rows.items (omega (arith, last, within))) in
    let same : c.carrying.at ≡ c.args.to = omega (arith, c.carrying-test.false, c.carrying.auto.at-end) in
    let counted : rows_among (take c.carrying.at c.args.old.now.entries) ≡ rows_among (take c.args.to c.args.old.now.entries) = ap (λ (n : ℕ). rows_among (take n c.args.old.now.entries)) same in
    let whole = ahead-all c.args.moved.now (take c.start_of.result c.as_slice.result.now) (rows_among (take c.carrying.at c.args.old.now.entries)) c.carrying.passed c.carrying.start c.carrying.rows.items c.carrying.invariant.ahead
    (omega (arith, all, last, counted)) in
    subst (λ (n : ℕ). IsCarriedAt g.K.Key.order (c.args.old.now.stored ++ more) c.args.moved.now (take n c.args.old.now.entries) before (entries_from 0 c.carrying.places.items c.carrying.ends.items c.carrying.rows.items)) same
    (subst (λ (rs : List ℕ). IsCarriedAt g.K.Key.order (c.args.old.now.stored ++ more) c.args.moved.now (take c.carrying.at c.args.old.now.entries) before (entries_from 0 c.carrying.places.items c.carrying.ends.items rs)) whole
    (c.carrying.invariant.carried more before are so_far))
