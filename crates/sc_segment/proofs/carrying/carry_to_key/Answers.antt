-- One key of the added index more, and the keys of the old one before it.
use Rattle.std.proofs.Common.{◌≡◌, ℕ, ◌+◌, ◌<◌, List, [], ◌∷◌, ◌++◌, length, take, slice_get, Some, ap, ◌∙◌, arith}
use Rattle.std.proofs.lemmas.Map.Entries.{length-keys_of}
use Rattle.std.proofs.lemmas.Option.{slice_get_within}
use Rattle.std.specs.Map.{keys_of}
use Rattle.sc_segment.proofs.EntryLemmas.{so_far-both, so_far-added, before-both, before-added, passed-both, passed-added, above-first, first-greater}
use Rattle.sc_segment.proofs.IndexLemmas.{All-place}
use Rattle.sc_segment.proofs.StoringLemmas.{carried_at-put}
use Rattle.sc_segment.specs.Flat.{FlatState, entry_for}
use Rattle.sc_segment.specs.Index.{HasRows}
use Rattle.sc_segment.specs.Storing.{entries_of_places}
use Rattle.sc_segment.proofs.carrying.carry_to_key.Goals as goal

within_entries : {K : Type 0} (es : List (K × List ℕ)) (at : ℕ) (k : K) → slice_get (keys_of es) at ≡ Some k → at < length es
within_entries es at k here =
    let within = slice_get_within (keys_of es) at k here in
    omega (arith, within, length-keys_of es)

-- rows that were put where none waited are those of the key
put_from : (place : ℕ) (rows : List ℕ) (now mid : FlatState ℕ) (next : List (ℕ × List ℕ)) → now.pending ≡ [] → mid ≡ record { entries = now.entries; pending = now.pending ++ rows }
    → next ≡ mid.entries ++ entry_for place mid.pending → next ≡ now.entries ++ entry_for place rows
put_from place rows now mid next none put is =
    let entries : mid.entries ≡ now.entries = ap (λ (s : FlatState ℕ). s.entries) put in
    let pending : mid.pending ≡ rows = ap (λ (s : FlatState ℕ). s.pending) put ∙ ap (λ (rs : List ℕ). rs ++ rows) none in
    is ∙ ap (λ (es : List (ℕ × List ℕ)). es ++ entry_for place mid.pending) entries ∙ ap (λ (rs : List ℕ). now.entries ++ entry_for place rs) pending

pub search-requires-clause-before : goal.search-requires-clause-before
search-requires-clause-before g c =
    rw c.keys.ensures.keys (first-greater g.met.K.Key.total c.args.key.now c.args.old.now.entries c.args.from c.requires.above)

pub rows_of-requires : goal.rows_of-requires
rows_of-requires g c =
    let place = rw c.keys.ensures.keys at c.in-Ok.ensures.place in
    within_entries c.args.old.now.entries c.in-Ok.at place.0 place.1

pub carry-requires-clause-within : goal.carry-requires-clause-within
carry-requires-clause-within g c =
    let place = rw c.keys.ensures.keys at c.in-Ok.ensures.place in
    let within = within_entries c.args.old.now.entries c.in-Ok.at place.0 place.1 in
    omega (arith, within)

pub add_merged-requires-clause-rows : goal.add_merged-requires-clause-rows
add_merged-requires-clause-rows g c =
    let place = rw c.keys.ensures.keys at c.in-Ok.ensures.place in
    (All-place HasRows c.args.old.now.entries c.in-Ok.at (place.0, c.rows_of.result.now) c.requires.old.rows (c.rows_of.ensures place.0 place.1)).1

pub overflow_add-result : goal.overflow_add-result
overflow_add-result g c =
    let fits = c.in-Ok.ensures.fits in
    omega (arith, fits)

pub returns-in_ok-close_at-in-Ok-clause-within : goal.returns-in_ok-close_at-in-Ok-clause-within
returns-in_ok-close_at-in-Ok-clause-within g c =
    let place = rw c.keys.ensures.keys at c.in-Ok.ensures.place in
    let within = within_entries c.args.old.now.entries c.in-Ok.at place.0 place.1 in
    omega (arith, within)

pub returns-in_ok-close_at-in-Ok-clause-passed : goal.returns-in_ok-close_at-in-Ok-clause-passed
returns-in_ok-close_at-in-Ok-clause-passed g c =
    let place = rw c.keys.ensures.keys at c.in-Ok.ensures.place in
    passed-both g.met.K.Key.total c.args.old.now.entries c.in-Ok.at (place.0, c.rows_of.result.now) c.args.key.now c.requires.old.keys (c.rows_of.ensures place.0 place.1) place.2

pub returns-in_ok-close_at-in-Ok-clause-before : goal.returns-in_ok-close_at-in-Ok-clause-before
returns-in_ok-close_at-in-Ok-clause-before g c = λ before are.
    let place = rw c.keys.ensures.keys at c.in-Ok.ensures.place in
    before-both g.met.K.Key.total c.args.old.now.entries c.in-Ok.at (place.0, c.rows_of.result.now) c.args.key.now c.args.added.now before c.args.from c.requires.old.keys
    (c.rows_of.ensures place.0 place.1) place.2 c.in-Ok.ensures.from are

pub returns-in_ok-close_at-in-Ok-clause-carried : goal.returns-in_ok-close_at-in-Ok-clause-carried
returns-in_ok-close_at-in-Ok-clause-carried g c = λ more before found are above so_far.
    let place = rw c.keys.ensures.keys at c.in-Ok.ensures.place in
    let old = c.args.old.now.entries in
    let at_last = c.in_ok-carry-in-Ok.ensures.carried more before are so_far in
    let put = c.in_ok-close_at-in-Ok.ensures.entries ∙ ap (λ (es : List (ℕ × List ℕ)). es ++ entry_for c.args.place c.add_merged.new.self.pending) c.in_ok-add_merged-in-Ok.ensures.entries in
    carried_at-put (c.args.old.now.stored ++ more) g.met.K.Key.total c.args.moved.now (take c.in-Ok.at old) before (take (c.in-Ok.at + 1) old) (before ++ (c.args.key.now, c.args.added.now) ∷ [])
    c.carry.new.self.entries c.close_at.new.index.entries c.args.place c.add_merged.new.self.pending c.args.key.now found put at_last
    (λ later has. so_far-both g.met.K.Key.total c.args.moved.now c.requires.moved old c.requires.old c.in-Ok.at (place.0, c.rows_of.result.now) (c.rows_of.ensures place.0 place.1)
    c.args.key.now c.args.added.now c.add_merged.new.self.pending before (entries_of_places (c.args.old.now.stored ++ more) c.carry.new.self.entries) later place.2 above
    at_last.so_far c.in_ok-add_merged-in-Ok.ensures.rows has)

pub returns-in_ok-close_at-in-Err-clause-passed : goal.returns-in_ok-close_at-in-Err-clause-passed
returns-in_ok-close_at-in-Err-clause-passed g c =
    passed-added g.met.K.Key.total c.args.old.now.entries c.in-Err.at c.args.key.now (rw c.keys.ensures.keys at c.in-Err.ensures.place)

pub returns-in_ok-close_at-in-Err-clause-before : goal.returns-in_ok-close_at-in-Err-clause-before
returns-in_ok-close_at-in-Err-clause-before g c = λ before are.
    before-added g.met.K.Key.total c.args.old.now.entries c.in-Err.at c.args.key.now c.args.added.now before c.args.from (rw c.keys.ensures.keys at c.in-Err.ensures.place) c.in-Err.ensures.from are

pub returns-in_ok-close_at-in-Err-clause-carried : goal.returns-in_ok-close_at-in-Err-clause-carried
returns-in_ok-close_at-in-Err-clause-carried g c = λ more before found are above so_far.
    let gap = rw c.keys.ensures.keys at c.in-Err.ensures.place in
    let old = c.args.old.now.entries in
    let at_last = c.in_ok-carry-in-Err.ensures.carried more before are so_far in
    let put = put_from c.args.place c.args.added.now c.carry-in-Err.new.self c.add_rows.new.self c.close_at-in-Err.new.index.entries
    c.in_ok-carry-in-Err.ensures.none c.in_ok-add_rows-in-Err.ensures c.in_ok-close_at-in-Err.ensures.entries in
    carried_at-put (c.args.old.now.stored ++ more) g.met.K.Key.total c.args.moved.now (take c.in-Err.at old) before (take c.in-Err.at old) (before ++ (c.args.key.now, c.args.added.now) ∷ [])
    c.carry-in-Err.new.self.entries c.close_at-in-Err.new.index.entries c.args.place c.args.added.now c.args.key.now found put at_last
    (λ later has. so_far-added g.met.K.Key.total c.args.moved.now (take c.in-Err.at old) c.args.key.now c.args.added.now before (entries_of_places (c.args.old.now.stored ++ more) c.carry-in-Err.new.self.entries)
    later (above-first g.met.K.Key.total c.args.key.now old c.in-Err.at gap.before) above c.requires.rows.1 at_last.so_far has)
