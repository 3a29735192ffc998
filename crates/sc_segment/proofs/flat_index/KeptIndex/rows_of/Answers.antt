-- The rows from where those of the key before end.
use Rattle.std.proofs.Common.{length, drop, ap, ◌∙◌, arith}
use Rattle.std.proofs.lemmas.List.{get_or_default}
use Rattle.sc_segment.proofs.FlatLemmas.{as_flat, begin_from_clauses, place_within, flat-rows_of, begin_before_end, end_within}
use Rattle.sc_segment.specs.Flat.{last_end}
use Rattle.sc_segment.proofs.flat_index.KeptIndex.rows_of.Goals as goal

pub start_of-start-requires : goal.start_of-start-requires
start_of-start-requires g c =
    let within = place_within c.self.inside.keys.keys c.self.inside.ends.items c.self.inside.rows.items (as_flat (drop (last_end 0 c.self.inside.ends.items) c.self.inside.rows.items) c.args.self.now) c.args.at c.self.invariant.0 (ap (as_flat (drop (last_end 0 c.self.inside.ends.items) c.self.inside.rows.items)) c.self.view_is) c.requires in
    rw c.deref.ensures.value (omega (arith, within))

pub index-requires : goal.index-requires
index-requires g c =
    let within = place_within c.self.inside.keys.keys c.self.inside.ends.items c.self.inside.rows.items (as_flat (drop (last_end 0 c.self.inside.ends.items) c.self.inside.rows.items) c.args.self.now) c.args.at c.self.invariant.0 (ap (as_flat (drop (last_end 0 c.self.inside.ends.items) c.self.inside.rows.items)) c.self.view_is) c.requires in
    omega (arith, within, c.self.inside.ends.ok.0)

pub slice_bounds-result-count : goal.slice_bounds-result-count
slice_bounds-result-count g c =
    let ends = c.self.inside.ends.items in
    let rows = c.self.inside.rows.items in
    let within = place_within c.self.inside.keys.keys ends rows (as_flat (drop (last_end 0 ends) rows) c.args.self.now) c.args.at c.self.invariant.0 (ap (as_flat (drop (last_end 0 ends) rows)) c.self.view_is) c.requires in
    let first = rw c.deref.ensures.value at (begin_from_clauses c.deref.result.now c.args.at c.start_of-start.result c.start_of-start.ensures.first c.start_of-start.ensures.later) in
    let last = c.index.ensures ∙ get_or_default ends c.args.at c.index.result.now 0 within in
    omega (arith, first, last, begin_before_end 0 ends (length rows) c.args.at c.self.invariant.1 within)

pub slice_bounds-result-start : goal.slice_bounds-result-start
slice_bounds-result-start g c = slice_bounds-result-count g c

pub slice_bounds-result-end : goal.slice_bounds-result-end
slice_bounds-result-end g c =
    let ends = c.self.inside.ends.items in
    let rows = c.self.inside.rows.items in
    let within = place_within c.self.inside.keys.keys ends rows (as_flat (drop (last_end 0 ends) rows) c.args.self.now) c.args.at c.self.invariant.0 (ap (as_flat (drop (last_end 0 ends) rows)) c.self.view_is) c.requires in
    let last = c.index.ensures ∙ get_or_default ends c.args.at c.index.result.now 0 within in
    let all = end_within 0 ends (length rows) c.args.at c.self.invariant.1 within in
    rw c.deref-2.ensures.value (omega (arith, last, all))

pub offset_bounds-deref-start : goal.offset_bounds-deref-start
offset_bounds-deref-start g c =
    let rises = slice_bounds-result-count g c in
    let within = slice_bounds-result-end g c in
    let fits = c.deref-2.type_inv.1 in
    omega (arith, rises, within, fits)

pub returns : goal.returns
returns g c = λ key found.
    let ends = c.self.inside.ends.items in
    let rows = c.self.inside.rows.items in
    let within = place_within c.self.inside.keys.keys ends rows (as_flat (drop (last_end 0 ends) rows) c.args.self.now) c.args.at c.self.invariant.0 (ap (as_flat (drop (last_end 0 ends) rows)) c.self.view_is) c.requires in
    let first = rw c.deref.ensures.value at (begin_from_clauses c.deref.result.now c.args.at c.start_of-start.result c.start_of-start.ensures.first c.start_of-start.ensures.later) in
    let last = c.index.ensures ∙ get_or_default ends c.args.at c.index.result.now 0 within in
    rw c.deref-2.ensures.value (flat-rows_of c.self.inside.keys.keys ends rows (as_flat (drop (last_end 0 ends) rows) c.args.self.now) c.args.at c.start_of-start.result c.index.result.now key c.self.invariant.0 (ap (as_flat (drop (last_end 0 ends) rows)) c.self.view_is) within first last found)
