-- The rows that a search finds are those that were added with the key.
use Rattle.std.proofs.Common.{[], sym, ◌∙◌}
use Rattle.sc_segment.proofs.IndexLemmas.{All-place, rows_at-found, rows_at-gap, rows_at-index, members_from_rows}
use Rattle.sc_segment.specs.Index.{HasRows}
use Rattle.sc_segment.proofs.segment.Segment.postings.Goals as goal

pub returns-in-Ok-clause-rows : goal.returns-in-Ok-clause-rows
returns-in-Ok-clause-rows g c = λ added index.
    let place = rw c.keys.ensures.keys at c.in-Ok.ensures.place in
    let entry = c.rows_of.ensures place.0 place.1 in
    sym (rows_at-found g.met.K.Key.total c.self.inside.index.entries c.args.key.now c.in-Ok.at (place.0, c.rows_of.result.now) c.self.invariant.keys entry place.2)
    ∙ rows_at-index g.met.K.Key.total added c.self.inside.index.entries (rw (← c.self.view_is) at index) c.args.key.now

pub returns-in-Ok-clause-members : goal.returns-in-Ok-clause-members
returns-in-Ok-clause-members g c = λ added index row.
    members_from_rows g.K.Key.order added c.rows_of.result.now c.args.key.now row (returns-in-Ok-clause-rows g c added index)

pub returns-in-Ok-clause-ascending : goal.returns-in-Ok-clause-ascending
returns-in-Ok-clause-ascending g c =
    let place = rw c.keys.ensures.keys at c.in-Ok.ensures.place in
    let entry = c.rows_of.ensures place.0 place.1 in
    (All-place HasRows c.self.inside.index.entries c.in-Ok.at (place.0, c.rows_of.result.now) c.self.invariant.rows entry).1

pub returns-in-Err-clause-rows : goal.returns-in-Err-clause-rows
returns-in-Err-clause-rows g c = λ added index.
    let gap = rw c.keys.ensures.keys at c.in-Err.ensures.place in
    sym (rows_at-gap g.met.K.Key.total c.self.inside.index.entries c.args.key.now c.in-Err.field-0 c.self.invariant.keys gap)
    ∙ rows_at-index g.met.K.Key.total added c.self.inside.index.entries (rw (← c.self.view_is) at index) c.args.key.now

pub returns-in-Err-clause-members : goal.returns-in-Err-clause-members
returns-in-Err-clause-members g c = λ added index row.
    members_from_rows g.K.Key.order added [] c.args.key.now row (returns-in-Err-clause-rows g c added index)
