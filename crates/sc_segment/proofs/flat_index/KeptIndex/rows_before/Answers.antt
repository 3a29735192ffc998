-- The rows of the keys before a place are those before where its own begin.
use Rattle.std.proofs.Common.{◌≡◌, ◌≤◌, length, take, ap, arith}
use Rattle.sc_segment.proofs.FlatLemmas.{begin, begin_from_clauses, length-entries, rows_among-begin}
use Rattle.sc_segment.specs.Flat.{rows_among}
use Rattle.sc_segment.specs.Storing.{KeptState}
use Rattle.sc_segment.proofs.flat_index.KeptIndex.rows_before.Goals as goal

pub start_of-requires : goal.start_of-requires
start_of-requires g c =
    let all = length-entries 0 c.self.inside.keys.keys c.self.inside.ends.items c.self.inside.rows.items c.self.invariant.0 in
    let seen = ap (λ (s : KeptState _). length s.entries) c.self.view_is in
    rw c.deref.ensures.value (omega (arith, all, seen, c.requires))

pub returns : goal.returns
returns g c =
    let keys = c.self.inside.keys.keys in
    let ends = c.self.inside.ends.items in
    let rows = c.self.inside.rows.items in
    let all = length-entries 0 keys ends rows c.self.invariant.0 in
    let seen = ap (λ (s : KeptState _). length s.entries) c.self.view_is in
    let within : c.args.at ≤ length ends = omega (arith, all, seen, c.requires) in
    let start : c.start_of.result ≡ begin 0 ends c.args.at = rw c.deref.ensures.value at (begin_from_clauses c.deref.result.now c.args.at c.start_of.result c.start_of.ensures.first c.start_of.ensures.later) in
    let counted = rows_among-begin 0 keys ends rows c.args.at c.self.invariant.0 c.self.invariant.1 within in
    let same = ap (λ (s : KeptState _). rows_among (take c.args.at s.entries)) c.self.view_is in
    omega (arith, start, counted, same)
