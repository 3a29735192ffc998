-- The text is cut at its first `-`, and its two parts decide alone.
use Rattle.std.proofs.Common.{rules, FitsSigned, w32, lit<, Some, None}
use Rattle.std.proofs.lemmas.Str.Pattern.{split_parts}
use Rattle.std.proofs.lemmas.Int.{to_z-of_z}
use Rattle.sc_hash.proofs.RangeLemmas.{ReadsAs-no_dash, ReadsAs-cut, ReadsAs-new, read_back}
use Rattle.sc_hash.proofs.text.parse_range.Goals as goal

pub returns-in_err-low-clause-read : goal.returns-in_err-low-clause-read
returns-in_err-low-clause-read c min max =
    let none = split_parts 45 c.args.text.now None c.in_err-low.ensures.cases (lit< tt) in
    rw c.from_residual.ensures (λ s. absurd s, λ r. ReadsAs-no_dash _ min max none r)

pub returns-in_err-low-clause-written : goal.returns-in_err-low-clause-written
returns-in_err-low-clause-written c = read_back _ _ (returns-in_err-low-clause-read c)

pub returns-in_err-parse_bound-clause-read : goal.returns-in_err-parse_bound-clause-read
returns-in_err-parse_bound-clause-read c min max =
    let low = c.in_ok-low.low in
    let high = c.in_ok-low.high in
    let parts = split_parts 45 c.args.text.now (Some (low, high)) c.in_ok-low.ensures.cases (lit< tt) in
    rw c.from_residual-in_err-parse_bound.ensures (λ s. absurd s, λ r. c.in_err-parse_bound.ensures (ReadsAs-cut _ low.now high.now min max parts.0 parts.1 r).low_form)

pub returns-in_err-parse_bound-clause-written : goal.returns-in_err-parse_bound-clause-written
returns-in_err-parse_bound-clause-written c = read_back _ _ (returns-in_err-parse_bound-clause-read c)

pub returns-in_err-parse_bound-2-clause-read : goal.returns-in_err-parse_bound-2-clause-read
returns-in_err-parse_bound-2-clause-read c min max =
    let low = c.in_ok-low.low in
    let high = c.in_ok-low.high in
    let parts = split_parts 45 c.args.text.now (Some (low, high)) c.in_ok-low.ensures.cases (lit< tt) in
    rw c.from_residual-in_err-parse_bound-2.ensures (λ s. absurd s, λ r. c.in_err-parse_bound-2.ensures (ReadsAs-cut _ low.now high.now min max parts.0 parts.1 r).high_form)

pub returns-in_err-parse_bound-2-clause-written : goal.returns-in_err-parse_bound-2-clause-written
returns-in_err-parse_bound-2-clause-written c = read_back _ _ (returns-in_err-parse_bound-2-clause-read c)

pub returns-clause-read : goal.returns-clause-read
returns-clause-read c =
    let low = c.in_ok-low.low in
    let high = c.in_ok-low.high in
    let parts = split_parts 45 c.args.text.now (Some (low, high)) c.in_ok-low.ensures.cases (lit< tt) in
    let min_fits : FitsSigned w32 c.in_ok-parse_bound.field-0 = search rules in
    let max_fits : FitsSigned w32 c.in_ok-parse_bound-2.field-0 = search rules in
    let ordered = simp to_z-of_z at c.new.ensures.ordered in
    let bounds = simp to_z-of_z at c.new.ensures.bounds in
    ReadsAs-new _ low.now high.now _ _ c.new.result parts.0 parts.1 c.in_ok-parse_bound.ensures c.in_ok-parse_bound-2.ensures ordered bounds

pub returns-clause-written : goal.returns-clause-written
returns-clause-written c = read_back _ _ (returns-clause-read c)
