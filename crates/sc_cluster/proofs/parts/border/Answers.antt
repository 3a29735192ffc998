-- Each way to a border is a case of it.
use Rattle.std.proofs.Common.{FitsSigned, w64, ap, sym, ◌∙◌, arith, rules, unsigned_abs}
use Rattle.std.proofs.lemmas.Int.{ints, to_z-of_z}
use Rattle.sc_cluster.specs.Cut.{rounded_down}
use Rattle.sc_cluster.proofs.CutLemmas.{border-first, border-last, border-large, border-small, border-bounded}
use Rattle.sc_cluster.proofs.parts.border.Goals as goal

pub returns-then-i-eq0-clause-value : goal.returns-then-i-eq0-clause-value
returns-then-i-eq0-clause-value c =
    let range = c.args.range in
    let e = border-first range.min range.max c.args.n c.args.i c.if-i-eq0.true in
    omega (arith, ints)

pub returns-then-i-n-clause-value : goal.returns-then-i-n-clause-value
returns-then-i-n-clause-value c =
    let range = c.args.range in
    let e = border-last range.min range.max c.args.n c.args.i (omega arith) (omega arith) in
    omega (arith, ints)

pub returns-then-from-size-clause-value : goal.returns-then-from-size-clause-value
returns-then-from-size-clause-value c =
    let range = c.args.range in
    let size = ap unsigned_abs c.size.ensures in
    let e = border-large range.min range.max c.args.n c.args.i c.if-i-eq0.false (omega arith) (omega arith) in
    let start_fits : FitsSigned w64 c.share_start-start.result = search rules in
    let rounded_fits : FitsSigned w64 c.rounded_down.result = search rules in
    let start = to_z-of_z w64 c.share_start-start.result start_fits ∙ c.share_start-start.ensures in
    to_z-of_z w64 c.rounded_down.result rounded_fits ∙ c.rounded_down.ensures ∙ ap rounded_down start ∙ sym e

pub returns-then-from-size-clause-bounded : goal.returns-then-from-size-clause-bounded
returns-then-from-size-clause-bounded c =
    let range = c.args.range in
    let e = returns-then-from-size-clause-value c in
    let bounded = border-bounded range.min range.max c.args.n c.args.i c.requires.least c.requires.part c.requires.size (search rules) (search rules) in
    rw e bounded

pub returns-else-from-size-clause-value : goal.returns-else-from-size-clause-value
returns-else-from-size-clause-value c =
    let range = c.args.range in
    let size = ap unsigned_abs c.size.ensures in
    let e = border-small range.min range.max c.args.n c.args.i c.if-i-eq0.false (omega arith) (omega arith) in
    let fits : FitsSigned w64 c.share_start-start.result = search rules in
    to_z-of_z w64 c.share_start-start.result fits ∙ c.share_start-start.ensures ∙ sym e

pub returns-else-from-size-clause-bounded : goal.returns-else-from-size-clause-bounded
returns-else-from-size-clause-bounded c =
    let range = c.args.range in
    let e = returns-else-from-size-clause-value c in
    let bounded = border-bounded range.min range.max c.args.n c.args.i c.requires.least c.requires.part c.requires.size (search rules) (search rules) in
    rw e bounded
