-- Rows wait where there are more than end with the last key.
use Rattle.std.proofs.Common.{◌≡◌, ℕ, ◌-◌, ◌<◌, IsTrue, length, sym, ap, ◌∙◌, arith}
use Rattle.std.proofs.lemmas.Bool.Decides.{nat_tests}
use Rattle.std.specs.Prelude.{nat_lt}
use Rattle.sc_segment.proofs.FlatLemmas.{begin, begin_from_clauses, length-pending}
use Rattle.sc_segment.proofs.flat_index.FlatIndex.has_pending.Goals as goal

some : (start count waiting : ℕ) → waiting ≡ count - start → IsTrue (nat_lt start count) → 0 < waiting
some start count waiting is less = grind (arith, nat_tests)

none : (start count waiting : ℕ) → waiting ≡ count - start → 0 < waiting → IsTrue (nat_lt start count)
none start count waiting is waits = grind (arith, nat_tests)

pub returns : goal.returns
returns g c =
    let ends = c.self.inside.ends.items in
    let rows = c.self.inside.rows.items in
    let all = c.len.ensures ∙ c.self.inside.ends.ok.0 in
    let start = (rw c.deref.ensures.value at (begin_from_clauses c.deref.result.now c.len.result c.start_of.result c.start_of.ensures.first c.start_of.ensures.later)) ∙ ap (begin 0 ends) all in
    let count = c.len-2.ensures ∙ c.self.inside.rows.ok.0 in
    let waiting = length-pending c.self.inside.keys.items ends rows c.args.self.now c.start_of.result c.self.view_is start ∙ ap (λ (n : ℕ). n - c.start_of.result) (sym count) in
    (some c.start_of.result c.len-2.result (length c.args.self.now.pending) waiting, none c.start_of.result c.len-2.result (length c.args.self.now.pending) waiting)
