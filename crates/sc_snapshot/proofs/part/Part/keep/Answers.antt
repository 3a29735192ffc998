-- There is one cell more, for one row that is kept.
use Rattle.std.proofs.Common.{◌≡◌, ◌+◌, List, Global, Some, length, slice_get, sym, ap, subst, ◌∙◌, arith}
use Rattle.std.proofs.lemmas.List.{length_push}
use Rattle.std.specs.Arc.{arc_value}
use Rattle.std.specs.declared.sync.Arc.{Arc}
use Rattle.sc_record.specs.Writes.{Write}
use Rattle.sc_snapshot.specs.Change.{IsChange}
use Rattle.sc_snapshot.proofs.part.Part.keep.Goals as goal

pub returns-clause-change : goal.returns-clause-change
returns-clause-change c = λ old new at is at_old at_new.
    let items = c.args.self.now.cells.items in
    let row = arc_value c.args.row.now in
    let number : c.len.result ≡ length items = c.len.ensures ∙ c.args.self.now.cells.ok.0 in
    let pushed : length c.push.new.self.items ≡ length items + 1 =
    ap (λ (cells : List (Arc Write Global)). length cells) c.in_ok-push.ensures.items ∙ length_push items c.in_ok-try_clone.field-0 in
    let more : c.len.result + 1 ≡ length c.push.new.self.items = omega (arith, number, pushed) in
    subst (λ n. IsChange old new (at + 1) n c.keep.new.self) more
    (c.in_ok-keep.ensures.change old new at row (subst (λ n. IsChange old new at n c.args.self.now.change) (sym number) is) at_old
    (subst (λ n. slice_get new n ≡ Some row) (sym number) at_new))
