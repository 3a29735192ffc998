-- One edit more is told.
use Rattle.std.proofs.Common.{◌+◌, ◌-◌, ◌≤◌, Some, sym, ap, subst, ◌∙◌, arith}
use Rattle.std.proofs.lemmas.Option.{IfSome_then}
use Rattle.std.specs.Option.{IfSome}
use Rattle.sc_record.specs.Writes.{Write}
use Rattle.sc_snapshot.specs.Edits.{next_of}
use Rattle.sc_snapshot.proofs.EditLemmas.{edit-bounded, rest-kept, rest-put}
use Rattle.sc_snapshot.proofs.change.Change.put.Goals as goal

pub replace-requires-clause-last_lost : goal.replace-requires-clause-last_lost
replace-requires-clause-last_lost c =
    let order = c.requires.from in
    IfSome_then c.keep_all.new.self.lost c.in_ok-keep_all.ensures.lost (λ lost same.
    let last = subst (λ o. IfSome o (λ it. it.last_row ≤ c.args.from)) same c.requires.last_lost in omega (arith, last, order))

pub returns-clause-change : goal.returns-clause-change
returns-clause-change c = λ new edits rest is.
    let old = c.args.rows.now in
    let edit = c.args.edit.now in
    let from = c.args.from in
    let number = c.args.number in
    let next = number + (edit.at - from) in
    let bounds = edit-bounded old new from number edit edits rest in
    let kept = c.in_ok-keep_all.ensures.change old new is bounds.1 (rest-kept old new from number edit edits rest) in
    let left = c.in_ok-replace.ensures.change new next kept in
    let put = rest-put old new from number edit edits rest ∙ ap (λ (w : Write). Some w) (sym c.deref.ensures) in
    c.in_ok-file.ensures.change old new (next_of edit) left put
