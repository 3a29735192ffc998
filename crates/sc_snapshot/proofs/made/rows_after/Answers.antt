-- The rows up to one edit more are counted.
use Rattle.std.proofs.Common.{◌+◌, ◌-◌, drop, sym, ap, subst, ◌∙◌, arith}
use Rattle.sc_snapshot.specs.Edits.{edited, IsRest}
use Rattle.sc_snapshot.proofs.EditLemmas.{rest-at, rest-end, rest-next, last-size}
use Rattle.sc_snapshot.proofs.MadeLemmas.{edit-within}
use Rattle.sc_snapshot.proofs.made.rows_after.Goals as goal

pub overflow_add-number : goal.overflow_add-number
overflow_add-number c =
    let old = c.args.old.now in
    let all = c.args.edits.now in
    let within = edit-within old (edited old 0 all) c.loop-edit.from c.loop-edit.number all c.loop-edit.edit-index c.edit-item.result c.loop-edit-test.true c.edit-item.is c.loop-edit.invariant in
    let bound = c.requires.new in
    omega (arith, within.1, bound)

pub overflow_add-number-in-loop-edit : goal.overflow_add-number-in-loop-edit
overflow_add-number-in-loop-edit c =
    let old = c.args.old.now in
    let all = c.args.edits.now in
    let within = edit-within old (edited old 0 all) c.loop-edit.from c.loop-edit.number all c.loop-edit.edit-index c.edit-item.result c.loop-edit-test.true c.edit-item.is c.loop-edit.invariant in
    let bound = c.requires.new in
    omega (arith, within.1, bound)

pub next-from-requires : goal.next-from-requires
next-from-requires c =
    let old = c.args.old.now in
    let all = c.args.edits.now in
    let within = edit-within old (edited old 0 all) c.loop-edit.from c.loop-edit.number all c.loop-edit.edit-index c.edit-item.result c.loop-edit-test.true c.edit-item.is c.loop-edit.invariant in
    let bound = c.requires.old in
    omega (arith, within.0, bound)

pub loop-edit-preserved : goal.loop-edit-preserved
loop-edit-preserved c =
    let old = c.args.old.now in
    let all = c.args.edits.now in
    let new = edited old 0 all in
    let edit = c.edit-item.result in
    let from = c.loop-edit.from in
    let number = c.loop-edit.number in
    let index = c.loop-edit.edit-index in
    let edits = drop (index + 1) all in
    let rest = rest-at old new from number all index edit c.loop-edit-test.true c.edit-item.is c.loop-edit.invariant in
    subst (λ n. IsRest old new n (number + (edit.at - from) + 1) edits) (sym c.next-from.ensures) (rest-next old new from number edit edits rest)

pub returns : goal.returns
returns c =
    let old = c.args.old.now in
    let all = c.args.edits.now in
    let new = edited old 0 all in
    let from = c.loop-edit.from in
    let number = c.loop-edit.number in
    ap (λ n. number + (n - from)) c.len.ensures
    ∙ last-size old new from number (rest-end old new from number all c.loop-edit.edit-index c.loop-edit-test.false c.loop-edit.invariant)
