-- One list more is a beginning of what was done; past the last all are.
use Rattle.std.proofs.Common.{List, get_or, take, sym, subst, arith}
use Rattle.std.proofs.lemmas.List.{take_more, take_all}
use Rattle.std.proofs.lemmas.List.Elements.{All-push, All-same}
use mathlib.Core.List.{IsPrefix}
use Rattle.sc_opening.specs.declared.change.Change.{Change}
use Rattle.sc_opening.proofs.together.first_apart.Goals as goal

pub loop-i-preserved : goal.loop-i-preserved
loop-i-preserved c =
    let P = λ (one : List Change). IsPrefix one c.args.done.now in
    let i = c.loop-i.i in
    let item = c.index-said-i.result in
    let is : IsPrefix item c.args.done.now = subst P c.as_slice.ensures (c.is_beginning.ensures.0 c.if-not-is_beginning.false) in
    All-same P _ _ (take_more c.args.said.now i item (omega arith))
    (All-push P (take i c.args.said.now) (get_or c.args.said.now i item) c.loop-i.invariant (subst P c.index-said-i.is is))

pub returns : goal.returns
returns c =
    let P = λ (one : List Change). IsPrefix one c.args.done.now in
    All-same P _ _ (sym (take_all c.loop-i.i c.args.said.now (omega arith))) c.loop-i.invariant
