-- The values of the field that was begun make it one field more.
use Rattle.std.proofs.Common.{◌≡◌, ◌⊎◌, inl, inr, ◌<◌, ◌≤◌, true, length, arith, rules}
use Rattle.sc_schema.proofs.PushLemmas.{too_many, field_added}
use Rattle.sc_schema.proofs.new_document.push_values.Goals.{else-not-many-via-then-not-many+else-list-gt1, else-not-many-via-else-not-many}
use Rattle.sc_schema.proofs.new_document.push_values.Goals as goal

pub returns-then-list-gt1 : goal.returns-then-list-gt1
returns-then-list-gt1 c =
    too_many c.args.kind c.args.many c.args.flat.now c.given-list.result.now _ c.given-list.ensures (search rules) (omega arith)

pub returns : goal.returns
returns c =
    let some : 0 < length c.given-list.result.now = search rules in
    let enough : (c.args.many ≡ true) ⊎ (length c.given-list.result.now ≤ 1) = elim c.else-not-many.branch [
      | else-not-many-via-then-not-many+else-list-gt1 w ↦ inr (omega arith)
      | else-not-many-via-else-not-many w ↦ inl (search rules)
    ] in
    field_added c.push_all.result c.args.kind c.args.many c.args.flat.now c.given-list.result.now c.args.name.now c.args.made.now c.begin.new.self c.push_all.new.made c.given-list.ensures some enough
    c.in_ok-begin.ensures.field c.in_ok-begin.ensures.fits c.push_all.ensures
