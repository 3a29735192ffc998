-- One more field was sent, whose name comes before this one.
use Rattle.std.proofs.Common.{◌≡◌, ◌∷◌, ap, rules}
use Rattle.sc_spelling.specs.Lent.{field_of}
use Rattle.sc_json.specs.Sent.{ComesBefore, with_next}
use Rattle.sc_json.proofs.SentLemmas.{next_left, before_step}
use Rattle.sc_json.proofs.document.send_before.Goals as goal

pub loop-next-preserved : goal.loop-next-preserved
loop-next-preserved g c =
    let field = field_of c.in-Some.field in
    let fields = c.loop-next.fields in
    let left : with_next c.loop-next.next fields ≡ field ∷ fields = ap (λ o. with_next o fields) c.in-Some.is in
    let comes : ComesBefore c.args.name.now field = search rules in
    before_step c.args.name.now (with_next c.args.next c.args.fields.now) (with_next c.loop-next.next fields) fields (with_next c.next-next.result c.next-next.new.self) field _ _ _
    left (next_left c.next-next.result fields c.next-next.new.self c.next-next.ensures.steps) comes c.loop-next.invariant c.in_ok-send_field.ensures
