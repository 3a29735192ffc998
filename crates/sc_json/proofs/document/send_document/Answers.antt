-- The members were sent in the order of an object's.
use Rattle.std.proofs.Common.{codes, w64, sym, subst, rules}
use Rattle.std.proofs.lemmas.Int.{to_z-of_z}
use Rattle.std.proofs.lemmas.Result.{on_ok_weaker}
use Rattle.serde.specs.Event.{Logs, text}
use Rattle.serde_json.specs.Events.{number_event}
use Rattle.serde_json.specs.Find.{of_integer}
use Rattle.sc_json.specs.Sent.{SendsBefore, with_next}
use Rattle.sc_json.proofs.SentLemmas.{next_left, placed_by, document_sent}
use Rattle.sc_json.proofs.document.send_document.Goals as goal

pub returns : goal.returns
returns g c =
    let fields = c.args.fields in
    let middle = with_next c.in_ok-between.between c.send_before.new.fields in
    let later = with_next c.in_ok-later.later c.send_before-2.new.fields in
    let begun_at = g.S.Serializer.written c.begin_map.new.self in
    let named_at = g.S.Serializer.written c.send_before.new.out in
    let keyed = g.S.Serializer.written c.key.new.self in
    let versioned = g.S.Serializer.written c.send_whole.new.out in
    let sent_at = g.S.Serializer.written c.send_before-2.new.out in
    let left = sym (next_left c.next-first.result fields c.next-first.new.self c.next-first.ensures.steps) in
    let one = subst (λ fs. SendsBefore (codes "_version_") fs middle begun_at named_at) left c.in_ok-between.ensures in
    let two = c.in_ok-later.ensures in
    let placed = placed_by fields middle later begun_at named_at versioned sent_at one two in
    let version = subst (λ z. Logs keyed versioned (number_event (of_integer z))) (to_z-of_z w64 c.args.version c.ranges.version) c.in_ok-send_whole.ensures in
    let identified = subst (λ id. Logs (g.S.Serializer.written c.key-2.new.self) (g.S.Serializer.written c.str.new.self) (text id)) c.as_str.ensures.value c.in_ok-str.ensures in
    on_ok_weaker c.end_map.result (λ ended. document_sent c.args.id.now c.args.version fields _ _ _ _ _ _ _ _ _ _ _ _ _ _ c.requires placed (search rules)
    c.in_ok-begin_map.ensures one.each c.in_ok-key.ensures version two.each
    c.in_ok-key-2.ensures identified c.in_ok-send_fields.ensures ended) c.end_map.ensures
