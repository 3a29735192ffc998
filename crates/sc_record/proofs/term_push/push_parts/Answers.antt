-- A name and a key after it, or a key alone.
use Rattle.std.proofs.lemmas.Result.{on_ok_weaker}
use Rattle.sc_record.proofs.TermPushLemmas.{adds_same, adds_named}
use Rattle.sc_record.proofs.term_push.push_parts.Goals as goal

pub returns-in_ok-push_field_name-in-Some-clause-ok : goal.returns-in_ok-push_field_name-in-Some-clause-ok
returns-in_ok-push_field_name-in-Some-clause-ok c =
    rw c.in-Some.is (on_ok_weaker c.push_key.result
    (adds_named c.args.doc.now c.in-Some.name.text.now c.args.key.text.now c.args.out.now.items c.push_field_name.new.out.items c.push_key.new.out.items
    c.in_ok-push_field_name-in-Some.ensures.ok) c.push_key.ensures.ok)

pub returns-in-None-clause-ok : goal.returns-in-None-clause-ok
returns-in-None-clause-ok c =
    rw c.in-None.is (on_ok_weaker c.push_key-in-None.result (adds_same c.args.doc.now c.args.key.text.now c.args.out.now.items c.push_key-in-None.new.out.items) c.push_key-in-None.ensures.ok)
