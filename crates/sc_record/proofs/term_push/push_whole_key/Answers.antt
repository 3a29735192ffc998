-- The key's length and the key are read as the key.
use Rattle.std.proofs.Common.{arith, rules}
use Rattle.std.proofs.lemmas.Str.{is_utf8-from_IsUtf8}
use Rattle.sc_record.proofs.TermPushLemmas.{adds_short_key, adds_long_key}
use Rattle.sc_record.proofs.term_push.push_whole_key.Goals as goal

pub returns-then-key-clause-ok : goal.returns-then-key-clause-ok
returns-then-key-clause-ok c =
    adds_short_key c.args.doc.now c.args.key.now c.args.out.now.items c.push.new.self.items c.extend_from_slice.new.self.items c.extend_from_slice.result
    (omega (arith, c.if-key.true)) (is_utf8-from_IsUtf8 c.args.key.now c.utf8.key) (search rules) (search rules)

pub returns-clause-ok : goal.returns-clause-ok
returns-clause-ok c =
    adds_long_key c.args.doc.now c.args.key.now c.args.out.now.items c.push-2.new.self.items c.push_text.new.out.items c.push_text.result
    c.in_ok-push-2.ensures.items c.push_text.ensures.fits c.push_text.ensures.text c.push_text.ensures.bytes
