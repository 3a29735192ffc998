-- The mark and the place, or the mark and the name, are read as the name.
use Rattle.std.proofs.Common.{◌∷◌}
use Rattle.std.specs.Int.{w32, to_le_bytes}
use Rattle.std.proofs.lemmas.Result.{on_ok_weaker}
use Rattle.sc_record.proofs.TermReadLemmas.{placed_name}
use Rattle.sc_record.proofs.TermPushLemmas.{adds_name}
use Rattle.sc_record.proofs.term_push.push_field_name.Goals as goal

pub returns-in-Some-clause-ok : goal.returns-in-Some-clause-ok
returns-in-Some-clause-ok c =
    on_ok_weaker c.push_place.result
    (λ is. record {
      more = 254 ∷ to_le_bytes w32 c.in-Some.place;
      whole = is;
      reads = λ before rest. placed_name before c.args.doc.now c.args.name.text.now c.in-Some.place rest c.in-Some.ensures;
    }) c.push_place.ensures.ok

pub returns-in_ok-push-in-None-clause-ok : goal.returns-in_ok-push-in-None-clause-ok
returns-in_ok-push-in-None-clause-ok c =
    adds_name c.args.doc.now c.args.name.text.now c.args.out.now.items c.push.new.self.items c.push_name.new.out.items c.push_name.result
    c.in_ok-push-in-None.ensures.items c.push_name.ensures.fits c.push_name.ensures.text c.push_name.ensures.bytes
