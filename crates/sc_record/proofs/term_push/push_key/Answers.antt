-- The mark and the place are read as the key.
use Rattle.std.proofs.Common.{[], ◌∷◌}
use Rattle.std.specs.Int.{w32, to_le_bytes}
use Rattle.std.proofs.lemmas.Result.{on_ok_weaker}
use Rattle.sc_record.proofs.TermReadLemmas.{placed_key}
use Rattle.sc_record.proofs.term_push.push_key.Goals as goal

pub returns-in-Some-clause-ok : goal.returns-in-Some-clause-ok
returns-in-Some-clause-ok c =
    on_ok_weaker c.push_place.result
    (λ is. record {
      more = 252 ∷ to_le_bytes w32 c.in-Some.place;
      whole = is;
      reads = placed_key c.args.doc.now c.args.key.text.now c.in-Some.place [] c.in-Some.ensures;
    }) c.push_place.ensures.ok
