-- What was read comes after what was there.
use Rattle.std.proofs.Common.{◌≡◌, take, arith}
use Rattle.std.proofs.lemmas.Grind.{common_steps}
use Rattle.std.proofs.lemmas.List.{length-take-le}
use Rattle.sc_http.proofs.StreamLemmas.{read_after}
use Rattle.sc_http.proofs.refill.refill.Goals as goal
use Rattle.sc_http.proofs.refill.refill.Goals.{then-filled-len+in_ok-make_room, else-filled-len}

pub returns-in-Ok-clause-grows : goal.returns-in-Ok-clause-grows
returns-in-Ok-clause-grows g c =
    let kept : take c.args.filled c.deref_mut.result.now ≡ take c.args.filled c.args.bytes.now.items =
    elim c.if-filled-len.branch [ then-filled-len+in_ok-make_room w ↦ grind (arith, common_steps) | else-filled-len w ↦ grind (arith, common_steps) ] in
    record {
      piece = take c.in-Ok.count c.read.new.into;
      some = omega (arith, length-take-le c.in-Ok.count c.read.new.into c.in-Ok.ensures.bounded);
      whole = read_after c.args.bytes.now.items c.deref_mut.result.now c.read.new.into _ _ c.args.filled c.in-Ok.count c.if-filled-len.bytes.len
          kept (grind (arith, common_steps)) c.in-Ok.ensures.bounded (grind (arith, common_steps));
      gives = c.in-Ok.ensures.taken;
    }
