-- The text that stands there is this one.
use Rattle.std.proofs.Common.{drop, arith}
use Rattle.std.specs.Int.{w32}
use Rattle.sc_record.proofs.TermPushLemmas.{stands}
use Rattle.sc_record.proofs.term_push.place_of_key.Goals as goal

pub returns-then-begins_with : goal.returns-then-begins_with
returns-then-begins_with c =
    let length = c.in_ok-length.length in
    let rest = c.in_ok-length.rest.now in
    record {
      fits = omega arith;
      more = drop length rest;
      reads = stands w32 c.args.doc.now c.args.key.text.now c.from_place.result.now c.in_ok-place.place length rest c.from_place.ensures c.in_ok-length.ensures (c.begins_with.ensures c.if-begins_with.true);
    }
