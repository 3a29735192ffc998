-- A byte, or a backslash with the byte after it, changes nothing of whether a run is cut short.
use Rattle.std.proofs.Common.{◌<◌, ◌+◌, length, sym, ◌∙◌, arith}
use Rattle.sc_query.proofs.BytesLemmas.{cut-one, cut-escape}
use Rattle.sc_query.proofs.lexeme.is_cut_short.Goals as goal

pub loop-at-preserved-then-bytes-at-eq92 : goal.loop-at-preserved-then-bytes-at-eq92
loop-at-preserved-then-bytes-at-eq92 c =
    let within : c.loop-at.at + 1 < length c.args.bytes.now = omega (arith, c.if-at-bytes.false) in record {
      within = omega arith;
      same = sym (cut-escape c.args.bytes.now c.loop-at.at within c.if-bytes-at-eq92.true) ∙ c.loop-at.invariant.same;
    }

pub loop-at-preserved : goal.loop-at-preserved
loop-at-preserved c = record {
  within = omega arith;
  same = sym (cut-one c.args.bytes.now c.loop-at.at c.loop-at-test.true c.if-bytes-at-eq92.false) ∙ c.loop-at.invariant.same;
}
