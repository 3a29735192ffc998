-- LF ends a chunk line, whose size decides what comes next.
use Rattle.std.proofs.Common.{arith}
use Rattle.sc_chunks.proofs.LineStepLemmas.{no_feed_after_return, size_is_much, chunk_begins, trailers_begin}
use Rattle.sc_chunks.proofs.line.after_line_return.Goals as goal

pub returns-then-byte-ne10 : goal.returns-then-byte-ne10
returns-then-byte-ne10 c coded content r long = no_feed_after_return coded content c.args.size c.args.byte r c.if-byte-ne10.true

pub returns-then-size-saturating_sub : goal.returns-then-size-saturating_sub
returns-then-size-saturating_sub c coded content r long =
    size_is_much coded content c.args.size c.args.byte r c.if-byte-ne10.false (omega (arith, long, c.if-size-saturating_sub.true, c.saturating_sub.ensures))

pub returns-then-size-eq0 : goal.returns-then-size-eq0
returns-then-size-eq0 c coded content r long =
    let within = r.1.at.within in
    trailers_begin coded content c.args.size c.args.byte r c.if-byte-ne10.false (omega (arith, long, within, c.if-size-saturating_sub.false, c.saturating_sub.ensures)) c.if-size-eq0.true

pub returns : goal.returns
returns c coded content r long =
    let within = r.1.at.within in
    chunk_begins coded content c.args.size c.args.byte r c.if-byte-ne10.false (omega (arith, long, within, c.if-size-saturating_sub.false, c.saturating_sub.ensures)) (omega (arith, c.if-size-eq0.false))
