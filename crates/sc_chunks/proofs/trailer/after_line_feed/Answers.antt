-- A LF ends a trailer line, or the empty line after them.
use Rattle.std.proofs.Common.{arith}
use Rattle.sc_chunks.proofs.TrailerStepLemmas.{coding_ends, line_ends, line_has_no_name, line_is_long}
use Rattle.sc_chunks.proofs.trailer.after_line_feed.Goals.{then-not-named-via-then-not-named, then-not-named-via-else-not-named+then-saturating_add-ge-MAX_TRAILERS}
use Rattle.sc_chunks.proofs.trailer.after_line_feed.Goals as goal

pub returns-then-count-eq1 : goal.returns-then-count-eq1
returns-then-count-eq1 c coded content r room = coding_ends coded content c.args.size c.args.count c.args.named r room c.if-count-eq1.true

pub returns-then-not-named : goal.returns-then-not-named
returns-then-not-named c coded content r room =
    elim c.then-not-named.branch [
      | then-not-named-via-then-not-named w ↦ line_has_no_name coded content c.args.size c.args.count c.args.named r c.if-count-eq1.false w.if-not-named.true
      | then-not-named-via-else-not-named+then-saturating_add-ge-MAX_TRAILERS w ↦
          line_is_long coded content c.args.size c.args.count c.args.named r c.if-count-eq1.false
          (omega (arith, w.saturating_add.ensures, w.if-saturating_add-ge-MAX_TRAILERS.true))
    ]

pub returns : goal.returns
returns c coded content r room =
    line_ends coded content c.args.size c.args.count c.args.named r c.if-count-eq1.false (omega (arith, c.saturating_add.ensures, c.if-saturating_add-ge-MAX_TRAILERS.false))
    c.if-not-named.false
