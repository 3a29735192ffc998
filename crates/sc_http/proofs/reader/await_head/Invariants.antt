-- The progress is that after what was searched, which is all that came so far but the last read.
use Rattle.std.proofs.Common.{◌≡◌, ◌≤◌, ◌⊎◌, ◌-◌, ◌+◌, ◌++◌, [], length, max, take}
use Rattle.std.specs.Prelude.{fold}
use Rattle.sc_http.specs.Stream.{KeepsBytes, ReadsWhile, reader_limit}
use Rattle.sc_model.specs.Messages.{HasNoMessage}
use Rattle.sc_http.specs.HeadEnd.{next_progress}
use Rattle.sc_http.specs.declared.head_end.HeadProgress.TheVariants as stages
use Rattle.sc_http.proofs.reader.await_head.Given as goal

abbrev pub invariant-loop-progress : goal.invariant-loop-progress
invariant-loop-progress g l = record {
  within : l.searched ≤ length l.buffer;
  limit : l.searched ≤ 65536;
  progress : l.progress ≡ fold next_progress stages.Before (take l.searched l.buffer);
  gives : KeepsBytes [] l.buffer l.fn.buffer (g.S.Source.rest l.fn.source) (g.S.Source.rest l.source);
  needed : (l.source ≡ l.fn.source)
      ⊎ ReadsWhile (λ before. HasNoMessage (l.fn.buffer ++ before)) (g.S.Source.rest l.fn.source) (g.S.Source.rest l.source);
  bounded : length l.buffer ≤ max (length l.fn.buffer) reader_limit;
  steady : g.S.Source.faults l.source ≡ g.S.Source.faults l.fn.source;
}

abbrev pub decreases-loop-progress : goal.decreases-loop-progress
decreases-loop-progress g l = 65537 + 4096 - length l.buffer
