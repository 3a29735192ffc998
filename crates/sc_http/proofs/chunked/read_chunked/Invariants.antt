-- What was taken of the coding, and what the buffer has left, are the bytes that came.
use Rattle.std.proofs.Common.{◌≡◌, ◌≤◌, ◌⊎◌, ◌+◌, ◌-◌, ◌*◌, ◌++◌, ℕ, List, length, max}
use Rattle.sc_model.specs.Heads.{chunked}
use Rattle.sc_http.specs.Bodies.{HasNoBody}
use Rattle.sc_http.specs.Stream.{KeepsBytes, ReadsWhile, reader_limit}
use Rattle.sc_chunks.specs.Progress.{Reaches}
use Rattle.sc_http.proofs.chunked.read_chunked.Given as goal

abbrev pub invariant-loop-count : goal.invariant-loop-count
invariant-loop-count g l = record {
  taken : (coded : List ℕ) × Reaches coded l.decoder × KeepsBytes coded l.buffer l.fn.buffer (g.S.Source.rest l.fn.source) (g.S.Source.rest l.source);
  needed : (l.source ≡ l.fn.source)
      ⊎ ReadsWhile (λ before. HasNoBody chunked (l.fn.buffer ++ before)) (g.S.Source.rest l.fn.source) (g.S.Source.rest l.source);
  bounded : length l.buffer ≤ max (length l.fn.buffer) reader_limit;
  steady : g.S.Source.faults l.source ≡ g.S.Source.faults l.fn.source;
}

abbrev pub decreases-loop-count : goal.decreases-loop-count
decreases-loop-count g l = 2 * l.decoder.room + (1 - length l.buffer)
