-- What the body has is what it had and then what the source gave.
use Rattle.std.proofs.Common.{◌≡◌, ◌<◌, ◌≤◌, ◌⊎◌, ◌-◌, ◌++◌, [], length, take, vec_len}
use Rattle.sc_http.specs.Stream.{KeepsBytes, ReadsWhile}
use Rattle.sc_http.proofs.stated.read_rest.Given as goal

abbrev pub invariant-loop-filled : goal.invariant-loop-filled
invariant-loop-filled g l = record {
  within : l.filled ≤ vec_len l.body;
  below : l.filled ≤ l.whole;
  size : vec_len l.body ≤ l.whole;
  out : KeepsBytes (take l.filled l.body.items) [] l.fn.body.items (g.S.Source.rest l.fn.source) (g.S.Source.rest l.source);
  needed : (l.source ≡ l.fn.source)
      ⊎ ReadsWhile (λ before. length (l.fn.body.items ++ before) < l.fn.whole) (g.S.Source.rest l.fn.source) (g.S.Source.rest l.source);
  steady : g.S.Source.faults l.source ≡ g.S.Source.faults l.fn.source;
}

abbrev pub decreases-loop-filled : goal.decreases-loop-filled
decreases-loop-filled g l = l.whole - l.filled
