-- So far the row is filed under the terms that were lent.
use Rattle.std.proofs.Common.{◌≡◌, ℕ, List, ◌++◌, ◌≤◌, map}
use Rattle.sc_record.specs.TermRuns.{term_of}
use Rattle.sc_segment.specs.Index.{IsIndexOf}
use Rattle.sc_snapshot.specs.Postings.{key_order, keyed}
use Rattle.sc_snapshot.specs.declared.term_key.TermKey.{TermKey}
use Rattle.sc_snapshot.proofs.filing.file_terms.Given as goal

abbrev pub invariant-loop-term : goal.invariant-loop-term
invariant-loop-term l = record {
  whole : map term_of l.yielded ++ l.term-iterator ≡ l.fn.terms;
  index : (added : List (ℕ × TermKey)) → IsIndexOf key_order added l.fn.builder.index
      → IsIndexOf key_order (added ++ keyed l.number (map term_of l.yielded)) l.builder.index;
  last_row : l.builder.last_row ≤ l.number;
}
