-- So far the row is filed under the other ones of the terms that were lent, and it is told which of these are of the field of ids.
use Rattle.std.proofs.Common.{◌≡◌, ℕ, List, ◌++◌, ◌≤◌, map}
use Rattle.std.specs.List.{list_all, list_any}
use Rattle.sc_record.specs.TermRuns.{term_of}
use Rattle.sc_segment.specs.Index.{IsIndexOf}
use Rattle.sc_snapshot.specs.Postings.{is_id_term, is_no_other_id, key_order, keyed, other_terms}
use Rattle.sc_snapshot.specs.declared.term_key.TermKey.{TermKey}
use Rattle.sc_snapshot.proofs.filing.file_others.Given as goal

abbrev pub invariant-loop-term : goal.invariant-loop-term
invariant-loop-term l = record {
  whole : map term_of l.yielded ++ l.term-iterator ≡ l.fn.terms;
  index : (added : List (ℕ × TermKey)) → IsIndexOf key_order added l.fn.builder.index
      → IsIndexOf key_order (added ++ keyed l.number (other_terms (map term_of l.yielded))) l.builder.index;
  last_row : l.builder.last_row ≤ l.number;
  has_id : l.has_id ≡ list_any is_id_term (map term_of l.yielded);
  has_no_other : l.has_no_other ≡ list_all (is_no_other_id l.id) (map term_of l.yielded);
}
