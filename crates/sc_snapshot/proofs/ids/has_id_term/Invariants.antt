-- What the terms that are left say is what all say.
use Rattle.std.proofs.Common.{◌≡◌}
use Rattle.std.specs.List.{list_any}
use Rattle.sc_snapshot.specs.Postings.{is_id_term}
use Rattle.sc_snapshot.proofs.ids.has_id_term.Given as goal

abbrev pub invariant-loop-term : goal.invariant-loop-term
invariant-loop-term l = list_any is_id_term l.term-iterator ≡ list_any is_id_term l.fn.terms
