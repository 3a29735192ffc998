-- What the terms that are left say is what all say.
use Rattle.std.proofs.Common.{◌≡◌}
use Rattle.std.specs.List.{list_all}
use Rattle.sc_snapshot.specs.Postings.{is_no_other_id}
use Rattle.sc_snapshot.proofs.ids.has_no_other_id.Given as goal

abbrev pub invariant-loop-term : goal.invariant-loop-term
invariant-loop-term l = list_all (is_no_other_id l.id) l.term-iterator ≡ list_all (is_no_other_id l.id) l.fn.terms
