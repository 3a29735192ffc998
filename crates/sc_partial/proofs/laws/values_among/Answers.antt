-- The laws are those of the lemmas on values among others.
use Rattle.sc_partial.proofs.DistinctLemmas.{adds_what_is_missing, adds_none_twice, removes_all}
use Rattle.sc_partial.proofs.laws.values_among.Goals as goal

pub returns-clause-added : goal.returns-clause-added
returns-clause-added c = adds_what_is_missing

pub returns-clause-once : goal.returns-clause-once
returns-clause-once c = adds_none_twice

pub returns-clause-removed : goal.returns-clause-removed
returns-clause-removed c = removes_all
