-- Memory ran out, or the last maker's split is told beside what all accepted.
use Rattle.std.proofs.Common.{sym, ◌∙◌}
use Rattle.sc_demo.proofs.makers.outcome_of.Goals as goal

pub returns-then-any_ran_out : goal.returns-then-any_ran_out
returns-then-any_ran_out g c = tt

pub split_of-requires : goal.split_of-requires
split_of-requires g c = record { some = c.requires.some }

pub accepted_by-requires-clause-few : goal.accepted_by-requires-clause-few
accepted_by-requires-clause-few g c = c.requires.few

pub accepted_by-requires-clause-most : goal.accepted_by-requires-clause-most
accepted_by-requires-clause-most g c = c.requires.most

pub returns-in-Ok : goal.returns-in-Ok
returns-in-Ok g c = record {
  memory = sym c.any_ran_out.ensures ∙ c.if-any_ran_out.false;
  accepted_is = c.accepted_by.ensures;
  split = c.in-Ok.ensures;
}

pub returns-in-Err : goal.returns-in-Err
returns-in-Err g c = tt
