-- One row more is surveyed.
use Rattle.sc_snapshot.proofs.SurveyLemmas.{surveyed-next, marked-size}
use Rattle.sc_snapshot.proofs.survey.Survey.mark.Goals as goal

pub returns-clause-surveyed : goal.returns-clause-surveyed
returns-clause-surveyed c = λ rows is within told.
    surveyed-next rows c.args.number c.args.is_live c.args.self.now c.note.new.self is within told c.in_ok-note.ensures.live_rows c.in_ok-note.ensures.live_bits

pub returns-clause-size : goal.returns-clause-size
returns-clause-size c = marked-size c.args.is_live c.args.self.now.live_bits c.note.new.self.live_bits c.args.number c.in_ok-note.ensures.live_bits
