-- The entry is noted, and what is kept is kept of the journal with it.
use Rattle.sc_legal.proofs.PassLemmas.{passed_on}
use Rattle.sc_legal.proofs.checker.Checker.pass.Goals as goal

pub invariant_of-self-2 : goal.invariant_of-self-2
invariant_of-self-2 c =
    passed_on c.self.inside.first c.self.inside.passed.items c.and-self-inside.result.items c.self.inside.kept c.note.new.self c.args.entry.now _
    c.args.self.now c.self.view_is c.requires.may c.self.invariant c.in_ok-note.ensures.ok c.and-self-inside.ensures

pub returns-clause-legal : goal.returns-clause-legal
returns-clause-legal c =
    (passed_on c.self.inside.first c.self.inside.passed.items c.and-self-inside.result.items c.self.inside.kept c.note.new.self c.args.entry.now _
    c.args.self.now c.self.view_is c.requires.may c.self.invariant c.in_ok-note.ensures.ok c.and-self-inside.ensures).legal
