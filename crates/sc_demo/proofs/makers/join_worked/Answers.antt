-- Passes that are not there have seen nothing.
use Rattle.sc_shared.specs.Passes.{seen_of}
use Rattle.sc_server.proofs.StoryLemmas.{nothing_joined}
use Rattle.sc_demo.proofs.makers.join_worked.Goals as goal

pub returns-in_default-clause-joined : goal.returns-in_default-clause-joined
returns-in_default-clause-joined c = nothing_joined c.args.worked (seen_of c.args.passes.now) c.in_default.not-Some
