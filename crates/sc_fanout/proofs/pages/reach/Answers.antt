-- What is needed to show the page is all up to its end.
use Rattle.std.proofs.lemmas.List.{drop-take}
use Rattle.sc_fanout.proofs.pages.reach.Goals as goal

pub returns-else-found-from-clause-enough : goal.returns-else-found-from-clause-enough
returns-else-found-from-clause-enough c = λ sorted is. drop-take c.args.ask.now.start c.args.ask.now.rows sorted
