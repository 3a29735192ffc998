-- No parameter that was looked at has the name.
use Rattle.std.proofs.Common.{◌≡◌, drop}
use Rattle.sc_model.specs.Parameters as parameters
use Rattle.sc_model.proofs.params.parameter.Given as goal

abbrev pub invariant-loop-param : goal.invariant-loop-param
invariant-loop-param l = parameters.parameter l.name (drop l.param-index l.params) ≡ parameters.parameter l.name l.params
