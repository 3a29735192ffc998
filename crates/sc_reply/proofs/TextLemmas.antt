-- Texts that are computed from literals.
use Rattle.std.specs.Prelude.{⊤}
use Rattle.std.specs.Fmt.{digits}
use Rattle.serde_json.proofs.OnLiterals.{serde_json_on_literals}

-- what an answer unfolds to compute the text of a literal value
unfoldable pub texts_on_literals : ⊤
unfolding serde_json_on_literals digits
texts_on_literals = tt
