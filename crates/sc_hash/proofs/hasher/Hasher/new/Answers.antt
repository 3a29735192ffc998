-- Of no bytes there is no word.
use Rattle.std.proofs.Common.{refl}
use Rattle.sc_hash.specs.Hash.{after_text}
use Rattle.sc_hash.specs.Hasher.{progress}
use Rattle.sc_hash.proofs.hasher.Hasher.new.Goals as goal

pub returns : goal.returns
unfolding after_text progress
returns c = refl
