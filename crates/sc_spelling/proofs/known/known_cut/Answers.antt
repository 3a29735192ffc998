-- What is known to be cut off is a text.
use Rattle.std.proofs.Common.{sym, subst, arith}
use Rattle.std.specs.Str.{IsUtf8}
use Rattle.sc_spelling.proofs.KnownLemmas.{cut_utf8}
use Rattle.sc_spelling.proofs.known.known_cut.Goals as goal

pub from_utf8_unchecked-requires : goal.from_utf8_unchecked-requires
from_utf8_unchecked-requires c =
    subst IsUtf8 (sym c.split_at.ensures.front) (cut_utf8 c.args.length c.args.bytes.now (omega arith) c.requires)
