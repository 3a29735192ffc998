-- What was read so far, and that it has neither `!` nor `/`.
use Rattle.std.proofs.Common.{◌≡◌, ◌*◌, take}
use Rattle.sc_hash.specs.Hasher.{progress}
use Rattle.sc_router.specs.Parts.{occurrences}
use Rattle.sc_router.proofs.part.read_words.Given as goal

abbrev pub invariant-loop-i : goal.invariant-loop-i
invariant-loop-i l = record {
  read : l.hasher ≡ progress 0 (take (4 * l.i) l.text);
  marks : occurrences 33 (take (4 * l.i) l.text) ≡ 0;
  slashes : occurrences 47 (take (4 * l.i) l.text) ≡ 0;
}
