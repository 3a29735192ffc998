-- What was read so far: the hash of it, no `!`, and its first `/`.
use Rattle.std.proofs.Common.{◌≡◌, take}
use Rattle.sc_hash.specs.Hasher.{progress}
use Rattle.sc_router.specs.Parts.{occurrences}
use Rattle.sc_router.specs.Slash.{IsFirstSlash}
use Rattle.sc_router.proofs.part.first_part.Given as goal

abbrev pub invariant-loop-i : goal.invariant-loop-i
invariant-loop-i l = record {
  read : l.hasher ≡ progress 0 (take l.i l.text);
  marks : occurrences 33 (take l.i l.text) ≡ 0;
  slash : IsFirstSlash l.slash (take l.i l.text);
}
