-- The hash so far and the rest of the bytes give the hash of them all.
use Rattle.std.proofs.Common.{◌≡◌, ◌*◌, drop}
use Rattle.sc_hash.specs.Hash.{after_text}
use Rattle.sc_hash.proofs.hash.murmur3.Given as goal

abbrev pub invariant-loop-i : goal.invariant-loop-i
invariant-loop-i l = after_text l.hash (drop (4 * l.i) l.bytes) ≡ after_text l.seed l.bytes
