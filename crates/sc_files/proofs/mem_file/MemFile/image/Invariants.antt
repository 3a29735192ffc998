-- The image is an outcome of the calls so far.
use Rattle.std.proofs.Common.{◌-◌, length, take}
use Rattle.sc_files.specs.Memory.{outcomes}
use Rattle.sc_files.proofs.StepLemmas.{HasImage}
use Rattle.sc_files.proofs.mem_file.MemFile.image.Given as goal

abbrev pub invariant-calls : goal.invariant-calls
invariant-calls l = HasImage (outcomes l.self.first (take l.at l.self.history)) l.image.bytes l.image.is_kept

abbrev pub decreases-calls : goal.decreases-calls
decreases-calls l = length l.calls - l.at
