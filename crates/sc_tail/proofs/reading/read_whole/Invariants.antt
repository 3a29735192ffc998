-- What was filled so far is what stands in the file; the reads have changed nothing.
use Rattle.std.proofs.Common.{◌≡◌, ◌≤◌, ◌-◌, length, take, drop, IfSome}
use Rattle.sc_files.specs.States.{Stays}
use Rattle.sc_tail.proofs.reading.read_whole.Given as goal

abbrev pub invariant-filling : goal.invariant-filling
invariant-filling g l = record {
  within : l.done ≤ length l.into;
  room : length l.into ≡ length l.fn.into;
  filled : IfSome (g.F.LogFile.state l.fn.file).seen (λ bytes. take l.done l.into ≡ take l.done (drop l.at bytes));
  stays : Stays (g.F.LogFile.state l.fn.file) (g.F.LogFile.state l.file);
  steady : (g.F.LogFile.state l.file).faults ≡ (g.F.LogFile.state l.fn.file).faults;
}

abbrev pub decreases-filling : goal.decreases-filling
decreases-filling g l = length l.into - l.done
