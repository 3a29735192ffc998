use Rattle.std.proofs.Common.{refl}
use Rattle.sc_tail.proofs.NextLemmas.{begins_reading}
use Rattle.sc_tail.proofs.reading.Reading.begin.Goals as goal

pub returns-clause-reading : goal.returns-clause-reading
returns-clause-reading g c = begins_reading (g.F.LogFile.state c.sync.new.self) (g.F.LogFile.state c.len.new.self) _ c.len.ensures.stays c.new.ensures refl c.in_ok-len.ensures.length
