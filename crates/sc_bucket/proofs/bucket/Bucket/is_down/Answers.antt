-- A core that is not there is not down.
use Rattle.std.proofs.Common.{sym}
use Rattle.sc_bucket.proofs.DownLemmas.{absent_not_down}
use Rattle.sc_bucket.proofs.bucket.Bucket.is_down.Goals as goal

pub returns-in-None : goal.returns-in-None
returns-in-None c = sym (absent_not_down c.args.self.now c.args.core c.requires c.in-None.ensures)
