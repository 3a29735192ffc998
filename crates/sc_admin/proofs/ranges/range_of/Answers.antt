-- The range that is read is the one that the text stands for.
use Rattle.sc_admin.proofs.RangeLemmas.{read-range}
use Rattle.sc_admin.proofs.ranges.range_of.Goals as goal

pub returns : goal.returns
returns c = read-range c.args.text.now c.parse_range.result c.parse_range.ensures.read
