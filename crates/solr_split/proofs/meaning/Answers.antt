-- The usage is the text that is defined.
use Rattle.std.proofs.Common.{◌≡◌, sym, ap}
use Rattle.std.specs.Fmt.{digits}
use Rattle.solr_split.specs.Usage.{meaning_of}
use Rattle.solr_split.proofs.meaning.Goals as goal

pub returns-in-2 : goal.returns-in-2
unfolding digits
returns-in-2 c = sym (ap meaning_of c.in-2.is)
