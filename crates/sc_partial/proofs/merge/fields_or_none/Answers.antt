-- Four bytes spell a document without fields.
use Rattle.std.proofs.Common.{◌∙◌, ap, sym, refl}
use Rattle.sc_spelling.specs.Reading.{read_of}
use Rattle.sc_partial.specs.Resolved.{fields_of}
use Rattle.sc_partial.proofs.RunLemmas.{none_read}
use Rattle.sc_partial.proofs.merge.fields_or_none.Goals as goal

pub of-requires : goal.of-requires
of-requires c = rw none_read refl

pub returns-in-None-clause-fields : goal.returns-in-None-clause-fields
returns-in-None-clause-fields c = c.of.ensures ∙ ap read_of none_read ∙ sym (ap fields_of c.in-None.is)
