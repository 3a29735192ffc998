-- There is room for the number of the fields.
use Rattle.sc_record.proofs.DocPartsLemmas.{still_long}
use Rattle.sc_record.proofs.doc_builder.DocBuilder.push.Goals as goal

pub invariant_of-self : goal.invariant_of-self
invariant_of-self c =
    still_long c.push_value.result c.self.inside.bytes.items _ c.push_value.new.out.items c.self.invariant c.push_value.ensures.bytes c.push_value.ensures.err
