-- A deletion has no terms.
use Rattle.std.proofs.Common.{◌∙◌, sym, ap, arith}
use Rattle.sc_record.specs.Writes.{Write}
use Rattle.sc_record.proofs.WriteLemmas.{none_terms}
use Rattle.sc_record.proofs.write.Write.terms.Goals as goal

pub returns-then-self-eq0 : goal.returns-then-self-eq0
returns-then-self-eq0 c =
    let at = c.self.inside in
    c.none.ensures ∙ sym (none_terms at.id at.doc_length at.run.items (omega arith) c.self.invariant.1) ∙ ap (λ (w : Write). w.terms) c.self.view_is
