-- What is kept of a document is one.
use Rattle.std.proofs.Common.{◌∙◌, ℕ, List, ap, take, arith}
use Rattle.sc_record.specs.Writes.{Write}
use Rattle.sc_record.proofs.WriteLemmas.{doc_is}
use Rattle.sc_record.proofs.write.Write.doc.Goals as goal

pub returns-clause-document : goal.returns-clause-document
returns-clause-document c =
    let at = c.self.inside in
    doc_is c.args.self.now at.doc_length at.run.items c.split_at.result.0.now (omega arith)
    (c.split_at.ensures.front ∙ ap (λ (b : List ℕ). take at.doc_length b) c.as_slice.ensures.value) (ap (λ (w : Write). w.doc) c.self.view_is)
    c.spelled.ensures.document
