-- What is read whole of bytes is a document, and spelled so.
use Rattle.std.proofs.Common.{arith}
use Rattle.sc_record.proofs.DocumentLemmas.{is_spelling, is_document}
use Rattle.sc_record.proofs.document.spelled.Goals as goal

pub returns-clause-spelling : goal.returns-clause-spelling
returns-clause-spelling c = is_spelling c.args.bytes.now (λ i. omega (arith, c.type_inv.bytes i)) c.requires

pub returns-clause-document : goal.returns-clause-document
returns-clause-document c = is_document c.args.bytes.now (λ i. omega (arith, c.type_inv.bytes i)) c.requires
