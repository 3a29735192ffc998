-- A run without bytes has no terms.
use Rattle.std.proofs.Common.{List, [], refl, ap}
use mathlib.Core.Bool.{false≢true}
use Rattle.sc_spelling.specs.Reading.{read_of, rest_of}
use Rattle.sc_record.specs.TermsStates.{TermsState}
use Rattle.sc_record.specs.declared.term.Term.{Term}
use Rattle.sc_record.specs.declared.term_run.TermRun.{TermRun}
use Rattle.sc_record.proofs.TermRunLemmas.{none_read}
use Rattle.sc_record.proofs.terms_builder.TermsBuilder.new.Goals as goal

pub invariant_of-result : goal.invariant_of-result
invariant_of-result c =
    let run : TermRun = record { count = 0; bytes = c.new.result } in
    record { whole = ap rest_of (none_read c.args.id.now c.args.doc.now run refl c.new.ensures.items); begun = λ h. absurd (false≢true h) }

pub returns : goal.returns
returns c =
    let run : TermRun = record { count = 0; bytes = c.new.result } in
    let made : List Term → TermsState = λ ts. record { id = c.args.id.now; fields = c.args.doc.now; field = []; terms = ts } in
    ap made (ap read_of (none_read c.args.id.now c.args.doc.now run refl c.new.ensures.items))
