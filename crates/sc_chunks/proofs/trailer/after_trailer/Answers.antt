-- A LF after a CR ends a line, and any other byte goes on with it.
use Rattle.std.proofs.Common.{sym, ◌∙◌}
use Rattle.std.proofs.lemmas.Bool.{false≢true}
use Rattle.sc_chunks.proofs.trailer.after_trailer.Goals.{else-returned-via-then-returned+else-byte-eq10, else-returned-via-else-returned}
use Rattle.sc_chunks.proofs.trailer.after_trailer.Goals as goal

pub returns-else-returned : goal.returns-else-returned
returns-else-returned c coded content r room =
    c.after_text.ensures coded content c.args.returned r
    (λ both. elim c.else-returned.branch [
      | else-returned-via-then-returned+else-byte-eq10 w ↦ w.if-byte-eq10.false both.1
      | else-returned-via-else-returned w ↦ false≢true (sym w.if-returned.false ∙ both.0)
    ])
