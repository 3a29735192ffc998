-- What the window of the coding refuses, and what goes past its limit.
use Rattle.std.proofs.Common.{◌++◌, take, arith, sym, ◌∙◌, Err}
use Rattle.std.proofs.lemmas.Bool.{false≢true}
use Rattle.sc_chunks.specs.Progress.{IsAdvanceOf, ReachesPlace}
use Rattle.sc_chunks.proofs.DecoderLemmas.{refused, past_limit, handed_on, window_fits}
use Rattle.sc_chunks.proofs.decoder.Decoder.take.Goals as goal

pub returns-in_err-count-clause-refuses : goal.returns-in_err-count-clause-refuses
returns-in_err-count-clause-refuses c coded reached =
    let old = c.args.self.now in
    let bytes = c.args.bytes.now in
    let n = c.min.result in
    let fits = window_fits coded bytes old.room n reached.room (omega (arith, c.min.ensures)) in
    let error = c.in_err-count.field-0.0 in
    let is : IsAdvanceOf coded (take n bytes) c.advance.new.content.items c.advance.new.place (Err error) = c.in_err-count.ensures.advances coded reached.place fits in
    handed_on c.from_residual.result error (coded ++ bytes) c.from_residual.ensures.1
    (refused coded bytes c.advance.new.content.items old.room n c.advance.new.place error reached.room (omega (arith, c.min.ensures)) is)

pub returns-then-not-is_whole-clause-refuses : goal.returns-then-not-is_whole-clause-refuses
returns-then-not-is_whole-clause-refuses c coded reached =
    let old = c.args.self.now in
    let bytes = c.args.bytes.now in
    let n = c.min.result in
    let fits = window_fits coded bytes old.room n reached.room (omega (arith, c.min.ensures)) in
    let place : ReachesPlace (coded ++ take c.in_ok-count.count (take n bytes)) c.advance.new.content.items c.advance.new.place = c.in_ok-count.ensures.advances coded reached.place fits in
    past_limit coded bytes c.advance.new.content.items old.room n c.in_ok-count.count c.advance.new.place reached.room (omega (arith, c.min.ensures)) c.if-window-bytes.true
    c.in_ok-count.ensures.all place (λ end. false≢true (sym c.if-not-is_whole.true ∙ c.is_whole.ensures.whole.1 end))
