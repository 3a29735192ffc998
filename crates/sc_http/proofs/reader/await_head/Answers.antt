-- What was searched before is not searched again.
use Rattle.std.proofs.Common.{◌<◌, [], List, ℕ, length, arith, ap, sym, refl, subst, ◌∙◌, length-append, inl, inr}
use Rattle.std.proofs.lemmas.Bool.{false≢true}
use Rattle.std.proofs.lemmas.Result.{err_from_is_err_and}
use Rattle.sc_http.proofs.HeadEndLemmas.{search_goes_on, progress_kept}
use Rattle.sc_http.proofs.StreamLemmas.{gives_out_nothing, left_more, reads_while}
use Rattle.sc_http.proofs.MessageLemmas.{no_message_yet}
use Rattle.sc_model.specs.Messages.{HasNoMessage}
use Rattle.sc_http.proofs.reader.await_head.Goals as goal

pub loop-progress-preserved : goal.loop-progress-preserved
loop-progress-preserved g c =
    let grown = c.in_ok-fill.ensures.grows in
    let here = search_goes_on _ _ _ _ _ c.unread-unread.ensures c.loop-progress.invariant.progress c.after-progress.ensures in
    let none = no_message_yet c.loop-progress.buffer (λ e. false≢true (sym c.if-is_end.false ∙ c.is_end.ensures.1 (here ∙ e))) in
    record {
      within = omega (arith, ap length grown.whole, length-append c.loop-progress.buffer grown.piece, ap length c.unread-unread.ensures);
      limit = omega arith;
      progress = progress_kept _ _ _ _ _ here (ap length c.unread-unread.ensures) grown.whole;
      gives = left_more _ _ _ _ _ _ _ c.loop-progress.invariant.gives grown;
      needed = inr (reads_while HasNoMessage [] c.loop-progress.buffer _ _ _ _ _ c.loop-progress.invariant.gives grown.gives none);
      bounded = omega (arith, c.in_ok-fill.ensures.bounded);
      steady = c.in_ok-fill.ensures.faults.steady (λ failed. cc) ∙ c.loop-progress.invariant.steady;
    }

pub returns-in_err-fill-clause-waiting : goal.returns-in_err-fill-clause-waiting
returns-in_err-fill-clause-waiting g c =
    let p = err_from_is_err_and c.from_residual.result c.from_residual.ensures.1 in
    let here = search_goes_on _ _ _ _ _ c.unread-unread.ensures c.loop-progress.invariant.progress c.after-progress.ensures in
    rw (p.1, c.in_err-fill.ensures.kept) (λ e. false≢true (sym c.if-is_end.false ∙ c.is_end.ensures.1 (here ∙ e)))

pub returns-then-is_end-clause-ready : goal.returns-then-is_end-clause-ready
returns-then-is_end-clause-ready g c =
    let here = search_goes_on _ _ _ _ _ c.unread-unread.ensures c.loop-progress.invariant.progress c.after-progress.ensures in
    elim c.then-is_end.either [
      | inl found ↦ inl (sym here ∙ c.is_end.ensures.0 found)
      | inr long ↦ inr (subst (λ (xs : List ℕ). 65536 < length xs) c.unread-unread.ensures long.1)
    ]

pub loop-progress-init : goal.loop-progress-init
loop-progress-init g c = record {
  within = omega arith;
  limit = omega arith;
  progress = refl;
  gives = gives_out_nothing c.args.buffer.now (g.S.Source.rest c.args.source.now);
  needed = inl refl;
  bounded = omega arith;
  steady = refl;
}

pub returns-in_err-fill-clause-needed : goal.returns-in_err-fill-clause-needed
returns-in_err-fill-clause-needed g c =
    let p = err_from_is_err_and c.from_residual.result c.from_residual.ensures.1 in
    let here = search_goes_on _ _ _ _ _ c.unread-unread.ensures c.loop-progress.invariant.progress c.after-progress.ensures in
    let none = no_message_yet c.loop-progress.buffer (λ e. false≢true (sym c.if-is_end.false ∙ c.is_end.ensures.1 (here ∙ e))) in
    inr (reads_while HasNoMessage [] c.loop-progress.buffer _ [] _ _ _ c.loop-progress.invariant.gives c.in_err-fill.ensures.stays none)
