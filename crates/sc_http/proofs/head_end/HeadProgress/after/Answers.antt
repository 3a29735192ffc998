-- What is passed over leaves the progress as it is, and after the end of a head it stays.
use Rattle.std.proofs.Common.{◌+◌, ◌<◌, fold, length, get_or, refl, sym, ap, ◌∙◌, arith}
use Rattle.std.proofs.lemmas.List.{take_all, length-drop}
use Rattle.std.proofs.lemmas.List.Folds.{fold_stuck}
use Rattle.sc_http.specs.HeadEnd.{next_progress}
use Rattle.sc_http.specs.declared.head_end.HeadProgress.TheVariants as stages
use Rattle.sc_http.proofs.ProgressLemmas.{stays-on, rest_of, next-on}
use Rattle.sc_http.proofs.head_end.HeadProgress.after.Goals as goal

pub returns-then-at-bytes : goal.returns-then-at-bytes
returns-then-at-bytes c =
    let bytes = c.args.bytes.now in
    let on = stays-on c.args.self c.loop-at.progress bytes c.loop-at.at c.stay-at.result (c.loop-at.at + c.stay-at.result) refl c.loop-at.invariant.1 (rw (rest_of bytes c.loop-at.at) at c.stay-at.ensures.stays) in
    on ∙ ap (fold next_progress c.args.self) (take_all (c.loop-at.at + c.stay-at.result) bytes (omega (arith, c.if-at-bytes.true)))

pub returns-in-End : goal.returns-in-End
returns-in-End c =
    let bytes = c.args.bytes.now in
    let at = c.loop-at.at + c.stay-at.result in
    let on = stays-on c.args.self c.loop-at.progress bytes c.loop-at.at c.stay-at.result (c.loop-at.at + c.stay-at.result) refl c.loop-at.invariant.1 (rw (rest_of bytes c.loop-at.at) at c.stay-at.ensures.stays) in
    let within : at < length bytes = omega (arith, c.if-at-bytes.false, c.stay-at.ensures.bound, ap length (rest_of bytes c.loop-at.at), length-drop c.loop-at.at bytes, c.loop-at.invariant.0, c.loop-at-test.true) in
    fold_stuck next_progress stages.End (λ b. refl) c.args.self bytes at 0 within
    (ap (λ p. next_progress p (get_or bytes at 0)) (sym on) ∙ sym c.in-End.ensures)

pub loop-at-preserved : goal.loop-at-preserved
loop-at-preserved c =
    let bytes = c.args.bytes.now in
    let at = c.loop-at.at + c.stay-at.result in
    let on = stays-on c.args.self c.loop-at.progress bytes c.loop-at.at c.stay-at.result (c.loop-at.at + c.stay-at.result) refl c.loop-at.invariant.1 (rw (rest_of bytes c.loop-at.at) at c.stay-at.ensures.stays) in
    let within : at < length bytes = omega (arith, c.if-at-bytes.false, c.stay-at.ensures.bound, ap length (rest_of bytes c.loop-at.at), length-drop c.loop-at.at bytes, c.loop-at.invariant.0, c.loop-at-test.true) in
    (omega arith, c.next-progress.ensures ∙ next-on c.args.self c.loop-at.progress bytes at 0 (at + 1) refl within on)
