-- A byte that ends no line goes on with it, or makes it too long.
use Rattle.std.proofs.Common.{◌||◌, ◌==◌, inl, inr, arith, ap, sym, ◌∙◌}
use Rattle.sc_chunks.proofs.TrailerStepLemmas.{return_comes_first, text_goes_on, text_is_long, name_goes_on, no_bytes}
use Rattle.sc_chunks.proofs.trailer.after_text.Goals.{else-count-eq0-via-then-count-eq0+else-byte-eq13, else-count-eq0-via-else-count-eq0, then-named, else-named+then-count-gt0, else-named+else-count-gt0}
use Rattle.sc_chunks.proofs.trailer.after_text.Goals as goal

pub returns-then-byte-eq13 : goal.returns-then-byte-eq13
returns-then-byte-eq13 c coded content returned r other =
    return_comes_first coded content c.args.size c.args.count c.args.byte c.args.named returned r c.if-count-eq0.true c.if-byte-eq13.true

pub returns-then-saturating_add-ge-MAX_TRAILERS : goal.returns-then-saturating_add-ge-MAX_TRAILERS
returns-then-saturating_add-ge-MAX_TRAILERS c coded content returned r other =
    text_is_long coded content c.args.size c.args.count c.args.byte c.args.named returned r other (omega (arith, c.saturating_add.ensures, c.if-saturating_add-ge-MAX_TRAILERS.true))
    (elim c.else-count-eq0.branch [
      | else-count-eq0-via-then-count-eq0+else-byte-eq13 w ↦ inr w.if-byte-eq13.false
      | else-count-eq0-via-else-count-eq0 w ↦ inl (omega (arith, w.if-count-eq0.false))
    ])

pub returns : goal.returns
returns c coded content returned r other =
    let byte = c.args.byte in
    text_goes_on coded content c.args.size c.args.count byte c.args.named returned c.if-named.result r other
    (omega (arith, c.saturating_add.ensures, c.if-saturating_add-ge-MAX_TRAILERS.false))
    (λ part long name. name_goes_on part c.args.count byte c.args.named c.if-named.result long name
    (λ some. elim c.if-named.branch [
      | then-named w ↦ w.result-is ∙ w.if-named.true ∙ ap (λ n. n || (byte == 58)) (sym w.if-named.true)
      | else-named+then-count-gt0 w ↦ w.result-is ∙ ap (λ n. n || (byte == 58)) (sym w.if-named.false)
      | else-named+else-count-gt0 w ↦ absurd (omega (arith, w.if-count-gt0.false, some))
    ])
    (λ none. elim c.if-named.branch [
      | then-named w ↦ w.result-is
      | else-named+then-count-gt0 w ↦ absurd (omega (arith, w.if-count-gt0.true, none))
      | else-named+else-count-gt0 w ↦ w.result-is ∙ no_bytes c.args.count none ∙ sym w.if-named.false
    ]))
