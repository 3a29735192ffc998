-- What was kept is the start, and what passes after it is counted.
use Rattle.std.proofs.Common.{◌≡◌, ◌≤◌, ℕ, List, length, drop, ap, ◌∙◌, arith, ◌⊎◌, inl, inr}
use Rattle.std.proofs.lemmas.List.{take_rest}
use Rattle.sc_rows.specs.Sifting.{sifted}
use Rattle.sc_rows.proofs.StartLemmas.{count-sifted, first-sifted}
use Rattle.sc_rows.proofs.start.start_of_sifted.Goals.{then-keeping-test+else-len-most, else-keeping-test}
use Rattle.sc_rows.proofs.start.start_of_sifted.Goals as goal

pub returns : goal.returns
returns c = λ others sieve.
    let rows = c.args.rows.now in
    let wanted = c.args.wanted in
    let at = c.keeping.at in
    let kept = c.keeping.kept.items in
    let is = c.keeping.invariant.kept others sieve in
    let rest : c.count.result ≡ length (sifted others wanted (drop at rows)) =
    c.count.ensures.counted others sieve ∙ ap (λ (zs : List ℕ). length (sifted others wanted zs)) (take_rest rows at) in
    let all = count-sifted others wanted rows kept at is in
    let done : (length rows ≤ at) ⊎ (c.args.most ≤ length kept) = elim c.keeping-test.branch [
      | then-keeping-test+else-len-most w ↦ inr (omega (arith, w.if-len-most.false))
      | else-keeping-test w ↦ inl (omega (arith, w.keeping-test.false))
    ] in
    record {
      count = omega (arith, rest, all);
      first = first-sifted c.args.most others wanted rows kept at is c.keeping.invariant.few done;
    }
