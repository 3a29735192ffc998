use Rattle.std.proofs.Common.{◌≡◌, ◌∙◌, List, ℕ, sym, nat_cmp}
use Rattle.std.specs.Cmp.{nat_cmp_is}
use Rattle.std.specs.Ordering.{ordering_then}
use Rattle.std.specs.declared.cmp.Ordering.TheVariants.{Equal}
use Rattle.sc_values.specs.Shorts.{eight_bytes_at}
use Rattle.sc_values.proofs.ShortLemmas.{unlike_decide, alike_pass}
use Rattle.sc_values.proofs.short.order_of_words.Goals as goal

pub returns-then-first-other_first : goal.returns-then-first-other_first
returns-then-first-other_first c =
    let mine : List ℕ = c.args.mine.now in
    let others : List ℕ = c.args.others.now in
    c.cmp.ensures
    ∙ unlike_decide c.eight_bytes_at-first.result c.eight_bytes_at-other_first.result (nat_cmp (eight_bytes_at mine 6) (eight_bytes_at others 6)) c.if-first-other_first.true
    ∙ (λ i. ordering_then (nat_cmp (c.eight_bytes_at-first.ensures i) (c.eight_bytes_at-other_first.ensures i)) (nat_cmp (eight_bytes_at mine 6) (eight_bytes_at others 6)))

pub returns-then-last-other_last : goal.returns-then-last-other_last
returns-then-last-other_last c =
    let mine : List ℕ = c.args.mine.now in
    let others : List ℕ = c.args.others.now in
    c.cmp-then-last-other_last.ensures
    ∙ (λ i. nat_cmp (c.eight_bytes_at-last.ensures i) (c.eight_bytes_at-other_last.ensures i))
    ∙ alike_pass (eight_bytes_at mine 0) (eight_bytes_at others 0) (nat_cmp (eight_bytes_at mine 6) (eight_bytes_at others 6))
    (sym c.eight_bytes_at-first.ensures ∙ c.if-first-other_first.false ∙ c.eight_bytes_at-other_first.ensures)

pub returns : goal.returns
returns c =
    let mine : List ℕ = c.args.mine.now in
    let others : List ℕ = c.args.others.now in
    let last : eight_bytes_at mine 6 ≡ eight_bytes_at others 6 = sym c.eight_bytes_at-last.ensures ∙ c.if-last-other_last.false ∙ c.eight_bytes_at-other_last.ensures in
    nat_cmp_is (eight_bytes_at mine 6) (eight_bytes_at others 6) Equal last
    ∙ alike_pass (eight_bytes_at mine 0) (eight_bytes_at others 0) (nat_cmp (eight_bytes_at mine 6) (eight_bytes_at others 6))
    (sym c.eight_bytes_at-first.ensures ∙ c.if-first-other_first.false ∙ c.eight_bytes_at-other_first.ensures)
