-- A part of a list, between two places.
use Rattle.std.proofs.Common.{◌≡◌, ℕ, ◌+◌, ◌-◌, ◌<◌, ◌≤◌, List, length, map, take, drop, sym, ap, ◌∙◌, arith, inl, inr}
use Rattle.std.proofs.lemmas.Bool.{cases_lt}
use Rattle.std.proofs.lemmas.List.{take-map, take_all, drop-map, drop-take, length-take-le}
use Rattle.std.proofs.Math.ListN.{drop_of_length-le}
use Rattle.sc_record.specs.Writes.{Write}

-- a part of a list, between two places that are cut to its end
pub between-part : {C : Type 0} (value : C → Write) (cells : List C) (from to begin end : ℕ)
    → end ≤ to → end ≤ length cells → (end < to → end ≡ length cells) → begin ≤ from → begin ≤ end → (begin < from → begin ≡ end)
    → map value (take (end - begin) (drop begin cells)) ≡ drop from (take to (map value cells))
between-part value cells from to begin end low few last first within past =
    let whole : begin + (end - begin) ≡ end = omega (arith, within) in
    let cut : take (end - begin) (drop begin cells) ≡ drop begin (take end cells) =
    sym (drop-take begin (end - begin) cells) ∙ ap (λ n. drop begin (take n cells)) whole in
    let ends : take end cells ≡ take to cells =
    elim (cases_lt end to) [
      | inl less ↦
          let here : end ≡ length cells = last less in
          take_all end cells (omega (arith, here)) ∙ sym (take_all to cells (omega (arith, here, low)))
      | inr more ↦ let here : end ≡ to = omega (arith, more, low) in ap (λ n. take n cells) here
    ] in
    let begins : drop begin (take end cells) ≡ drop from (take end cells) =
    elim (cases_lt begin from) [
      | inl less ↦
          let here : begin ≡ end = past less in
          let long = length-take-le end cells few in
          drop_of_length-le (take end cells) {i = begin} (omega (arith, here, long))
          ∙ sym (drop_of_length-le (take end cells) {i = from} (omega (arith, here, long, less)))
      | inr more ↦ let here : begin ≡ from = omega (arith, more, first) in ap (λ n. drop n (take end cells)) here
    ] in
    ap (map value) (cut ∙ begins ∙ ap (drop from) ends) ∙ sym (drop-map value from (take to cells))
    ∙ ap (drop from) (sym (take-map value to cells))
