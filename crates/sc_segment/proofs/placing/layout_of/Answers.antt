-- One key more is laid out.
use Rattle.std.proofs.Common.{◌≡◌, ◌<◌, ◌+◌, ℕ, List, [], ◌∷◌, ◌++◌, length, set, take, sym, ap, subst, ◌∙◌, rules, arith}
use Rattle.std.proofs.lemmas.List.{get_or-map, length-map, length-set, take_all}
use Rattle.std.specs.Map.{values_of}
use Rattle.sc_segment.specs.declared.tally.Tally.{Tally}
use Rattle.sc_segment.specs.Placing.{ArePlaced, ends_from, rows_counted}
use Rattle.sc_segment.proofs.PlacingLemmas.{number_below, taken, apart_before, begin-push, ends_from-push, rows_counted-push}
use Rattle.sc_segment.proofs.placing.layout_of.Goals as goal

pub index_mut-requires : goal.index_mut-requires
index_mut-requires g c =
    let keys = c.args.keys.now in
    let i = c.loop-tally.tally-index in
    let item = c.loop-tally-item.result in
    let long = length-map keys (λ (e : _ × Tally). e.1) in
    let within : i < length (values_of keys) = omega (arith, long, c.loop-tally-test.true) in
    let read = ap (λ (e : _ × Tally). e.1) c.loop-tally-item.is ∙ sym (get_or-map (λ (e : _ × Tally). e.1) keys i item item.1 c.loop-tally-test.true) in
    let low = number_below (values_of keys) c.requires i item.1 within read in
    omega (arith, low, long, c.loop-tally.invariant.as_long, c.loop-tally.next.ok.0)

pub loop-tally-preserved : goal.loop-tally-preserved
loop-tally-preserved g c =
    let keys = c.args.keys.now in
    let ts = values_of keys in
    let i = c.loop-tally.tally-index in
    let item = c.loop-tally-item.result in
    let t = item.1 in
    let before = c.loop-tally.invariant in
    let long = length-map keys (λ (e : _ × Tally). e.1) in
    let within : i < length ts = omega (arith, long, c.loop-tally-test.true) in
    let read = ap (λ (e : _ × Tally). e.1) c.loop-tally-item.is ∙ sym (get_or-map (λ (e : _ × Tally). e.1) keys i item t c.loop-tally-test.true) in
    let low = number_below ts c.requires i t within read in
    let more : take (i + 1) ts ≡ take i ts ++ t ∷ [] = taken ts c.requires i t within read in
    let sum : c.in_ok-end.end ≡ c.loop-tally.count + t.count = search rules in
    let counted = before.count in
    let pushed = rows_counted-push (take i ts) t in
    let all = ap rows_counted more in
    let end : c.in_ok-end.end ≡ 0 + rows_counted (take i ts) + t.count = omega (arith, sum, counted) in
    let room : t.number < length c.loop-tally.next.items = omega (arith, low, long, before.as_long) in
    let begin : c.loop-tally.count ≡ 0 + rows_counted (take i ts) = omega (arith, counted) in
    record {
      ends = c.in_ok-push.ensures.items ∙ ap (λ (es : List ℕ). es ++ c.in_ok-end.end ∷ []) before.ends ∙ sym (ends_from-push 0 (take i ts) t c.in_ok-end.end end) ∙ ap (ends_from 0) (sym more);
      count = omega (arith, end, pushed, all);
      as_long = length-set c.loop-tally.next.items t.number c.loop-tally.count ∙ before.as_long;
      begin = λ rows. subst (λ (us : List Tally). ArePlaced 0 us [] (set c.loop-tally.next.items t.number c.loop-tally.count) rows) (sym more)
          (begin-push 0 (take i ts) t c.loop-tally.next.items rows c.loop-tally.count (apart_before ts c.requires i t within read) room begin (before.begin rows));
    }

pub returns : goal.returns
returns g c =
    let keys = c.args.keys.now in
    let ts = values_of keys in
    let i = c.loop-tally.tally-index in
    let long = length-map keys (λ (e : _ × Tally). e.1) in
    let after = c.loop-tally.invariant in
    let all : take i ts ≡ ts = take_all i ts (omega (arith, long, c.loop-tally-test.false)) in
    record {
      ends = after.ends ∙ ap (ends_from 0) all;
      count = after.count ∙ ap rows_counted all;
      as_long = after.as_long ∙ sym long;
      begin = λ rows. subst (λ (us : List Tally). ArePlaced 0 us [] c.loop-tally.next.items rows) all (after.begin rows);
    }
