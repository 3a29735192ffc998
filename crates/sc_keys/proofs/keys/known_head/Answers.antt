-- A place below the number of the first list's stored keys is one of that list, and each other one of the second list.
use Rattle.std.proofs.Common.{◌≡◌, ◌+◌, ◌-◌, ◌<◌, ◌++◌, length, slice_get, sym, ap, ◌∙◌, arith}
use Rattle.std.proofs.lemmas.Option.{IfSome_then}
use Rattle.sc_keys.proofs.StoringLemmas.{found-first, found-after}
use Rattle.sc_keys.proofs.keys.known_head.Goals as goal

pub returns-then-place-count : goal.returns-then-place-count
returns-then-place-count g c =
    let old = c.args.old.now.stored in
    let added = c.args.added.now.stored in
    let place = c.args.place in
    let within : place < length old = omega (arith, c.if-place-count.true, c.stored-count.ensures) in
    IfSome_then c.head_at.result c.head_at.ensures (λ head of key at. of key (sym (found-first old added place within) ∙ at))

pub returns-else-place-count : goal.returns-else-place-count
returns-else-place-count g c =
    let old = c.args.old.now.stored in
    let added = c.args.added.now.stored in
    let place = c.args.place in
    let own = place - c.stored-count.result in
    let sum : length old + own ≡ place = omega (arith, c.if-place-count.false, c.stored-count.ensures) in
    IfSome_then c.head_at-else-place-count.result c.head_at-else-place-count.ensures
    (λ head of key at. of key (sym (found-after old added own) ∙ ap (slice_get (old ++ added)) sum ∙ at))
