-- What a part states is found after its first `/`.
use Rattle.std.proofs.Common.{◌≡◌, ◌≢◌, ◌+◌, ◌-◌, length, take, drop, sym, ap, ◌∙◌, arith, ℕ, List}
use Rattle.std.proofs.lemmas.List.{take_rest}
use Rattle.sc_hash.specs.Hash.{murmur3}
use Rattle.std.specs.Prelude.{Some}
use Rattle.sc_router.specs.Parts.{stated_count, count_in}
use Rattle.sc_router.specs.Slash.{IsFirstSlash}
use Rattle.sc_router.specs.declared.part.Slash.{Slash}
use Rattle.sc_router.proofs.CountLemmas.{count_in-none, key_of-None, key_of-Some, bits_of-None, bits_of-Some}
use Rattle.sc_router.proofs.SlashLemmas.{IsFirstSlash-lt, count_in-slash, count_in-slash_first}
use Rattle.sc_router.proofs.share.key_and_count.Goals as goal

pub returns-in_default-clause-key : goal.returns-in_default-clause-key
returns-in_default-clause-key c =
    let none = rw c.in_default.is at c.args.part.now.first in
    c.args.part.now.whole ∙ ap (λ key. murmur3 key 0) (sym (key_of-None _ (count_in-none _ none)))

pub returns-in_default-clause-count : goal.returns-in_default-clause-count
returns-in_default-clause-count c =
    let none = rw c.in_default.is at c.args.part.now.first in
    sym (bits_of-None _ _ (count_in-none _ none))

pub returns-then-slash-eq0-clause-key : goal.returns-then-slash-eq0-clause-key
returns-then-slash-eq0-clause-key c =
    let first = rw c.in-Some.is at c.args.part.now.first in
    let none = count_in-slash_first c.in-Some.slash c.args.part.now.text.now first c.if-slash-eq0.true in
    c.args.part.now.whole ∙ ap (λ key. murmur3 key 0) (sym (key_of-None _ none))

pub returns-then-slash-eq0-clause-count : goal.returns-then-slash-eq0-clause-count
returns-then-slash-eq0-clause-count c =
    let first = rw c.in-Some.is at c.args.part.now.first in
    sym (bits_of-None _ _ (count_in-slash_first c.in-Some.slash c.args.part.now.text.now first c.if-slash-eq0.true))

pub slice_bounds-stated_count-count : goal.slice_bounds-stated_count-count
slice_bounds-stated_count-count c =
    let first = rw c.in-Some.is at c.args.part.now.first in
    omega (arith, IsFirstSlash-lt c.in-Some.slash c.args.part.now.text.now first)

pub slice_bounds-stated_count-start : goal.slice_bounds-stated_count-start
slice_bounds-stated_count-start c = slice_bounds-stated_count-count c

-- the slice after the `/` is what the part states its count by
stated : (slash : Slash) (part : List ℕ) → IsFirstSlash (Some slash) part → slash.at ≢ 0 → count_in part ≡ stated_count (take (length part - (slash.at + 1)) (drop (slash.at + 1) part))
stated slash part first later = count_in-slash slash part first later ∙ ap stated_count (sym (take_rest part (slash.at + 1)))

pub returns-in-Some-stated_count-clause-key : goal.returns-in-Some-stated_count-clause-key
returns-in-Some-stated_count-clause-key c =
    let part = c.args.part.now in
    let first = rw c.in-Some.is at part.first in
    let states = stated c.in-Some.slash part.text.now first c.if-slash-eq0.false ∙ sym c.in-Some-stated_count.ensures.value in
    first.2 ∙ ap (λ key. murmur3 key 0) (sym (key_of-Some _ _ states))

pub returns-in-Some-stated_count-clause-count : goal.returns-in-Some-stated_count-clause-count
returns-in-Some-stated_count-clause-count c =
    let part = c.args.part.now in
    let first = rw c.in-Some.is at part.first in
    let states = stated c.in-Some.slash part.text.now first c.if-slash-eq0.false ∙ sym c.in-Some-stated_count.ensures.value in
    sym (bits_of-Some _ _ _ states)

pub returns-in-None-clause-key : goal.returns-in-None-clause-key
returns-in-None-clause-key c =
    let part = c.args.part.now in
    let first = rw c.in-Some.is at part.first in
    let states = stated c.in-Some.slash part.text.now first c.if-slash-eq0.false ∙ sym c.in-None.ensures.value in
    part.whole ∙ ap (λ key. murmur3 key 0) (sym (key_of-None _ states))

pub returns-in-None-clause-count : goal.returns-in-None-clause-count
returns-in-None-clause-count c =
    let part = c.args.part.now in
    let first = rw c.in-Some.is at part.first in
    let states = stated c.in-Some.slash part.text.now first c.if-slash-eq0.false ∙ sym c.in-None.ensures.value in
    sym (bits_of-None _ _ states)
