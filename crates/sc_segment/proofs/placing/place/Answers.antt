-- Each posting's place is within the rows of its key.
use Rattle.std.proofs.Common.{get_or, arith}
use Rattle.std.proofs.lemmas.List.{get_or_default}
use Rattle.sc_segment.specs.declared.tally.Posting.{Posting}
use Rattle.sc_segment.proofs.PlacingLemmas.{number_within, place_within, place_fits, placed_one_more}
use Rattle.sc_segment.proofs.placing.place.Goals as goal

pub bounds-next-number : goal.bounds-next-number
bounds-next-number c =
    let postings = c.args.postings.now in
    let i = c.loop-posting.posting-index in
    let p : Posting = get_or postings i (record { number = 0; row = 0 }) in
    number_within c.requires.0 postings c.args.next.now c.args.rows.now c.requires.1 i p c.loop-posting-test.true (get_or_default postings i (record { number = 0; row = 0 }) p c.loop-posting-test.true)
    c.loop-posting.next c.loop-posting.rows c.loop-posting.auto.next c.loop-posting.auto.rows (c.loop-posting.invariant c.requires.0 c.requires.1)

pub bounds-rows-place : goal.bounds-rows-place
bounds-rows-place c =
    let postings = c.args.postings.now in
    let i = c.loop-posting.posting-index in
    let p : Posting = get_or postings i (record { number = 0; row = 0 }) in
    place_within c.requires.0 postings c.args.next.now c.args.rows.now c.requires.1 i p c.loop-posting-test.true (get_or_default postings i (record { number = 0; row = 0 }) p c.loop-posting-test.true)
    c.loop-posting.next c.loop-posting.rows c.loop-posting.auto.next c.loop-posting.auto.rows (c.loop-posting.invariant c.requires.0 c.requires.1)

pub overflow_add-next : goal.overflow_add-next
overflow_add-next c =
    let postings = c.args.postings.now in
    let i = c.loop-posting.posting-index in
    let p : Posting = get_or postings i (record { number = 0; row = 0 }) in
    let fits = place_fits c.requires.0 postings c.args.next.now c.args.rows.now c.requires.1 i p c.loop-posting-test.true (get_or_default postings i (record { number = 0; row = 0 }) p c.loop-posting-test.true)
    c.loop-posting.next c.loop-posting.rows c.loop-posting.auto.next c.loop-posting.auto.rows (c.loop-posting.invariant c.requires.0 c.requires.1) in
    omega (arith, fits)

pub bounds-next-number-in-loop-posting : goal.bounds-next-number-in-loop-posting
bounds-next-number-in-loop-posting c =
    let postings = c.args.postings.now in
    let i = c.loop-posting.posting-index in
    let p : Posting = get_or postings i (record { number = 0; row = 0 }) in
    number_within c.requires.0 postings c.args.next.now c.args.rows.now c.requires.1 i p c.loop-posting-test.true (get_or_default postings i (record { number = 0; row = 0 }) p c.loop-posting-test.true)
    c.loop-posting.next c.loop-posting.rows c.loop-posting.auto.next c.loop-posting.auto.rows (c.loop-posting.invariant c.requires.0 c.requires.1)

pub loop-posting-preserved : goal.loop-posting-preserved
loop-posting-preserved c = λ tallies begun.
    let postings = c.args.postings.now in
    let i = c.loop-posting.posting-index in
    let p : Posting = get_or postings i (record { number = 0; row = 0 }) in
    placed_one_more tallies postings c.args.next.now c.args.rows.now begun i p c.loop-posting-test.true (get_or_default postings i (record { number = 0; row = 0 }) p c.loop-posting-test.true)
    c.loop-posting.next c.loop-posting.rows c.loop-posting.auto.next c.loop-posting.auto.rows (c.loop-posting.invariant tallies begun)
