-- The 64 rows of a word are live where it has ones alone.
use Rattle.std.proofs.Common.{◌≡◌, ◌+◌, ◌/◌, ◌≤◌, ℕ, length, slice_get, List, sym, ap, ◌∙◌, arith, ⊎_elim}
use Rattle.std.proofs.lemmas.Bool.{cases_lt, false≢true}
use Rattle.sc_rows.proofs.BitsLemmas.{length-live_rows, live-from_ones, ones-from_live}
use Rattle.sc_rows.specs.Live.{live_rows}
use Rattle.sc_rows.proofs.live_bits.LiveBits.are_live.Goals as goal

pub bounds-words-row : goal.bounds-words-row
bounds-words-row c =
    let words = c.as_slice-words.result.now in
    let seen = ap (λ (ws : List ℕ). live_rows c.self.inside.rows ws) c.as_slice-words.ensures.value ∙ c.self.view_is in
    let all : length c.args.self.now ≡ c.self.inside.rows = ap length (sym seen) ∙ length-live_rows c.self.inside.rows words in
    omega (arith, all, c.requires.within, c.looking-test.true, c.as_slice-words.ensures.len, c.self.invariant)

pub returns-then-words-row : goal.returns-then-words-row
returns-then-words-row c =
    let words = c.as_slice-words.result.now in
    let rows = c.self.inside.rows in
    let row = c.looking.row in
    let i = c.looking.invariant in
    let seen = ap (λ (ws : List ℕ). live_rows rows ws) c.as_slice-words.ensures.value ∙ c.self.view_is in
    let all : length c.args.self.now ≡ rows = ap length (sym seen) ∙ length-live_rows rows words in
    let enough : row + 64 ≤ rows = omega (arith, all, c.requires.within, c.if-to-row-ge64.true) in (
      λ no. absurd (false≢true no),
      λ live. absurd (c.if-words-row.true (ones-from_live rows words row c.if-row-eq0.true enough (i.fits (row / 64))
          (λ other after before. ap (λ bits. slice_get bits other) seen ∙ live other (omega (arith, i.first, after)) (omega (arith, before, c.if-to-row-ge64.true))))),
    )

pub looking-preserved-then-to-row-ge64 : goal.looking-preserved-then-to-row-ge64
looking-preserved-then-to-row-ge64 c =
    let words = c.as_slice-words.result.now in
    let rows = c.self.inside.rows in
    let row = c.looking.row in
    let i = c.looking.invariant in
    let seen = ap (λ (ws : List ℕ). live_rows rows ws) c.as_slice-words.ensures.value ∙ c.self.view_is in
    let all : length c.args.self.now ≡ rows = ap length (sym seen) ∙ length-live_rows rows words in
    let enough : row + 64 ≤ rows = omega (arith, all, c.requires.within, c.if-to-row-ge64.true) in
    record {
      live = λ other after before. ⊎_elim
          (λ passed. i.live other after passed)
          (λ here. ap (λ bits. slice_get bits other) (sym seen) ∙ live-from_ones rows words row c.if-row-eq0.true enough c.if-words-row.false other here before)
          (cases_lt other row);
      first = omega (arith, i.first);
      last = omega (arith, c.if-to-row-ge64.true);
      fits = i.fits;
    }
