-- Postings that are put to places by the counts of their keys: the rows of each key stand one after another, key after key.
use Rattle.std.specs.Prelude.{◌≡◌, ℕ, ◌+◌, ◌<◌, ◌^◌, ⊤, List, [], ◌∷◌, length, take, drop, slice_index}
use Rattle.sc_segment.specs.declared.placing.Layout.{Layout}
use Rattle.sc_segment.specs.declared.tally.Posting.{Posting}
use Rattle.sc_segment.specs.declared.tally.Tally.{Tally}
use Rattle.sc_segment.specs.Filing.{AreFiled, posting_rows}

-- how many rows keys have
abbrev pub rows_counted : List Tally → ℕ
rows_counted [] = 0
rows_counted (t ∷ tallies) = t.count + rows_counted tallies

-- where the rows of each key end, where those of the first begin here
abbrev pub ends_from : ℕ → List Tally → List ℕ
ends_from from [] = []
ends_from from (t ∷ tallies) = (from + t.count) ∷ ends_from (from + t.count) tallies

-- a key's rows stand among all rows from where they begin, and the next one is to stand after them
pub record IsPlaced (from : ℕ) (own : List ℕ) (place : ℕ) (rows : List ℕ) : Type 0 where
  pub next : place ≡ from + length own
  pub stand : take (length own) (drop from rows) ≡ own

-- the rows of each key among these postings are placed, where those of the first key begin here; the next place of each key is known by its number
abbrev pub ArePlaced : ℕ → List Tally → List Posting → (next rows : List ℕ) → Type 0
ArePlaced from [] postings next rows = ⊤
ArePlaced from (t ∷ tallies) postings next rows = IsPlaced from (posting_rows t.number postings) (slice_index next t.number) rows × ArePlaced (from + t.count) tallies postings next rows

-- where the rows of keys end, how many there are, and where those of each key begin
pub record IsLayoutOf (tallies : List Tally) (layout : Layout) : Type 0 where
  pub ends : layout.ends.items ≡ ends_from 0 tallies
  pub count : layout.count ≡ rows_counted tallies
  pub as_long : length layout.next.items ≡ length tallies
  pub begin : (rows : List ℕ) → ArePlaced 0 tallies [] layout.next.items rows

-- these postings of keys are to be placed, of which none is yet
pub record IsBegun (tallies : List Tally) (postings : List Posting) (next rows : List ℕ) : Type 0 where
  pub filed : AreFiled tallies postings
  pub begin : ArePlaced 0 tallies [] next rows
  pub as_long : length next ≡ length tallies
  pub room : length rows ≡ rows_counted tallies
  pub fits : rows_counted tallies < 2 ^ 32
