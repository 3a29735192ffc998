-- Which writes of a journal are not committed, by how many of its writes came before the last entry that commits.
use Rattle.std.proofs.Common.{◌≡◌, ◌∙◌, ◌≤◌, ℕ, true, false, List, [], ◌∷◌, ◌++◌, length, map, drop, None, refl, sym, ap, arith, length-append}
use Rattle.std.specs.Arc.{arc_value}
use Rattle.std.specs.declared.sync.Arc.{Arc}
use Rattle.std.specs.declared.alloc.Global.{Global}
use Rattle.std.proofs.lemmas.List.{drop-map, drop_at, length-map, map-append, take-append-drop}
use Rattle.sc_record.specs.declared.slice.SliceId.{SliceId}
use Rattle.sc_record.specs.declared.slice.SubSlice.{SubSlice}
use Rattle.sc_record.specs.Writes.{Write}
use Rattle.sc_record.specs.declared.entry.Entry.{Entry}
use Rattle.sc_record.specs.declared.entry.Entry.TheVariants as entry
use Rattle.sc_journal.specs.Journal.{as_write, writes}
use Rattle.sc_journal.specs.Committed.{commits, committed, last_commit}
use Rattle.sc_journal.proofs.JournalLemmas.{writes-append, writes-push_write, writes-push_other}
use Rattle.sc_journal.proofs.CommittedLemmas.{committed-push_commit, committed-push_other}
use Rattle.sc_bucket.specs.Entries.{uncommitted, AreCounted}

-- entries and cells that are these are counted alike
pub AreCounted-same : (journal longer : List Entry) (cells kept : List (Arc Write Global)) (count : ℕ) → longer ≡ journal → kept ≡ cells
    → AreCounted journal cells count → AreCounted longer kept count
AreCounted-same journal longer cells kept count same these counted = (
  ap (map arc_value) these ∙ counted.0 ∙ sym (ap writes same),
  counted.1 ∙ sym (ap (λ (all : List Entry). length (writes (committed all))) same),
)

-- an entry that commits is no write
pub no_write : (one : Entry) → commits one ≡ true → as_write one ≡ None
no_write (entry.Write cell) is = cc
no_write (entry.Settled place) is = cc
no_write entry.Committed is = refl
no_write (entry.Begun parent subs) is = refl
no_write (entry.Switched parent) is = cc
no_write (entry.Failed parent) is = cc
no_write (entry.Dropped slice) is = cc
no_write (entry.Down core) is = cc
no_write (entry.Up core) is = cc
no_write (entry.Led core) is = cc

-- so after one all writes are committed
pub AreCounted-push_commit : (journal : List Entry) (cells : List (Arc Write Global)) (count : ℕ) (one : Entry) → commits one ≡ true
    → AreCounted journal cells count → AreCounted (journal ++ one ∷ []) cells (length cells)
AreCounted-push_commit journal cells count one is counted = (
  counted.0 ∙ sym (writes-push_other journal one (no_write one is)),
  sym (length-map cells arc_value) ∙ ap (λ (these : List Write). length these) counted.0
      ∙ ap (λ (before : List Entry). length (writes before)) (sym (committed-push_commit journal one is)),
)

-- a write comes after the others
pub AreCounted-push_write : (journal : List Entry) (cells : List (Arc Write Global)) (count : ℕ) (one : Entry) (cell : Arc Write Global)
    → one ≡ entry.Write cell → AreCounted journal cells count → AreCounted (journal ++ one ∷ []) (cells ++ cell ∷ []) count
AreCounted-push_write journal cells count one cell is counted = (
  map-append arc_value cells (cell ∷ []) ∙ ap (λ (these : List Write). these ++ arc_value cell ∷ []) counted.0
      ∙ sym (writes-push_write journal cell) ∙ ap (λ (last : Entry). writes (journal ++ last ∷ [])) (sym is),
  counted.1 ∙ ap (λ (before : List Entry). length (writes before)) (sym (committed-push_other journal one (ap commits is))),
)

-- and an entry that is no write, and doesn't commit, changes nothing
pub AreCounted-push_other : (journal : List Entry) (cells : List (Arc Write Global)) (count : ℕ) (one : Entry)
    → (commits one ≡ false) × (as_write one ≡ None) → AreCounted journal cells count → AreCounted (journal ++ one ∷ []) cells count
AreCounted-push_other journal cells count one (none, unwritten) counted = (
  counted.0 ∙ sym (writes-push_other journal one unwritten),
  counted.1 ∙ ap (λ (before : List Entry). length (writes before)) (sym (committed-push_other journal one none)),
)

-- so it is of each that is none of the three
pub is_other_entry : (one : Entry) → ((cell : _) → one ≡ entry.Write cell → ⊥) → (one ≡ entry.Committed → ⊥)
    → ((parent : SliceId) (subs : List SubSlice) → one ≡ entry.Begun parent subs → ⊥) → (commits one ≡ false) × (as_write one ≡ None)
is_other_entry (entry.Write cell) write commit begun = absurd (write cell refl)
is_other_entry entry.Committed write commit begun = absurd (commit refl)
is_other_entry (entry.Begun parent subs) write commit begun = absurd (begun parent subs refl)
is_other_entry one write commit begun = (refl, refl)

-- the writes of a journal are those that are committed, and then the others
pub writes-committed : (journal : List Entry) → writes journal ≡ writes (committed journal) ++ uncommitted journal
writes-committed journal =
    ap writes (sym (take-append-drop (last_commit journal) journal)) ∙ writes-append (committed journal) (drop (last_commit journal) journal)

-- so no more are committed than there are
pub AreCounted-within : (journal : List Entry) (cells : List (Arc Write Global)) (count : ℕ) → AreCounted journal cells count → count ≤ length cells
AreCounted-within journal cells count counted =
    omega (
      arith,
      counted.1,
      length-map cells arc_value,
      ap (λ (these : List Write). length these) (counted.0 ∙ writes-committed journal),
      length-append (writes (committed journal)) (uncommitted journal),
    )

-- and the cells after those of the committed writes are those of the others
pub uncommitted-counted : (journal : List Entry) (cells : List (Arc Write Global)) (count : ℕ) → AreCounted journal cells count
    → map arc_value (drop count cells) ≡ uncommitted journal
uncommitted-counted journal cells count counted =
    sym (drop-map arc_value count cells)
    ∙ ap (drop count) (counted.0 ∙ writes-committed journal)
    ∙ drop_at (writes (committed journal)) (uncommitted journal) count (sym counted.1)
