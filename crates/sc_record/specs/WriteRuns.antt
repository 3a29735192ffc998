-- How a write is kept: its document's spelling and the run of its terms after it, in one run of bytes, which is empty for a deletion.
use Rattle.std.specs.Prelude.{◌≡◌, ℕ, ◌<◌, ◌≤◌, List, [], length, take, drop, nat_eq, if◌then◌else◌, Option, Some, None, IsSome}
use Rattle.std.specs.Int.{w32}
use Rattle.sc_values.specs.declared.field.Field.{Field}
use Rattle.sc_spelling.specs.Reading.{◌>>=◌, number_at, document_at, read_of}
use Rattle.sc_record.specs.Documents.{IsWhole}
use Rattle.sc_record.specs.TermRuns.{Source, terms_at}
use Rattle.sc_record.specs.declared.term.Term.{Term}

-- terms, and before them how many they are
unfoldable pub counted_terms_at : Source → List ℕ → Option (List Term × List ℕ)
counted_terms_at source bytes = do
  count ← number_at w32 bytes
  terms_at [] source count.0 count.1

-- the document that the first so many bytes spell; none where there are none
abbrev pub doc_of_run : ℕ → List ℕ → Option (List Field)
doc_of_run n run = if nat_eq n 0 then None else Some (read_of (document_at (take n run)))

-- the terms after the first so many bytes, read beside these and the id
abbrev pub terms_after : List ℕ → ℕ → List ℕ → Option (List Term × List ℕ)
terms_after id n run = counted_terms_at (record { id = id; doc = take n run }) (drop n run)

-- the first so many bytes spell a document, and terms follow; or there are no bytes
pub record IsWriteRun (id : List ℕ) (n : ℕ) (run : List ℕ) : Type 0 where
  pub within : n ≤ length run
  pub doc : 0 < n → IsWhole (take n run)
  pub terms : 0 < n → IsSome (terms_after id n run)
  pub none : n ≡ 0 → run ≡ []
