-- How the terms of a write are spelled: each as a mark and what the mark stands for, its field only where it is another than that of the
-- term before, and a text that stands in the document as its place there. Numbers are little-endian.
use Rattle.std.specs.Prelude.{◌≡◌, ◌<◌, ◌^◌, ℕ, zero, suc, List, [], ◌∷◌, ◌++◌, drop, codes, nat_eq, nat_lt, if◌then◌else◌, Option, Some, None}
use Rattle.std.specs.Int.{Width, w16, w32}
use Rattle.sc_values.specs.declared.field.Field.{Field}
use Rattle.sc_spelling.specs.Reading.{◌>>=◌, number_at, cut_text, text_at, read_of}
use Rattle.sc_spelling.specs.Spellings.{spelling}
use Rattle.sc_record.specs.declared.term.Term.{Term}
use Rattle.sc_record.specs.declared.term_run.TermRef.{TermRef}
use Rattle.sc_record.specs.declared.term_run.TermRun.{TermRun}

-- what terms are read beside: the id, and the bytes of the document
pub record Source : Type 0 where
  pub id : List ℕ
  pub doc : List ℕ

-- a key in a field
abbrev pub term_in : List ℕ → List ℕ → Term
term_in field key = record { field = field; key = key }

-- the term that is lent
abbrev pub term_of : TermRef → Term
term_of t = record { field = t.field.now; key = t.key.now }

-- a lower mark is the length of a key that follows; this one is of a key that follows with its length
abbrev pub long_key_mark : ℕ
long_key_mark = 251

-- of a key that stands in the document
abbrev pub placed_key_mark : ℕ
placed_key_mark = 252

-- of a field whose name follows, before the mark of a key
abbrev pub name_mark : ℕ
name_mark = 253

-- of a field whose name stands in the document, before the mark of a key
abbrev pub placed_name_mark : ℕ
placed_name_mark = 254

-- of the term of the id
abbrev pub id_mark : ℕ
id_mark = 255

-- a text in the document, with its length before it in a number of this width, at a place that four bytes tell
unfoldable pub placed_at : Width → List ℕ → List ℕ → Option (List ℕ × List ℕ)
placed_at w doc bytes = do
  place ← number_at w32 bytes
  text ← text_at w (drop place.0 doc)
  Some (text.0, place.1)

-- a key
unfoldable pub key_at : List ℕ → List ℕ → Option (List ℕ × List ℕ)
key_at doc [] = None
key_at doc (mark ∷ rest) =
    if nat_lt mark long_key_mark then cut_text mark rest
    else (if nat_eq mark long_key_mark then text_at w32 rest
    else (if nat_eq mark placed_key_mark then placed_at w32 doc rest else None))

-- the name of a field, or this one where none stands before the key
unfoldable pub name_or : List ℕ → List ℕ → List ℕ → Option (List ℕ × List ℕ)
name_or name doc [] = None
name_or name doc (mark ∷ rest) =
    if nat_eq mark name_mark then text_at w16 rest
    else (if nat_eq mark placed_name_mark then placed_at w16 doc rest else Some (name, mark ∷ rest))

-- a key of a field, which is this one where no name stands before the key
unfoldable pub field_term_at : List ℕ → List ℕ → List ℕ → Option (Term × List ℕ)
field_term_at name doc bytes = do
  field ← name_or name doc bytes
  key ← key_at doc field.1
  Some (term_in field.0 key.0, key.1)

-- a term, whose field is this one where it tells no other
unfoldable pub term_at : List ℕ → Source → List ℕ → Option (Term × List ℕ)
term_at name source [] = None
term_at name source (mark ∷ rest) =
    if nat_eq mark id_mark then Some (term_in (codes "id") source.id, rest) else field_term_at name source.doc (mark ∷ rest)

-- so many terms
unfoldable pub terms_at : List ℕ → Source → ℕ → List ℕ → Option (List Term × List ℕ)
terms_at name source zero bytes = Some ([], bytes)
terms_at name source (suc n) bytes = do
  first ← term_at name source bytes
  others ← terms_at first.0.field source n first.1
  Some (first.0 ∷ others.0, others.1)

-- the terms of a run, read beside the id and the document of these fields
abbrev pub run_at : List ℕ → List Field → TermRun → Option (List Term × List ℕ)
run_at id fields run = terms_at [] (record { id = id; doc = spelling fields }) run.count run.bytes.items

-- these terms, or none
abbrev pub terms_of_run : List ℕ → List Field → TermRun → List Term
terms_of_run id fields run = read_of (run_at id fields run)

-- a text stands in the document at a place, with its length before it in a number of this width
pub record StandsAt (w : Width) (doc text : List ℕ) (place : ℕ) : Type 0 where
  pub fits : place < 2 ^ 32
  pub more : List ℕ
  pub reads : text_at w (drop place doc) ≡ Some (text, more)

-- new is old with a key at its end
pub record AddsKey (doc key old new : List ℕ) : Type 0 where
  pub more : List ℕ
  pub whole : new ≡ old ++ more
  pub reads : key_at doc more ≡ Some (key, [])

-- new is old with the name of a field at its end
pub record AddsName (doc name old new : List ℕ) : Type 0 where
  pub more : List ℕ
  pub whole : new ≡ old ++ more
  pub reads : (before rest : List ℕ) → name_or before doc (more ++ rest) ≡ Some (name, rest)

-- this name, or else that of the term before
abbrev pub name_after : List ℕ → Option (List ℕ) → List ℕ
name_after before None = before
name_after before (Some name) = name

-- new is old with a key at its end, and before it the name of its field, where one is given
pub record AddsTerm (doc : List ℕ) (name : Option (List ℕ)) (key old new : List ℕ) : Type 0 where
  pub more : List ℕ
  pub whole : new ≡ old ++ more
  pub reads : (before : List ℕ) → field_term_at before doc more ≡ Some (term_in (name_after before name) key, [])
