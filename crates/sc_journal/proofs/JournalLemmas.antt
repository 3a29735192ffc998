-- What one entry more does to the writes of a journal.
use Rattle.std.proofs.Common.{◌≡◌, ℕ, ◌<◌, ◌≤◌, ◌⊎◌, inl, inr, true, false, cond, List, [], ◌∷◌, ◌++◌, length, Some, None, Option, refl, sym, ap, ◌∙◌, subst, Contains, slice_get, arith}
use Rattle.std.specs.Prelude.{IsSome}
use Rattle.std.specs.List.{filter, cons_option}
use Rattle.std.specs.Option.{option_and_then}
use Rattle.std.specs.Arc.{arc_value}
use Rattle.std.proofs.lemmas.List.{append-nil}
use Rattle.std.proofs.lemmas.List.Elements.{filter_map-append, filter-append, Contains-push}
use Rattle.std.proofs.lemmas.Option.{slice_get_past, slice_get_within}
use Rattle.std.proofs.lemmas.Slice.Eq.{bytes_eq-Decides}
use Rattle.sc_record.specs.Writes.{is_of, Write}
use Rattle.sc_record.specs.declared.entry.Entry.{Entry}
use Rattle.sc_record.specs.declared.entry.Entry.TheVariants as entry
use Rattle.sc_cluster.proofs.ListLemmas.{Contains-from_filter}
use Rattle.sc_journal.specs.Journal.{as_write, write_at, writes, writes_of, last_of, last_write}
use Rattle.sc_journal.proofs.ListLemmas.{slice_get-append_end, slice_get-append_left, last_of-append, last_of_cases, split_filter_map}

-- a write is of its own id, and of no other
pub is_of_own : (write : Write) → is_of write.id write ≡ true
is_of_own write = (bytes_eq-Decides write.id write.id).1 refl

pub id_from_is_of : (id : List ℕ) (write : Write) → is_of id write ≡ true → write.id ≡ id
id_from_is_of id write is = (bytes_eq-Decides write.id id).0 is

pub is_of_from_id : (id : List ℕ) (write : Write) → write.id ≡ id → is_of id write ≡ true
is_of_from_id id write is = (bytes_eq-Decides write.id id).1 is

-- the writes of two parts
pub writes-append : (journal more : List Entry) → writes (journal ++ more) ≡ writes journal ++ writes more
writes-append journal more = filter_map-append as_write journal more

pub writes_of-append : (journal more : List Entry) (id : List ℕ)
    → writes_of (journal ++ more) id ≡ writes_of journal id ++ writes_of more id
writes_of-append journal more id =
    ap (filter (is_of id)) (writes-append journal more) ∙ filter-append (is_of id) (writes journal) (writes more)

-- the writes of a journal with one write more
pub writes-push_write : (journal : List Entry) (cell : _)
    → writes (journal ++ entry.Write cell ∷ []) ≡ writes journal ++ arc_value cell ∷ []
writes-push_write journal cell = writes-append journal (entry.Write cell ∷ [])

-- an entry that is no write adds none
pub writes-push_other : (journal : List Entry) (one : Entry) → as_write one ≡ None
    → writes (journal ++ one ∷ []) ≡ writes journal
writes-push_other journal one none =
    writes-append journal (one ∷ []) ∙ ap (λ (w : Option Write). writes journal ++ cons_option w []) none
    ∙ append-nil (writes journal)

-- the writes of an id, with one write of it more
pub writes_of-push_write : (journal : List Entry) (cell : _) (id : List ℕ) → is_of id (arc_value cell) ≡ true
    → writes_of (journal ++ entry.Write cell ∷ []) id ≡ writes_of journal id ++ arc_value cell ∷ []
writes_of-push_write journal cell id is =
    writes_of-append journal (entry.Write cell ∷ []) id
    ∙ ap (λ b. writes_of journal id ++ cond b (arc_value cell ∷ []) []) is

-- with one write of another id
pub writes_of-push_write_other : (journal : List Entry) (cell : _) (id : List ℕ) → is_of id (arc_value cell) ≡ false
    → writes_of (journal ++ entry.Write cell ∷ []) id ≡ writes_of journal id
writes_of-push_write_other journal cell id is =
    writes_of-append journal (entry.Write cell ∷ []) id
    ∙ ap (λ b. writes_of journal id ++ cond b (arc_value cell ∷ []) []) is
    ∙ append-nil (writes_of journal id)

-- and with an entry that is no write
pub writes_of-push_other : (journal : List Entry) (one : Entry) (id : List ℕ) → as_write one ≡ None
    → writes_of (journal ++ one ∷ []) id ≡ writes_of journal id
writes_of-push_other journal one id none = ap (filter (is_of id)) (writes-push_other journal one none)

-- a write of the id at the end is its last write
pub last_write-push_write : (journal : List Entry) (cell : _) (id : List ℕ) → is_of id (arc_value cell) ≡ true
    → last_write (journal ++ entry.Write cell ∷ []) id ≡ Some (arc_value cell)
last_write-push_write journal cell id is =
    ap last_of (writes_of-push_write journal cell id is) ∙ last_of-append (writes_of journal id) (arc_value cell)

-- a write of another id changes nothing
pub last_write-push_write_other : (journal : List Entry) (cell : _) (id : List ℕ) → is_of id (arc_value cell) ≡ false
    → last_write (journal ++ entry.Write cell ∷ []) id ≡ last_write journal id
last_write-push_write_other journal cell id is = ap last_of (writes_of-push_write_other journal cell id is)

-- nor does an entry that is no write
pub last_write-push_other : (journal : List Entry) (one : Entry) (id : List ℕ) → as_write one ≡ None
    → last_write (journal ++ one ∷ []) id ≡ last_write journal id
last_write-push_other journal one id none = ap last_of (writes_of-push_other journal one id none)

-- the write at the end, and at a place before it
pub write_at-push_end : (journal : List Entry) (one : Entry)
    → write_at (journal ++ one ∷ []) (length journal) ≡ as_write one
write_at-push_end journal one = ap (option_and_then as_write) (slice_get-append_end journal one [])

pub write_at-append : (journal more : List Entry) (place : ℕ) → place < length journal
    → write_at (journal ++ more) place ≡ write_at journal place
write_at-append journal more place below =
    ap (option_and_then as_write) (slice_get-append_left journal more place below)

-- no write is past the end
pub write_at_past : (journal : List Entry) (place : ℕ) → length journal ≤ place → write_at journal place ≡ None
write_at_past journal place past = ap (option_and_then as_write) (slice_get_past journal place past)

pub write_at_within : (journal : List Entry) (place : ℕ) → IsSome (write_at journal place) → place < length journal
write_at_within journal place some = by (slice_get journal place) refl some where
  by : (one : Option Entry) → slice_get journal place ≡ one → IsSome (option_and_then as_write one)
      → place < length journal
  by None is none = let both : false ≡ true = none in absurd (cc)
  by (Some one) is some_write = slice_get_within journal place one is

-- where an id has a last write, it is one of the journal's, and of that id
pub last_write_is : (journal : List Entry) (id : List ℕ) (write : Write) → last_write journal id ≡ Some write
    → Contains (writes_of journal id) write × Contains (writes journal) write × (write.id ≡ id)
last_write_is journal id write last = by (last_of_cases (writes_of journal id)) where
  by : ((writes_of journal id ≡ []) × (last_write journal id ≡ None))
      ⊎ ((init : List Write) × (w : Write) × (writes_of journal id ≡ init ++ w ∷ []) × (last_write journal id ≡ Some w))
      → Contains (writes_of journal id) write × Contains (writes journal) write × (write.id ≡ id)
  by (inl (none, no_last)) = let both : None ≡ Some write = sym no_last ∙ last in absurd (cc)
  by (inr (init, w, ends, is)) =
      let some : Some w ≡ Some write = sym is ∙ last in
      let same : w ≡ write = cc in
      let here : Contains (writes_of journal id) w =
      subst (λ (these : List Write). Contains these w) (sym ends) (Contains-push init w) in
      let there : Contains (writes_of journal id) write = subst (Contains (writes_of journal id)) same here in
      let kept = Contains-from_filter (is_of id) (writes journal) write there in
      (there, kept.0, id_from_is_of id write kept.1)

-- where it has none, it was never written
pub last_write_none : (journal : List Entry) (id : List ℕ) → last_write journal id ≡ None → writes_of journal id ≡ []
last_write_none journal id none = by (last_of_cases (writes_of journal id)) where
  by : ((writes_of journal id ≡ []) × (last_write journal id ≡ None))
      ⊎ ((init : List Write) × (w : Write) × (writes_of journal id ≡ init ++ w ∷ []) × (last_write journal id ≡ Some w))
      → writes_of journal id ≡ []
  by (inl (empty, no_last)) = empty
  by (inr (init, w, ends, is)) = let both : None ≡ Some w = sym none ∙ is in absurd (cc)

-- a journal has no more writes than entries
pub length-writes : (journal : List Entry) → length (writes journal) ≤ length journal
length-writes [] = omega arith
length-writes (one ∷ journal) = by (as_write one) (length-writes journal) where
  by : (w : Option Write) → length (writes journal) ≤ length journal
      → length (cons_option w (writes journal)) ≤ length (one ∷ journal)
  by None rest = omega arith
  by (Some w) rest = omega arith

-- a write of a journal is an entry of it
pub write_is_entry : (journal : List Entry) (write : Write) → Contains (writes journal) write
    → (before : List Entry) × (one : Entry) × (after : List Entry) × (journal ≡ before ++ one ∷ after)
    × (as_write one ≡ Some write)
write_is_entry journal write there = split_filter_map as_write journal write there
