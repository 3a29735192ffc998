-- What an order is answered, by the journal of its bucket.
use Rattle.std.specs.Prelude.{◌≡◌, ◌⊎◌, ℕ, ℤ, pos, true, false, List, length, Option, Some, None, Contains, map}
use Rattle.std.specs.Option.{option_and_then}
use Rattle.sc_record.specs.Versions.{version_after, shown_version, meets}
use Rattle.sc_record.specs.Writes.{Write}
use Rattle.sc_values.specs.declared.field.Field.{Field}
use Rattle.sc_record.specs.declared.order.Order.{Order}
use Rattle.sc_record.specs.declared.order.Change.{Change}
use Rattle.sc_record.specs.declared.order.Change.TheVariants as changes
use Rattle.sc_record.specs.declared.entry.Entry.{Entry}
use Rattle.sc_cluster.specs.declared.slice.Slice.{Slice}
use Rattle.sc_partial.specs.Resolved.{IsChanged, first_refused, fields_of}
use Rattle.sc_journal.specs.Journal.{write_at, writes, last_write, found}
use Rattle.sc_journal.specs.Splits.{Basis, HasRoomFor, IsFullFor}

-- what one order was answered
pub data Outcome : Type 0 where
  -- with the version of the write as it is shown
  accepted : ℤ → Outcome
  -- the condition is not met by this version, which was found
  conflict : ℤ → Outcome
  -- the field of this name can't take its change
  partial : List ℕ → Outcome
  log_full : Outcome
  out_of_memory : Outcome

-- the fields of the live document of an id whose last write this is; none where it is not live
abbrev pub live_fields : Option Write → List Field
live_fields last = fields_of (option_and_then (λ (write : Write). write.doc) last)

-- what a change makes of the document of an id whose last write this is; a deletion leaves none
abbrev pub Makes : Option Write → Change → Option (List Field) → Type 0
Makes last (changes.Whole doc) made = made ≡ Some doc
Makes last (changes.Parts parts) made = (doc : List Field) × (made ≡ Some doc) × IsChanged (live_fields last) parts doc
Makes last changes.Delete made = made ≡ None

-- the name of the first field that can't take its change
abbrev pub refused : Option Write → Change → Option (List ℕ)
refused last (changes.Whole doc) = None
refused last (changes.Parts parts) = first_refused (live_fields last) parts
refused last changes.Delete = None

-- a leader's clock may be this: 0, or the version of a write of the journal
abbrev pub IsClock : List Entry → ℤ → Type 0
IsClock journal clock = (clock ≡ pos 0) ⊎ Contains (map (λ (write : Write). write.version) (writes journal)) clock

-- the journal has room for a write and the entry that settles it, beside those that it owes
abbrev pub HasRoom : ℕ → List Slice → List Entry → Type 0
HasRoom limit first journal = HasRoomFor 2 limit first journal

-- The write is that of the order, at the end of the journal and at the timestamp `now` that was read for it: its document is
-- what the change makes, and its version comes after that of the timestamp or of a clock.
pub record IsWriteOf (journal : List Entry) (order : Order) (now : ℕ) (write : Write) : Type 0 where
  pub id : write.id ≡ order.id
  pub document : Makes (last_write journal order.id) order.change write.doc
  pub version : (clock : ℤ) × IsClock journal clock × (write.version ≡ version_after now clock)

-- the order's condition is met by the version that the journal finds
abbrev pub IsMet : List Entry → Order → Type 0
IsMet journal order = meets order.condition (found journal order.id) ≡ true

-- the order may be accepted, but for room: its condition is met, and each field can take its change
pub record IsFitting (journal : List Entry) (order : Order) : Type 0 where
  pub met : IsMet journal order
  pub taken : refused (last_write journal order.id) order.change ≡ None

-- The order at the end of the journal `before`, at the timestamp `now`. The journal `after` has `before` as a prefix, and
-- then the write where the order was accepted. The first cause that holds is answered; where memory ran out, that may stand
-- in the place of any other answer but a conflict.
abbrev pub IsOutcome : Basis → List Entry → Order → ℕ → Outcome → List Entry → Type 0
IsOutcome basis before order now (accepted version) after =
    IsFitting before order × HasRoom basis.limit basis.first before
    × ((write : Write) × (write_at after (length before) ≡ Some write) × IsWriteOf before order now write × (version ≡ shown_version write))
IsOutcome basis before order now (conflict version) after =
    (meets order.condition (found before order.id) ≡ false) × (version ≡ found before order.id)
IsOutcome basis before order now (partial name) after =
    IsMet before order × (refused (last_write before order.id) order.change ≡ Some name)
IsOutcome basis before order now log_full after =
    IsFitting before order × IsFullFor 2 basis.limit basis.first before
IsOutcome basis before order now out_of_memory after = IsMet before order
