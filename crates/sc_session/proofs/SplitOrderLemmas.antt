-- What an order is answered depends on the writes of its journal, where there is room.
use Rattle.std.proofs.Common.{◌≡◌, ◌≤◌, ◌<◌, ◌+◌, ℕ, ℤ, pos, ◌⊎◌, true, false, List, [], ◌∷◌, ◌++◌, length, map, Option, Some, None, Contains, sym, ap, ◌∙◌, subst, arith}
use Rattle.std.specs.List.{filter}
use Rattle.std.specs.Option.{option_and_then}
use Rattle.std.proofs.lemmas.List.{append-nil}
use Rattle.sc_record.specs.Versions.{meets, found_version}
use Rattle.sc_record.specs.Writes.{is_of, Write}
use Rattle.sc_record.specs.declared.order.Order.{Order}
use Rattle.sc_record.specs.declared.entry.Entry.{Entry}
use Rattle.sc_journal.specs.Journal.{as_write, write_at, writes, last_of, last_write, found}
use Rattle.sc_journal.specs.Splits.{owed}
use Rattle.sc_journal.specs.Outcomes.{Outcome, accepted, conflict, partial, log_full, out_of_memory, HasRoom, IsFitting, IsOutcome, Makes, refused}
use Rattle.sc_journal.proofs.ListLemmas.{slice_get-append_end}
use Rattle.sc_journal.proofs.JournalLemmas.{write_at_past}
use Rattle.sc_seen.specs.Seen.{Layout, basis_of}

-- the write at the end of a journal that goes on is the first of what comes
write_next : (journal more : List Entry) → write_at (journal ++ more) (length journal) ≡ write_at more 0
write_next journal [] =
    let end : length journal ≤ length journal = omega arith in
    ap (λ (entries : List Entry). write_at entries (length journal)) (append-nil journal) ∙ write_at_past journal (length journal) end
    ∙ sym (write_at_past [] 0 (omega arith))
write_next journal (one ∷ more) =
    ap (option_and_then as_write) (slice_get-append_end journal one more)
    ∙ sym (ap (option_and_then as_write) (slice_get-append_end [] one more))

module _ (layout : Layout) (one other : List Entry) (same : writes one ≡ writes other) (order : Order) where
  last_is : last_write one order.id ≡ last_write other order.id
  last_is = ap (λ (ws : List Write). last_of (filter (is_of order.id) ws)) same

  found_is : found one order.id ≡ found other order.id
  found_is = ap found_version last_is

  met_in : meets order.condition (found one order.id) ≡ true → meets order.condition (found other order.id) ≡ true
  met_in = subst (λ (version : ℤ). meets order.condition version ≡ true) found_is

  fits_in : IsFitting one order → IsFitting other order
  fits_in fits = record {
    met = met_in fits.met;
    taken = subst (λ (last : Option Write). refused last order.change ≡ None) last_is fits.taken;
  }

  -- Orders are answered alike at the end of journals of the same writes, and an order that is accepted makes the same write.
  pub orders_alike : HasRoom layout.limit layout.first one → HasRoom layout.limit layout.first other
      → (now : ℕ) (outcome : Outcome) (more : List Entry) → IsOutcome (basis_of layout) one order now outcome (one ++ more)
      → IsOutcome (basis_of layout) other order now outcome (other ++ more)
  orders_alike room room_there now (accepted version) more (fits, has_room, (write, at, is, shown)) = (
    fits_in fits,
    room_there,
    (
      write,
      write_next other more ∙ sym (write_next one more) ∙ at,
      record {
        id = is.id;
        document = subst (λ (last : Option Write). Makes last order.change write.doc) last_is is.document;
        version = (
          is.version.0,
          subst (λ (ws : List Write). (is.version.0 ≡ pos 0) ⊎ Contains (map (λ (w : Write). w.version) ws) is.version.0) same is.version.1,
          is.version.2,
        );
      },
      shown,
    ),
  )
  orders_alike room room_there now (conflict version) more (unmet, is) =
      (subst (λ (found : ℤ). meets order.condition found ≡ false) found_is unmet, is ∙ found_is)
  orders_alike room room_there now (partial name) more (met, refuses) =
      (met_in met, subst (λ (last : Option Write). refused last order.change ≡ Some name) last_is refuses)
  orders_alike room room_there now log_full more (fits, full) =
      let some : length one + owed layout.first one + 2 ≤ layout.limit = room in
      let none : layout.limit < length one + owed layout.first one + 2 = full in
      absurd (omega (arith, some, none))
  orders_alike room room_there now out_of_memory more met = met_in met
