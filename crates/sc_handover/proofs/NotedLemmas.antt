-- The journal of a bucket once it has the entry that gives a split up, or the one that drops a slice.
use Rattle.std.proofs.Common.{◌≡◌, ℕ, ◌+◌, ◌-◌, ◌≤◌, true, false, not, [], ◌∷◌, ◌++◌, filter, Some, None, refl, ap, arith}
use Rattle.sc_record.specs.declared.slice.CoreId.{CoreId}
use Rattle.sc_record.specs.declared.entry.Entry.{Entry}
use Rattle.sc_cluster.specs.declared.slice.Slice.{Slice}
use Rattle.sc_cluster.specs.Slices.{is_active, forming}
use Rattle.sc_cluster.specs.Changes.{Change, after}
use Rattle.sc_cluster.proofs.LeaderLemmas.{active_from_test}
use Rattle.sc_cluster.proofs.StateLemmas.{is_settled, active_settled}
use Rattle.sc_journal.specs.Journal.{as_write}
use Rattle.sc_journal.specs.Committed.{commits}
use Rattle.sc_journal.specs.Legal.{MayFollow}
use Rattle.sc_journal.specs.Splits.{map_change_of, open_split, owed}
use Rattle.sc_journal.proofs.SettledLemmas.{SettlesNothing}
use Rattle.sc_bucket.specs.Kept.{Sent, JournalState, PlacesState}
use Rattle.sc_replicas.specs.Cores.{is_of_one}
use Rattle.sc_bucket.specs.Sound.{HasJournal}
use Rattle.sc_bucket.specs.Events.{HasSameFixedParts}
use Rattle.sc_bucket.specs.declared.bucket.Bucket.{Bucket}
use Rattle.sc_handover.specs.Events.{LosesSlices}
use Rattle.sc_handover.proofs.PushedLemmas.{HasJournal-pushed}
use Rattle.sc_handover.proofs.KeptLemmas.{AreSome, is_kept, SaysTheSame}

-- an active slice is none that a split is making
pub is_settled-active : (slice : Slice) → is_active slice ≡ true → is_settled slice ≡ true
is_settled-active slice active = ap not (active_settled slice (active_from_test slice.state active))

-- The entry may come next. It says this change of the map, is no write, commits nothing and settles none, and with it so
-- many entries less are owed. By the change slices leave the map, every active one stays, and no split is open then. The same is
-- said of the cores of those that stay.
pub record MayTakeOut (old : Bucket) (one : Entry) (change : Change) (less : ℕ) : Type 0 where
  pub may : MayFollow old.first old.journal.entries one
  pub change_is : map_change_of one ≡ Some change
  pub no_write : as_write one ≡ None
  pub no_commit : commits one ≡ false
  pub settles_nothing : SettlesNothing one
  pub some : 1 ≤ less
  pub owed_less : owed old.first (old.journal.entries ++ one ∷ []) + less ≡ owed old.first old.journal.entries
  pub among : AreSome (after old.map change) old.map
  pub same_active : filter is_active (after old.map change) ≡ filter is_active old.map
  pub same : (name : CoreId) → is_of_one (after old.map change) name ≡ true
      → SaysTheSame old.journal.entries (old.journal.entries ++ one ∷ []) name
  pub idle : open_split (old.journal.entries ++ one ∷ []) ≡ None
  pub whole : forming (after old.map change) ≡ []

-- Slices left the map of a bucket by this change, so many entries less are owed, and no searchers are ready for a switch.
pub record TakesOut (old : Bucket) (one : Entry) (change : Change) (less : ℕ) (new : Bucket) : Type 0 where
  pub loses : LosesSlices old change one new.phase new.feeds new
  pub unsettled_are : new.unsettled.places ≡ old.unsettled.places
  pub owed_is : new.owed + less ≡ old.owed
  pub room : new.journal.room + 1 ≡ old.journal.room
  pub spares_are : new.spares ≡ None

-- as the calls leave it, where the entries are owed and one has its room
pub TakesOut-called : (old new : Bucket) (one : Entry) (change : Change) (less : ℕ)
    → (less ≤ old.owed) × (1 ≤ old.journal.room) → HasSameFixedParts old new → new.map ≡ after old.map change
    → new.replicas ≡ filter (is_kept new.map) old.replicas
    → new.flight.messages ≡ filter (λ (message : Sent). is_of_one new.map message.core) old.flight.messages
    → new.journal ≡ record old.journal { entries = old.journal.entries ++ one ∷ []; room = old.journal.room - 1 }
    → new.searchers ≡ old.searchers → new.unsettled ≡ old.unsettled → new.owed ≡ old.owed - less → new.spares ≡ None
    → TakesOut old one change less new
TakesOut-called old new one change less owes name map_is cores messages journal searchers unsettled_are owed_is
    spares = record {
      loses = record {
        name = name;
        map_is = map_is;
        entries = ap (λ (j : JournalState). j.entries) journal;
        phase_is = refl;
        messages = messages;
        cores = cores;
        feeds_are = refl;
        searchers_are = searchers;
      };
      unsettled_are = ap (λ (places : PlacesState). places.places) unsettled_are;
      owed_is = omega (arith, owes.0, owed_is);
      room = omega (arith, owes.1, ap (λ (j : JournalState). j.room) journal);
      spares_are = spares;
    }

-- so its journal is as it has to be
pub HasJournal-noted : (old new : Bucket) (one : Entry) (change : Change) (less : ℕ) → HasJournal old
    → MayTakeOut old one change less → TakesOut old one change less new → HasJournal new
HasJournal-noted old new one change less journal may takes =
    HasJournal-pushed old new one change journal may.may may.change_is may.no_write may.settles_nothing (record {
      name = takes.loses.name;
      entries = takes.loses.entries;
      map_is = takes.loses.map_is;
      unsettled_are = takes.unsettled_are;
      owed_is = omega (arith, may.owed_less, takes.owed_is, journal.owed_is);
      room = omega (arith, may.some, takes.room, takes.owed_is, journal.room);
      within = omega (arith, may.some, takes.owed_is, journal.within);
    })
