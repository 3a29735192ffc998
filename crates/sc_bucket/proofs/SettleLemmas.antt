-- Which writes of a bucket are settled, and that it is sound once one more is.
use Rattle.std.proofs.Common.{◌≡◌, ◌≢◌, ◌||◌, ◌≤◌, ◌∙◌, ℕ, nat_eq, get_or, map, take, All, ◌+◌, ◌^◌, ◌==◌, ◌++◌, [], ◌∷◌, List, length, filter, Bool, true, not, is_some, Option, Some, None, MatchOption, false, Contains, ◌↔◌, IsTrue, IsSome, refl, sym, ap, subst, arith}
use Rattle.std.specs.List.{IsDistinct}
use Rattle.std.proofs.lemmas.Bool.Decides.{Decides-eqb}
use Rattle.std.proofs.lemmas.List.{length_push}
use Rattle.std.proofs.lemmas.List.Elements.{All-weaker}
use Rattle.sc_record.specs.Names.{key_of_core}
use Rattle.sc_record.specs.declared.slice.CoreId.{CoreId}
use Rattle.sc_record.specs.Writes.{Write}
use Rattle.sc_record.specs.declared.entry.Entry.{Entry}
use Rattle.sc_record.specs.declared.entry.Entry.TheVariants as entry
use Rattle.sc_cluster.specs.Map.{IsMap}
use Rattle.sc_journal.specs.Journal.{write_at, is_settled, unsettled, writes}
use Rattle.sc_journal.specs.Committed.{committed, last_commit}
use Rattle.sc_journal.proofs.CommittedLemmas.{committed-push_other, last_commit-push_other}
use Rattle.sc_journal.specs.Splits.{map_after, open_split, owed}
use Rattle.sc_journal.specs.Legal.{IsLegal}
use Rattle.sc_journal.proofs.JournalLemmas.{writes-push_other, write_at-append, write_at_within}
use Rattle.sc_journal.proofs.DownLemmas.{LeavesCores-settled}
use Rattle.sc_journal.proofs.SettledLemmas.{unsettled_is, unsettled_from, unsettled-push_settled, is_settled-push}
use Rattle.sc_journal.proofs.SplitLemmas.{map_after-left, open_split-left, owed-push_settled, LeavesSlices-settled}
use Rattle.sc_journal.proofs.LegalLemmas.{IsLegal-push}
use Rattle.sc_replicas.specs.Cores.{without_room}
use Rattle.sc_bucket.specs.Kept.{Sent, FlightState}
use Rattle.sc_bucket.specs.Flight.{is_of_write, is_same_message}
use Rattle.sc_bucket.specs.Sound.{AreActive, HasJournal, IsSent, HasSpare, IsSound}
use Rattle.sc_bucket.specs.Events.{DeliversFirst, Settles, NotesSettled}
use Rattle.sc_bucket.specs.declared.bucket.Bucket.{Bucket}
use Rattle.sc_bucket.proofs.SearcherLemmas.{HasSearchers-grown}
use Rattle.sc_bucket.proofs.SoundLemmas.{SaysSame, SaysSame-push, IsSent-left, ArePrepared-same, IsSound-left}
use Rattle.sc_bucket.proofs.DeliverAllLemmas.{NoneMeets, DeliversAll, DeliversAll-first}

-- a write is settled where its place isn't among those that are not settled
pub is_settled-from_kept : (journal : List Entry) (place : ℕ) (kept : Bool) → IsSome (write_at journal place)
    → IsTrue kept ↔ Contains (unsettled journal) place → not kept ≡ is_settled journal place
is_settled-from_kept journal place true written (is, from) = sym (unsettled_is journal place (is refl)).1
is_settled-from_kept journal place false written (is, from) = by (is_settled journal place) refl where
  by : (settled : Bool) → is_settled journal place ≡ settled → true ≡ is_settled journal place
  by true is_so = sym is_so
  by false still = let kept : false ≡ true = from (unsettled_from journal place written still) in absurd (cc)

-- a bucket owes the entry that settles a write, and has its room
pub owes_settled : (b : Bucket) (place : ℕ) → HasJournal b → IsSome (write_at b.journal.entries place)
    → is_settled b.journal.entries place ≡ false → (1 ≤ b.owed) × (1 ≤ b.journal.room)
owes_settled b place journal written still =
    let one = owed-push_settled b.first b.journal.entries place written still in
    (omega (arith, one, journal.owed_is), omega (arith, one, journal.owed_is, journal.room))

-- what a settle does with the parts of a bucket that its event doesn't name
pub record SettlesParts (old : Bucket) (place : ℕ) (new : Bucket) : Type 0 where
  pub unsettled_are : new.unsettled.places ≡ filter (λ p. not (p == place)) old.unsettled.places
  pub owed_is : new.owed + 1 ≡ old.owed
  pub room : new.journal.room + 1 ≡ old.journal.room
  pub spares_are : new.spares ≡ old.spares

or_false : (b : Bool) → b || false ≡ b
or_false true = refl
or_false false = refl

-- two places that differ are not equal
apart_places : (one other : ℕ) → one ≢ other → nat_eq one other ≡ false
apart_places one other apart = by (nat_eq one other) refl where
  by : (b : Bool) → nat_eq one other ≡ b → nat_eq one other ≡ false
  by false is = is
  by true is = absurd (apart ((Decides-eqb one other).0 is))

-- its journal is as it has to be
pub HasJournal-settled : (old : Bucket) (place : ℕ) (new : Bucket) → HasJournal old → IsSome (write_at old.journal.entries place)
    → is_settled old.journal.entries place ≡ false → NotesSettled old place new → SettlesParts old place new → HasJournal new
HasJournal-settled old place new journal written still settled parts =
    let one : Entry = entry.Settled place in
    let legal : IsLegal old.first (old.journal.entries ++ one ∷ []) =
    IsLegal-push old.first old.journal.entries one journal.legal (record { written = written; once = still }) in
    let less = owed-push_settled old.first old.journal.entries place written still in
    let owes : owed new.first new.journal.entries ≡ owed old.first (old.journal.entries ++ one ∷ []) =
    ap (λ first. owed first new.journal.entries) settled.name.first ∙ ap (owed old.first) settled.entries in
    let longer : length new.journal.entries ≡ length old.journal.entries + 1 =
    ap length settled.entries ∙ length_push old.journal.entries one in
    record {
      first = subst IsMap (sym settled.name.first) journal.first;
      begins = subst AreActive (sym settled.name.first) journal.begins;
      legal = subst (λ first. IsLegal first new.journal.entries) (sym settled.name.first)
          (subst (IsLegal old.first) (sym settled.entries) legal);
      map_is = settled.map_is ∙ journal.map_is
          ∙ sym (map_after-left old.first old.journal.entries one (LeavesSlices-settled place))
          ∙ ap (map_after old.first) (sym settled.entries)
          ∙ ap (λ first. map_after first new.journal.entries) (sym settled.name.first);
      unsettled_are = parts.unsettled_are ∙ ap (filter (λ p. not (p == place))) journal.unsettled_are
          ∙ sym (unsettled-push_settled old.journal.entries place) ∙ ap unsettled (sym settled.entries);
      owed_is = omega (arith, owes, less, parts.owed_is, journal.owed_is);
      room = omega (arith, parts.room, parts.owed_is, journal.room);
      within = omega (arith, longer, parts.owed_is, settled.name.limit, journal.within);
      limit_from = omega (arith, settled.name.limit, journal.limit_from);
      limit_to = subst (λ limit. limit ≤ 2 ^ 24) (sym settled.name.limit) journal.limit_to;
    }

-- nothing is said of any core
says-settled : (old : Bucket) (place : ℕ) (new : Bucket) → NotesSettled old place new → SaysSame old.journal.entries new.journal.entries
says-settled old place new noted =
    SaysSame-push old.journal.entries new.journal.entries (entry.Settled place) noted.entries (LeavesCores-settled place)
    (λ slice core_in. refl)

-- a message of another write is of a write that is not settled still
sent_still : (old : Bucket) (place : ℕ) (new : Bucket) (message : Sent) → NotesSettled old place new → message.place ≢ place → IsSent old message
    → IsSent new message
sent_still old place new message noted other sent =
    let written : IsSome (write_at old.journal.entries message.place) = subst IsSome (sym sent.write) refl in
    IsSent-left old new message (ap (map without_room) noted.cores)
    (ap (λ entries. write_at entries message.place) noted.entries
    ∙ write_at-append old.journal.entries (entry.Settled place ∷ []) message.place (write_at_within old.journal.entries message.place written))
    (ap (λ entries. is_settled entries message.place) noted.entries
    ∙ is_settled-push old.journal.entries (entry.Settled place) message.place
    ∙ ap (λ b. is_settled old.journal.entries message.place || b) (apart_places place message.place (λ same. other (sym same)))
    ∙ or_false (is_settled old.journal.entries message.place))
    ((says-settled old place new noted).down (key_of_core message.core))
    sent

-- and so the bucket is sound, where no message of the write is in flight
pub IsSound-settled : (old : Bucket) (place : ℕ) (new : Bucket) → IsSound old → IsSome (write_at old.journal.entries place)
    → is_settled old.journal.entries place ≡ false → All (λ (message : Sent). message.place ≢ place) old.flight.messages
    → NotesSettled old place new → SettlesParts old place new → IsSound new
IsSound-settled old place new sound written still delivered noted parts =
    let one : Entry = entry.Settled place in
    let messages : new.flight.messages ≡ old.flight.messages = ap (λ (flight : FlightState). flight.messages) noted.flight_is in
    let each : All (IsSent new) old.flight.messages =
    λ k d below. sent_still old place new (get_or old.flight.messages k d) noted (delivered k d below) (sound.messages.each k d below) in
    IsSound-left old new sound noted.split
    (HasJournal-settled old place new sound.journal written still noted parts) noted.map_is
    (ap (map without_room) noted.cores)
    (ap writes noted.entries ∙ writes-push_other old.journal.entries one refl)
    (ap open_split noted.entries ∙ open_split-left old.journal.entries one (LeavesSlices-settled place))
    (says-settled old place new noted)
    messages
    (record { each = subst (All (IsSent new)) (sym messages) each; once = subst (IsDistinct is_same_message) (sym messages) sound.messages.once })
    (subst (λ these. All (HasSpare these new.feeds) new.replicas) (sym messages)
    (subst (λ feeds. All (HasSpare old.flight.messages feeds) new.replicas) (sym noted.split.feeds)
    (subst (All (HasSpare old.flight.messages old.feeds)) (sym noted.cores) sound.room)))
    (HasSearchers-grown old new noted.map_is noted.searchers_are
    (ap last_commit noted.entries ∙ last_commit-push_other old.journal.entries one refl)
    (ap committed noted.entries ∙ committed-push_other old.journal.entries one refl)
    (λ write there. subst (λ (these : List Write). Contains these write)
    (sym (ap writes noted.entries ∙ writes-push_other old.journal.entries one refl)) there)
    sound.searchers)
    (ArePrepared-same old new noted.split.phase noted.map_is noted.searchers_are parts.spares_are sound.prepared)

-- where no message is of the write, none is by the test
pub none_of_write : (place : ℕ) (messages : List Sent) → All (λ (message : Sent). message.place ≢ place) messages
    → NoneMeets (is_of_write place) messages
none_of_write place messages apart =
    All-weaker (λ (message : Sent). message.place ≢ place) (λ message. is_of_write place message ≡ false)
    (λ message. apart_places message.place place) messages apart

-- the first message of the write, and then the others
pub DeliversAll-of_write : (old : Bucket) (place : ℕ) (core : CoreId) (mid new : Bucket)
    → DeliversFirst old place core mid → DeliversAll mid (is_of_write place) new → DeliversAll old (is_of_write place) new
DeliversAll-of_write old place core mid new first rest =
    DeliversAll-first old (is_of_write place) first.at first.message mid new
    ((Decides-eqb first.message.place place).1 first.first.of_write)
    (none_of_write place (take first.at old.flight.messages) first.first.first) first.delivers rest

-- once all are delivered and the entry is there, the write is settled
pub Settles-noted : (old : Bucket) (place : ℕ) (mid new : Bucket) → DeliversAll old (is_of_write place) mid
    → NotesSettled mid place new → Settles old place new
Settles-noted old place mid new all noted = record {
  name = record { first = noted.name.first ∙ all.name.first; limit = noted.name.limit ∙ all.name.limit; filed = noted.name.filed ∙ all.name.filed };
  split = record { phase = noted.split.phase ∙ all.split.phase; feeds = noted.split.feeds ∙ all.split.feeds };
  map_is = noted.map_is ∙ all.map_is;
  entries = noted.entries ∙ ap (λ entries. entries ++ entry.Settled place ∷ []) all.entries;
  messages = ap (λ (flight : FlightState). flight.messages) noted.flight_is ∙ all.messages;
  cores = noted.cores ∙ all.cores;
  searchers_are = noted.searchers_are ∙ all.searchers_are;
}

-- what a delivery does
abbrev IsDelivered : Bucket → ℕ → Option CoreId → Bucket → Type 0
IsDelivered old place result new =
    MatchOption result ((new ≡ old) × All (λ (message : Sent). message.place ≢ place) old.flight.messages)
    (λ core. DeliversFirst old place core new)

-- where it reports a core
pub delivered_some : (old : Bucket) (place : ℕ) (result : Option CoreId) (new : Bucket) → true ≡ is_some result
    → IsDelivered old place result new → (core : CoreId) × DeliversFirst old place core new
delivered_some old place (Some core) new is first = (core, first)
delivered_some old place None new is none = absurd (cc)

-- and where it reports none
pub delivered_none : (old : Bucket) (place : ℕ) (result : Option CoreId) (new : Bucket) → false ≡ is_some result
    → IsDelivered old place result new
    → (new ≡ old) × All (λ (message : Sent). message.place ≢ place) old.flight.messages
delivered_none old place (Some core) new is first = absurd (cc)
delivered_none old place None new is none = none
