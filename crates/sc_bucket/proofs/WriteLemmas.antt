-- The write that an order makes may come next in the journal.
use Rattle.std.proofs.Common.{◌≡◌, ℕ, suc, ◌+◌, ◌-◌, ◌^◌, Bool, true, false, cond, ℤ, pos, ◌<ℤ◌, ◌≤ℤ◌, List, [], ◌∷◌, length, find, Some, sym, ◌∙◌, subst, Contains, slice_get, arith}
use Rattle.std.proofs.lemmas.Int.{ints}
use Rattle.std.proofs.lemmas.List.Elements.{All-contains}
use Rattle.std.proofs.lemmas.Option.{none-some}
use Rattle.sc_record.specs.Versions.{version_after, last_timed_version}
use Rattle.sc_record.specs.Writes.{is_of, write_of, Write}
use Rattle.sc_record.proofs.VersionLemmas.{version_after-above_clock}
use Rattle.sc_record.specs.declared.entry.Entry.{Entry}
use Rattle.sc_router.specs.Route.{route_hash}
use Rattle.sc_cluster.specs.declared.slice.Slice.{Slice}
use Rattle.sc_replica.specs.Core.{Core, IsCore}
use Rattle.sc_journal.specs.Journal.{writes, last_write}
use Rattle.sc_journal.specs.Legal.{HasTerms, MayWrite, IsLegal}
use Rattle.sc_journal.specs.Outcomes.{IsClock}
use Rattle.sc_journal.proofs.JournalLemmas.{length-writes}
use Rattle.sc_journal.proofs.VersionLemmas.{newest_from_last, clock_bounded, version_after-positive, version_after-bounded}
use Rattle.sc_bucket.specs.declared.bucket.Bucket.{Bucket}
use Rattle.sc_bucket.specs.Sound.{HasJournal, IsSound}
use Rattle.sc_bucket.proofs.SoundLemmas.{All-slice_get}

-- what is found in a list is in it
pub Contains-find : {X : Type 0} (p : X → Bool) (xs : List X) (x : X) → find p xs ≡ Some x → Contains xs x
Contains-find p [] x is = absurd (none-some x is)
Contains-find {X} p (y ∷ ys) x is = by (p y) (Contains-find p ys x) is where
  by : (b : Bool) → (find p ys ≡ Some x → Contains ys x) → cond b (Some y) (find p ys) ≡ Some x → Contains (y ∷ ys) x
  by true rest found = let same : y ≡ x = cc in (0, omega arith, same)
  by false rest found = let there = rest found in (suc there.0, omega (arith, there.1), there.2)

-- no cell of a core is newer than its clock
pub cell_below_clock : (core : Core) (id : List ℕ) (last : Write) → IsCore core → write_of core.cells id ≡ Some last
    → last.version ≤ℤ core.clock
cell_below_clock core id last is_core is =
    All-contains (λ (cell : Write). cell.version ≤ℤ core.clock) core.cells last is_core.clocked
    (Contains-find (is_of id) core.cells last is)

-- The write may come next, whose hash is that of its id, whose terms are those of its document, and whose version comes after
-- the clock of a core that has the last write of the id.
pub write_may_follow : (first : List Slice) (journal : List Entry) (core : Core) (write : Write) (now : ℕ)
    → IsLegal first journal → IsCore core → IsClock journal core.clock → write_of core.cells write.id ≡ last_write journal write.id
    → write.hash ≡ route_hash write.id → HasTerms write.id write.doc write.terms → write.version ≡ version_after now core.clock
    → MayWrite journal write
write_may_follow first journal core write now legal is_core clock last hashed terms version = record {
  hash = hashed;
  terms = terms;
  positive = subst (λ v. pos 0 <ℤ v) (sym version) (version_after-positive first journal now core.clock legal clock);
  newest = newest_from_last first journal write.id write.version legal above;
  bounded = subst (λ v. v ≤ℤ pos (last_timed_version + (length (writes journal) + 1))) (sym version) (version_after-bounded first journal now core.clock legal clock);
} where
  above : (earlier : Write) → last_write journal write.id ≡ Some earlier → earlier.version <ℤ write.version
  above earlier is =
      let below = cell_below_clock core write.id earlier is_core (last ∙ is) in
      let next = version_after-above_clock now core.clock in
      omega (arith, ints, below, next, version)

-- the clock of a bucket's core can rise
pub clock_can_rise : (b : Bucket) (clock : ℤ) → HasJournal b → IsClock b.journal.entries clock → clock <ℤ pos (2 ^ 63 - 1)
clock_can_rise b clock journal is =
    let most = clock_bounded b.first b.journal.entries clock journal.legal is in
    let few = length-writes b.journal.entries in
    omega (arith, ints, most, few, journal.within, journal.limit_to)

-- the clock of a core of a sound bucket
pub core_clock : (b : Bucket) (at : ℕ) (core : Core) → IsSound b → slice_get b.replicas at ≡ Some core
    → IsClock b.journal.entries core.clock
core_clock b at core sound there = All-slice_get (λ (core : Core). IsClock b.journal.entries core.clock) b.replicas at core sound.clocks there
