-- A bucket may be given back after each event that a holder of it may do.
use Rattle.std.proofs.Common.{◌≡◌, ℕ, ℤ, List, [], ◌∷◌, ◌++◌, false, refl, sym, ◌∙◌, subst, ap}
use Rattle.std.specs.Prelude.{IsSome, Result, Ok, Err, IfOk, OnOk, OnErr}
use Rattle.std.specs.Arc.{arc_value}
use Rattle.std.specs.List.{AllByRecursion}
use Rattle.sc_record.specs.Writes.{Write}
use Rattle.sc_record.specs.declared.order.Order.{Order}
use Rattle.sc_record.specs.declared.entry.Entry.{Entry}
use Rattle.sc_record.specs.declared.entry.Entry.TheVariants as entry
use Rattle.sc_router.specs.Route.{bucket_of}
use Rattle.sc_journal.specs.Journal.{writes, write_at, is_settled}
use Rattle.sc_seen.specs.Seen.{Layout}
use Rattle.sc_journal.proofs.JournalLemmas.{writes-push_write, writes-push_other}
use Rattle.sc_bucket.specs.declared.accept.Accepted.{Accepted}
use Rattle.sc_bucket.specs.declared.accept.AcceptFault.{AcceptFault}
use Rattle.sc_bucket.specs.declared.commit.CommitFault.{CommitFault}
use Rattle.sc_bucket.specs.declared.bucket.Bucket.{Bucket}
use Rattle.sc_bucket.specs.Kept.{Sent}
use Rattle.sc_bucket.specs.Sound.{IsSound}
use Rattle.sc_bucket.specs.Events.{IsStep, IsSameButRoom, HasSameFixedParts, Accepts, Delivers, Settles, Commits, NotesFiled}
use Rattle.sc_collection.specs.Desks.{Held, IsBucketOf, MayReplace}

-- the ids of the writes belong to the bucket of this number
abbrev AreOf : ℕ → ℕ → List Write → Type 0
AreOf buckets number = AllByRecursion (λ (write : Write). bucket_of write.id buckets ≡ number)

-- one more that does
AreOf-push : (buckets number : ℕ) (earlier : List Write) (write : Write) → AreOf buckets number earlier
    → bucket_of write.id buckets ≡ number → AreOf buckets number (earlier ++ write ∷ [])
AreOf-push buckets number [] write are is = (is, tt)
AreOf-push buckets number (first ∷ earlier) write are is = (are.0, AreOf-push buckets number earlier write are.1 is)

module _ (layout : Layout) (held : Held) (given : Bucket)
    (is : IsBucketOf layout held.number held.bucket) (sound : IsSound given) (by_pass : held.by_keeper ≡ false) where
  -- the same bucket, by its writes
  same_bucket : HasSameFixedParts held.bucket given → AreOf layout.buckets held.number (writes given.journal.entries)
      → IsBucketOf layout held.number given
  same_bucket name ids = record { first = name.first ∙ is.first; limit = name.limit ∙ is.limit; ids = ids }

  -- where its journal stays, so do its writes
  same_ids : given.journal.entries ≡ held.bucket.journal.entries → AreOf layout.buckets held.number (writes given.journal.entries)
  same_ids same = subst (λ (journal : List Entry). AreOf layout.buckets held.number (writes journal)) (sym same) is.ids

  -- nothing was done
  pub unchanged_may_replace : IsSameButRoom held.bucket given → MayReplace layout held given
  unchanged_may_replace same = record {
    sound = sound;
    is_of = same_bucket same.name (same_ids same.entries);
    step = IsStep.stays same;
    not_keeper = by_pass;
  }

  -- it is the same bucket
  pub same_may_replace : given ≡ held.bucket → MayReplace layout held given
  same_may_replace same = unchanged_may_replace (subst (IsSameButRoom held.bucket) (sym same) (record {
    name = record { first = refl; limit = refl; filed = refl };
    map_is = refl;
    entries = refl;
    messages = refl;
    cores = refl;
    split = record { phase = refl; feeds = refl };
    searchers_are = refl;
  }))

  -- it was said what a log file has
  pub filed_may_replace : (n : ℕ) → NotesFiled held.bucket n given → MayReplace layout held given
  filed_may_replace n noted = record {
    sound = sound;
    is_of = record {
      first = ap (λ (bucket : Bucket). bucket.first) noted ∙ is.first;
      limit = ap (λ (bucket : Bucket). bucket.limit) noted ∙ is.limit;
      ids = same_ids (ap (λ (bucket : Bucket). bucket.journal.entries) noted);
    };
    step = IsStep.notes_filed n noted;
    not_keeper = by_pass;
  }

  -- a message was delivered
  pub delivered_may_replace : (at : ℕ) (message : Sent) → Delivers held.bucket at message given → MayReplace layout held given
  delivered_may_replace at message delivered = record {
    sound = sound;
    is_of = same_bucket delivered.name (same_ids delivered.entries);
    step = IsStep.delivers delivered;
    not_keeper = by_pass;
  }

  -- an order of one of the bucket's ids was accepted
  pub accepted_may_replace : (order : Order) (now : ℕ) (version : ℤ) → bucket_of order.id layout.buckets ≡ held.number
      → Accepts held.bucket order now version given → MayReplace layout held given
  accepted_may_replace order now version own accepted = record {
    sound = sound;
    is_of = same_bucket accepted.name ids;
    step = IsStep.accepts accepted;
    not_keeper = by_pass;
  } where
    write : Write
    write = arc_value accepted.cell

    write_own : bucket_of write.id layout.buckets ≡ held.number
    write_own = subst (λ (id : List ℕ). bucket_of id layout.buckets ≡ held.number) (sym accepted.write.id) own

    ids : AreOf layout.buckets held.number (writes given.journal.entries)
    ids =
        subst (λ (journal : List Entry). AreOf layout.buckets held.number (writes journal)) (sym accepted.entries)
        (subst (AreOf layout.buckets held.number) (sym (writes-push_write held.bucket.journal.entries accepted.cell))
        (AreOf-push layout.buckets held.number (writes held.bucket.journal.entries) write is.ids write_own))

  -- an order of one of the bucket's ids was accepted or refused
  pub answered_may_replace : (order : Order) (now : ℕ) (answer : Result Accepted AcceptFault)
      → bucket_of order.id layout.buckets ≡ held.number
      → IfOk answer (λ accepted. Accepts held.bucket order now accepted.version given)
      → OnErr answer (IsSameButRoom held.bucket given)
      → MayReplace layout held given
  answered_may_replace order now (Ok answer) own accepted refused =
      accepted_may_replace order now answer.version own accepted
  answered_may_replace order now (Err fault) own accepted refused = unchanged_may_replace refused

  -- a write was settled
  pub settled_may_replace : (place : ℕ) → IsSome (write_at held.bucket.journal.entries place)
      → is_settled held.bucket.journal.entries place ≡ false → Settles held.bucket place given
      → MayReplace layout held given
  settled_may_replace place written still settled = record {
    sound = sound;
    is_of = same_bucket settled.name ids;
    step = IsStep.settles written still settled;
    not_keeper = by_pass;
  } where
    ids : AreOf layout.buckets held.number (writes given.journal.entries)
    ids =
        subst (λ (journal : List Entry). AreOf layout.buckets held.number (writes journal)) (sym settled.entries)
        (subst (AreOf layout.buckets held.number)
        (sym (writes-push_other held.bucket.journal.entries (entry.Settled place) refl)) is.ids)

  -- it was committed
  pub committed_may_replace : Commits held.bucket given → MayReplace layout held given
  committed_may_replace committed = record {
    sound = sound;
    is_of = same_bucket committed.name ids;
    step = IsStep.commits committed;
    not_keeper = by_pass;
  } where
    ids : AreOf layout.buckets held.number (writes given.journal.entries)
    ids =
        subst (λ (journal : List Entry). AreOf layout.buckets held.number (writes journal)) (sym committed.entries)
        (subst (AreOf layout.buckets held.number)
        (sym (writes-push_other held.bucket.journal.entries entry.Committed refl)) is.ids)

  -- it was committed, or could not be
  pub commit_may_replace : (answer : Result (Unit {0}) CommitFault) → OnOk answer (Commits held.bucket given)
      → OnErr answer (IsSameButRoom held.bucket given) → MayReplace layout held given
  commit_may_replace (Ok done) committed refused = committed_may_replace committed
  commit_may_replace (Err fault) committed refused = unchanged_may_replace refused
