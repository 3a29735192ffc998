-- All messages in flight that meet a test are delivered, one after another, the first of them first.
use Rattle.std.proofs.Common.{◌≡◌, ◌<◌, ◌∙◌, ℕ, suc, take, drop, All, ◌++◌, ◌∷◌, List, length, filter, Bool, true, false, not, slice_get, Some, subst, refl, sym, ap, arith}
use Rattle.std.specs.List.{remove}
use Rattle.std.proofs.lemmas.List.Edits.{length-remove}
use Rattle.std.proofs.lemmas.List.Elements.{All-weaker, filter-append}
use Rattle.std.proofs.lemmas.Option.{slice_get_within, same_Some}
use Rattle.sc_record.specs.declared.slice.CoreId.{CoreId}
use Rattle.sc_cluster.proofs.ListLemmas.{filter-all, filter-none}
use Rattle.sc_bucket.specs.Kept.{Sent}
use Rattle.sc_bucket.specs.Flight.{delivered_all}
use Rattle.sc_bucket.specs.Events.{HasSameFixedParts, HasSameSplit, Delivers}
use Rattle.sc_bucket.specs.declared.bucket.Bucket.{Bucket}
use Rattle.sc_bucket.proofs.FlightLemmas.{split_get}

-- the messages that don't meet the test
abbrev others_of : (Sent → Bool) → List Sent → List Sent
others_of test messages = filter (λ (message : Sent). not (test message)) messages

-- none of the messages meets the test
abbrev pub NoneMeets : (Sent → Bool) → List Sent → Type 0
NoneMeets test messages = All (λ (message : Sent). test message ≡ false) messages

-- all messages that meet the test are delivered
pub record DeliversAll (old : Bucket) (test : Sent → Bool) (new : Bucket) : Type 0 where
  pub name : HasSameFixedParts old new
  pub split : HasSameSplit old new
  pub map_is : new.map ≡ old.map
  pub entries : new.journal.entries ≡ old.journal.entries
  pub messages : new.flight.messages ≡ others_of test old.flight.messages
  pub cores : new.replicas ≡ delivered_all (filter test old.flight.messages) old.replicas
  pub searchers_are : new.searchers ≡ old.searchers

-- the others are all where none meets it
all_others : (test : Sent → Bool) (messages : List Sent) → NoneMeets test messages → others_of test messages ≡ messages
all_others test messages none =
    filter-all (λ message. not (test message)) messages
    (All-weaker (λ (message : Sent). test message ≡ false) (λ message. not (test message) ≡ true) (λ message. ap not)
    messages none)

-- and nothing is to be done
pub DeliversAll-none : (old : Bucket) (test : Sent → Bool) → NoneMeets test old.flight.messages
    → DeliversAll old test old
DeliversAll-none old test none = record {
  name = record { first = refl; limit = refl; filed = refl };
  split = record { phase = refl; feeds = refl };
  map_is = refl;
  entries = refl;
  messages = sym (all_others test old.flight.messages none);
  cores = ap (λ messages. delivered_all messages old.replicas) (sym (filter-none test old.flight.messages none));
  searchers_are = refl;
}

-- the first one, and then the others
pub DeliversAll-first : (old : Bucket) (test : Sent → Bool) (at : ℕ) (message : Sent) (mid new : Bucket)
    → test message ≡ true → NoneMeets test (take at old.flight.messages) → Delivers old at message mid
    → DeliversAll mid test new → DeliversAll old test new
DeliversAll-first old test at message mid new meets none one rest = record {
  name = record { first = rest.name.first ∙ one.name.first; limit = rest.name.limit ∙ one.name.limit; filed = rest.name.filed ∙ one.name.filed };
  split = record { phase = rest.split.phase ∙ one.split.phase; feeds = rest.split.feeds ∙ one.split.feeds };
  map_is = rest.map_is ∙ one.map_is;
  entries = rest.entries ∙ one.entries;
  messages = rest.messages ∙ ap (others_of test) one.messages ∙ others;
  cores = rest.cores
      ∙ ap (λ messages. delivered_all (filter test messages) mid.replicas) one.messages
      ∙ ap (delivered_all (filter test (remove old.flight.messages at))) one.cores
      ∙ ap (λ messages. delivered_all messages old.replicas) (sym own);
  searchers_are = rest.searchers_are ∙ one.searchers_are;
} where
  before : List Sent
  before = take at old.flight.messages

  after : List Sent
  after = drop (suc at) old.flight.messages

  parts : old.flight.messages ≡ before ++ message ∷ after
  parts = split_get old.flight.messages at message one.found

  own_after : filter test (message ∷ after) ≡ message ∷ filter test after
  own_after = rw meets refl

  others_after : others_of test (message ∷ after) ≡ others_of test after
  others_after = rw meets refl

  own : filter test old.flight.messages ≡ message ∷ filter test (remove old.flight.messages at)
  own =
      ap (filter test) parts ∙ filter-append test before (message ∷ after)
      ∙ ap (λ these. these ++ filter test (message ∷ after)) (filter-none test before none)
      ∙ own_after
      ∙ ap (λ these. message ∷ (these ++ filter test after)) (sym (filter-none test before none))
      ∙ ap (λ these. message ∷ these) (sym (filter-append test before after))

  others : others_of test (remove old.flight.messages at) ≡ others_of test old.flight.messages
  others =
      filter-append (λ m. not (test m)) before after
      ∙ ap (λ these. others_of test before ++ these) (sym others_after)
      ∙ sym (filter-append (λ m. not (test m)) before (message ∷ after))
      ∙ ap (others_of test) (sym parts)

-- so it is where a search found the first one
pub DeliversAll-found : (old : Bucket) (test : Sent → Bool) (at : ℕ) (core : CoreId) (mid new : Bucket)
    → (message : Sent) × (slice_get old.flight.messages at ≡ Some message) × (test message ≡ true)
    × NoneMeets test (take at old.flight.messages)
    → (message : Sent) × Delivers old at message mid × (message.core ≡ core) → DeliversAll mid test new
    → DeliversAll old test new
DeliversAll-found old test at core mid new (message, found, meets, none) (other, one, to) rest =
    let same : message ≡ other = same_Some message other (sym found ∙ one.found) in
    DeliversAll-first old test at other mid new (subst (λ (m : Sent). test m ≡ true) same meets) none one rest

-- fewer are in flight
pub fewer_in_flight : (old : Bucket) (at : ℕ) (message : Sent) (new : Bucket) → Delivers old at message new
    → length new.flight.messages < length old.flight.messages
fewer_in_flight old at message new one =
    let within = slice_get_within old.flight.messages at message one.found in
    let fewer = length-remove old.flight.messages at within in
    omega (arith, fewer, ap length one.messages)
