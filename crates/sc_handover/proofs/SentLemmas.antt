-- The messages of a bucket are as they have to be where its journal got an entry that settles none.
use Rattle.std.proofs.Common.{◌≡◌, List, [], ◌∷◌, ◌++◌, map, All, Contains, refl, sym, ap, ◌∙◌, subst}
use Rattle.std.specs.Prelude.{IsSome}
use Rattle.std.specs.List.{IsDistinct}
use Rattle.std.proofs.lemmas.List.{map-append}
use Rattle.std.proofs.lemmas.List.Elements.{All-weaker, Contains-append_left}
use Rattle.sc_record.specs.Names.{key_of_core}
use Rattle.sc_record.specs.declared.slice.CoreId.{CoreId}
use Rattle.sc_record.specs.declared.entry.Entry.{Entry}
use Rattle.sc_replica.specs.Core.{Core}
use Rattle.sc_journal.specs.Journal.{write_at, is_settled}
use Rattle.sc_journal.specs.Down.{is_down}
use Rattle.sc_journal.proofs.DownLemmas.{LeavesCores, is_down-left}
use Rattle.sc_journal.proofs.JournalLemmas.{write_at-append, write_at_within}
use Rattle.sc_journal.proofs.SettledLemmas.{SettlesNothing, is_settled-push_other}
use Rattle.sc_bucket.specs.Kept.{Sent}
use Rattle.sc_bucket.specs.Flight.{is_same_message}
use Rattle.sc_bucket.specs.Sound.{IsSent, AreSent}
use Rattle.sc_bucket.specs.declared.bucket.Bucket.{Bucket}
use Rattle.sc_replicas.proofs.CoreLemmas.{name_of}

-- a message whose core is there then, and is down no more than before, is of a write that is not settled still
pub IsSent-push : (old new : Bucket) (one : Entry) (message : Sent)
    → new.journal.entries ≡ old.journal.entries ++ one ∷ [] → SettlesNothing one
    → is_down (old.journal.entries ++ one ∷ []) (key_of_core message.core) ≡ is_down old.journal.entries (key_of_core message.core)
    → Contains (map name_of new.replicas) message.core → IsSent old message → IsSent new message
IsSent-push old new one message entries none same_down there sent = record {
  write = ap (λ (these : List Entry). write_at these message.place) entries
      ∙ write_at-append old.journal.entries (one ∷ []) message.place
      (write_at_within old.journal.entries message.place (subst IsSome (sym sent.write) refl))
      ∙ sent.write;
  unsettled = ap (λ (these : List Entry). is_settled these message.place) entries
      ∙ is_settled-push_other old.journal.entries one message.place none
      ∙ sent.unsettled;
  core = there;
  up = ap (λ (these : List Entry). is_down these (key_of_core message.core)) entries ∙ same_down ∙ sent.up;
}

-- so is each where the messages are the same, the entry says nothing of any core, and cores may have come
pub AreSent-more : (old new : Bucket) (one : Entry) (made : List Core) → AreSent old
    → new.journal.entries ≡ old.journal.entries ++ one ∷ [] → SettlesNothing one
    → LeavesCores one → new.replicas ≡ old.replicas ++ made → new.flight.messages ≡ old.flight.messages → AreSent new
AreSent-more old new one made sent entries none leaves cores_are same = record {
  each = subst (All (IsSent new)) (sym same)
      (All-weaker (IsSent old) (IsSent new)
      (λ message is. IsSent-push old new one message entries none
      (is_down-left old.journal.entries one (key_of_core message.core) leaves) (still message.core is.core) is)
      old.flight.messages sent.each);
  once = subst (IsDistinct is_same_message) (sym same) sent.once;
} where
  still : (name : CoreId) → Contains (map name_of old.replicas) name → Contains (map name_of new.replicas) name
  still name there =
      subst (λ (names : List CoreId). Contains names name)
      (sym (ap (map name_of) cores_are ∙ map-append name_of old.replicas made))
      (Contains-append_left (map name_of old.replicas) (map name_of made) name there)
