-- The journal of a bucket is as it has to be with one entry more that is no write and settles none.
use Rattle.std.proofs.Common.{◌≡◌, ◌∙◌, ◌+◌, ◌≤◌, ◌^◌, false, [], ◌∷◌, ◌++◌, length, Some, None, sym, ap, subst, arith}
use Rattle.std.proofs.lemmas.List.{length_push}
use Rattle.std.proofs.lemmas.List.Elements.{All-weaker}
use Rattle.sc_record.specs.declared.entry.Entry.{Entry}
use Rattle.sc_cluster.specs.declared.slice.State.TheVariants as states
use Rattle.sc_cluster.specs.declared.slice.Slice.{Slice}
use Rattle.sc_cluster.specs.Slices.{is_forming, forming}
use Rattle.sc_cluster.specs.Map.{IsMap}
use Rattle.sc_cluster.specs.Changes.{Change, after}
use Rattle.sc_cluster.proofs.ListLemmas.{filter-none}
use Rattle.sc_cluster.proofs.StateLemmas.{active_settled}
use Rattle.sc_journal.specs.Journal.{as_write, unsettled}
use Rattle.sc_journal.specs.Legal.{MayFollow, IsLegal}
use Rattle.sc_journal.specs.Splits.{map_change_of, map_after, owed}
use Rattle.sc_journal.proofs.LegalLemmas.{IsLegal-push}
use Rattle.sc_journal.proofs.SettledLemmas.{SettlesNothing, unsettled-push_other}
use Rattle.sc_journal.proofs.SplitLemmas.{map_after-push}
use Rattle.sc_bucket.specs.Sound.{AreActive, HasJournal}
use Rattle.sc_bucket.specs.Events.{HasSameFixedParts}
use Rattle.sc_bucket.specs.declared.bucket.Bucket.{Bucket}

-- no split was open at first
pub first_is_idle : (b : Bucket) → HasJournal b → forming b.first ≡ []
first_is_idle b journal =
    filter-none is_forming b.first
    (All-weaker (λ (slice : Slice). slice.state ≡ states.Active) (λ slice. is_forming slice ≡ false) active_settled b.first
    journal.begins)

-- The journal got the entry, the map is that after it, what is owed is counted, and that and the entry have their room.
pub record IsLonger (old : Bucket) (one : Entry) (new : Bucket) : Type 0 where
  pub name : HasSameFixedParts old new
  pub entries : new.journal.entries ≡ old.journal.entries ++ one ∷ []
  pub map_is : new.map ≡ map_after old.first (old.journal.entries ++ one ∷ [])
  pub unsettled_are : new.unsettled.places ≡ old.unsettled.places
  pub owed_is : new.owed ≡ owed old.first (old.journal.entries ++ one ∷ [])
  pub room : new.owed ≤ new.journal.room
  pub within : length old.journal.entries + 1 + new.owed ≤ old.limit

pub HasJournal-longer : (old new : Bucket) (one : Entry) → HasJournal old → MayFollow old.first old.journal.entries one
    → as_write one ≡ None → SettlesNothing one → IsLonger old one new → HasJournal new
HasJournal-longer old new one journal may no_write none longer =
    let legal : IsLegal old.first (old.journal.entries ++ one ∷ []) =
    IsLegal-push old.first old.journal.entries one journal.legal may in
    let count : length new.journal.entries ≡ length old.journal.entries + 1 =
    ap length longer.entries ∙ length_push old.journal.entries one in
    record {
      first = subst IsMap (sym longer.name.first) journal.first;
      begins = subst AreActive (sym longer.name.first) journal.begins;
      legal = subst (λ first. IsLegal first new.journal.entries) (sym longer.name.first)
          (subst (IsLegal old.first) (sym longer.entries) legal);
      map_is = longer.map_is ∙ ap (map_after old.first) (sym longer.entries)
          ∙ ap (λ first. map_after first new.journal.entries) (sym longer.name.first);
      unsettled_are = longer.unsettled_are ∙ journal.unsettled_are
          ∙ sym (unsettled-push_other old.journal.entries one no_write none) ∙ ap unsettled (sym longer.entries);
      owed_is = longer.owed_is ∙ ap (owed old.first) (sym longer.entries)
          ∙ ap (λ first. owed first new.journal.entries) (sym longer.name.first);
      room = longer.room;
      within = omega (arith, count, longer.within, longer.name.limit);
      limit_from = omega (arith, longer.name.limit, journal.limit_from);
      limit_to = subst (λ limit. limit ≤ 2 ^ 24) (sym longer.name.limit) journal.limit_to;
    }

-- The journal got the entry, the map changed so, what is owed is counted, and that and the entry have their room.
pub record IsPushed (old : Bucket) (one : Entry) (change : Change) (new : Bucket) : Type 0 where
  pub name : HasSameFixedParts old new
  pub entries : new.journal.entries ≡ old.journal.entries ++ one ∷ []
  pub map_is : new.map ≡ after old.map change
  pub unsettled_are : new.unsettled.places ≡ old.unsettled.places
  pub owed_is : new.owed ≡ owed old.first (old.journal.entries ++ one ∷ [])
  pub room : new.owed ≤ new.journal.room
  pub within : length old.journal.entries + 1 + new.owed ≤ old.limit

pub HasJournal-pushed : (old new : Bucket) (one : Entry) (change : Change) → HasJournal old
    → MayFollow old.first old.journal.entries one → map_change_of one ≡ Some change → as_write one ≡ None
    → SettlesNothing one → IsPushed old one change new → HasJournal new
HasJournal-pushed old new one change journal may change_is no_write none pushed =
    HasJournal-longer old new one journal may no_write none (record {
      name = pushed.name;
      entries = pushed.entries;
      map_is = pushed.map_is ∙ ap (λ slices. after slices change) journal.map_is
          ∙ sym (map_after-push old.first old.journal.entries one change change_is);
      unsettled_are = pushed.unsettled_are;
      owed_is = pushed.owed_is;
      room = pushed.room;
      within = pushed.within;
    })
