-- The journal, the map and the searchers of a bucket once a split has begun.
use Rattle.std.proofs.Common.{◌≡◌, ◌≤◌, ◌+◌, ◌∙◌, not, true, false, List, [], ◌++◌, map, filter, All, refl, sym, ap, subst, arith}
use Rattle.std.proofs.lemmas.List.{append-nil}
use Rattle.std.proofs.lemmas.List.Elements.{All-map, All-weaker, filter-append}
use Rattle.sc_record.specs.declared.slice.SliceId.{SliceId}
use Rattle.sc_record.specs.declared.slice.SubSlice.{SubSlice}
use Rattle.sc_record.specs.declared.entry.Entry.TheVariants as entry
use Rattle.sc_cluster.specs.declared.slice.Slice.{Slice}
use Rattle.sc_cluster.specs.declared.slice.State.TheVariants as states
use Rattle.sc_cluster.specs.Slices.{is_active, is_forming, forming}
use Rattle.sc_cluster.specs.Plans.{IsPlan}
use Rattle.sc_cluster.specs.Changes.{Change, begun_slice, IsBeingSplit}
use Rattle.sc_cluster.proofs.BegunLemmas.{All-forming_begun}
use Rattle.sc_cluster.proofs.ListLemmas.{filter-none, filter-all, none_from_filter}
use Rattle.sc_cluster.proofs.MapLemmas.{begun_is_split}
use Rattle.sc_cluster.proofs.StateLemmas.{is_settled, forming-begun}
use Rattle.sc_journal.specs.Splits.{open_split, entries_of_split}
use Rattle.sc_journal.specs.Legal.{MayBeSplit}
use Rattle.sc_journal.proofs.OwedLemmas.{owed-push_begun}
use Rattle.sc_journal.proofs.SplitLemmas.{open_split-push}
use Rattle.sc_bucket.specs.Sound.{HasJournal, IsIdle, IsSplitOpen}
use Rattle.sc_bucket.specs.declared.bucket.Bucket.{Bucket}
use Rattle.sc_bucket.proofs.AcceptLemmas.{bucket_has_map}
use Rattle.sc_handover.proofs.PushedLemmas.{HasJournal-pushed}
use Rattle.sc_handover.specs.Events.{Begins}

-- the subs make no slice active
pub active-begun : (slices : List Slice) (subs : List SubSlice)
    → filter is_active (slices ++ map begun_slice subs) ≡ filter is_active slices
active-begun slices subs =
    filter-append is_active slices (map begun_slice subs)
    ∙ ap (λ (rest : List Slice). filter is_active slices ++ rest) (filter-none is_active (map begun_slice subs)
    (All-map (λ (slice : Slice). is_active slice ≡ false) begun_slice subs (λ _ _ _. refl)))
    ∙ append-nil (filter is_active slices)

-- the journal is as it has to be
pub HasJournal-begun : (old new : Bucket) (parent : SliceId) (subs : List SubSlice) → HasJournal old → IsIdle old
    → IsPlan old.map parent subs → Begins old parent subs new → new.unsettled.places ≡ old.unsettled.places
    → new.owed + 1 ≡ old.owed + entries_of_split subs → new.owed ≤ new.journal.room → HasJournal new
HasJournal-begun old new parent subs journal idle plan begins places owed_is room =
    let may : MayBeSplit old.first old.journal.entries parent subs =
    record { idle = idle.idle; plan = subst (λ slices. IsPlan slices parent subs) journal.map_is plan } in
    let more = owed-push_begun old.first old.journal.entries parent subs journal.legal may in
    HasJournal-pushed old new (entry.Begun parent subs) (Change.Begun parent subs) journal may refl refl (λ place. refl)
    (record {
      name = begins.name;
      entries = begins.entries;
      map_is = begins.map_is;
      unsettled_are = places;
      owed_is = omega (arith, owed_is, journal.owed_is, more);
      room = room;
      within = omega (arith, owed_is, journal.owed_is, begins.room);
    })

-- a split is open, and the slices that it makes come last
pub IsOpen-begun : (old new : Bucket) (parent : SliceId) (subs : List SubSlice) → HasJournal old → IsIdle old
    → IsPlan old.map parent subs → Begins old parent subs new → IsSplitOpen new parent
IsOpen-begun old new parent subs journal idle plan begins =
    let subs_are : List Slice = map begun_slice subs in
    let made = forming-begun old.map subs idle.whole in
    let before : filter is_settled old.map ≡ old.map =
    filter-all is_settled old.map
    (All-weaker (λ (slice : Slice). is_forming slice ≡ false) (λ (slice : Slice). not (is_forming slice) ≡ true)
    (λ slice is. ap not is) old.map (none_from_filter is_forming old.map idle.whole)) in
    let none : filter is_settled subs_are ≡ [] =
    filter-none is_settled subs_are
    (All-map (λ (slice : Slice). not (is_forming slice) ≡ false) begun_slice subs (λ _ _ _. refl)) in
    let rest : filter is_settled (old.map ++ subs_are) ≡ old.map =
    filter-append is_settled old.map subs_are
    ∙ ap (λ (these : List Slice). these ++ filter is_settled subs_are) before
    ∙ ap (λ (these : List Slice). old.map ++ these) none ∙ append-nil old.map in
    let last : old.map ++ subs_are
    ≡ filter is_settled (old.map ++ subs_are) ++ forming (old.map ++ subs_are) =
    ap (λ (these : List Slice). these ++ subs_are) (sym rest)
    ∙ ap (λ (these : List Slice). filter is_settled (old.map ++ subs_are) ++ these)
    (sym made) in
    record {
      begun = ap open_split begins.entries ∙ open_split-push old.journal.entries (entry.Begun parent subs);
      split = subst (λ slices. IsBeingSplit slices parent) (sym begins.map_is)
          (begun_is_split old.map parent subs (bucket_has_map old journal) plan);
      constructed = subst (λ (slices : List Slice). All (λ (slice : Slice). slice.state ≡ states.Construction)
          (forming slices))
          (sym begins.map_is) (All-forming_begun old.map subs idle.whole);
      last = subst (λ (slices : List Slice). slices ≡ filter is_settled slices ++ forming slices)
          (sym begins.map_is) last;
    }
