-- Searchers show what was committed as long as nothing more is committed; and those of a new bucket show nothing.
use Rattle.std.proofs.Common.{ℕ, ◌≡◌, ◌∙◌, List, [], map, refl, sym, ap, subst, All, Contains, arith}
use Rattle.std.specs.List.Sorted.{IsStrictlySortedBy}
use Rattle.std.proofs.lemmas.List.Elements.{All-nil, All-weaker, All-contains}
use Rattle.std.proofs.lemmas.Option.{slice_get_within, get_or_from_slice_get}
use Rattle.std.specs.Arc.{arc_value}
use Rattle.sc_record.specs.Writes.{Write}
use Rattle.sc_record.specs.declared.entry.Entry.{Entry}
use Rattle.sc_snapshot.specs.Rows.{SnapshotState, AreRows}
use Rattle.sc_cluster.specs.declared.slice.Slice.{Slice}
use Rattle.sc_cluster.specs.Map.{IsMap}
use Rattle.sc_cluster.proofs.LeaderLemmas.{same_from_id}
use Rattle.sc_replica.specs.Core.{Core}
use Rattle.sc_journal.specs.Journal.{writes, last_write}
use Rattle.sc_journal.specs.Committed.{committed, last_commit}
use Rattle.sc_replicas.specs.Cores.{core_key, IsNewCore}
use Rattle.sc_replicas.specs.Searchers.{standing_rows}
use Rattle.sc_bucket.specs.Searchers.{AreOfEachSlice, ShowsCommitted, IsTaken, AreTaken, AreLed}
use Rattle.sc_bucket.specs.Sound.{HasSearchers}
use Rattle.sc_bucket.specs.declared.bucket.Bucket.{Bucket}
use Rattle.sc_replicas.specs.declared.standing.Standing.{Standing}
use Rattle.sc_replicas.proofs.CoreLemmas.{element_from_map, IsLeaderOf-from_key}

-- each write of the one journal is one of the other
abbrev pub KeepsWrites : List Entry → List Entry → Type 0
KeepsWrites old new = (write : Write) → Contains (writes old) write → Contains (writes new) write

-- rows that show what was committed in a journal show it in one with more writes, where no more was committed
ShowsCommitted-grown : (old new : List Entry) (slice : Slice) (rows : List Write) → committed new ≡ committed old → KeepsWrites old new
    → ShowsCommitted old slice rows → ShowsCommitted new slice rows
ShowsCommitted-grown old new slice rows same kept shows = record {
  written = All-weaker (Contains (writes old)) (Contains (writes new)) kept rows shows.written;
  last = λ id within. shows.last id within ∙ ap (λ journal. last_write journal id) (sym same);
}

-- what is true of the searchers of each slice of a map
abbrev pub Show : List Slice → List Entry → Standing → Type 0
Show slices journal searcher = (slice : Slice) → Contains slices slice → slice.id ≡ searcher.slice
    → (searcher.range ≡ slice.range) × ShowsCommitted journal slice (standing_rows searcher)

-- the searcher was taken at this place of the journal
abbrev pub IsAt : ℕ → Standing → Type 0
IsAt place searcher = (arc_value searcher.snapshot).place ≡ place

-- those that were taken there are
pub AreAt-taken : (slices : List Slice) (cores : List Core) (place : ℕ) (searchers : List Standing)
    → All (IsTaken slices cores place) searchers → All (IsAt place) searchers
AreAt-taken slices cores place searchers taken =
    All-weaker (IsTaken slices cores place) (IsAt place)
    (λ searcher is. ap (λ (snapshot : SnapshotState). snapshot.place) is.snapshot_is) searchers taken

-- a bucket has its searchers still, where the map and the searchers stay, and the journal gets no entry that commits
pub HasSearchers-grown : (old new : Bucket) → new.map ≡ old.map → new.searchers ≡ old.searchers
    → last_commit new.journal.entries ≡ last_commit old.journal.entries
    → committed new.journal.entries ≡ committed old.journal.entries → KeepsWrites old.journal.entries new.journal.entries
    → HasSearchers old → HasSearchers new
HasSearchers-grown old new same_map same_searchers same_place same_committed kept has = record {
  each_slice = subst (λ slices. AreOfEachSlice slices new.searchers) (sym same_map)
      (subst (AreOfEachSlice old.map) (sym same_searchers) has.each_slice);
  show = subst (λ slices. All (Show slices new.journal.entries) new.searchers) (sym same_map)
      (subst (All (Show old.map new.journal.entries)) (sym same_searchers)
      (All-weaker (Show old.map old.journal.entries) (Show old.map new.journal.entries) still old.searchers has.show));
  place = subst (λ place. All (IsAt place) new.searchers) (sym same_place)
      (subst (All (IsAt (last_commit old.journal.entries))) (sym same_searchers) has.place);
} where
  still : (searcher : Standing) → Show old.map old.journal.entries searcher → Show old.map new.journal.entries searcher
  still searcher shows slice there same =
      let now = shows slice there same in
      (now.0, ShowsCommitted-grown old.journal.entries new.journal.entries slice (standing_rows searcher) same_committed kept now.1)

-- where the journal stays too
pub HasSearchers-same : (old new : Bucket) → new.map ≡ old.map → new.searchers ≡ old.searchers
    → new.journal.entries ≡ old.journal.entries → HasSearchers old → HasSearchers new
HasSearchers-same old new same_map same_searchers same_entries has =
    HasSearchers-grown old new same_map same_searchers (ap last_commit same_entries) (ap committed same_entries)
    (λ write there. subst (λ (entries : List Entry). Contains (writes entries) write) (sym same_entries) there) has

-- each slice of a map has a core that leads it, where there is a core of each leader's name
pub AreLed-from_keys : (slices : List Slice) (cores : List Core)
    → All (λ (slice : Slice). Contains (map core_key cores) (slice.id.0, 1)) slices → AreLed slices cores
AreLed-from_keys slices cores leaders slice there active =
    let named =
    All-contains (λ (one : Slice). Contains (map core_key cores) (one.id.0, 1)) slices slice leaders there in
    let (k, core, at, is) = element_from_map core_key cores (slice.id.0, 1) named in
    (core, (k, slice_get_within cores k core at, get_or_from_slice_get cores k core core at), IsLeaderOf-from_key slice.id core is)

-- no cells may be rows
pub no_rows : AreRows []
unfolding IsStrictlySortedBy
no_rows = record { ascend = tt; bounded = omega arith }

-- the searchers of new cores show nothing, as nothing was committed
pub HasSearchers-new : (b : Bucket) (first : List Slice) (cores : List Core) → IsMap first → b.map ≡ first → b.journal.entries ≡ []
    → All IsNewCore cores → AreTaken first cores 0 b.searchers → HasSearchers b
HasSearchers-new b first cores is_map same_map empty new taken = record {
  each_slice = subst (λ slices. AreOfEachSlice slices b.searchers) (sym same_map) taken.each_slice;
  show = subst (λ slices. All (Show slices b.journal.entries) b.searchers) (sym same_map)
      (subst (λ journal. All (Show first journal) b.searchers) (sym empty)
      (All-weaker (IsTaken first cores 0) (Show first []) shows b.searchers taken.taken));
  place = subst (λ place. All (IsAt place) b.searchers) (sym (ap last_commit empty)) (AreAt-taken first cores 0 b.searchers taken.taken);
} where
  shows : (searcher : Standing) → IsTaken first cores 0 searcher → Show first [] searcher
  shows searcher is slice there same =
      let alike : is.slice ≡ slice = same_from_id first is.slice slice is_map is.there there (sym is.slice_is ∙ sym same) in
      let (k, below, core_is) = is.core_there in
      let none : is.core.cells ≡ [] = (subst IsNewCore core_is (new k is.core below)).cells in
      let rows : standing_rows searcher ≡ [] = ap (λ (snapshot : SnapshotState). snapshot.rows) is.snapshot_is ∙ none in (
        is.range_is ∙ ap (λ (s : Slice). s.range) alike,
        subst (ShowsCommitted [] slice) (sym rows) (record {
          written = All-nil (Contains (writes []));
          last = λ id within. refl;
        }),
      )
