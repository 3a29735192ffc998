-- Where nothing was written the searchers that are there are taken anew once they are at the journal's end, and the bucket is committed.
use Rattle.std.proofs.Common.{◌≡◌, ◌∙◌, ℕ, ◌<◌, ◌-◌, List, [], ◌∷◌, ◌++◌, length, map, filter, refl, sym, ap, subst, All, Contains, arith, true}
use Rattle.std.specs.Arc.{arc_value}
use Rattle.std.proofs.lemmas.List.Elements.{All-contains}
use Rattle.std.proofs.lemmas.Simd.{map-map}
use Rattle.sc_hash.specs.Range.{IsWithin}
use Rattle.sc_hash.specs.declared.range.Range.{Range}
use Rattle.sc_record.specs.Writes.{Write}
use Rattle.sc_record.specs.declared.entry.Entry.TheVariants as entry
use Rattle.sc_record.specs.declared.slice.SliceId.{SliceId}
use Rattle.sc_cluster.specs.declared.slice.State.{State}
use Rattle.sc_cluster.specs.declared.slice.State.TheVariants as states
use Rattle.sc_cluster.specs.declared.slice.Slice.{Slice}
use Rattle.sc_cluster.specs.Slices.{is_active_state, is_active}
use Rattle.sc_cluster.proofs.ListLemmas.{All-from_slice_get, Contains-map, Contains-from_filter}
use Rattle.sc_bucket.specs.Events.{Commits}
use Rattle.sc_bucket.specs.Kept.{JournalState}
use Rattle.sc_replicas.specs.Searchers.{moved_to, AreMoved, HasOwnRows, StandingState, standing_of, standing_rows}
use Rattle.sc_bucket.specs.Moving.{IsUnchanged}
use Rattle.sc_bucket.specs.Room.{BucketHasRoom}
use Rattle.sc_bucket.specs.Searchers.{ShowsCommitted, IsTaken, AreTaken, ArePrepared}
use Rattle.sc_bucket.specs.Sound.{IsInRange, IsSound}
use Rattle.sc_bucket.specs.Taking.{IsLastOf}
use Rattle.sc_bucket.specs.declared.bucket.Bucket.{Bucket}
use Rattle.sc_replicas.specs.declared.standing.Standing.{Standing}
use Rattle.sc_bucket.proofs.CommitLemmas.{IsSound-committed}
use Rattle.sc_replicas.proofs.CoreLemmas.{element_from_map}
use Rattle.sc_bucket.proofs.NextLemmas.{AreCommittedOf-last, AreChangesOf-none, IsOfLeader-same}
use Rattle.sc_bucket.proofs.TakenLemmas.{Contains-slice_get}

-- a slice whose state counts as active is active
active_is : (state : State) → is_active_state state ≡ true → state ≡ states.Active
active_is states.Active test = refl
active_is states.Inactive test = cc
active_is states.Construction test = cc
active_is states.Recovery test = cc

-- the slice of a searcher, and its name
abbrev own_id : Standing → SliceId
own_id searcher = searcher.slice

abbrev id_of : StandingState → SliceId
id_of searcher = searcher.slice

-- the searcher at this place
abbrev moved : ℕ → Standing → StandingState
moved place searcher = moved_to place (standing_of searcher)

-- they are of the same slices
same_ids : (place : ℕ) (old new : List Standing) → AreMoved place old new → map own_id new ≡ map own_id old
same_ids place old new are =
    sym (map-map id_of standing_of new) ∙ ap (map id_of) are ∙ map-map id_of (moved place) old

-- a searcher that is at this place was another before
moved_from : (place : ℕ) (old new : List Standing) (searcher : Standing) → AreMoved place old new → Contains new searcher
    → (last : Standing) × Contains old last × (standing_of searcher ≡ moved place last)
moved_from place old new searcher are there =
    let seen : Contains (map (moved place) old) (standing_of searcher) =
    subst (λ (these : List StandingState). Contains these (standing_of searcher)) are (Contains-map standing_of new searcher there) in
    let (k, last, at, is) = element_from_map (moved place) old (standing_of searcher) seen in
    (last, Contains-slice_get old k last at, sym is)

-- the searcher that the last one is at the journal's end is taken there
taken_again : (b : Bucket) (last searcher : Standing) → IsSound b → IsUnchanged b → Contains b.searchers last
    → standing_of searcher ≡ moved (length b.journal.entries) last → IsTaken b.map b.replicas (length b.journal.entries) searcher
taken_again b last searcher sound unchanged there same =
    let place = length b.journal.entries in
    let named : Contains (map (λ (slice : Slice). slice.id) (filter is_active b.map)) last.slice =
    subst (λ (ids : List SliceId). Contains ids last.slice) sound.searchers.each_slice (Contains-map own_id b.searchers last there) in
    let (k, slice, at, is) = element_from_map (λ (one : Slice). one.id) (filter is_active b.map) last.slice named in
    let (in_map, counts) = Contains-from_filter is_active b.map slice (Contains-slice_get (filter is_active b.map) k slice at) in
    let active = active_is slice.state counts in
    let shows = All-contains (λ (s : Standing). (one : Slice) → Contains b.map one → one.id ≡ s.slice
    → (s.range ≡ one.range) × ShowsCommitted b.journal.entries one (standing_rows s)) b.searchers last sound.searchers.show there slice in_map is in
    let own = All-contains HasOwnRows b.searchers last unchanged.own there in
    let within : All (IsInRange slice) (standing_rows last) =
    subst (λ (range : Range). All (λ (row : Write). IsWithin range.min range.max row.hash) (standing_rows last)) shows.0 own.within in
    let last_is : IsLastOf b slice last = record { there = in_map; active = active; kept = there; of_slice = sym is } in
    let committed = AreCommittedOf-last b slice last sound last_is within in
    let none = AreChangesOf-none b.journal.entries slice unchanged.written in
    let leader = IsOfLeader-same b slice (arc_value last.snapshot) place (arc_value searcher.snapshot) sound committed none own.rows refl
    (ap (λ (s : StandingState). s.snapshot) same) in
    record {
      slice = slice;
      there = in_map;
      active = active;
      slice_is = ap id_of same ∙ sym is;
      range_is = ap (λ (s : StandingState). s.range) same ∙ shows.0;
      core = leader.core;
      core_there = leader.there;
      leader = leader.leader;
      snapshot_is = leader.snapshot_is;
    }

-- so all are
pub AreTaken-moved : (b : Bucket) (searchers : List Standing) → IsSound b → IsUnchanged b
    → AreMoved (length b.journal.entries) b.searchers searchers → AreTaken b.map b.replicas (length b.journal.entries) searchers
AreTaken-moved b searchers sound unchanged are =
    let place = length b.journal.entries in
    record {
      each_slice = same_ids place b.searchers searchers are ∙ sound.searchers.each_slice;
      taken = All-from_slice_get (IsTaken b.map b.replicas place) searchers
          (λ k searcher at.
          let (last, there, same) = moved_from place b.searchers searchers searcher are (Contains-slice_get searchers k searcher at) in
          taken_again b last searcher sound unchanged there same);
    }

-- and a switch still leaves none
pub ArePrepared-moved : (b : Bucket) (searchers : List Standing) → IsSound b → IsUnchanged b → ArePrepared b.phase b.map searchers b.spares
ArePrepared-moved b searchers sound unchanged =
    subst (λ phase. ArePrepared phase b.map searchers b.spares) (sym unchanged.idle)
    (subst (λ phase. ArePrepared phase b.map b.searchers b.spares) unchanged.idle sound.prepared)

-- once the entry that commits is at the end of its journal the bucket was committed, and is sound
pub committed-moved : (b : Bucket) (searchers : List Standing) (journal : JournalState) → IsSound b → IsUnchanged b
    → b.owed < b.journal.room → BucketHasRoom 1 b → AreMoved (length b.journal.entries) b.searchers searchers
    → journal ≡ record b.journal { entries = b.journal.entries ++ entry.Committed ∷ []; room = b.journal.room - 1 }
    → Commits b (record b { searchers = searchers; journal = journal }) × IsSound (record b { searchers = searchers; journal = journal })
committed-moved b searchers journal sound unchanged memory room moved longer =
    let left = ap (λ (j : JournalState). j.room) longer in
    let commits : Commits b (record b { searchers = searchers; journal = journal }) = record {
      name = record { first = refl; limit = refl; filed = ap (λ (j : JournalState). j.filed) longer };
      split = record { phase = refl; feeds = refl };
      map_is = refl;
      room = room;
      entries = ap (λ (j : JournalState). j.entries) longer;
      messages = refl;
      cores = refl;
      searchers_are = AreTaken-moved b searchers sound unchanged moved;
    } in (
      commits,
      IsSound-committed b (record b { searchers = searchers; journal = journal }) sound commits (record {
        unsettled_are = refl;
        owed_is = refl;
        room = omega (arith, left, memory);
        prepared = ArePrepared-moved b searchers sound unchanged;
      }),
    )
