-- The cores of a slice, one after another, and those of slices.
use Rattle.std.proofs.Common.{◌≡◌, ◌∙◌, ℕ, ◌+◌, List, [], ◌∷◌, ◌++◌, map, filter, take, slice_get, Some, All, Contains, refl, sym, ap, subst, append_assoc}
use Rattle.std.specs.List.{range_with_len}
use Rattle.std.proofs.lemmas.List.{append-nil, map-append}
use Rattle.std.proofs.lemmas.List.Elements.{All-nil, All-push, All-append, All-weaker}
use Rattle.sc_record.specs.Writes.{Write, AscendById}
use Rattle.sc_record.specs.declared.slice.CoreId.{CoreId}
use Rattle.sc_record.specs.declared.entry.Entry.{Entry}
use Rattle.sc_snapshot.specs.Rows.{is_within}
use Rattle.sc_cluster.specs.declared.slice.Slice.{Slice}
use Rattle.sc_replica.specs.Core.{Core}
use Rattle.sc_replicas.specs.Cores.{core_key, core_keys}
use Rattle.sc_replicas.proofs.CoreLemmas.{keys-push, keys_more}
use Rattle.sc_bucket.specs.Taking.{AreLastOf}
use Rattle.sc_restored.specs.Restored.{IsFilled, IsRestoredCore, AddsCores}

-- the cores are the old ones and, after them, some of the slice of these names
pub record AddsSome (slice : Slice) (names : List (ℕ × ℕ)) (entries : List Entry) (these : List Write) (old new : List Core) : Type 0 where
  pub more : List Core
  pub added : new ≡ old ++ more
  pub keys : map core_key more ≡ names
  pub each : All (IsRestoredCore slice entries these) more

-- none at first
pub added_none : (slice : Slice) (entries : List Entry) (these : List Write) (old : List Core) → AddsSome slice [] entries these old old
added_none slice entries these old = record {
  more = [];
  added = sym (append-nil old);
  keys = refl;
  each = All-nil (IsRestoredCore slice entries these);
}

-- and one more
pub added_one : (slice : Slice) (below : ℕ) (entries : List Entry) (these cells : List Write) (old now next : List Core) (seat : CoreId)
    (core : Core) → IsFilled seat entries cells core → seat.slice ≡ slice.id → seat.replica ≡ below + 1 → AscendById cells
    → AreLastOf (filter (is_within slice.range) these) cells → next ≡ now ++ core ∷ []
    → AddsSome slice (map (λ (replica : ℕ). (slice.id.0, replica)) (range_with_len 1 below)) entries these old now
    → AddsSome slice (map (λ (replica : ℕ). (slice.id.0, replica)) (range_with_len 1 (below + 1))) entries these old next
added_one slice below entries these cells old now next seat core filled of_slice replica_is ascend last next_is so_far =
    let here : core.core.slice ≡ slice.id = ap (λ (s : CoreId). s.slice) filled.seat_is ∙ of_slice in
    let named : core_key core ≡ (slice.id.0, below + 1) =
    (λ i. ((here i).0, (ap (λ (s : CoreId). s.replica) filled.seat_is ∙ replica_is) i)) in
    let is : IsRestoredCore slice entries these core = record {
      of_slice = here;
      cells = cells;
      ascend = ascend;
      last = last;
      filled = subst (λ (s : CoreId). IsFilled s entries cells core) (sym filled.seat_is) filled;
    } in
    record {
      more = so_far.more ++ core ∷ [];
      added = next_is ∙ ap (λ (cores : List Core). cores ++ core ∷ []) so_far.added ∙ append_assoc old so_far.more (core ∷ []);
      keys = keys_more slice.id.0 below [] so_far.more core so_far.keys named;
      each = All-push (IsRestoredCore slice entries these) so_far.more core so_far.each is;
    }

-- until all are there
pub added_slice : (slice : Slice) (below : ℕ) (entries : List Entry) (these : List Write) (old new : List Core) → below ≡ slice.replicas
    → AddsSome slice (map (λ (replica : ℕ). (slice.id.0, replica)) (range_with_len 1 below)) entries these old new
    → AddsCores slice entries these old new
added_slice slice below entries these old new all is = record {
  more = is.more;
  added = is.added;
  keys = is.keys ∙ ap (λ (n : ℕ). map (λ (replica : ℕ). (slice.id.0, replica)) (range_with_len 1 n)) all;
  each = is.each;
}

-- ---- of slices
-- what is true of each core of a bucket of these slices
abbrev pub IsOfOne : List Slice → List Entry → List Write → Core → Type 0
IsOfOne slices entries these core = (slice : Slice) × Contains slices slice × IsRestoredCore slice entries these core

-- the cores of the first slices, as they are among all
pub record AreFirstRestored (slices : List Slice) (at : ℕ) (entries : List Entry) (these : List Write) (cores : List Core) : Type 0 where
  pub keys : map core_key cores ≡ core_keys (take at slices)
  pub each : All (IsOfOne slices entries these) cores

pub restored_none : (slices : List Slice) (entries : List Entry) (these : List Write) (cores : List Core) → cores ≡ []
    → AreFirstRestored slices 0 entries these cores
restored_none slices entries these cores none = record {
  keys = ap (map core_key) none;
  each = subst (All (IsOfOne slices entries these)) (sym none) (All-nil (IsOfOne slices entries these));
}

pub restored_more : (slices : List Slice) (at : ℕ) (slice : Slice) (entries : List Entry) (these : List Write) (now next : List Core)
    → slice_get slices at ≡ Some slice → Contains slices slice → AddsCores slice entries these now next
    → AreFirstRestored slices at entries these now → AreFirstRestored slices (at + 1) entries these next
restored_more slices at slice entries these now next there here adds so_far = record {
  keys = ap (map core_key) adds.added ∙ map-append core_key now adds.more
      ∙ ap (λ (keys : List (ℕ × ℕ)). keys ++ map core_key adds.more) so_far.keys
      ∙ ap (λ (keys : List (ℕ × ℕ)). core_keys (take at slices) ++ keys) adds.keys
      ∙ keys-push slices at slice there;
  each = subst (All (IsOfOne slices entries these)) (sym adds.added)
      (All-append (IsOfOne slices entries these) now adds.more so_far.each
      (All-weaker (IsRestoredCore slice entries these) (IsOfOne slices entries these) (λ core is. (slice, here, is)) adds.more adds.each));
}
