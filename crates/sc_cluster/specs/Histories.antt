-- What becomes of a map by one change after another.
use Rattle.std.specs.Prelude.{◌≡◌, ◌<◌, ◌≤◌, ◌⊎◌, ℕ, ◌+◌, IsTrue, length, sum_by, List, [], ◌∷◌, ⊤, Bool, true, false, count_by, All, Contains}
use Rattle.sc_record.specs.declared.slice.SliceId.{SliceId}
use Rattle.sc_record.specs.declared.slice.SubSlice.{SubSlice}
use Rattle.sc_cluster.specs.declared.slice.State.TheVariants as states
use Rattle.sc_cluster.specs.declared.slice.Slice.{Slice}
use Rattle.sc_cluster.specs.Slices.{forming, greatest_id}
use Rattle.sc_cluster.specs.Map.{IsMap, IsSplitting}
use Rattle.sc_cluster.specs.Changes.{Change, after, MayChange}

-- the map after all the changes
abbrev pub after_all : List Slice → List Change → List Slice
after_all slices [] = slices
after_all slices (change ∷ changes) = after_all (after slices change) changes

-- each change is allowed where it comes
abbrev pub AreAllowed : List Slice → List Change → Type 0
AreAllowed slices [] = ⊤
AreAllowed slices (change ∷ changes) = MayChange slices change × AreAllowed (after slices change) changes

-- the change begins a split
abbrev pub begins : Change → Bool
begins (Change.Begun parent subs) = true
begins _ = false

-- the change ends a split
abbrev pub ends : Change → Bool
ends (Change.Switched parent) = true
ends (Change.Failed parent) = true
ends _ = false

-- however a map is changed, it is a map, and so its active ranges tile all hashes
abbrev pub KeepsAMap : Type 0
KeepsAMap = (slices : List Slice) (changes : List Change) → IsMap slices → AreAllowed slices changes
    → IsMap (after_all slices changes)

-- at most one split is open: where none was at first, as many have ended as have begun, or all but one
abbrev pub OpensOneSplit : Type 0
OpensOneSplit = (slices : List Slice) (changes : List Change) → IsMap slices → forming slices ≡ [] → AreAllowed slices changes
    → (count_by begins changes ≡ count_by ends changes) ⊎ (count_by begins changes ≡ count_by ends changes + 1)

-- a map has no two splits open at once
abbrev pub HasOneParent : Type 0
HasOneParent = (slices : List Slice) (one other : Slice) → IsMap slices
    → IsSplitting slices one → IsSplitting slices other → one ≡ other

-- whatever was done since a slice was active, also where it was dropped, its id is below those of a split that begins
abbrev pub UsesNoIdAgain : Type 0
UsesNoIdAgain = (slices : List Slice) (changes : List Change) (slice : Slice) (parent : SliceId) (subs : List SubSlice)
    → IsMap slices → AreAllowed slices changes → Contains slices slice → slice.state ≡ states.Active
    → MayChange (after_all slices changes) (Change.Begun parent subs)
    → All (λ (sub : SubSlice). slice.id.0 < sub.id.0) subs

-- how many subs a change begins to make
abbrev pub subs_begun : Change → ℕ
subs_begun (Change.Begun parent subs) = length subs
subs_begun _ = 0

-- no id is above the greatest one at first by more than the number of all subs that splits have begun to make
abbrev pub CountsIdsUp : Type 0
CountsIdsUp = (slices : List Slice) (changes : List Change) → AreAllowed slices changes
    → greatest_id (after_all slices changes) ≤ greatest_id slices + sum_by subs_begun changes

-- a split that has begun and failed leaves the slices as they were
abbrev pub UndoesAFailedSplit : Type 0
UndoesAFailedSplit = (slices : List Slice) (parent : SliceId) (subs : List SubSlice)
    → MayChange slices (Change.Begun parent subs)
    → after_all slices (Change.Begun parent subs ∷ Change.Failed parent ∷ []) ≡ slices

-- what the end of a split leaves is the same whether it went on to recovery or not
abbrev pub MayLeaveRecoveryOut : Type 0
MayLeaveRecoveryOut = (slices : List Slice) (parent : SliceId) (end : Change) → IsTrue (ends end)
    → after_all slices (Change.Recovering parent ∷ end ∷ []) ≡ after slices end
