-- Which cores are down after a journal, and how many followers are not.
use Rattle.std.specs.Prelude.{◌≡◌, ℕ, ◌-◌, Bool, false, not, ◌&&◌, ◌||◌, nat_eq, List, map, filter, fold, count_by, Contains}
use Rattle.std.specs.List.{flat_map, range_with_len}
use Rattle.sc_record.specs.Names.{key_of_core, is_key}
use Rattle.sc_record.specs.declared.slice.CoreId.{CoreId}
use Rattle.sc_record.specs.declared.entry.Entry.{Entry}
use Rattle.sc_record.specs.declared.entry.Entry.TheVariants as entry
use Rattle.sc_cluster.specs.declared.slice.State.TheVariants as states
use Rattle.sc_cluster.specs.declared.slice.Slice.{Slice}
use Rattle.sc_cluster.specs.Slices.{is_inactive}

-- whether the core of this name is down after an entry; the other is whether it was before
abbrev pub down_after : ℕ × ℕ → Bool → Entry → Bool
down_after key before (entry.Down core) = is_key key (key_of_core core) || before
down_after key before (entry.Led core) = is_key key (key_of_core core) || before
down_after key before (entry.Up core) = not (is_key key (key_of_core core)) && before
down_after key before (entry.Dropped slice) = not (nat_eq key.0 slice.0) && before
down_after key before _ = before

-- The core of this name is down: an entry says that it is down, or that another took its seat's lead, after which neither one says
-- that it is up nor its slice is dropped.
abbrev pub is_down : List Entry → ℕ × ℕ → Bool
is_down journal key = fold (down_after key) false journal

-- the names of the slice's followers: its replicas from 2 on
abbrev pub follower_keys : Slice → List (ℕ × ℕ)
follower_keys slice = map (λ (replica : ℕ). (slice.id.0, replica)) (range_with_len 2 (slice.replicas - 1))

-- the followers of all slices that take writes: the active ones, and those that a split is making
abbrev pub all_followers : List Slice → List (ℕ × ℕ)
all_followers slices = flat_map follower_keys (filter (λ slice. not (is_inactive slice)) slices)

-- how many of these followers are not down
abbrev pub count_up : List Slice → List Entry → ℕ
count_up slices journal = count_by (λ (key : ℕ × ℕ). not (is_down journal key)) (all_followers slices)

-- the core is a follower of an active slice
abbrev pub IsFollower : List Slice → CoreId → Type 0
IsFollower slices core =
    (slice : Slice) × Contains slices slice × (slice.state ≡ states.Active) × Contains (follower_keys slice) (key_of_core core)
