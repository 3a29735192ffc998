-- A follower of an active slice for which nothing is pending has the cells of its leader.
use Rattle.std.proofs.Common.{◌≡◌, ◌⊎◌, inl, inr, ◌∙◌, ℕ, suc, Bool, true, false, cond, not, ◌&&◌, IsTrue, List, [], ◌∷◌, find, Option, Some, None, Contains, refl, sym, ap, subst, arith}
use Rattle.std.proofs.lemmas.List.Elements.{All-contains}
use Rattle.std.proofs.lemmas.Option.{none-some, same_Some}
use Rattle.sc_hash.specs.Range.{IsWithin}
use Rattle.sc_router.specs.Route.{route_hash}
use Rattle.sc_record.specs.Writes.{is_of, write_of, Write}
use Rattle.sc_cluster.specs.declared.slice.State.TheVariants as states
use Rattle.sc_cluster.specs.declared.slice.Slice.{Slice}
use Rattle.sc_cluster.proofs.ListLemmas.{Contains-filter}
use Rattle.sc_replica.specs.Core.{Core}
use Rattle.sc_replica.proofs.ConvergeLemmas.{same-cells}
use Rattle.sc_journal.specs.Journal.{writes, writes_of, last_write}
use Rattle.sc_cluster.specs.Slices.{is_inactive_state}
use Rattle.sc_journal.proofs.JournalLemmas.{id_from_is_of, last_write_none}
use Rattle.sc_journal.proofs.LegalLemmas.{legal_hash}
use Rattle.sc_journal.specs.Down.{is_down}
use Rattle.sc_replicas.specs.Cores.{core_key, is_attached, IsCoreWithoutRoom}
use Rattle.sc_bucket.specs.Pending.{pending}
use Rattle.sc_bucket.specs.Sound.{Serves, HasLastWrites, AreWritten, HasOrAwaits, AreInRange, IsInRange, IsMarked, IsSound}
use Rattle.sc_bucket.specs.declared.bucket.Bucket.{Bucket}
use Rattle.sc_world.specs.Laws.{FollowersCatchUp, RejoinedCatchUp}

-- what is found is in the list and passes
find-found : {A : Type 0} (p : A → Bool) (xs : List A) (x : A) → find p xs ≡ Some x → Contains xs x × (p x ≡ true)
find-found p [] x found = absurd (none-some x found)
find-found {A} p (y ∷ ys) x found = by (p y) refl found (find-found p ys x) where
  by : (t : Bool) → p y ≡ t → cond {A = Option A} t (Some y) (find p ys) ≡ Some x → (find p ys ≡ Some x → Contains ys x × (p x ≡ true))
      → Contains (y ∷ ys) x × (p x ≡ true)
  by true passes is rest = let same : y ≡ x = same_Some y x is in ((0, omega arith, same), ap p (sym same) ∙ passes)
  by false fails is rest = let later = rest is in ((suc later.0.0, omega (arith, later.0.1), later.0.2), later.1)

-- a core of a slice of the map, and the slice
record IsOfSlice (b : Bucket) (slice : Slice) (core : Core) : Type 0 where
  there : Contains b.map slice
  core_there : Contains b.replicas core
  of_slice : slice.id ≡ core.core.slice

-- a cell of the core of an id is a write of it in the journal
cell_is_written : (b : Bucket) (core : Core) (id : List ℕ) (cell : Write) → IsSound b → Contains b.replicas core
    → write_of core.cells id ≡ Some cell → Contains (writes b.journal.entries) cell × (is_of id cell ≡ true)
cell_is_written b core id cell sound there is =
    let found = find-found (is_of id) core.cells cell is in
    let written = All-contains (AreWritten b.journal.entries b.flight.messages b.feeds) b.replicas core sound.written there in
    (All-contains (Contains (writes b.journal.entries)) core.cells cell written.0 found.0, found.1)

-- an id that has a cell has its hash in the slice's range
id_is_within : (b : Bucket) (slice : Slice) (core : Core) (id : List ℕ) (cell : Write) → IsSound b → IsOfSlice b slice core
    → write_of core.cells id ≡ Some cell → IsWithin slice.range.min slice.range.max (route_hash id)
id_is_within b slice core id cell sound of is =
    let found = find-found (is_of id) core.cells cell is in
    let written = cell_is_written b core id cell sound of.core_there is in
    let ranged = All-contains (λ (c : Core). (s : Slice) → Contains b.map s → s.id ≡ c.core.slice → AreInRange b.flight.messages b.feeds s c)
    b.replicas core sound.in_range of.core_there slice of.there of.of_slice in
    let within = All-contains (IsInRange slice) core.cells cell ranged.0 found.0 in
    subst (IsWithin slice.range.min slice.range.max)
    (legal_hash b.first b.journal.entries cell sound.journal.legal written.0 ∙ ap route_hash (id_from_is_of id cell written.1)) within

-- with nothing pending the core of an active slice, which is not down, has the last writes
has_last_writes : (b : Bucket) (slice : Slice) (core : Core) → IsSound b → IsOfSlice b slice core → slice.state ≡ states.Active
    → is_down b.journal.entries (core_key core) ≡ false → pending b.flight.messages b.feeds core ≡ []
    → HasLastWrites b.journal.entries slice core
has_last_writes b slice core sound of active up nothing id within = by (last_write b.journal.entries id) refl where
  attached : IsTrue (is_attached slice core)
  attached =
      ap (λ state. not (is_inactive_state state) && not core.down) active
      ∙ ap not ((All-contains (IsMarked b.journal.entries) b.replicas core sound.cores.marked of.core_there).down ∙ up)

  held : HasOrAwaits b.journal.entries b.flight.messages b.feeds slice core
  held =
      All-contains (λ (c : Core). (s : Slice) → Contains b.map s → s.id ≡ c.core.slice
      → HasOrAwaits b.journal.entries b.flight.messages b.feeds s c)
      b.replicas core sound.held of.core_there slice of.there of.of_slice

  has : (write : Write) → (write_of core.cells id ≡ Some write) ⊎ Contains (pending b.flight.messages b.feeds core) write
      → write_of core.cells id ≡ Some write
  has write (inl cell) = cell
  has write (inr waits) = let none : Contains [] write = subst (λ these. Contains these write) nothing waits in absurd (omega (arith, none.1))

  no_cell : (found : Option Write) → write_of core.cells id ≡ found → last_write b.journal.entries id ≡ None → found ≡ None
  no_cell None is never = refl
  no_cell (Some cell) is never =
      let written = cell_is_written b core id cell sound of.core_there is in
      let among : Contains (writes_of b.journal.entries id) cell =
      Contains-filter (is_of id) (writes b.journal.entries) cell written.0 written.1 in
      let none : Contains [] cell = subst (λ these. Contains these cell) (last_write_none b.journal.entries id never) among in
      absurd (omega (arith, none.1))

  by : (last : Option Write) → last_write b.journal.entries id ≡ last → write_of core.cells id ≡ last_write b.journal.entries id
  by (Some write) is = has write (held attached id write within is) ∙ sym is
  by None is = no_cell (write_of core.cells id) refl is ∙ sym is

pub followers_catch_up : FollowersCatchUp
followers_catch_up b slice leader follower sound there active leader_there leads follower_there follows up nothing =
    same-cells follower.cells leader.cells
    (All-contains IsCoreWithoutRoom b.replicas follower sound.in_order follower_there).ascends
    (All-contains IsCoreWithoutRoom b.replicas leader sound.in_order leader_there).ascends
    (λ id. by id (write_of follower.cells id) (write_of leader.cells id) refl refl)
  where
    of_leader : IsOfSlice b slice leader
    of_leader = record { there = there; core_there = leader_there; of_slice = sym leads.0 }

    of_follower : IsOfSlice b slice follower
    of_follower = record { there = there; core_there = follower_there; of_slice = sym follows }

    has : HasLastWrites b.journal.entries slice leader
    has =
        (All-contains (λ (core : Core). (s : Slice) → Contains b.map s → s.id ≡ core.core.slice → Serves b.journal.entries s core)
        b.replicas leader sound.leaders leader_there slice there (sym leads.0) active leads.1).1

    alike : (id : List ℕ) → IsWithin slice.range.min slice.range.max (route_hash id) → write_of follower.cells id ≡ write_of leader.cells id
    alike id within = has_last_writes b slice follower sound of_follower active up nothing id within ∙ sym (has id within)

    by : (id : List ℕ) (mine theirs : Option Write) → write_of follower.cells id ≡ mine → write_of leader.cells id ≡ theirs
        → write_of follower.cells id ≡ write_of leader.cells id
    by id None None mine theirs = mine ∙ sym theirs
    by id (Some cell) theirs mine is = alike id (id_is_within b slice follower id cell sound of_follower mine)
    by id None (Some cell) mine theirs = alike id (id_is_within b slice leader id cell sound of_leader theirs)

-- so has one that rejoined
pub rejoined_catch_up : RejoinedCatchUp
rejoined_catch_up old rejoined last name between added slice leader core can is runs sound there of_name active leader_there leads core_there
    follows number up nothing =
    followers_catch_up last slice leader core sound there active leader_there leads core_there follows up nothing
