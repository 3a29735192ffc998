-- What is true of the cores of a bucket once the one that leads a hash led a write.
use Rattle.std.proofs.Common.{◌≡◌, ◌≢◌, ℕ, ℤ, Bool, true, false, cond, List, [], ◌∷◌, ◌++◌, set, Some, refl, sym, ap, ◌∙◌, subst, All, Contains, IsTrue, slice_get, ◌⊎◌, inl, inr, arith}
use Rattle.std.specs.declared.sync.Arc.{Arc}
use Rattle.std.specs.declared.alloc.Global.{Global}
use Rattle.std.proofs.lemmas.List.Elements.{All-contains, All-weaker, Contains-append_left, Contains-push}
use Rattle.std.proofs.lemmas.Bool.Decides.{not_from_Decides}
use Rattle.std.proofs.lemmas.Option.{same_Some}
use Rattle.sc_hash.specs.Bounds.{contains}
use Rattle.sc_hash.specs.Range.{IsWithin}
use Rattle.sc_hash.proofs.BoundsLemmas.{contains-Decides}
use Rattle.sc_record.specs.Writes.{is_of, write_of, Write}
use Rattle.sc_record.specs.declared.slice.SliceId.{SliceId}
use Rattle.sc_record.specs.declared.slice.CoreId.{CoreId}
use Rattle.sc_record.specs.declared.entry.Entry.{Entry}
use Rattle.sc_record.specs.declared.entry.Entry.TheVariants as entry
use Rattle.sc_router.specs.Route.{route_hash}
use Rattle.sc_cluster.specs.declared.slice.Slice.{Slice}
use Rattle.sc_cluster.specs.Slices.{is_active}
use Rattle.sc_cluster.specs.Map.{least_hash, greatest_hash, IsMap, Leads}
use Rattle.sc_cluster.proofs.ItemLemmas.{count_by-positive}
use Rattle.sc_cluster.proofs.LeaderLemmas.{is_leader, leads_alone, same_from_id}
use Rattle.sc_cluster.proofs.TileLemmas.{holders-filter}
use Rattle.sc_replica.specs.Cells.{put}
use Rattle.sc_replica.specs.Core.{Core, led}
use Rattle.sc_replica.proofs.CellLemmas.{write_of-put}
use Rattle.sc_replica.proofs.CoreLemmas.{All-put}
use Rattle.sc_journal.specs.Journal.{writes, last_write}
use Rattle.sc_journal.specs.Outcomes.{IsClock}
use Rattle.sc_journal.proofs.JournalLemmas.{id_from_is_of, writes-push_write, last_write-push_write, last_write-push_write_other}
use Rattle.sc_journal.proofs.VersionLemmas.{IsClock-append, IsClock-push_write}
use Rattle.sc_bucket.specs.Kept.{Sent, FeedState}
use Rattle.sc_record.specs.Names.{is_core}
use Rattle.sc_replicas.specs.Cores.{is_attached, followers, IsLeaderAt}
use Rattle.sc_bucket.specs.Flight.{sent_to}
use Rattle.sc_bucket.specs.Pending.{pending}
use Rattle.sc_bucket.specs.Sound.{Serves, AreWritten, HasOrAwaits, IsInRange, AreInRange}
use Rattle.sc_replicas.proofs.CoreLemmas.{AreApart, same_name_by, is_core-Decides, core_alone}
use Rattle.sc_bucket.proofs.SoundLemmas.{All-slice_get}
use Rattle.sc_bucket.proofs.PlaceLemmas.{All-set_apart}
use Rattle.sc_bucket.proofs.TakenLemmas.{Contains-slice_get}
use Rattle.sc_bucket.proofs.PendingLemmas.{All-pending_sent, pending-stays, pending-sent}
use Rattle.sc_bucket.proofs.FollowerLemmas.{IsFollower, are_followers, is_follower}

-- a write of a journal is one of it with one entry more
pub Contains-writes_push : (journal : List Entry) (cell : Arc Write Global) (write : Write) → Contains (writes journal) write
    → Contains (writes (journal ++ entry.Write cell ∷ [])) write
Contains-writes_push journal cell write there =
    subst (λ (ws : List Write). Contains ws write) (sym (writes-push_write journal cell))
    (Contains-append_left (writes journal) (cell.value ∷ []) write there)

-- it is true of each core and its slice
abbrev pub OfSlices : List Slice → (Slice → Core → Type 0) → Core → Type 0
OfSlices slices P core = (slice : Slice) → Contains slices slice → slice.id ≡ core.core.slice → P slice core

-- what is true of the cores of a bucket with this map, this journal, these messages and these feeds
pub record AreSound (slices : List Slice) (journal : List Entry) (messages : List Sent) (feeds : List FeedState)
    (cores : List Core) : Type 0 where
  pub leaders : All (OfSlices slices (Serves journal)) cores
  pub written : All (AreWritten journal messages feeds) cores
  pub held : All (OfSlices slices (HasOrAwaits journal messages feeds)) cores
  pub in_range : All (OfSlices slices (AreInRange messages feeds)) cores
  pub clocks : All (λ (core : Core). IsClock journal core.clock) cores

-- a hash that a slice leads is a hash
pub leads_within : (slices : List Slice) (h : ℤ) (slice : Slice) → IsMap slices → Leads slices h slice
    → IsWithin least_hash greatest_hash h
leads_within slices h slice is_map leads = by (contains h (least_hash, greatest_hash)) refl where
  passes : is_leader h slice ≡ true
  passes = rw (leads.active, (contains-Decides h slice.range.min slice.range.max).1 leads.within) refl

  by : (b : Bool) → contains h (least_hash, greatest_hash) ≡ b → IsWithin least_hash greatest_hash h
  by true is = (contains-Decides h least_hash greatest_hash).0 is
  by false is =
      let none = is_map.tile.outside h (not_from_Decides (contains h (least_hash, greatest_hash)) (contains-Decides h least_hash greatest_hash) is) in
      let some = count_by-positive (is_leader h) slices slice leads.there passes in
      absurd (omega (arith, none, some, holders-filter h is_active slices))

-- of a core that led a write each id has its last write
led_serves : (slices : List Slice) (journal : List Entry) (core : Core) (slice : Slice) (cell : Arc Write Global)
    → OfSlices slices (Serves journal) core → OfSlices slices (Serves (journal ++ entry.Write cell ∷ [])) (led core cell.value)
led_serves slices journal core slice cell serves other there named active first =
    let before = serves other there named active first in
    (before.0, λ id within. by id (is_of id cell.value) refl (before.1 id within)) where
      by : (id : List ℕ) (b : Bool) → is_of id cell.value ≡ b → write_of core.cells id ≡ last_write journal id
          → write_of (put core.cells cell.value) id ≡ last_write (journal ++ entry.Write cell ∷ []) id
      by id true is last =
          write_of-put core.cells cell.value id ∙ ap (λ b. cond b (Some cell.value) (write_of core.cells id)) is
          ∙ sym (last_write-push_write journal cell id is)
      by id false is last =
          write_of-put core.cells cell.value id ∙ ap (λ b. cond b (Some cell.value) (write_of core.cells id)) is ∙ last
          ∙ sym (last_write-push_write_other journal cell id is)

-- another core, whose slice doesn't lead the hash of the write, still has the last writes
other_serves : (slices : List Slice) (journal : List Entry) (other : Core) (cell : Arc Write Global)
    → cell.value.hash ≡ route_hash cell.value.id
    → ((slice : Slice) → Leads slices cell.value.hash slice → slice.id ≡ other.core.slice → other.core.replica ≡ 1 → ⊥)
    → OfSlices slices (Serves journal) other → OfSlices slices (Serves (journal ++ entry.Write cell ∷ [])) other
other_serves slices journal other cell hashed apart serves slice there named active first =
    let before = serves slice there named active first in
    (before.0, λ id within. by id (is_of id cell.value) refl within (before.1 id within)) where
      by : (id : List ℕ) (b : Bool) → is_of id cell.value ≡ b → IsWithin slice.range.min slice.range.max (route_hash id)
          → write_of other.cells id ≡ last_write journal id
          → write_of other.cells id ≡ last_write (journal ++ entry.Write cell ∷ []) id
      by id false is within last = last ∙ sym (last_write-push_write_other journal cell id is)
      by id true is within last =
          let same : route_hash id ≡ cell.value.hash = ap route_hash (sym (id_from_is_of id cell.value is)) ∙ sym hashed in
          let leads : Leads slices cell.value.hash slice = record {
            there = there;
            active = active;
            within = subst (IsWithin slice.range.min slice.range.max) same within;
          } in
          absurd (apart slice leads named first)

-- what was written stays written, and so is what is sent
AreWritten-sent : (journal : List Entry) (messages : List Sent) (cell : Arc Write Global) (place : ℕ)
    (names : List CoreId)
    (feeds : List FeedState) (core : Core) → AreWritten journal messages feeds core
    → AreWritten (journal ++ entry.Write cell ∷ []) (messages ++ sent_to place cell.value names) feeds core
AreWritten-sent journal messages cell place names feeds core before =
    let here : Contains (writes (journal ++ entry.Write cell ∷ [])) cell.value =
    subst (λ (ws : List Write). Contains ws cell.value) (sym (writes-push_write journal cell)) (Contains-push (writes journal) cell.value) in (
      All-weaker (Contains (writes journal)) (Contains (writes (journal ++ entry.Write cell ∷ []))) (λ w. Contains-writes_push journal cell w) core.cells before.0,
      All-pending_sent (Contains (writes (journal ++ entry.Write cell ∷ []))) messages place cell.value names feeds core
          (All-weaker (Contains (writes journal)) (Contains (writes (journal ++ entry.Write cell ∷ []))) (λ w. Contains-writes_push journal cell w)
          (pending messages feeds core) before.1) (λ other there same. here),
    )

-- what is sent to a core is in the range of its slice
sent_in_range : (slices : List Slice) (cores : List Core) (write : Write) (leader : CoreId) (core : Core) (slice : Slice) (name : CoreId)
    → IsMap slices → Contains slices slice → slice.id ≡ core.core.slice → Contains (followers slices cores write.hash leader) name
    → is_core core.core name ≡ true → IsInRange slice write
sent_in_range slices cores write leader core slice name is_map there named sent same =
    let follower = All-contains (IsFollower slices cores write.hash leader) (followers slices cores write.hash leader) name
    (are_followers slices cores write.hash leader) sent in
    let alike : core.core ≡ name = (is_core-Decides core.core name).0 same in
    let numbers : slice.id.0 ≡ follower.slice.id.0 =
    ap (λ (id : SliceId). id.0) named ∙ ap (λ (id : CoreId). id.slice.0) alike ∙ follower.of_slice in
    let ids : slice.id ≡ follower.slice.id = ap (λ (n : ℕ). record { 0 = n }) numbers in
    let one : slice ≡ follower.slice = same_from_id slices slice follower.slice is_map there follower.there ids in
    subst (λ (s : Slice). IsWithin s.range.min s.range.max write.hash) (sym one) follower.within

-- of each id the core that led the write has the last write, or awaits it
led_holds : (slices : List Slice) (journal : List Entry) (messages sent : List Sent) (feeds : List FeedState)
    (core : Core) (cell : Arc Write Global)
    → OfSlices slices (HasOrAwaits journal messages feeds) core
    → OfSlices slices (HasOrAwaits (journal ++ entry.Write cell ∷ []) (messages ++ sent) feeds) (led core cell.value)
led_holds slices journal messages sent feeds core cell holds slice there named attached id write within last =
    by (is_of id cell.value) refl where
      Held : Type 0
      Held = (write_of (put core.cells cell.value) id ≡ Some write) ⊎ Contains (pending (messages ++ sent) feeds core) write

      stays : (write_of (put core.cells cell.value) id ≡ write_of core.cells id)
          → (write_of core.cells id ≡ Some write) ⊎ Contains (pending messages feeds core) write → Held
      stays same (inl has) = inl (same ∙ has)
      stays same (inr awaits) = inr (pending-stays messages sent feeds core write awaits)

      by : (b : Bool) → is_of id cell.value ≡ b → Held
      by true is =
          inl (write_of-put core.cells cell.value id ∙ ap (λ b. cond b (Some cell.value) (write_of core.cells id)) is
          ∙ sym (last_write-push_write journal cell id is) ∙ last)
      by false is =
          stays (write_of-put core.cells cell.value id ∙ ap (λ b. cond b (Some cell.value) (write_of core.cells id)) is)
          (holds slice there named attached id write within (sym (last_write-push_write_other journal cell id is) ∙ last))

-- and so of any other core, which is sent the write where it is to have it
other_holds : (slices : List Slice) (journal : List Entry) (messages : List Sent) (place : ℕ) (names : List CoreId)
    (feeds : List FeedState) (core : Core) (cell : Arc Write Global) → cell.value.hash ≡ route_hash cell.value.id
    → ((slice : Slice) → Contains slices slice → slice.id ≡ core.core.slice → IsTrue (is_attached slice core)
    → IsWithin slice.range.min slice.range.max cell.value.hash → Contains names core.core)
    → OfSlices slices (HasOrAwaits journal messages feeds) core
    → OfSlices slices
    (HasOrAwaits (journal ++ entry.Write cell ∷ []) (messages ++ sent_to place cell.value names) feeds) core
other_holds slices journal messages place names feeds core cell hashed gets holds slice there named attached id write within last =
    by (is_of id cell.value) refl where
      sent : List Sent
      sent = sent_to place cell.value names

      Held : Type 0
      Held = (write_of core.cells id ≡ Some write) ⊎ Contains (pending (messages ++ sent) feeds core) write

      stays : (write_of core.cells id ≡ Some write) ⊎ Contains (pending messages feeds core) write → Held
      stays (inl has) = inl has
      stays (inr awaits) = inr (pending-stays messages sent feeds core write awaits)

      by : (b : Bool) → is_of id cell.value ≡ b → Held
      by true is =
          let same : cell.value ≡ write = same_Some cell.value write (sym (last_write-push_write journal cell id is) ∙ last) in
          let hash : route_hash id ≡ cell.value.hash = ap route_hash (sym (id_from_is_of id cell.value is)) ∙ sym hashed in
          let among = gets slice there named attached (subst (IsWithin slice.range.min slice.range.max) hash within) in
          inr (subst (Contains (pending (messages ++ sent) feeds core)) same
          (pending-sent messages place cell.value names feeds core among))
      by false is = stays (holds slice there named attached id write within (sym (last_write-push_write_other journal cell id is) ∙ last))

-- the cores are sound once the one that leads the hash of a write led it, and it was sent to those that follow
pub AreSound-led : (slices : List Slice) (journal : List Entry) (messages : List Sent) (feeds : List FeedState)
    (cores : List Core) (at place : ℕ) (cell : Arc Write Global)
    → IsMap slices → cell.value.hash ≡ route_hash cell.value.id → AreApart cores
    → AreSound slices journal messages feeds cores
    → (leader : IsLeaderAt slices cores cell.value.hash at)
    → AreSound slices (journal ++ entry.Write cell ∷ [])
    (messages ++ sent_to place cell.value (followers slices cores cell.value.hash leader.core.core)) feeds
    (set cores at (led leader.core cell.value))
AreSound-led slices journal messages feeds cores at place cell is_map hashed distinct sound leader = record {
  leaders = All-set_apart (OfSlices slices (Serves longer)) cores at (led core cell.value)
      (led_serves slices journal core slice cell (of (OfSlices slices (Serves journal)) sound.leaders))
      (λ k other apart there. other_serves slices journal other cell hashed (no_other k other apart there)
      (All-slice_get (OfSlices slices (Serves journal)) cores k other sound.leaders there));
  written = All-set_apart (AreWritten longer more feeds) cores at (led core cell.value) written_led
      (λ k other apart there. AreWritten-sent journal messages cell place names feeds other
      (All-slice_get (AreWritten journal messages feeds) cores k other sound.written there));
  held = All-set_apart (OfSlices slices (HasOrAwaits longer more feeds)) cores at (led core cell.value)
      (led_holds slices journal messages (sent_to place cell.value names) feeds core cell
      (of (OfSlices slices (HasOrAwaits journal messages feeds)) sound.held))
      (λ k other apart there. other_holds slices journal messages place names feeds other cell hashed
      (gets k other apart there)
      (All-slice_get (OfSlices slices (HasOrAwaits journal messages feeds)) cores k other sound.held there));
  in_range = All-set_apart (OfSlices slices (AreInRange more feeds)) cores at (led core cell.value)
      (λ other there named. (
        All-put (IsInRange other) core.cells cell.value
            (of (OfSlices slices (AreInRange messages feeds)) sound.in_range other there named).0
            (here_in_range other there named),
        All-pending_sent (IsInRange other) messages place cell.value names feeds core
            (of (OfSlices slices (AreInRange messages feeds)) sound.in_range other there named).1
            (λ name among same. sent_in_range slices cores cell.value core.core core other name is_map there named among same),
      ))
      (λ k other apart there one inside named.
      let before = All-slice_get (OfSlices slices (AreInRange messages feeds)) cores k other sound.in_range
      there one inside named in (
        before.0,
        All-pending_sent (IsInRange one) messages place cell.value names feeds other before.1
            (λ name among same. sent_in_range slices cores cell.value core.core other one name is_map inside named among same),
      ));
  clocks = All-set_apart (λ (other : Core). IsClock longer other.clock) cores at (led core cell.value) (IsClock-push_write journal cell)
      (λ k other apart there. IsClock-append journal (entry.Write cell ∷ []) other.clock (All-slice_get (λ (other : Core). IsClock journal other.clock) cores k other sound.clocks there));
} where
  core : Core
  core = leader.core

  slice : Slice
  slice = leader.slice

  names : List CoreId
  names = followers slices cores cell.value.hash leader.core.core

  longer : List Entry
  longer = journal ++ entry.Write cell ∷ []

  more : List Sent
  more = messages ++ sent_to place cell.value names

  of : (P : Core → Type 0) → All P cores → P core
  of P all = All-slice_get P cores at core all leader.found

  no_other : (k : ℕ) (other : Core) → k ≢ at → slice_get cores k ≡ Some other → (one : Slice)
      → Leads slices cell.value.hash one → one.id ≡ other.core.slice → other.core.replica ≡ 1 → ⊥
  no_other k other apart there one one_leads named first =
      let same : one ≡ slice = leads_alone slices cell.value.hash one slice is_map (leads_within slices cell.value.hash slice is_map leader.leads) one_leads leader.leads in
      let ids : other.core.slice ≡ core.core.slice = sym named ∙ ap (λ (s : Slice). s.id) same ∙ sym leader.leader.0 in
      apart (core_alone cores k at other core distinct there leader.found
      (same_name_by other.core core.core (ap (λ (id : SliceId). id.0) ids) (first ∙ sym leader.leader.1)))

  gets : (k : ℕ) (other : Core) → k ≢ at → slice_get cores k ≡ Some other → (one : Slice) → Contains slices one → one.id ≡ other.core.slice
      → IsTrue (is_attached one other) → IsWithin one.range.min one.range.max cell.value.hash → Contains names other.core
  gets k other apart there one inside named attached within =
      is_follower slices cores cell.value.hash core.core other one inside attached within
      (Contains-slice_get cores k other there) (ap (λ (id : SliceId). id.0) (sym named)) (differs (is_core core.core other.core) refl) where
        differs : (b : Bool) → is_core core.core other.core ≡ b → is_core core.core other.core ≡ false
        differs false is = is
        differs true is =
            absurd (apart (core_alone cores k at other core distinct there leader.found
            (sym ((is_core-Decides core.core other.core).0 is))))

  written_here : Contains (writes longer) cell.value
  written_here = subst (λ (ws : List Write). Contains ws cell.value) (sym (writes-push_write journal cell)) (Contains-push (writes journal) cell.value)

  written_led : AreWritten longer more feeds (led core cell.value)
  written_led =
      let before = AreWritten-sent journal messages cell place names feeds core
      (of (AreWritten journal messages feeds) sound.written) in
      (All-put (Contains (writes longer)) core.cells cell.value before.0 written_here, before.1)

  here_in_range : (other : Slice) → Contains slices other → other.id ≡ core.core.slice → IsInRange other cell.value
  here_in_range other there named =
      let same : slice ≡ other = same_from_id slices slice other is_map leader.leads.there there (sym leader.leader.0 ∙ sym named) in
      subst (λ (s : Slice). IsWithin s.range.min s.range.max cell.value.hash) same leader.leads.within
