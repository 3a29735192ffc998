-- What is true of a core that was restored of a legal journal.
use Rattle.std.proofs.Common.{◌≡◌, ◌∙◌, ◌⊎◌, inl, inr, ◌<◌, ℕ, ℤ, pos, Bool, true, false, not, ◌&&◌, cond, List, [], ◌++◌, length, map, filter, get_or, All, Contains, refl, sym, ap, subst, arith}
use Rattle.std.proofs.lemmas.Bool.{false≢true}
use Rattle.std.proofs.lemmas.List.Elements.{All-nil, All-contains}
use Rattle.sc_record.specs.Writes.{Write, write_of}
use Rattle.sc_record.specs.declared.entry.Entry.{Entry}
use Rattle.sc_cluster.specs.declared.slice.Slice.{Slice}
use Rattle.sc_cluster.specs.Slices.{is_inactive}
use Rattle.sc_cluster.specs.Map.{IsMap}
use Rattle.sc_cluster.proofs.LeaderLemmas.{same_from_id}
use Rattle.sc_cluster.proofs.ListLemmas.{Contains-map}
use Rattle.sc_replica.specs.Core.{Core}
use Rattle.sc_journal.specs.Journal.{writes}
use Rattle.sc_journal.specs.Down.{is_down}
use Rattle.sc_journal.specs.Legal.{IsLegal}
use Rattle.sc_journal.specs.Outcomes.{IsClock}
use Rattle.sc_journal.proofs.LegalDownLemmas.{leader_is_up}
use Rattle.sc_replicas.specs.Cores.{core_key}
use Rattle.sc_replicas.proofs.CoreLemmas.{element_from_map}
use Rattle.sc_bucket.specs.Kept.{Sent, FeedState}
use Rattle.sc_bucket.specs.Flight.{in_flight}
use Rattle.sc_bucket.specs.Pending.{to_feed, pending}
use Rattle.sc_bucket.specs.Sound.{IsMarked, HasLastWrites, Serves, AreWritten, HasOrAwaits, IsInRange, AreInRange, HasSpare}
use Rattle.sc_bucket.proofs.TakenLemmas.{Contains-slice_get}
use Rattle.sc_restored.specs.Marks.{is_mark}
use Rattle.sc_restored.specs.Restored.{IsRestoredCore, AreRestored}
use Rattle.sc_restored.proofs.MarkLemmas.{is_down-marks, seats-marks}
use Rattle.sc_restored.proofs.LastLemmas.{last_are_written, last_is_last}

-- the core is one of this slice, restored of the journal's writes
abbrev pub IsOf : List Entry → Slice → Core → Type 0
IsOf journal slice core = IsRestoredCore slice (filter is_mark journal) (writes journal) core

-- a core of a bucket is restored as one of its slice
pub restored_at : (slices : List Slice) (journal : List Entry) (cores : List Core) → IsMap slices
    → AreRestored slices (filter is_mark journal) (writes journal) cores → (k : ℕ) (d : Core) → k < length cores
    → (slice : Slice) → Contains slices slice → slice.id ≡ (get_or cores k d).core.slice → IsOf journal slice (get_or cores k d)
restored_at slices journal cores is_map are k d below slice there same =
    let (own, own_there, is) = are.each k d below in
    let alike : own ≡ slice = same_from_id slices own slice is_map own_there there (sym is.of_slice ∙ sym same) in
    subst (λ (s : Slice). IsOf journal s (get_or cores k d)) alike is

-- it has the mark and the number that the journal gives it
pub marked_by : (journal : List Entry) (core : Core) → IsMarked (filter is_mark journal) core → IsMarked journal core
marked_by journal core marked = record {
  down = marked.down ∙ is_down-marks journal (core_key core);
  number = marked.number ∙ ap (λ (core_in : ℕ → ℕ). core_in core.core.replica) (seats-marks journal core.core.slice);
}

-- one that leads is not down
leads_up : (first : List Slice) (journal : List Entry) (core : Core) → IsLegal first journal → IsMarked journal core
    → core.core.replica ≡ 1 → core.down ≡ false
leads_up first journal core legal marked leads =
    marked.down ∙ ap (λ (replica : ℕ). is_down journal (core.core.slice.0, replica)) leads ∙ leader_is_up first journal core.core.slice.0 legal

-- where it is not down it has the last writes
pub has_last : (first : List Slice) (journal : List Entry) (slice : Slice) (core : Core) → IsLegal first journal → IsOf journal slice core
    → core.down ≡ false → HasLastWrites journal slice core
has_last first journal slice core legal is up id inside =
    ap (λ (cells : List Write). write_of cells id) (is.filled.cells_are ∙ ap (λ (b : Bool). cond b [] is.cells) up)
    ∙ last_is_last first journal slice is.cells id legal is.last inside

-- and where it is, none
pub has_none : (journal : List Entry) (slice : Slice) (core : Core) → IsOf journal slice core → core.down ≡ true → core.cells ≡ []
has_none journal slice core is down = is.filled.cells_are ∙ ap (λ (b : Bool). cond b [] is.cells) down

-- so the leader serves
pub serves : (first : List Slice) (journal : List Entry) (slice : Slice) (core : Core) → IsLegal first journal → IsOf journal slice core
    → Serves journal slice core
serves first journal slice core legal is active leads = (
  is.filled.active,
  has_last first journal slice core legal is (leads_up first journal core legal (marked_by journal core is.filled.marked) leads),
)

-- nothing is pending for it
pending_none : (messages : List Sent) (feeds : List FeedState) (core : Core) → core.buffer ≡ [] → messages ≡ [] → feeds ≡ []
    → pending messages feeds core ≡ []
pending_none messages feeds core empty unsent unfed =
    ap (λ (sent : List Sent). in_flight sent core.core ++ core.buffer ++ to_feed feeds core.core) unsent
    ∙ ap (λ (rows : List FeedState). core.buffer ++ to_feed rows core.core) unfed
    ∙ ap (λ (buffer : List Write). buffer ++ []) empty

-- what is true of its cells is true of what is pending too
with_pending : (P : Write → Type 0) (messages : List Sent) (feeds : List FeedState) (core : Core) → core.buffer ≡ [] → messages ≡ []
    → feeds ≡ [] → All P core.cells → All P core.cells × All P (pending messages feeds core)
with_pending P messages feeds core empty unsent unfed all =
    (all, subst (All P) (sym (pending_none messages feeds core empty unsent unfed)) (All-nil P))

-- what is true of the last writes is true of its cells
of_cells : (P : Write → Type 0) (cells : List Write) (down : Bool) → All P cells → All P (cond down [] cells)
of_cells P cells true all = All-nil P
of_cells P cells false all = all

-- each is a write of the journal
pub are_written : (journal : List Entry) (slice : Slice) (core : Core) (messages : List Sent) (feeds : List FeedState)
    → IsOf journal slice core → messages ≡ [] → feeds ≡ [] → AreWritten journal messages feeds core
are_written journal slice core messages feeds is unsent unfed =
    with_pending (Contains (writes journal)) messages feeds core is.filled.buffer unsent unfed
    (subst (All (Contains (writes journal))) (sym is.filled.cells_are)
    (of_cells (Contains (writes journal)) is.cells core.down (last_are_written slice (writes journal) is.cells is.ascend is.last).0))

-- of the slice's range
pub are_in_range : (journal : List Entry) (slice : Slice) (core : Core) (messages : List Sent) (feeds : List FeedState)
    → IsOf journal slice core → messages ≡ [] → feeds ≡ [] → AreInRange messages feeds slice core
are_in_range journal slice core messages feeds is unsent unfed =
    with_pending (IsInRange slice) messages feeds core is.filled.buffer unsent unfed
    (subst (All (IsInRange slice)) (sym is.filled.cells_are)
    (of_cells (IsInRange slice) is.cells core.down (last_are_written slice (writes journal) is.cells is.ascend is.last).1))

-- a core that takes part is not down
attached_up : (inactive down : Bool) → not inactive && not down ≡ true → down ≡ false
attached_up true down takes = absurd (false≢true takes)
attached_up false true takes = absurd (false≢true takes)
attached_up false false takes = refl

-- so it has the last write of each id of the range
pub holds : (first : List Slice) (journal : List Entry) (slice : Slice) (core : Core) (messages : List Sent) (feeds : List FeedState)
    → IsLegal first journal → IsOf journal slice core → HasOrAwaits journal messages feeds slice core
holds first journal slice core messages feeds legal is attached id write inside last =
    inl (has_last first journal slice core legal is (attached_up (is_inactive slice) core.down attached) id inside ∙ last)

-- its clock is that of a write of the journal, or 0
pub has_clock : (journal : List Entry) (slice : Slice) (core : Core) → IsOf journal slice core → IsClock journal core.clock
has_clock journal slice core is = by is.filled.clock where
  version : Write → ℤ
  version write = write.version

  by : (core.clock ≡ pos 0) ⊎ Contains (map version is.cells) core.clock → IsClock journal core.clock
  by (inl none) = inl none
  by (inr there) =
      let (k, write, at, same) = element_from_map version is.cells core.clock there in
      let of_cell : Contains is.cells write = Contains-slice_get is.cells k write at in
      let written : Contains (writes journal) write =
      All-contains (Contains (writes journal)) is.cells write (last_are_written slice (writes journal) is.cells is.ascend is.last).0 of_cell in
      inr (subst (Contains (map version (writes journal))) same (Contains-map version (writes journal) write written))

-- it needs no room
pub needs_no_room : (messages : List Sent) (feeds : List FeedState) (core : Core) → core.buffer ≡ [] → messages ≡ [] → feeds ≡ []
    → HasSpare messages feeds core
needs_no_room messages feeds core empty unsent unfed =
    let sent : length (in_flight messages core.core) ≡ 0 = ap (λ (these : List Sent). length (in_flight these core.core)) unsent in
    let all : length (pending messages feeds core) ≡ 0 = ap length (pending_none messages feeds core empty unsent unfed) in
    record {
      cells = omega (arith, all);
      buffer = omega (arith, sent);
    }
