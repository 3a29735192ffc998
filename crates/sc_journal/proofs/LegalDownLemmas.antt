-- Which cores of a legal journal are not down: those that lead, those of slices that a split is making, and those of no slice.
use Rattle.std.proofs.Common.{◌≡◌, ◌≢◌, ◌∙◌, ℕ, ◌<◌, ◌≤◌, Bool, true, false, not, List, [], ◌∷◌, ◌++◌, map, filter, All, Contains, Some, slice_get, refl, sym, ap, subst, arith}
use Rattle.std.specs.List.{flat_map}
use Rattle.std.proofs.lemmas.Bool.{ne_eqb, false≢true}
use Rattle.std.proofs.lemmas.List.Elements.{All-contains, All-weaker, All-contains_itself, Contains-append_left}
use Rattle.std.proofs.lemmas.Option.{slice_get-get_or}
use Rattle.sc_record.specs.Names.{key_of_core, is_key}
use Rattle.sc_record.specs.declared.slice.SliceId.{SliceId}
use Rattle.sc_record.specs.declared.slice.SubSlice.{SubSlice}
use Rattle.sc_record.specs.declared.slice.CoreId.{CoreId}
use Rattle.sc_record.specs.declared.entry.Entry.{Entry}
use Rattle.sc_record.specs.declared.entry.Entry.TheVariants as entry
use Rattle.sc_cluster.specs.declared.slice.Slice.{Slice}
use Rattle.sc_cluster.specs.Slices.{is_forming, greatest_id}
use Rattle.sc_cluster.specs.Map.{IsMap}
use Rattle.sc_cluster.specs.Changes.{Change, after, begun_slice, switched_slice}
use Rattle.sc_cluster.specs.Plans.{IsPlan}
use Rattle.sc_cluster.proofs.IdLemmas.{id_of, greatest_id-bounds}
use Rattle.sc_cluster.proofs.ListLemmas.{Contains-map, Contains-filter}
use Rattle.sc_cluster.proofs.OrderLemmas.{same_from_rising_key}
use Rattle.sc_cluster.proofs.PairLemmas.{Contains-from_map}
use Rattle.sc_cluster.proofs.StateLemmas.{is_settled, is_other, active_settled, is_forming-switched, switched_keeps}
use Rattle.sc_journal.specs.Down.{is_down, follower_keys, IsFollower}
use Rattle.sc_journal.specs.Legal.{MayFollow, IsLegal}
use Rattle.sc_journal.specs.Laws.{DownAreFollowers}
use Rattle.sc_journal.specs.Splits.{map_change_of, map_after}
use Rattle.sc_journal.proofs.DownLemmas.{LeavesCores, LeavesCores-write, LeavesCores-settled, LeavesCores-committed, LeavesCores-begun, LeavesCores-switched, LeavesCores-failed, is_down-left, is_down-push_dropped, is_down-push_dropped_own, is_down-push_down_other, is_down-push_led_other, is_down-push_up_other, same_from_is_key}
use Rattle.sc_journal.proofs.FollowerLemmas.{follower_is}
use Rattle.sc_journal.proofs.LegalLemmas.{legal_induction}
use Rattle.sc_journal.proofs.SumLemmas.{All-joined}
use Rattle.sc_journal.proofs.SplitLemmas.{map_after-push, map_after-left, LeavesSlices, LeavesSlices-write, LeavesSlices-settled, LeavesSlices-committed, LeavesSlices-down, LeavesSlices-up, LeavesSlices-led}

-- the core is a follower of a slice that is there, and that no split is making
abbrev pub MayBeDown : List Slice → ℕ × ℕ → Type 0
MayBeDown slices key = (slice : Slice) × Contains slices slice × (is_forming slice ≡ false) × Contains (follower_keys slice) key

-- so is each core that is down
abbrev DownFit : List Slice → List Entry → Type 0
DownFit first journal = (key : ℕ × ℕ) → is_down journal key ≡ true → MayBeDown (map_after first journal) key

-- a follower of an active slice may
follower_fits : (slices : List Slice) (core : CoreId) → IsFollower slices core → MayBeDown slices (key_of_core core)
follower_fits slices core (slice, there, active, follower) = (slice, there, active_settled slice active, follower)

-- after an entry that leaves the slices, where each core that is down was, or may be
down_left : (first : List Slice) (journal : List Entry) (one : Entry) → LeavesSlices one
    → ((key : ℕ × ℕ) → is_down (journal ++ one ∷ []) key ≡ true → MayBeDown (map_after first journal) key)
    → DownFit first (journal ++ one ∷ [])
down_left first journal one leaves fits key down =
    subst (λ slices. MayBeDown slices key) (sym (map_after-left first journal one leaves)) (fits key down)

-- after one that leaves slices and cores
down_same : (first : List Slice) (journal : List Entry) (one : Entry) → LeavesSlices one → LeavesCores one
    → DownFit first journal → DownFit first (journal ++ one ∷ [])
down_same first journal one leaves leaves_cores fits =
    down_left first journal one leaves (λ key down. fits key (sym (is_down-left journal one key leaves_cores) ∙ down))

-- after one that changes the slices
down_changed : (first : List Slice) (journal : List Entry) (one : Entry) (change : Change)
    → map_change_of one ≡ Some change
    → ((key : ℕ × ℕ) → is_down (journal ++ one ∷ []) key ≡ true → MayBeDown (after (map_after first journal) change) key)
    → DownFit first (journal ++ one ∷ [])
down_changed first journal one change is fits key down =
    subst (λ slices. MayBeDown slices key) (sym (map_after-push first journal one change is)) (fits key down)

-- a core that this one's name is not, or the core of that name
by_key : (P : ℕ × ℕ → Type 0) (own key : ℕ × ℕ) → P own → (is_key key own ≡ false → P key) → P key
by_key P own key here elsewhere = by (is_key key own) refl where
  by : (t : Bool) → is_key key own ≡ t → P key
  by true is = subst P (sym (same_from_is_key key own is)) here
  by false is = elsewhere is

down_begun : (first : List Slice) (journal : List Entry) (parent : SliceId) (subs : List SubSlice)
    → DownFit first journal → DownFit first (journal ++ entry.Begun parent subs ∷ [])
down_begun first journal parent subs fits =
    let one : Entry = entry.Begun parent subs in
    down_changed first journal one (Change.Begun parent subs) refl (λ key down. by (fits key
    (sym (is_down-left journal one key (LeavesCores-begun parent subs)) ∙ down))) where
      by : {key : ℕ × ℕ} → MayBeDown (map_after first journal) key
          → MayBeDown (map_after first journal ++ map begun_slice subs) key
      by (slice, there, settled, follower) =
          (slice, Contains-append_left (map_after first journal) (map begun_slice subs) slice there, settled, follower)

down_switched : (first : List Slice) (journal : List Entry) (parent : SliceId)
    → DownFit first journal → DownFit first (journal ++ entry.Switched parent ∷ [])
down_switched first journal parent fits =
    let one : Entry = entry.Switched parent in
    down_changed first journal one (Change.Switched parent) refl (λ key down. by (fits key
    (sym (is_down-left journal one key (LeavesCores-switched parent)) ∙ down))) where
      by : {key : ℕ × ℕ} → MayBeDown (map_after first journal) key
          → MayBeDown (map (switched_slice parent) (map_after first journal)) key
      by {key} (slice, there, settled, follower) = (
        switched_slice parent slice,
        Contains-map (switched_slice parent) (map_after first journal) slice there,
        is_forming-switched parent slice,
        subst (λ (keys : List (ℕ × ℕ)). Contains keys key)
            (sym (switched_keeps follower_keys (λ _ _. refl) parent slice)) follower,
      )

down_failed : (first : List Slice) (journal : List Entry) (parent : SliceId)
    → DownFit first journal → DownFit first (journal ++ entry.Failed parent ∷ [])
down_failed first journal parent fits =
    let one : Entry = entry.Failed parent in
    down_changed first journal one (Change.Failed parent) refl (λ key down. by (fits key
    (sym (is_down-left journal one key (LeavesCores-failed parent)) ∙ down))) where
      by : {key : ℕ × ℕ} → MayBeDown (map_after first journal) key
          → MayBeDown (filter is_settled (map_after first journal)) key
      by (slice, there, settled, follower) =
          (slice, Contains-filter is_settled (map_after first journal) slice there (ap not settled), settled, follower)

down_dropped : (first : List Slice) (journal : List Entry) (dropped : SliceId)
    → DownFit first journal → DownFit first (journal ++ entry.Dropped dropped ∷ [])
down_dropped first journal dropped fits =
    let one : Entry = entry.Dropped dropped in
    down_changed first journal one (Change.Dropped dropped) refl (λ key down.
    by key (other key down) (fits key (sym (is_down-push_dropped journal dropped key (other key down)) ∙ down)))
  where
    other : (key : ℕ × ℕ) → is_down (journal ++ entry.Dropped dropped ∷ []) key ≡ true → key.0 ≢ dropped.0
    other key down own = false≢true (sym (is_down-push_dropped_own journal dropped key own) ∙ down)

    by : (key : ℕ × ℕ) → key.0 ≢ dropped.0 → MayBeDown (map_after first journal) key
        → MayBeDown (filter (is_other dropped) (map_after first journal)) key
    by key differs (slice, there, settled, follower) =
        let of_slice = (follower_is slice key follower).0 in
        let stays : is_other dropped slice ≡ true =
        ap not (ne_eqb slice.id.0 dropped.0 (λ is. differs (of_slice ∙ is))) in
        (slice, Contains-filter (is_other dropped) (map_after first journal) slice there stays, settled, follower)

down_push : (first : List Slice) (journal : List Entry) (one : Entry) → IsLegal first journal
    → MayFollow first journal one → DownFit first journal → DownFit first (journal ++ one ∷ [])
down_push first journal (entry.Write cell) legal may fits =
    down_same first journal (entry.Write cell) (LeavesSlices-write cell) (LeavesCores-write cell) fits
down_push first journal (entry.Settled place) legal may fits =
    down_same first journal (entry.Settled place) (LeavesSlices-settled place) (LeavesCores-settled place) fits
down_push first journal entry.Committed legal may fits =
    down_same first journal entry.Committed LeavesSlices-committed LeavesCores-committed fits
down_push first journal (entry.Begun parent subs) legal may fits = down_begun first journal parent subs fits
down_push first journal (entry.Switched parent) legal may fits = down_switched first journal parent fits
down_push first journal (entry.Failed parent) legal may fits = down_failed first journal parent fits
down_push first journal (entry.Dropped slice) legal may fits = down_dropped first journal slice fits
down_push first journal (entry.Down core) legal may fits =
    let slices = map_after first journal in
    down_left first journal (entry.Down core) (LeavesSlices-down core) (λ key down.
    by_key (MayBeDown slices) (key_of_core core) key (follower_fits slices core may.follower)
    (λ other. fits key (sym (is_down-push_down_other journal core key other) ∙ down)))
down_push first journal (entry.Led core) legal may fits =
    let slices = map_after first journal in
    down_left first journal (entry.Led core) (LeavesSlices-led core) (λ key down.
    by_key (MayBeDown slices) (key_of_core core) key (follower_fits slices core may.follower)
    (λ other. fits key (sym (is_down-push_led_other journal core key other) ∙ down)))
down_push first journal (entry.Up core) legal may fits =
    let slices = map_after first journal in
    down_left first journal (entry.Up core) (LeavesSlices-up core) (λ key down.
    by_key (MayBeDown slices) (key_of_core core) key (follower_fits slices core may.follower)
    (λ other. fits key (sym (is_down-push_up_other journal core key other) ∙ down)))

-- each core that is down in a legal journal is a follower of a slice that is there, and that no split is making
pub legal_down : (first : List Slice) (journal : List Entry) (key : ℕ × ℕ) → IsLegal first journal
    → is_down journal key ≡ true → MayBeDown (map_after first journal) key
legal_down first journal key legal =
    legal_induction first (DownFit first) (λ key down. absurd (false≢true down)) (down_push first) journal legal key

pub down_are_followers : DownAreFollowers
down_are_followers first journal key is_map idle legal = legal_down first journal key legal

-- a core is not down where it can't be
pub is_up : (first : List Slice) (journal : List Entry) (key : ℕ × ℕ) → IsLegal first journal
    → (MayBeDown (map_after first journal) key → is_down journal key ≡ false) → is_down journal key ≡ false
is_up first journal key legal unless = by (is_down journal key) refl where
  by : (t : Bool) → is_down journal key ≡ t → is_down journal key ≡ false
  by false is = is
  by true is = unless (legal_down first journal key legal is)

-- a core that leads is not down
pub leader_is_up : (first : List Slice) (journal : List Entry) (slice : ℕ) → IsLegal first journal
    → is_down journal (slice, 1) ≡ false
leader_is_up first journal slice legal =
    is_up first journal (slice, 1) legal (λ (other, there, settled, follower).
    let number = follower_is other (slice, 1) follower in absurd (omega (arith, number.1)))

-- nor one of a slice that is not there
pub absent_is_up : (first : List Slice) (journal : List Entry) (key : ℕ × ℕ) → IsLegal first journal
    → ((slice : Slice) → Contains (map_after first journal) slice → slice.id.0 ≢ key.0) → is_down journal key ≡ false
absent_is_up first journal key legal absent =
    is_up first journal key legal (λ (slice, there, settled, follower).
    absurd (absent slice there (sym (follower_is slice key follower).0)))

-- nor one of a slice that a split is making
pub forming_is_up : (first : List Slice) (journal : List Entry) (slice : Slice) (key : ℕ × ℕ) → IsLegal first journal
    → IsMap (map_after first journal) → Contains (map_after first journal) slice → is_forming slice ≡ true
    → key.0 ≡ slice.id.0 → is_down journal key ≡ false
forming_is_up first journal slice key legal is_map inside forming own =
    is_up first journal key legal (λ (other, there, settled, follower).
    let same : other ≡ slice =
    same_from_rising_key id_of (map_after first journal) other slice is_map.ids there inside
    (sym (follower_is other key follower).0 ∙ own) in
    absurd (false≢true (sym settled ∙ ap is_forming same ∙ forming)))

-- nor one of a slice with an id above those that are there
pub fresh_is_up : (first : List Slice) (journal : List Entry) (key : ℕ × ℕ) → IsLegal first journal
    → greatest_id (map_after first journal) < key.0 → is_down journal key ≡ false
fresh_is_up first journal key legal above =
    absent_is_up first journal key legal (λ slice there own.
    let slices = map_after first journal in
    let most = All-contains (λ s. id_of s ≤ greatest_id slices) slices slice (greatest_id-bounds slices) there in
    absurd (omega (arith, most, own, above)))

-- what is true of each core of a slice is of its followers
of_followers : (P : ℕ × ℕ → Type 0) (slice : Slice) → ((key : ℕ × ℕ) → key.0 ≡ slice.id.0 → P key)
    → All P (follower_keys slice)
of_followers P slice each =
    All-weaker (Contains (follower_keys slice)) P (λ key there. each key (follower_is slice key there).0)
    (follower_keys slice) (All-contains_itself (follower_keys slice))

-- so no follower is down of the slices that a split is to make
pub begun_are_up : (first : List Slice) (journal : List Entry) (parent : SliceId) (subs : List SubSlice)
    → IsLegal first journal → IsPlan (map_after first journal) parent subs
    → All (λ key. not (is_down journal key) ≡ true) (flat_map follower_keys (map begun_slice subs))
begun_are_up first journal parent subs legal plan =
    All-joined (λ key. not (is_down journal key) ≡ true) follower_keys (map begun_slice subs) each
  where
    each : (slice : Slice) → Contains (map begun_slice subs) slice
        → All (λ key. not (is_down journal key) ≡ true) (follower_keys slice)
    each slice there =
        let (sub, (i, below, at), made) = Contains-from_map begun_slice subs slice there in
        let found : slice_get subs i ≡ Some sub =
        slice_get-get_or subs i sub below ∙ ap (λ (s : SubSlice). Some s) at in
        let id : sub.id.0 ≡ slice.id.0 = ap (λ (s : Slice). s.id.0) made in
        let counted = (plan.cut.2 i sub found).id in
        of_followers (λ key. not (is_down journal key) ≡ true) slice (λ key own.
        ap not (fresh_is_up first journal key legal (omega (arith, id, counted, own))))

-- nor of those that a split is making
pub forming_are_up : (first : List Slice) (journal : List Entry) → IsLegal first journal → IsMap (map_after first journal)
    → All (λ slice. is_forming slice ≡ true → All (λ key. not (is_down journal key) ≡ true) (follower_keys slice))
    (map_after first journal)
forming_are_up first journal legal is_map =
    let slices = map_after first journal in
    All-weaker (Contains slices)
    (λ slice. is_forming slice ≡ true → All (λ key. not (is_down journal key) ≡ true) (follower_keys slice))
    (λ slice there forming. of_followers (λ key. not (is_down journal key) ≡ true) slice (λ key own.
    ap not (forming_is_up first journal slice key legal is_map there forming own)))
    slices (All-contains_itself slices)
