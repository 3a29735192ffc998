-- What the entries of splits make owed, and what they take off it.
use Rattle.std.proofs.Common.{◌≡◌, ◌∙◌, ℕ, ◌+◌, Bool, true, false, cond, not, ◌&&◌, eqb, List, [], ◌∷◌, ◌++◌, length, map, filter, Some, None, Contains, refl, sym, ap, subst, arith}
use Rattle.std.specs.List.{count_by, flat_map}
use Rattle.std.proofs.lemmas.List.Elements.{All-map, All-weaker, All-contains_itself}
use Rattle.std.proofs.lemmas.List.Sums.{length-filter, sum_by-append}
use Rattle.sc_record.specs.Names.{key_of_core, is_key}
use Rattle.sc_record.specs.declared.slice.CoreId.{CoreId}
use Rattle.sc_record.specs.declared.slice.SliceId.{SliceId}
use Rattle.sc_record.specs.declared.slice.SubSlice.{SubSlice}
use Rattle.sc_record.specs.declared.entry.Entry.{Entry}
use Rattle.sc_record.specs.declared.entry.Entry.TheVariants as entry
use Rattle.sc_cluster.specs.declared.slice.State.{State}
use Rattle.sc_cluster.specs.declared.slice.State.TheVariants as states
use Rattle.sc_cluster.specs.declared.slice.Slice.{Slice}
use Rattle.sc_cluster.specs.Map.{IsMap}
use Rattle.sc_cluster.specs.Slices.{is_active_state, is_forming_state, is_active, is_forming, forming, is_inactive_state, is_inactive}
use Rattle.sc_cluster.specs.Changes.{Change, after, begun_slice, in_state, switched_slice, IsBeingSplit, IsInactive}
use Rattle.sc_cluster.proofs.CountLemmas.{count_by-map, count_by-filter, count_by-none, count_by-balance}
use Rattle.sc_cluster.proofs.IdLemmas.{id_of}
use Rattle.sc_cluster.proofs.ListLemmas.{filter-filter}
use Rattle.sc_cluster.proofs.OrderLemmas.{at_key, count_by-at_key, same_from_rising_key}
use Rattle.sc_cluster.proofs.StateLemmas.{is_settled, is_other}
use Rattle.sc_journal.specs.Down.{is_down, follower_keys, count_up, IsFollower}
use Rattle.sc_journal.specs.Splits.{map_change_of, map_after, open_split, owed_by_split, owed, new_followers, entries_of_split}
use Rattle.sc_journal.specs.Legal.{MayBeSplit, MayGoDown, MayComeUp, MayLead, IsLegal}
use Rattle.sc_journal.proofs.DownLemmas.{LeavesCores, LeavesCores-begun, LeavesCores-switched, LeavesCores-failed, is_down-push_dropped, is_down-push_down, is_down-push_down_other, is_down-push_led, is_down-push_led_other, is_down-push_up, is_down-push_up_other}
use Rattle.sc_journal.proofs.FollowerLemmas.{count_by-followers_one, count_by-followers_begun, count_by-followers_switched, count_by-followers_failed, count_by-followers_dropped}
use Rattle.sc_journal.proofs.LegalDownLemmas.{begun_are_up, forming_are_up}
use Rattle.sc_journal.proofs.SettledLemmas.{unsettled-push_other}
use Rattle.sc_journal.proofs.SplitLemmas.{map_after-push, map_after-left, open_split-push, LeavesSlices-down, LeavesSlices-up, LeavesSlices-led, owed_by_slices, owed_by_slices-left, count_up-left}

-- the subs of a split that begins are not inactive
inactive-begun : (slices : List Slice) (subs : List SubSlice)
    → count_by is_inactive (slices ++ map begun_slice subs) ≡ count_by is_inactive slices
inactive-begun slices subs =
    let none : count_by is_inactive (map begun_slice subs) ≡ 0 =
    count_by-none is_inactive (map begun_slice subs)
    (All-map (λ (slice : Slice). is_inactive slice ≡ false) begun_slice subs (λ _ _ _. refl)) in
    let all : count_by is_inactive (slices ++ map begun_slice subs)
    ≡ count_by is_inactive slices + count_by is_inactive (map begun_slice subs) =
    sum_by-append (λ (slice : Slice). cond (is_inactive slice) 1 0) slices (map begun_slice subs) in
    omega (arith, none, all)

-- how many followers are not down after an entry that changes the slices and says nothing of any core
count_up-push : (first : List Slice) (journal : List Entry) (one : Entry) (change : Change)
    → map_change_of one ≡ Some change → LeavesCores one
    → count_up (map_after first (journal ++ one ∷ [])) (journal ++ one ∷ [])
    ≡ count_up (after (map_after first journal) change) journal
count_up-push first journal one change is leaves =
    ap (λ slices. count_up slices (journal ++ one ∷ [])) (map_after-push first journal one change is)
    ∙ count_up-left (after (map_after first journal) change) journal one leaves

-- so the split owes two entries: its end, and the drop of its parent
pub owed_by_slices-push_begun : (first : List Slice) (journal : List Entry) (parent : SliceId) (subs : List SubSlice)
    → open_split journal ≡ None
    → owed_by_slices first (journal ++ entry.Begun parent subs ∷ []) ≡ owed_by_slices first journal + 2
owed_by_slices-push_begun first journal parent subs idle =
    let one : Entry = entry.Begun parent subs in
    let before = ap owed_by_split idle in
    let after = ap owed_by_split (open_split-push journal one) in
    let slices = ap (count_by is_inactive) (map_after-push first journal one (Change.Begun parent subs) refl)
    ∙ inactive-begun (map_after first journal) subs in
    omega (arith, before, after, slices)

-- and none of its slices' followers is down
pub count_up-push_begun : (first : List Slice) (journal : List Entry) (parent : SliceId) (subs : List SubSlice)
    → IsLegal first journal → MayBeSplit first journal parent subs
    → count_up (map_after first (journal ++ entry.Begun parent subs ∷ [])) (journal ++ entry.Begun parent subs ∷ [])
    ≡ count_up (map_after first journal) journal + new_followers subs
count_up-push_begun first journal parent subs legal may =
    count_up-push first journal (entry.Begun parent subs) (Change.Begun parent subs) refl (LeavesCores-begun parent subs)
    ∙ count_by-followers_begun (λ key. not (is_down journal key)) (map_after first journal) subs
    (begun_are_up first journal parent subs legal may.plan)

pub owed-push_begun : (first : List Slice) (journal : List Entry) (parent : SliceId) (subs : List SubSlice)
    → IsLegal first journal → MayBeSplit first journal parent subs
    → owed first (journal ++ entry.Begun parent subs ∷ []) + 1 ≡ owed first journal + entries_of_split subs
owed-push_begun first journal parent subs legal may =
    let one : Entry = entry.Begun parent subs in
    let places = ap length (unsettled-push_other journal one refl (λ place. refl)) in
    let slices = owed_by_slices-push_begun first journal parent subs may.idle in
    let up = count_up-push_begun first journal parent subs legal may in
    omega (arith, places, slices, up)

-- a switch makes the parent inactive, and no other slice that isn't so already
is_inactive-switched : (parent : SliceId) (slice : Slice) → is_inactive (switched_slice parent slice)
    ≡ cond (is_forming slice) false (cond (eqb slice.id.0 parent.0) true (is_inactive slice))
is_inactive-switched parent slice = by (is_forming slice) (eqb slice.id.0 parent.0) where
  by : (t u : Bool)
      → is_inactive (cond t (in_state states.Active slice) (cond u (in_state states.Inactive slice) slice))
      ≡ cond t false (cond u true (is_inactive slice))
  by true u = refl
  by false true = refl
  by false false = refl

inactive_balance : (parent slice : Slice)
    → cond {A = ℕ} (is_inactive (switched_slice parent.id slice)) 1 0 + cond {A = ℕ} false 1 0
    ≡ cond (is_inactive slice) 1 0 + cond (at_key id_of is_active parent slice) 1 0
inactive_balance parent slice =
    rw (is_inactive-switched parent.id slice)
    (by slice.state (eqb slice.id.0 parent.id.0)) where
      by : (state : State) (t : Bool)
          → cond {A = ℕ} (cond (is_forming_state state) false (cond t true (is_inactive_state state))) 1 0 + cond {A = ℕ} false 1 0
          ≡ cond (is_inactive_state state) 1 0 + cond (t && is_active_state state) 1 0
      by states.Active true = refl
      by states.Active false = refl
      by states.Inactive true = refl
      by states.Inactive false = refl
      by states.Construction true = refl
      by states.Construction false = refl
      by states.Recovery true = refl
      by states.Recovery false = refl

-- so there is one inactive slice more
inactive_more : (slices : List Slice) (parent : SliceId) → IsMap slices → IsBeingSplit slices parent
    → count_by is_inactive (map (switched_slice parent) slices) ≡ count_by is_inactive slices + 1
inactive_more slices parent is_map (slice, named, splitting) =
    subst (λ id. count_by is_inactive (map (switched_slice id) slices) ≡ count_by is_inactive slices + 1) named
    (omega (arith, mapped, balance, none, one, active))
  where
    mapped : count_by is_inactive (map (switched_slice slice.id) slices)
        ≡ count_by (λ s. is_inactive (switched_slice slice.id s)) slices
    mapped = count_by-map (switched_slice slice.id) is_inactive slices

    balance : count_by (λ s. is_inactive (switched_slice slice.id s)) slices + count_by (λ (s : Slice). false) slices
        ≡ count_by is_inactive slices + count_by (at_key id_of is_active slice) slices
    balance =
        count_by-balance (λ s. is_inactive (switched_slice slice.id s)) (λ (s : Slice). false) is_inactive
        (at_key id_of is_active slice) (inactive_balance slice) slices

    none : count_by (λ (s : Slice). false) slices ≡ 0
    none = count_by-none {A = Slice} (λ _. false) slices (λ _ _ _. refl)

    one : count_by (at_key id_of is_active slice) slices ≡ cond (is_active slice) 1 0
    one = count_by-at_key id_of is_active slice slices is_map.ids splitting.there

    active : cond {A = ℕ} (is_active slice) 1 0 ≡ 1
    active = ap {B = ℕ} (λ state. cond (is_active_state state) 1 0) splitting.active

-- so a switch leaves one of them, the drop of the parent
pub owed_by_slices-push_switched : (first : List Slice) (journal : List Entry) (parent : SliceId)
    → IsMap (map_after first journal) → IsBeingSplit (map_after first journal) parent → open_split journal ≡ Some parent
    → owed_by_slices first (journal ++ entry.Switched parent ∷ []) + 1 ≡ owed_by_slices first journal
owed_by_slices-push_switched first journal parent is_map split begun =
    let one : Entry = entry.Switched parent in
    let over = ap owed_by_split (open_split-push journal one) in
    let owing = ap owed_by_split begun in
    let slices = ap (count_by is_inactive) (map_after-push first journal one (Change.Switched parent) refl) in
    let more = inactive_more (map_after first journal) parent is_map split in
    omega (arith, over, owing, slices, more)

-- and the parent's followers are over with
pub count_up-push_switched : (first : List Slice) (journal : List Entry) (parent : Slice)
    → IsMap (map_after first journal) → Contains (map_after first journal) parent → parent.state ≡ states.Active
    → count_up (map_after first (journal ++ entry.Switched parent.id ∷ [])) (journal ++ entry.Switched parent.id ∷ [])
    + count_by (λ (key : ℕ × ℕ). not (is_down journal key)) (follower_keys parent)
    ≡ count_up (map_after first journal) journal
count_up-push_switched first journal parent is_map there active =
    let pushed = count_up-push first journal (entry.Switched parent.id) (Change.Switched parent.id) refl
    (LeavesCores-switched parent.id) in
    let less = count_by-followers_switched (λ key. not (is_down journal key)) (map_after first journal) parent is_map there
    active in
    omega (arith, pushed, less)

pub owed-push_switched : (first : List Slice) (journal : List Entry) (parent : Slice) → IsMap (map_after first journal)
    → IsBeingSplit (map_after first journal) parent.id → open_split journal ≡ Some parent.id
    → Contains (map_after first journal) parent
    → owed first (journal ++ entry.Switched parent.id ∷ []) + 1
    + count_by (λ (key : ℕ × ℕ). not (is_down journal key)) (follower_keys parent)
    ≡ owed first journal
owed-push_switched first journal parent is_map split begun there =
    let one : Entry = entry.Switched parent.id in
    let (slice, named, splitting) = split in
    let same : slice ≡ parent =
    same_from_rising_key id_of (map_after first journal) slice parent is_map.ids splitting.there there
    (ap (λ (id : SliceId). id.0) named) in
    let active : parent.state ≡ states.Active = ap (λ (s : Slice). s.state) (sym same) ∙ splitting.active in
    let places = ap length (unsettled-push_other journal one refl (λ _. refl)) in
    let slices = owed_by_slices-push_switched first journal parent.id is_map split begun in
    let up = count_up-push_switched first journal parent is_map there active in
    omega (arith, places, slices, up)

-- an inactive slice is none that a split is making
is_settled-inactive : (slice : Slice) → is_inactive slice ≡ true → is_settled slice ≡ true
is_settled-inactive slice = by slice.state where
  by : (state : State) → is_inactive_state state ≡ true → not (is_forming_state state) ≡ true
  by states.Inactive is = refl
  by states.Active is = refl
  by _ is = is

-- so each stays where a split is given up
count-settled : (slices : List Slice) → count_by is_inactive (filter is_settled slices) ≡ count_by is_inactive slices
count-settled slices =
    sym (length-filter is_inactive (filter is_settled slices))
    ∙ ap length (filter-filter is_inactive is_settled is_settled-inactive slices)
    ∙ length-filter is_inactive slices

-- and one that leaves is one less
count-other : (slices : List Slice) (slice : Slice) → IsMap slices → Contains slices slice → is_inactive slice ≡ true
    → count_by is_inactive (filter (is_other slice.id) slices) + 1 ≡ count_by is_inactive slices
count-other slices slice is_map there inactive =
    let other : Slice → Bool = is_other slice.id in
    let this : Slice → Bool = at_key id_of is_inactive slice in
    let none : Slice → Bool = λ _. false in
    let left = count_by-filter is_inactive other slices in
    let one : count_by this slices ≡ 1 =
    count_by-at_key id_of is_inactive slice slices is_map.ids there ∙ ap (λ b. cond b 1 0) inactive in
    let nothing : count_by none slices ≡ 0 = count_by-none none slices (λ k d below. refl) in
    let both = count_by-balance (λ s. other s && is_inactive s) this is_inactive none
    (λ s. by (eqb s.id.0 slice.id.0) (is_inactive s)) slices in
    omega (arith, left, one, nothing, both)
  where
    by : (t u : Bool) → cond (not t && u) 1 0 + cond (t && u) 1 0 ≡ cond u 1 0 + 0
    by true true = refl
    by true false = refl
    by false true = refl
    by false false = refl

-- and a split that is given up leaves none
pub owed_by_slices-push_failed : (first : List Slice) (journal : List Entry) (parent : SliceId)
    → open_split journal ≡ Some parent
    → owed_by_slices first (journal ++ entry.Failed parent ∷ []) + 2 ≡ owed_by_slices first journal
owed_by_slices-push_failed first journal parent opened =
    let one : Entry = entry.Failed parent in
    let ended = ap owed_by_split (open_split-push journal one) in
    let begun = ap owed_by_split opened in
    let slices = ap (count_by is_inactive) (map_after-push first journal one (Change.Failed parent) refl)
    ∙ count-settled (map_after first journal) in
    omega (arith, ended, begun, slices)

pub count_up-push_failed : (first : List Slice) (journal : List Entry) (parent : SliceId)
    → IsLegal first journal → IsMap (map_after first journal)
    → count_up (map_after first (journal ++ entry.Failed parent ∷ [])) (journal ++ entry.Failed parent ∷ [])
    + length (flat_map follower_keys (forming (map_after first journal)))
    ≡ count_up (map_after first journal) journal
count_up-push_failed first journal parent legal is_map =
    let pushed = count_up-push first journal (entry.Failed parent) (Change.Failed parent) refl
    (LeavesCores-failed parent) in
    let less = count_by-followers_failed (λ key. not (is_down journal key)) (map_after first journal)
    (forming_are_up first journal legal is_map) in
    omega (arith, pushed, less)

pub owed-push_failed : (first : List Slice) (journal : List Entry) (parent : SliceId)
    → IsLegal first journal → IsMap (map_after first journal) → open_split journal ≡ Some parent
    → owed first (journal ++ entry.Failed parent ∷ []) + 2
    + length (flat_map follower_keys (forming (map_after first journal)))
    ≡ owed first journal
owed-push_failed first journal parent legal is_map opened =
    let one : Entry = entry.Failed parent in
    let places = ap length (unsettled-push_other journal one refl (λ _. refl)) in
    let slices = owed_by_slices-push_failed first journal parent opened in
    let up = count_up-push_failed first journal parent legal is_map in
    omega (arith, places, slices, up)

-- with the entry that drops a slice one entry less is owed
pub owed_by_slices-push_dropped : (first : List Slice) (journal : List Entry) (dropped : SliceId)
    → IsMap (map_after first journal) → IsInactive (map_after first journal) dropped
    → owed_by_slices first (journal ++ entry.Dropped dropped ∷ []) + 1 ≡ owed_by_slices first journal
owed_by_slices-push_dropped first journal dropped is_map (slice, there, named, inactive) =
    let one : Entry = entry.Dropped dropped in
    let still = ap owed_by_split (open_split-push journal one) in
    let left = ap (count_by is_inactive) (map_after-push first journal one (Change.Dropped dropped) refl
    ∙ ap (λ (id : SliceId). filter (is_other id) (map_after first journal)) (sym named)) in
    let less = count-other (map_after first journal) slice is_map there (ap is_inactive_state inactive) in
    omega (arith, still, left, less)

-- and no follower of it was counted
pub count_up-push_dropped : (first : List Slice) (journal : List Entry) (dropped : SliceId)
    → IsMap (map_after first journal) → IsInactive (map_after first journal) dropped
    → count_up (map_after first (journal ++ entry.Dropped dropped ∷ [])) (journal ++ entry.Dropped dropped ∷ [])
    ≡ count_up (map_after first journal) journal
count_up-push_dropped first journal dropped is_map (slice, there, named, inactive) =
    let slices = map_after first journal in
    let longer : List Entry = journal ++ entry.Dropped dropped ∷ [] in
    ap (λ these. count_up these longer)
    (map_after-push first journal (entry.Dropped dropped) (Change.Dropped dropped) refl)
    ∙ count_by-followers_dropped (λ key. not (is_down journal key)) (λ key. not (is_down longer key)) slices dropped
    (λ key other. ap not (sym (is_down-push_dropped journal dropped key other)))
    (All-weaker (Contains slices) (λ (one : Slice). one.id.0 ≡ dropped.0 → is_inactive one ≡ true) (λ one inside own.
    let same : one ≡ slice = same_from_rising_key id_of slices one slice is_map.ids inside there
    (own ∙ sym (ap (λ (id : SliceId). id.0) named)) in
    ap is_inactive same ∙ ap is_inactive_state inactive)
    slices (All-contains_itself slices))

pub owed-push_dropped : (first : List Slice) (journal : List Entry) (dropped : SliceId)
    → IsMap (map_after first journal) → IsInactive (map_after first journal) dropped
    → owed first (journal ++ entry.Dropped dropped ∷ []) + 1 ≡ owed first journal
owed-push_dropped first journal dropped is_map inactive =
    let one : Entry = entry.Dropped dropped in
    let places = ap length (unsettled-push_other journal one refl (λ _. refl)) in
    let slices = owed_by_slices-push_dropped first journal dropped is_map inactive in
    let up = count_up-push_dropped first journal dropped is_map inactive in
    omega (arith, places, slices, up)

-- one follower less is not down where it goes down and the others stay
count_up-one : (slices : List Slice) (core : CoreId) (before after : List Entry) → IsMap slices → IsFollower slices core
    → ((key : ℕ × ℕ) → is_key key (key_of_core core) ≡ false → is_down before key ≡ is_down after key)
    → is_down before (key_of_core core) ≡ false → is_down after (key_of_core core) ≡ true
    → count_up slices after + 1 ≡ count_up slices before
count_up-one slices core before after is_map (slice, there, active, follower) same up down =
    count_by-followers_one (λ key. not (is_down before key)) (λ key. not (is_down after key)) slices slice (key_of_core core)
    is_map there (ap is_inactive_state active) follower (λ key other. ap not (same key other)) (ap not up) (ap not down)

-- so it is with the entry that says that it is down
pub count_up-push_down : (first : List Slice) (journal : List Entry) (core : CoreId) → IsMap (map_after first journal)
    → MayGoDown first journal core
    → count_up (map_after first (journal ++ entry.Down core ∷ [])) (journal ++ entry.Down core ∷ []) + 1
    ≡ count_up (map_after first journal) journal
count_up-push_down first journal core is_map may =
    let longer : List Entry = journal ++ entry.Down core ∷ [] in
    ap (λ slices. count_up slices longer + 1)
    (map_after-left first journal (entry.Down core) (LeavesSlices-down core))
    ∙ count_up-one (map_after first journal) core journal longer is_map may.follower
    (λ key other. sym (is_down-push_down_other journal core key other)) may.up (is_down-push_down journal core)

-- and with the one after which it leads
pub count_up-push_led : (first : List Slice) (journal : List Entry) (core : CoreId) → IsMap (map_after first journal)
    → MayLead first journal core
    → count_up (map_after first (journal ++ entry.Led core ∷ [])) (journal ++ entry.Led core ∷ []) + 1
    ≡ count_up (map_after first journal) journal
count_up-push_led first journal core is_map may =
    let longer : List Entry = journal ++ entry.Led core ∷ [] in
    ap (λ slices. count_up slices longer + 1)
    (map_after-left first journal (entry.Led core) (LeavesSlices-led core))
    ∙ count_up-one (map_after first journal) core journal longer is_map may.follower
    (λ key other. sym (is_down-push_led_other journal core key other)) may.up (is_down-push_led journal core)

-- one more is not down where it comes up
pub count_up-push_up : (first : List Slice) (journal : List Entry) (core : CoreId) → IsMap (map_after first journal)
    → MayComeUp first journal core
    → count_up (map_after first (journal ++ entry.Up core ∷ [])) (journal ++ entry.Up core ∷ [])
    ≡ count_up (map_after first journal) journal + 1
count_up-push_up first journal core is_map may =
    let longer : List Entry = journal ++ entry.Up core ∷ [] in
    ap (λ slices. count_up slices longer) (map_after-left first journal (entry.Up core) (LeavesSlices-up core))
    ∙ sym (count_up-one (map_after first journal) core longer journal is_map may.follower
    (is_down-push_up_other journal core) (is_down-push_up journal core) may.down)

-- so one entry less is owed, or one more
pub owed-push_down : (first : List Slice) (journal : List Entry) (core : CoreId) → IsMap (map_after first journal)
    → MayGoDown first journal core → owed first (journal ++ entry.Down core ∷ []) + 1 ≡ owed first journal
owed-push_down first journal core is_map may =
    let one : Entry = entry.Down core in
    let places = ap length (unsettled-push_other journal one refl (λ _. refl)) in
    let slices = owed_by_slices-left first journal one (LeavesSlices-down core) in
    let up = count_up-push_down first journal core is_map may in
    omega (arith, places, slices, up)

pub owed-push_led : (first : List Slice) (journal : List Entry) (core : CoreId) → IsMap (map_after first journal)
    → MayLead first journal core → owed first (journal ++ entry.Led core ∷ []) + 1 ≡ owed first journal
owed-push_led first journal core is_map may =
    let one : Entry = entry.Led core in
    let places = ap length (unsettled-push_other journal one refl (λ _. refl)) in
    let slices = owed_by_slices-left first journal one (LeavesSlices-led core) in
    let up = count_up-push_led first journal core is_map may in
    omega (arith, places, slices, up)

pub owed-push_up : (first : List Slice) (journal : List Entry) (core : CoreId) → IsMap (map_after first journal)
    → MayComeUp first journal core → owed first (journal ++ entry.Up core ∷ []) ≡ owed first journal + 1
owed-push_up first journal core is_map may =
    let one : Entry = entry.Up core in
    let places = ap length (unsettled-push_other journal one refl (λ _. refl)) in
    let slices = owed_by_slices-left first journal one (LeavesSlices-up core) in
    let up = count_up-push_up first journal core is_map may in
    omega (arith, places, slices, up)
