-- What a legal journal of the board makes of the slices, which split runs after it, and what it has still to get.
use Rattle.std.proofs.Common.{◌≡◌, ◌∙◌, ℕ, ◌+◌, ◌*◌, ◌≤◌, ◌⊎◌, inl, inr, Bool, true, cond, List, [], ◌∷◌, ◌++◌, length, map, Option, Some, None, All, refl, sym, ap, subst, arith, length-append, zero-add}
use Rattle.std.specs.Prelude.{◌↔◌, IfSome}
use Rattle.std.proofs.Math.Path.{fun_ext}
use Rattle.std.specs.List.{fold, count_by, enumerate_from, filter_map, cons_option}
use Rattle.std.specs.Option.{option_map_or}
use Rattle.std.proofs.lemmas.List.{append-nil, append_assoc}
use Rattle.std.proofs.lemmas.List.Elements.{All-contains, All-map, All-same, All-weaker, filter_passes, filter_map-append}
use Rattle.std.proofs.lemmas.List.Sums.{fold-append, sum_by-cons}
use Rattle.sc_record.specs.declared.slice.SliceId.{SliceId}
use Rattle.sc_record.specs.declared.entry.Entry.{Entry}
use Rattle.sc_record.specs.declared.entry.Entry.TheVariants as entry
use Rattle.sc_cluster.specs.Limits.{most_slices}
use Rattle.sc_cluster.specs.declared.plan.SplitPlan.{SplitPlan}
use Rattle.sc_cluster.specs.declared.slice.State.{State}
use Rattle.sc_cluster.specs.declared.slice.State.TheVariants as states
use Rattle.sc_cluster.specs.declared.slice.Slice.{Slice}
use Rattle.sc_cluster.specs.Slices.{is_forming_state, is_forming, forming, is_inactive_state, is_inactive, greatest_id}
use Rattle.sc_cluster.specs.Map.{IsMap}
use Rattle.sc_cluster.specs.Changes.{Change, after, in_state, recovering_slice, MayChange, IsBeingSplit, IsInactive}
use Rattle.sc_cluster.specs.Histories.{after_all, subs_begun}
use Rattle.sc_cluster.proofs.CountLemmas.{count_by-map}
use Rattle.sc_cluster.proofs.SplitLemmas.{some_forming, not_idle}
use Rattle.sc_cluster.proofs.StateLemmas.{forming-recovering}
use Rattle.sc_cluster.proofs.BegunLemmas.{All-forming_begun}
use Rattle.sc_cluster.proofs.MapLemmas.{change_is_map, begun_is_split, recovering_is_split, switched_is_idle, failed_is_idle, dropped_is_idle}
use Rattle.sc_cluster.proofs.HistoryLemmas.{has_one_parent}
use Rattle.sc_cluster.proofs.UndoLemmas.{counts_ids_up, undoes_a_failed_split, may_leave_recovery_out}
use Rattle.sc_journal.proofs.ListLemmas.{split_last, append-cons, enumerate_from-append}
use Rattle.sc_journal.proofs.SplitLemmas.{after_all-append}
use Rattle.sc_journal.proofs.OwedLemmas.{owed_by_slices-push_begun, owed_by_slices-push_switched, owed_by_slices-push_failed, owed_by_slices-push_dropped}
use Rattle.sc_seen.specs.declared.board.BoardEntry.{BoardEntry}
use Rattle.sc_seen.specs.declared.board.BoardEntry.TheVariants as board
use Rattle.sc_seen.specs.Board.{board_change_of, after_entry, board_map, running_after, running_split, owed_after, board_owed, AreRecovering, MayNote, IsLegalBoard}
use Rattle.sc_seen.specs.BoardLaws.{BoardGrowsByWhatMayCome, HasLegalBoardPrefixes, BoardsKeepAMap, IsRunningSplit, BoardsRunOneSplit, BoardsGoOn, BoardsCountIdsUp, FailedLeavesTheMap, BoardsOweEntries}

-- ---- entries more
-- the map after them is made of that before them
pub board_map-append : (first : List Slice) (entries more : List BoardEntry)
    → board_map first (entries ++ more) ≡ board_map (board_map first entries) more
board_map-append first entries more =
    ap (after_all first) (filter_map-append board_change_of entries more)
    ∙ after_all-append first (filter_map board_change_of entries) (filter_map board_change_of more)

-- the map after a change that there may be
after_one : (slices : List Slice) (change : Option Change)
    → after_all slices (cons_option change []) ≡ option_map_or (after slices) change slices
after_one slices None = refl
after_one slices (Some change) = refl

-- the map after one entry more
pub board_map-push : (first : List Slice) (entries : List BoardEntry) (one : BoardEntry)
    → board_map first (entries ++ one ∷ []) ≡ after_entry (board_map first entries) one
board_map-push first entries one =
    board_map-append first entries (one ∷ []) ∙ after_one (board_map first entries) (board_change_of one)

-- the split that is running after it
pub running_split-push : (entries : List BoardEntry) (one : BoardEntry)
    → running_split (entries ++ one ∷ []) ≡ running_after (running_split entries) (length entries, one)
running_split-push entries one =
    ap (fold running_after None) (enumerate_from-append 0 entries (one ∷ []))
    ∙ fold-append running_after None (enumerate_from 0 entries) (enumerate_from (0 + length entries) (one ∷ []))
    ∙ ap (λ n. running_after (running_split entries) (n, one)) (zero-add (length entries))

-- how many entries of its split are owed after it
abbrev pub owed_by_split : List BoardEntry → ℕ
owed_by_split entries = fold owed_after 0 entries

pub owed_by_split-push : (entries : List BoardEntry) (one : BoardEntry)
    → owed_by_split (entries ++ one ∷ []) ≡ owed_after (owed_by_split entries) one
owed_by_split-push entries one = fold-append owed_after 0 entries (one ∷ [])

-- what may be noted may happen to the map
pub may_change : (first : List Slice) (before : List BoardEntry) (one : BoardEntry) → MayNote first before one
    → IfSome (board_change_of one) (MayChange (board_map first before))
may_change first before (board.Begun plan) may = may
may_change first before (board.Recovering parent) may = may
may_change first before (board.Done parent) may = may.0
may_change first before (board.Failed parent) may = may
may_change first before (board.Dropped slice) may = may
may_change first before (board.Led slice replica) may = tt

-- ---- legal journals
pub IsLegalBoard-none : (first : List Slice) → IsLegalBoard first []
IsLegalBoard-none first [] one after h = absurd (cc)
IsLegalBoard-none first (b ∷ before) one after h = absurd (cc)

pub IsLegalBoard-push : (first : List Slice) (entries : List BoardEntry) (one : BoardEntry) → IsLegalBoard first entries
    → MayNote first entries one → IsLegalBoard first (entries ++ one ∷ [])
IsLegalBoard-push first entries one legal may before other after h =
    by (split_last entries one before other after h) where
      by : ((entries ≡ before) × (one ≡ other)) ⊎ ((rest : List BoardEntry) × (entries ≡ before ++ other ∷ rest))
          → MayNote first before other
      by (inl (same, last)) = subst (λ j. MayNote first j other) same (subst (λ e. MayNote first entries e) last may)
      by (inr (rest, some)) = legal before other rest some

pub IsLegalBoard-prefix : (first : List Slice) (entries more : List BoardEntry) → IsLegalBoard first (entries ++ more)
    → IsLegalBoard first entries
IsLegalBoard-prefix first entries more legal before one after is =
    let longer : entries ++ more ≡ before ++ one ∷ (after ++ more) =
    ap (λ j. j ++ more) is ∙ append_assoc before (one ∷ after) more in
    legal before one (after ++ more) longer

-- the entry at the end of a legal journal may come after those before it
pub MayNote_end : (first : List Slice) (entries : List BoardEntry) (one : BoardEntry) → IsLegalBoard first (entries ++ one ∷ [])
    → MayNote first entries one
MayNote_end first entries one legal = legal entries one [] refl

-- what holds of the journal with no entries, and is kept by each entry that may come, holds of each legal journal
pub board_induction : (first : List Slice) (P : List BoardEntry → Type 0) → P []
    → ((entries : List BoardEntry) (one : BoardEntry) → IsLegalBoard first entries → MayNote first entries one → P entries
    → P (entries ++ one ∷ []))
    → (entries : List BoardEntry) → IsLegalBoard first entries → P entries
board_induction first P none step entries legal = from [] entries none legal where
  from : (before more : List BoardEntry) → P before → IsLegalBoard first (before ++ more) → P (before ++ more)
  from before [] holds all = subst P (sym (append-nil before)) holds
  from before (one ∷ more) holds all =
      let joined : (before ++ one ∷ []) ++ more ≡ before ++ one ∷ more = append-cons before one more in
      let prefix = IsLegalBoard-prefix first before (one ∷ more) all in
      let next = step before one prefix (all before one more refl) holds in
      subst P joined (from (before ++ one ∷ []) more next (subst (IsLegalBoard first) (sym joined) all))

-- ---- how far a split is
-- where the slices that are being made go on to recovery they are recovering
AreRecovering-after : (slices : List Slice) (parent : SliceId) → AreRecovering (after slices (Change.Recovering parent))
AreRecovering-after slices parent =
    let P : Slice → Type 0 = λ (slice : Slice). slice.state ≡ states.Recovery in
    record {
      each = All-same P _ _ (forming-recovering slices)
          (All-map P recovering_slice (forming slices)
          (All-weaker (λ slice. is_forming slice ≡ true) (λ slice. P (recovering_slice slice)) (λ slice is. rw is refl)
          (forming slices) (filter_passes is_forming slices)));
    }

-- no slice of an open split is both under construction and recovering
not_both : (slices : List Slice) (parent : SliceId) → IsBeingSplit slices parent
    → All (λ (slice : Slice). slice.state ≡ states.Construction) (forming slices) → AreRecovering slices → ⊥
not_both slices parent (slice, named, splitting) building recovering =
    let some = some_forming slices slice splitting in
    let made = forming slices in
    let one : some.0.state ≡ states.Construction =
    All-contains (λ (slice : Slice). slice.state ≡ states.Construction) made some.0 building some.1 in
    let other : some.0.state ≡ states.Recovery =
    All-contains (λ (slice : Slice). slice.state ≡ states.Recovery) made some.0 recovering.each some.1 in
    let both : states.Construction ≡ states.Recovery = sym one ∙ other in
    cc

-- no split is open where no slice is being made
pub not_open : (slices : List Slice) (parent : SliceId) → IsBeingSplit slices parent → forming slices ≡ [] → ⊥
not_open slices parent (slice, named, splitting) idle = not_idle slices slice splitting idle

-- a map has one split open at most
pub same_parent : (slices : List Slice) (one other : SliceId) → IsMap slices → IsBeingSplit slices one → IsBeingSplit slices other → one ≡ other
same_parent slices one other is_map (parent, named, splitting) (parent2, named2, splitting2) =
    sym named ∙ ap (λ (slice : Slice). slice.id) (has_one_parent slices parent parent2 is_map splitting splitting2) ∙ named2

-- How far the split is that runs after these entries. None runs, or one that began by the last of them, or one whose slices are
-- recovered since the last of them.
pub data Stands (first : List Slice) (entries : List BoardEntry) : Type 0 where
  rests : running_split entries ≡ None → forming (board_map first entries) ≡ [] → owed_by_split entries ≡ 0 → Stands first entries
  builds : (before : List BoardEntry) (plan : SplitPlan) → entries ≡ before ++ board.Begun plan ∷ []
      → running_split entries ≡ Some (length before) → MayNote first entries (board.Recovering plan.parent)
      → owed_by_split entries ≡ 3 → Stands first entries
  recovers : (before : List BoardEntry) (plan : SplitPlan)
      → entries ≡ before ++ board.Begun plan ∷ board.Recovering plan.parent ∷ []
      → running_split entries ≡ Some (length before) → MayNote first entries (board.Done plan.parent)
      → owed_by_split entries ≡ 2 → Stands first entries

-- where no slice is being made none runs
pub rests_where_idle : (first : List Slice) (entries : List BoardEntry) → Stands first entries → forming (board_map first entries) ≡ []
    → (running_split entries ≡ None) × (owed_by_split entries ≡ 0)
rests_where_idle first entries (rests none formed owed) idle = (none, owed)
rests_where_idle first entries (builds before plan is running may owed) idle =
    absurd (not_open (board_map first entries) plan.parent may.0 idle)
rests_where_idle first entries (recovers before plan is running may owed) idle =
    absurd (not_open (board_map first entries) plan.parent may.0 idle)

Stands-begun : (first : List Slice) (entries : List BoardEntry) (plan : SplitPlan) → IsMap (board_map first entries)
    → MayNote first entries (board.Begun plan) → Stands first (entries ++ board.Begun plan ∷ [])
Stands-begun first entries plan is_map may =
    let slices = board_map first entries in
    let next : MayChange (after slices (Change.Begun plan.parent plan.subs)) (Change.Recovering plan.parent) =
    (begun_is_split slices plan.parent plan.subs is_map may, All-forming_begun slices plan.subs may.idle) in
    builds entries plan refl (running_split-push entries (board.Begun plan))
    (subst (λ s. MayChange s (Change.Recovering plan.parent)) (sym (board_map-push first entries (board.Begun plan))) next)
    (owed_by_split-push entries (board.Begun plan))

Stands-recovering : (first : List Slice) (entries : List BoardEntry) (parent : SliceId) → IsMap (board_map first entries)
    → MayNote first entries (board.Recovering parent) → Stands first entries → Stands first (entries ++ board.Recovering parent ∷ [])
Stands-recovering first entries parent is_map may (rests none idle owed) =
    absurd (not_open (board_map first entries) parent may.0 idle)
Stands-recovering first entries parent is_map may (recovers before plan is running done owed) =
    absurd (not_both (board_map first entries) parent may.0 may.1 done.1)
Stands-recovering first entries parent is_map may (builds before plan is running may2 owed) =
    let slices = board_map first entries in
    let one : BoardEntry = board.Recovering parent in
    let same : parent ≡ plan.parent = same_parent slices parent plan.parent is_map may.0 may2.0 in
    let ends : entries ++ one ∷ [] ≡ before ++ board.Begun plan ∷ board.Recovering plan.parent ∷ [] =
    ap (λ j. j ++ one ∷ []) is ∙ append-cons before (board.Begun plan) (one ∷ [])
    ∙ ap (λ id. before ++ board.Begun plan ∷ board.Recovering id ∷ []) same in
    let split : IsBeingSplit (after slices (Change.Recovering parent)) plan.parent =
    subst (IsBeingSplit (after slices (Change.Recovering parent))) same (recovering_is_split slices parent may.0) in
    let next : IsBeingSplit (after slices (Change.Recovering parent)) plan.parent × AreRecovering (after slices (Change.Recovering parent)) =
    (split, AreRecovering-after slices parent) in
    recovers before plan ends (running_split-push entries one ∙ running)
    (subst (λ s. IsBeingSplit s plan.parent × AreRecovering s) (sym (board_map-push first entries one)) next)
    (owed_by_split-push entries one)

Stands-done : (first : List Slice) (entries : List BoardEntry) (parent : SliceId) → Stands first (entries ++ board.Done parent ∷ [])
Stands-done first entries parent =
    let one : BoardEntry = board.Done parent in
    rests (running_split-push entries one)
    (ap forming (board_map-push first entries one) ∙ switched_is_idle (board_map first entries) parent)
    (owed_by_split-push entries one)

Stands-failed : (first : List Slice) (entries : List BoardEntry) (parent : SliceId) → Stands first (entries ++ board.Failed parent ∷ [])
Stands-failed first entries parent =
    let one : BoardEntry = board.Failed parent in
    rests (running_split-push entries one)
    (ap forming (board_map-push first entries one) ∙ failed_is_idle (board_map first entries) parent)
    (owed_by_split-push entries one)

Stands-dropped : (first : List Slice) (entries : List BoardEntry) (slice : SliceId) → MayNote first entries (board.Dropped slice)
    → Stands first entries → Stands first (entries ++ board.Dropped slice ∷ [])
Stands-dropped first entries slice may stands =
    let one : BoardEntry = board.Dropped slice in
    let idle = rests_where_idle first entries stands may.0 in
    rests (running_split-push entries one ∙ idle.0)
    (ap forming (board_map-push first entries one) ∙ dropped_is_idle (board_map first entries) slice may.0)
    (owed_by_split-push entries one ∙ idle.1)

Stands-led : (first : List Slice) (entries : List BoardEntry) (slice : SliceId) (replica : ℕ)
    → MayNote first entries (board.Led slice replica) → Stands first entries → Stands first (entries ++ board.Led slice replica ∷ [])
Stands-led first entries slice replica may stands =
    let one : BoardEntry = board.Led slice replica in
    let idle = rests_where_idle first entries stands may.idle in
    rests (running_split-push entries one ∙ idle.0) (ap forming (board_map-push first entries one) ∙ may.idle)
    (owed_by_split-push entries one ∙ idle.1)

Stands-push : (first : List Slice) (entries : List BoardEntry) (one : BoardEntry) → IsMap (board_map first entries)
    → MayNote first entries one → Stands first entries → Stands first (entries ++ one ∷ [])
Stands-push first entries (board.Begun plan) is_map may stands = Stands-begun first entries plan is_map may
Stands-push first entries (board.Recovering parent) is_map may stands = Stands-recovering first entries parent is_map may stands
Stands-push first entries (board.Done parent) is_map may stands = Stands-done first entries parent
Stands-push first entries (board.Failed parent) is_map may stands = Stands-failed first entries parent
Stands-push first entries (board.Dropped slice) is_map may stands = Stands-dropped first entries slice may stands
Stands-push first entries (board.Led slice replica) is_map may stands = Stands-led first entries slice replica may stands

-- ---- what a legal journal makes of the slices
IsMap-after : (slices : List Slice) (change : Option Change) → IsMap slices → IfSome change (MayChange slices)
    → IsMap (option_map_or (after slices) change slices)
IsMap-after slices None is_map may = is_map
IsMap-after slices (Some change) is_map may = change_is_map slices change is_map may

IsMap-push : (first : List Slice) (entries : List BoardEntry) (one : BoardEntry) → MayNote first entries one
    → IsMap (board_map first entries) → IsMap (board_map first (entries ++ one ∷ []))
IsMap-push first entries one may is_map =
    subst IsMap (sym (board_map-push first entries one))
    (IsMap-after (board_map first entries) (board_change_of one) is_map (may_change first entries one may))

pub board_is_map : (first : List Slice) (entries : List BoardEntry) → IsMap first → IsLegalBoard first entries
    → IsMap (board_map first entries)
board_is_map first entries is_map =
    board_induction first (λ j. IsMap (board_map first j)) is_map (λ j one legal may. IsMap-push first j one may) entries

pub board_stands : (first : List Slice) (entries : List BoardEntry) → IsMap first → forming first ≡ [] → IsLegalBoard first entries
    → Stands first entries
board_stands first entries is_map idle =
    board_induction first (Stands first) (rests refl idle refl)
    (λ j one legal may. Stands-push first j one (board_is_map first j is_map legal) may) entries

pub running_where : (first : List Slice) (entries : List BoardEntry) → Stands first entries
    → (running_split entries ≡ None) ↔ (forming (board_map first entries) ≡ [])
running_where first entries stands = (λ none. formed none stands, λ idle. (rests_where_idle first entries stands idle).0) where
  formed : running_split entries ≡ None → Stands first entries → forming (board_map first entries) ≡ []
  formed none (rests other idle owed) = idle
  formed none (builds before plan is running may owed) = let two : None ≡ Some (length before) = sym none ∙ running in absurd (cc)
  formed none (recovers before plan is running may owed) = let two : None ≡ Some (length before) = sym none ∙ running in absurd (cc)

pub boards_keep_a_map : BoardsKeepAMap
boards_keep_a_map first entries is_map idle legal =
    (board_is_map first entries is_map legal, running_where first entries (board_stands first entries is_map idle legal))

pub boards_run_one_split : BoardsRunOneSplit
boards_run_one_split first entries place is_map idle legal is = by (board_stands first entries is_map idle legal) where
  by : Stands first entries → (plan : SplitPlan) × IsRunningSplit first entries place plan
  by (rests none formed owed) = let two : None ≡ Some place = sym none ∙ is in absurd (cc)
  by (builds before plan ends running may owed) =
      let same : Some place ≡ Some (length before) = sym is ∙ running in
      (plan, record { before = before; later = []; entries_are = ends; place_is = cc; few = omega arith; split = may.0 })
  by (recovers before plan ends running may owed) =
      let same : Some place ≡ Some (length before) = sym is ∙ running in (
        plan,
        record {
          before = before;
          later = board.Recovering plan.parent ∷ [];
          entries_are = ends;
          place_is = cc;
          few = omega arith;
          split = may.0;
        },
      )

-- ---- what may come after the entries of a split
pub may_go_on_begun : (first : List Slice) (entries : List BoardEntry) (plan : SplitPlan) → IsMap first
    → IsLegalBoard first (entries ++ board.Begun plan ∷ [])
    → MayNote first (entries ++ board.Begun plan ∷ []) (board.Recovering plan.parent)
may_go_on_begun first entries plan is_map legal =
    let slices = board_map first entries in
    let before = IsLegalBoard-prefix first entries (board.Begun plan ∷ []) legal in
    let may = MayNote_end first entries (board.Begun plan) legal in
    let next : MayChange (after slices (Change.Begun plan.parent plan.subs)) (Change.Recovering plan.parent) =
    (begun_is_split slices plan.parent plan.subs (board_is_map first entries is_map before) may, All-forming_begun slices plan.subs may.idle) in
    subst (λ s. MayChange s (Change.Recovering plan.parent)) (sym (board_map-push first entries (board.Begun plan))) next

pub may_go_on_recovered : (first : List Slice) (entries : List BoardEntry) (parent : SliceId)
    → IsLegalBoard first (entries ++ board.Recovering parent ∷ [])
    → MayNote first (entries ++ board.Recovering parent ∷ []) (board.Done parent)
may_go_on_recovered first entries parent legal =
    let slices = board_map first entries in
    let one : BoardEntry = board.Recovering parent in
    let may = MayNote_end first entries one legal in
    let next : IsBeingSplit (after slices (Change.Recovering parent)) parent × AreRecovering (after slices (Change.Recovering parent)) =
    (recovering_is_split slices parent may.0, AreRecovering-after slices parent) in
    subst (λ s. IsBeingSplit s parent × AreRecovering s) (sym (board_map-push first entries one)) next

pub boards_go_on : BoardsGoOn
boards_go_on first entries plan is_map idle = (
  λ legal. let may = may_go_on_begun first entries plan is_map legal in (may, may.0),
  λ legal.
      let two : List BoardEntry = (entries ++ board.Begun plan ∷ []) ++ board.Recovering plan.parent ∷ [] in
      let is = append-cons entries (board.Begun plan) (board.Recovering plan.parent ∷ []) in
      let may = may_go_on_recovered first (entries ++ board.Begun plan ∷ []) plan.parent (subst (IsLegalBoard first) (sym is) legal) in
      let here = subst (λ j. MayNote first j (board.Done plan.parent)) is may in
      (here, here.0),
)

pub boards_grow : BoardGrowsByWhatMayCome
boards_grow first = (IsLegalBoard-none first, IsLegalBoard-push first)

pub boards_have_prefixes : HasLegalBoardPrefixes
boards_have_prefixes = IsLegalBoard-prefix

-- ---- ids
subs_are_few : (slices : List Slice) (change : Change) → MayChange slices change → subs_begun change ≤ most_slices
subs_are_few slices (Change.Begun parent subs) may = let few = may.few in omega arith
subs_are_few slices (Change.Recovering parent) may = omega arith
subs_are_few slices (Change.Switched parent) may = omega arith
subs_are_few slices (Change.Failed parent) may = omega arith
subs_are_few slices (Change.Dropped slice) may = omega arith

ids_up : (slices : List Slice) (change : Option Change) → IfSome change (MayChange slices)
    → greatest_id (option_map_or (after slices) change slices) ≤ greatest_id slices + most_slices
ids_up slices None may = omega arith
ids_up slices (Some change) may =
    omega (arith, counts_ids_up slices (change ∷ []) (may, tt), sum_by-cons subs_begun change [], subs_are_few slices change may)

pub board_ids : (first : List Slice) (entries : List BoardEntry) → IsLegalBoard first entries
    → greatest_id (board_map first entries) ≤ greatest_id first + most_slices * length entries
board_ids first entries =
    board_induction first (λ j. greatest_id (board_map first j) ≤ greatest_id first + most_slices * length j) (omega arith)
    (λ j one legal may most.
    let up = ids_up (board_map first j) (board_change_of one) (may_change first j one may) in
    let is = ap greatest_id (board_map-push first j one) in
    omega (arith, length-append j (one ∷ []), up, is, most)) entries

pub boards_count_ids_up : BoardsCountIdsUp
boards_count_ids_up first entries is_map idle legal =
    let most = board_ids first entries legal in
    (most, λ few short. omega arith)

-- ---- a split that failed
pub failed_leaves_the_map : FailedLeavesTheMap
failed_leaves_the_map first entries plan may =
    let slices = board_map first entries in
    let parent = plan.parent in
    let undone = undoes_a_failed_split slices parent plan.subs may in
    let at : (later : List BoardEntry) → board_map first (entries ++ later) ≡ board_map slices later = board_map-append first entries in
    let begun = after slices (Change.Begun parent plan.subs) in
    (at _ ∙ undone, at _ ∙ may_leave_recovery_out begun parent (Change.Failed parent) refl ∙ undone)

-- ---- what is owed
-- the number of inactive slices after an entry is as after the same one of a bucket's journal
inactive-begun : (slices : List Slice) (plan : SplitPlan)
    → count_by is_inactive (after slices (Change.Begun plan.parent plan.subs)) ≡ count_by is_inactive slices
inactive-begun slices plan = omega (arith, owed_by_slices-push_begun slices [] plan.parent plan.subs refl)

inactive-switched : (slices : List Slice) (parent : SliceId) → IsMap slices → IsBeingSplit slices parent
    → count_by is_inactive (after slices (Change.Switched parent)) ≡ count_by is_inactive slices + 1
inactive-switched slices parent is_map split =
    let begun : List Entry = entry.Begun parent [] ∷ [] in
    let nil = append-nil slices in
    let push = owed_by_slices-push_switched slices begun parent (subst IsMap (sym nil) is_map)
    (subst (λ s. IsBeingSplit s parent) (sym nil) split) refl in
    omega (arith, push, ap (λ s. count_by is_inactive (after s (Change.Switched parent))) nil, ap (count_by is_inactive) nil)

inactive-failed : (slices : List Slice) (parent : SliceId)
    → count_by is_inactive (after slices (Change.Failed parent)) ≡ count_by is_inactive slices
inactive-failed slices parent =
    let begun : List Entry = entry.Begun parent [] ∷ [] in
    let nil = append-nil slices in
    omega (
      arith,
      owed_by_slices-push_failed slices begun parent refl,
      ap (λ s. count_by is_inactive (after s (Change.Failed parent))) nil,
      ap (count_by is_inactive) nil,
    )

inactive-dropped : (slices : List Slice) (slice : SliceId) → IsMap slices → IsInactive slices slice
    → count_by is_inactive (after slices (Change.Dropped slice)) + 1 ≡ count_by is_inactive slices
inactive-dropped slices slice is_map inactive = omega (arith, owed_by_slices-push_dropped slices [] slice is_map inactive)

is_inactive-recovering : (slice : Slice) → is_inactive (recovering_slice slice) ≡ is_inactive slice
is_inactive-recovering slice = by slice.state refl where
  by : (state : State) → slice.state ≡ state
      → is_inactive (cond (is_forming_state state) (in_state states.Recovery slice) slice) ≡ is_inactive_state state
  by states.Active is = ap is_inactive_state is
  by states.Inactive is = ap is_inactive_state is
  by states.Construction is = refl
  by states.Recovery is = refl

inactive-recovering : (slices : List Slice) → count_by is_inactive (map recovering_slice slices) ≡ count_by is_inactive slices
inactive-recovering slices =
    count_by-map recovering_slice is_inactive slices ∙ ap (λ (p : Slice → Bool). count_by p slices) (fun_ext is_inactive-recovering)

-- what is owed after an entry, by its split and by the inactive slices
board_owed-push : (first : List Slice) (entries : List BoardEntry) (one : BoardEntry)
    → board_owed first (entries ++ one ∷ [])
    ≡ owed_after (owed_by_split entries) one + count_by is_inactive (after_entry (board_map first entries) one)
board_owed-push first entries one =
    let split = owed_by_split-push entries one in
    let slices = ap (count_by is_inactive) (board_map-push first entries one) in
    omega (arith, split, slices)

pub owed_where_building : (first : List Slice) (entries : List BoardEntry) (parent : SliceId) → MayNote first entries (board.Recovering parent)
    → Stands first entries → owed_by_split entries ≡ 3
owed_where_building first entries parent may (rests none idle owed) = absurd (not_open (board_map first entries) parent may.0 idle)
owed_where_building first entries parent may (builds before plan ends running may2 owed) = owed
owed_where_building first entries parent may (recovers before plan ends running done owed) =
    absurd (not_both (board_map first entries) parent may.0 may.1 done.1)

pub owed_where_recovering : (first : List Slice) (entries : List BoardEntry) (parent : SliceId) → MayNote first entries (board.Done parent)
    → Stands first entries → owed_by_split entries ≡ 2
owed_where_recovering first entries parent may (rests none idle owed) = absurd (not_open (board_map first entries) parent may.0 idle)
owed_where_recovering first entries parent may (builds before plan ends running may2 owed) =
    absurd (not_both (board_map first entries) parent may.0 may2.1 may.1)
owed_where_recovering first entries parent may (recovers before plan ends running done owed) = owed

pub owed_where_open : (first : List Slice) (entries : List BoardEntry) (parent : SliceId) → IsBeingSplit (board_map first entries) parent
    → Stands first entries → 2 ≤ owed_by_split entries
owed_where_open first entries parent split (rests none idle owed) = absurd (not_open (board_map first entries) parent split idle)
owed_where_open first entries parent split (builds before plan ends running may2 owed) = omega arith
owed_where_open first entries parent split (recovers before plan ends running done owed) = omega arith

pub board_owed-begun : (first : List Slice) (entries : List BoardEntry) (plan : SplitPlan) → Stands first entries
    → MayNote first entries (board.Begun plan) → board_owed first (entries ++ board.Begun plan ∷ []) ≡ board_owed first entries + 3
board_owed-begun first entries plan stands may =
    let rest = rests_where_idle first entries stands may.idle in
    let none = rest.1 in
    omega (arith, board_owed-push first entries (board.Begun plan), none, inactive-begun (board_map first entries) plan)

pub board_owed-recovering : (first : List Slice) (entries : List BoardEntry) (parent : SliceId) → Stands first entries
    → MayNote first entries (board.Recovering parent)
    → board_owed first (entries ++ board.Recovering parent ∷ []) + 1 ≡ board_owed first entries
board_owed-recovering first entries parent stands may =
    let three = owed_where_building first entries parent may stands in
    omega (arith, board_owed-push first entries (board.Recovering parent), three, inactive-recovering (board_map first entries))

pub board_owed-done : (first : List Slice) (entries : List BoardEntry) (parent : SliceId) → IsMap (board_map first entries)
    → Stands first entries → MayNote first entries (board.Done parent)
    → board_owed first (entries ++ board.Done parent ∷ []) + 1 ≡ board_owed first entries
board_owed-done first entries parent is_map stands may =
    let two = owed_where_recovering first entries parent may stands in
    let more = inactive-switched (board_map first entries) parent is_map may.0 in
    omega (arith, board_owed-push first entries (board.Done parent), two, more)

-- where the split failed all that it owed is over with
pub board_owed-failed : (first : List Slice) (entries : List BoardEntry) (parent : SliceId)
    → board_owed first (entries ++ board.Failed parent ∷ []) + owed_by_split entries ≡ board_owed first entries
board_owed-failed first entries parent =
    omega (arith, board_owed-push first entries (board.Failed parent), inactive-failed (board_map first entries) parent)

pub board_owed-dropped : (first : List Slice) (entries : List BoardEntry) (slice : SliceId) → IsMap (board_map first entries)
    → MayNote first entries (board.Dropped slice)
    → board_owed first (entries ++ board.Dropped slice ∷ []) + 1 ≡ board_owed first entries
board_owed-dropped first entries slice is_map may =
    let less = inactive-dropped (board_map first entries) slice is_map may.1 in
    omega (arith, board_owed-push first entries (board.Dropped slice), less)

pub board_owed-led : (first : List Slice) (entries : List BoardEntry) (slice : SliceId) (replica : ℕ)
    → board_owed first (entries ++ board.Led slice replica ∷ []) ≡ board_owed first entries
board_owed-led first entries slice replica = board_owed-push first entries (board.Led slice replica)

pub boards_owe_entries : BoardsOweEntries
boards_owe_entries first entries plan slice replica is_map idle legal =
    let stands = board_stands first entries is_map idle legal in
    let slices = board_is_map first entries is_map legal in (
      board_owed-begun first entries plan stands,
      board_owed-recovering first entries slice stands,
      board_owed-done first entries slice slices stands,
      λ may.
          let two = owed_where_open first entries slice may stands in
          let push = board_owed-failed first entries slice in
          omega arith,
      board_owed-dropped first entries slice slices,
      λ may. board_owed-led first entries slice replica,
    )
