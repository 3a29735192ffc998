-- A slice with a core that is down was active once; and once such a slice is gone, no slice has its id again.
use Rattle.std.proofs.Common.{◌≡◌, ◌≢◌, ◌∙◌, ℕ, ◌<◌, inl, inr, Bool, true, false, not, ◌&&◌, eqb, List, [], ◌∷◌, ◌++◌, map, Contains, Option, Some, None, refl, sym, ap, subst, arith}
use Rattle.std.specs.List.{filter_map, cons_option}
use Rattle.std.proofs.lemmas.Bool.{eq-eqb, eqb-true, false≢true}
use Rattle.std.proofs.lemmas.List.{append-nil, append_assoc}
use Rattle.std.proofs.lemmas.List.Elements.{All-contains, Contains-append_cases}
use Rattle.sc_record.specs.Names.{key_of_core, is_key}
use Rattle.sc_record.specs.declared.slice.SliceId.{SliceId}
use Rattle.sc_record.specs.declared.slice.SubSlice.{SubSlice}
use Rattle.sc_record.specs.declared.slice.CoreId.{CoreId}
use Rattle.sc_record.specs.declared.entry.Entry.{Entry}
use Rattle.sc_record.specs.declared.entry.Entry.TheVariants as entry
use Rattle.sc_cluster.specs.declared.slice.State.TheVariants as states
use Rattle.sc_cluster.specs.declared.slice.Slice.{Slice}
use Rattle.sc_cluster.specs.Slices.{forming}
use Rattle.sc_cluster.specs.Map.{IsMap}
use Rattle.sc_cluster.specs.Changes.{Change, after, MayChange, begun_slice, switched_slice}
use Rattle.sc_cluster.specs.Histories.{after_all, AreAllowed}
use Rattle.sc_cluster.specs.Plans.{IsPlan}
use Rattle.sc_cluster.proofs.HistoryLemmas.{uses_no_id_again}
use Rattle.sc_cluster.proofs.IdLemmas.{id_of}
use Rattle.sc_cluster.proofs.ListLemmas.{Contains-from_filter}
use Rattle.sc_cluster.proofs.PairLemmas.{Contains-from_map}
use Rattle.sc_cluster.proofs.StateLemmas.{is_settled, is_other, switched_keeps}
use Rattle.sc_journal.specs.Down.{is_down, IsFollower}
use Rattle.sc_journal.specs.Legal.{MayFollow, IsLegal}
use Rattle.sc_journal.specs.Splits.{map_change_of, map_after}
use Rattle.sc_journal.proofs.ListLemmas.{append-cons}
use Rattle.sc_journal.proofs.DownLemmas.{LeavesCores, LeavesCores-write, LeavesCores-settled, LeavesCores-committed, LeavesCores-begun, LeavesCores-switched, LeavesCores-failed, is_down-push, is_down-left, is_down-push_dropped, is_down-push_dropped_own, is_down-push_down_other, is_down-push_led_other, is_down-push_up_other, same_from_is_key}
use Rattle.sc_journal.proofs.FollowerLemmas.{follower_is}
use Rattle.sc_journal.proofs.LegalLemmas.{IsLegal-prefix, legal_induction}
use Rattle.sc_journal.proofs.MapLemmas.{legal_fits}
use Rattle.sc_journal.proofs.SplitLemmas.{map_after-append, map_after-push, map_after-push_other}

-- numbers that are tested to differ do
pub not-eqb : (a b : ℕ) → eqb a b ≡ false → a ≢ b
not-eqb a b is same = false≢true (sym is ∙ eq-eqb a b same)

-- ---- what a legal journal does to its map
-- an entry that may come changes the slices as they may be changed
may-change : (first : List Slice) (journal : List Entry) (one : Entry) (change : Change) → IsMap first → forming first ≡ []
    → IsLegal first journal → MayFollow first journal one → map_change_of one ≡ Some change
    → MayChange (map_after first journal) change
may-change first journal (entry.Begun parent subs) change is_map idle legal may is =
    let same : Change.Begun parent subs ≡ change = cc in subst (MayChange (map_after first journal)) same may.plan
may-change first journal (entry.Switched parent) change is_map idle legal may is =
    let same : Change.Switched parent ≡ change = cc in
    subst (MayChange (map_after first journal)) same ((legal_fits first journal is_map idle legal).splitting parent may)
may-change first journal (entry.Failed parent) change is_map idle legal may is =
    let same : Change.Failed parent ≡ change = cc in
    subst (MayChange (map_after first journal)) same ((legal_fits first journal is_map idle legal).splitting parent may)
may-change first journal (entry.Dropped slice) change is_map idle legal may is =
    let same : Change.Dropped slice ≡ change = cc in
    subst (MayChange (map_after first journal)) same ((legal_fits first journal is_map idle legal).idle may.idle, may.inactive)
may-change first journal (entry.Write cell) change is_map idle legal may is = absurd (cc)
may-change first journal (entry.Settled place) change is_map idle legal may is = absurd (cc)
may-change first journal entry.Committed change is_map idle legal may is = absurd (cc)
may-change first journal (entry.Down core) change is_map idle legal may is = absurd (cc)
may-change first journal (entry.Up core) change is_map idle legal may is = absurd (cc)
may-change first journal (entry.Led core) change is_map idle legal may is = absurd (cc)

-- the next entry of a legal journal may come, and then it is legal with the rest
pub comes-next : (first : List Slice) (journal : List Entry) (one : Entry) (later : List Entry) → IsLegal first (journal ++ one ∷ later)
    → MayFollow first journal one × IsLegal first ((journal ++ one ∷ []) ++ later)
comes-next first journal one later legal =
    (legal journal one later refl, subst (IsLegal first) (sym (append-cons journal one later)) legal)

-- each change by the later entries of a legal journal is allowed where it comes
pub allowed-after : (first : List Slice) (journal later : List Entry) → IsMap first → forming first ≡ [] → IsLegal first (journal ++ later)
    → AreAllowed (map_after first journal) (filter_map map_change_of later)
allowed-after first journal [] is_map idle legal = tt
allowed-after first journal (one ∷ later) is_map idle legal =
    by (map_change_of one) refl (allowed-after first (journal ++ one ∷ []) later is_map idle next.1)
  where
    next : MayFollow first journal one × IsLegal first ((journal ++ one ∷ []) ++ later)
    next = comes-next first journal one later legal

    by : (change : Option Change) → map_change_of one ≡ change
        → AreAllowed (map_after first (journal ++ one ∷ [])) (filter_map map_change_of later)
        → AreAllowed (map_after first journal) (cons_option (map_change_of one) (filter_map map_change_of later))
    by None is rest =
        subst (λ (c : Option Change). AreAllowed (map_after first journal) (cons_option c (filter_map map_change_of later))) (sym is)
        (subst (λ (slices : List Slice). AreAllowed slices (filter_map map_change_of later)) (map_after-push_other first journal one is) rest)
    by (Some change) is rest =
        subst (λ (c : Option Change). AreAllowed (map_after first journal) (cons_option c (filter_map map_change_of later))) (sym is) (
          may-change first journal one change is_map idle (IsLegal-prefix first journal (one ∷ later) legal) next.0 is,
          subst (λ (slices : List Slice). AreAllowed slices (filter_map map_change_of later)) (map_after-push first journal one change is) rest,
        )

-- ---- a slice with a core that is down was active once
-- some slice of this id was active
pub record WasActive (first : List Slice) (journal : List Entry) (id : ℕ) : Type 0 where
  pub before : List Entry
  pub later : List Entry
  pub journal_is : journal ≡ before ++ later
  pub slice : Slice
  pub there : Contains (map_after first before) slice
  pub active : slice.state ≡ states.Active
  pub id_is : slice.id.0 ≡ id

-- so it was once the journal is longer
pub WasActive-more : (first : List Slice) (journal : List Entry) (one : Entry) (id : ℕ) → WasActive first journal id
    → WasActive first (journal ++ one ∷ []) id
WasActive-more first journal one id was = record {
  before = was.before;
  later = was.later ++ one ∷ [];
  journal_is = ap (λ (j : List Entry). j ++ one ∷ []) was.journal_is ∙ append_assoc was.before was.later (one ∷ []);
  slice = was.slice;
  there = was.there;
  active = was.active;
  id_is = was.id_is;
}

-- a follower's slice is
WasActive-now : (first : List Slice) (journal : List Entry) (one : Entry) (core : CoreId) → IsFollower (map_after first journal) core
    → WasActive first (journal ++ one ∷ []) core.slice.0
WasActive-now first journal one core (slice, there, active, follower) = record {
  before = journal;
  later = one ∷ [];
  journal_is = refl;
  slice = slice;
  there = there;
  active = active;
  id_is = sym (follower_is slice (key_of_core core) follower).0;
}

-- so were those of all cores that are down
abbrev WereActive : List Slice → List Entry → Type 0
WereActive first journal = (key : ℕ × ℕ) → is_down journal key ≡ true → WasActive first journal key.0

were-left : (first : List Slice) (journal : List Entry) (one : Entry) → LeavesCores one → WereActive first journal
    → WereActive first (journal ++ one ∷ [])
were-left first journal one leaves were key down =
    WasActive-more first journal one key.0 (were key (sym (is_down-left journal one key leaves) ∙ down))

-- of a core that this entry says is down, and of the others
were-down : (first : List Slice) (journal : List Entry) (one : Entry) (core : CoreId) → IsFollower (map_after first journal) core
    → ((key : ℕ × ℕ) → is_key key (key_of_core core) ≡ false → is_down (journal ++ one ∷ []) key ≡ is_down journal key)
    → WereActive first journal → WereActive first (journal ++ one ∷ [])
were-down first journal one core follower other were key down = by (is_key key (key_of_core core)) refl where
  by : (t : Bool) → is_key key (key_of_core core) ≡ t → WasActive first (journal ++ one ∷ []) key.0
  by true is =
      subst (λ (k : ℕ × ℕ). WasActive first (journal ++ one ∷ []) k.0) (sym (same_from_is_key key (key_of_core core) is))
      (WasActive-now first journal one core follower)
  by false is = WasActive-more first journal one key.0 (were key (sym (other key is) ∙ down))

-- a slice that is dropped has no core that is down
were-dropped : (first : List Slice) (journal : List Entry) (slice : SliceId) → WereActive first journal
    → WereActive first (journal ++ entry.Dropped slice ∷ [])
were-dropped first journal slice were key down = by (eqb key.0 slice.0) refl where
  by : (t : Bool) → eqb key.0 slice.0 ≡ t → WasActive first (journal ++ entry.Dropped slice ∷ []) key.0
  by true is = absurd (false≢true (sym (is_down-push_dropped_own journal slice key (eqb-true key.0 slice.0 is)) ∙ down))
  by false is =
      WasActive-more first journal (entry.Dropped slice) key.0
      (were key (sym (is_down-push_dropped journal slice key (not-eqb key.0 slice.0 is)) ∙ down))

-- nor is a core that comes up
were-up : (first : List Slice) (journal : List Entry) (core : CoreId) → WereActive first journal
    → WereActive first (journal ++ entry.Up core ∷ [])
were-up first journal core were key down = by (is_key key (key_of_core core)) refl where
  by : (t : Bool) → is_key key (key_of_core core) ≡ t → WasActive first (journal ++ entry.Up core ∷ []) key.0
  by true is =
      let up : is_down (journal ++ entry.Up core ∷ []) key ≡ false =
      is_down-push journal (entry.Up core) key ∙ ap (λ b. not b && is_down journal key) is in
      absurd (false≢true (sym up ∙ down))
  by false is = WasActive-more first journal (entry.Up core) key.0 (were key (sym (is_down-push_up_other journal core key is) ∙ down))

were-push : (first : List Slice) (journal : List Entry) (one : Entry) → IsLegal first journal → MayFollow first journal one
    → WereActive first journal → WereActive first (journal ++ one ∷ [])
were-push first journal (entry.Write cell) legal may were = were-left first journal (entry.Write cell) (LeavesCores-write cell) were
were-push first journal (entry.Settled place) legal may were = were-left first journal (entry.Settled place) (LeavesCores-settled place) were
were-push first journal entry.Committed legal may were = were-left first journal entry.Committed LeavesCores-committed were
were-push first journal (entry.Begun parent subs) legal may were = were-left first journal (entry.Begun parent subs) (LeavesCores-begun parent subs) were
were-push first journal (entry.Switched parent) legal may were = were-left first journal (entry.Switched parent) (LeavesCores-switched parent) were
were-push first journal (entry.Failed parent) legal may were = were-left first journal (entry.Failed parent) (LeavesCores-failed parent) were
were-push first journal (entry.Dropped slice) legal may were = were-dropped first journal slice were
were-push first journal (entry.Down core) legal may were =
    were-down first journal (entry.Down core) core may.follower (is_down-push_down_other journal core) were
were-push first journal (entry.Led core) legal may were =
    were-down first journal (entry.Led core) core may.follower (is_down-push_led_other journal core) were
were-push first journal (entry.Up core) legal may were = were-up first journal core were

pub were_active : (first : List Slice) (journal : List Entry) → IsLegal first journal → WereActive first journal
were_active first = legal_induction first (WereActive first) (λ key down. absurd (false≢true down)) (were-push first)

-- ---- once such a slice is gone, no slice has its id again
-- no slice has this id
abbrev pub IsGone : List Slice → ℕ → Type 0
IsGone slices id = (slice : Slice) → Contains slices slice → slice.id.0 ≢ id

-- the subs of a split that begins have later ids
subs-later : (first : List Slice) (journal : List Entry) (parent : SliceId) (subs : List SubSlice) (id : ℕ) → IsMap first
    → forming first ≡ [] → IsLegal first journal → IsPlan (map_after first journal) parent subs → WasActive first journal id
    → (sub : SubSlice) → Contains subs sub → id < sub.id.0
subs-later first journal parent subs id is_map idle legal plan was sub there =
    let whole : IsLegal first (was.before ++ was.later) = subst (IsLegal first) was.journal_is legal in
    let map_is : map_after first journal ≡ after_all (map_after first was.before) (filter_map map_change_of was.later) =
    ap (map_after first) was.journal_is ∙ map_after-append first was.before was.later in
    let above : was.slice.id.0 < sub.id.0 =
    All-contains (λ (one : SubSlice). was.slice.id.0 < one.id.0) subs sub
    (uses_no_id_again (map_after first was.before) (filter_map map_change_of was.later) was.slice parent subs
    (legal_fits first was.before is_map idle (IsLegal-prefix first was.before was.later whole)).is_map
    (allowed-after first was.before was.later is_map idle whole) was.there was.active
    (subst (λ (slices : List Slice). IsPlan slices parent subs) map_is plan)) there in
    subst (λ (n : ℕ). n < sub.id.0) was.id_is above

pub gone-change : (first : List Slice) (journal : List Entry) (one : Entry) (change : Change) (id : ℕ) → map_change_of one ≡ Some change
    → IsGone (after (map_after first journal) change) id → IsGone (map_after first (journal ++ one ∷ [])) id
gone-change first journal one change id is = subst (λ (slices : List Slice). IsGone slices id) (sym (map_after-push first journal one change is))

gone-left : (first : List Slice) (journal : List Entry) (one : Entry) (id : ℕ) → map_change_of one ≡ None
    → IsGone (map_after first journal) id → IsGone (map_after first (journal ++ one ∷ [])) id
gone-left first journal one id is = subst (λ (slices : List Slice). IsGone slices id) (sym (map_after-push_other first journal one is))

gone-push : (first : List Slice) (journal : List Entry) (one : Entry) (id : ℕ) → IsMap first → forming first ≡ []
    → IsLegal first journal → MayFollow first journal one → WasActive first journal id → IsGone (map_after first journal) id
    → IsGone (map_after first (journal ++ one ∷ [])) id
gone-push first journal (entry.Write cell) id is_map idle legal may was gone = gone-left first journal (entry.Write cell) id refl gone
gone-push first journal (entry.Settled place) id is_map idle legal may was gone = gone-left first journal (entry.Settled place) id refl gone
gone-push first journal entry.Committed id is_map idle legal may was gone = gone-left first journal entry.Committed id refl gone
gone-push first journal (entry.Down core) id is_map idle legal may was gone = gone-left first journal (entry.Down core) id refl gone
gone-push first journal (entry.Up core) id is_map idle legal may was gone = gone-left first journal (entry.Up core) id refl gone
gone-push first journal (entry.Led core) id is_map idle legal may was gone = gone-left first journal (entry.Led core) id refl gone
gone-push first journal (entry.Begun parent subs) id is_map idle legal may was gone =
    gone-change first journal (entry.Begun parent subs) (Change.Begun parent subs) id refl by where
      slices : List Slice
      slices = map_after first journal

      by : IsGone (slices ++ map begun_slice subs) id
      by slice there own = elim (Contains-append_cases slices (map begun_slice subs) slice there) [
        | inl before ↦ gone slice before own
        | inr made ↦
            let (sub, inside, is) = Contains-from_map begun_slice subs slice made in
            let above = subs-later first journal parent subs id is_map idle legal may.plan was sub inside in
            let same : sub.id.0 ≡ slice.id.0 = ap (λ (s : Slice). s.id.0) is in
            absurd (omega (arith, above, same, own))
      ]
gone-push first journal (entry.Switched parent) id is_map idle legal may was gone =
    gone-change first journal (entry.Switched parent) (Change.Switched parent) id refl (λ slice there own.
    let (old, inside, made) = Contains-from_map (switched_slice parent) (map_after first journal) slice there in
    gone old inside (sym (switched_keeps id_of (λ _ _. refl) parent old) ∙ ap (λ (s : Slice). s.id.0) made ∙ own))
gone-push first journal (entry.Failed parent) id is_map idle legal may was gone =
    gone-change first journal (entry.Failed parent) (Change.Failed parent) id refl (λ slice there.
    gone slice (Contains-from_filter is_settled (map_after first journal) slice there).0)
gone-push first journal (entry.Dropped dropped) id is_map idle legal may was gone =
    gone-change first journal (entry.Dropped dropped) (Change.Dropped dropped) id refl (λ slice there.
    gone slice (Contains-from_filter (is_other dropped) (map_after first journal) slice there).0)

pub gone-on : (first : List Slice) (journal more : List Entry) (id : ℕ) → IsMap first → forming first ≡ [] → IsLegal first (journal ++ more)
    → WasActive first journal id → IsGone (map_after first journal) id → IsGone (map_after first (journal ++ more)) id
gone-on first journal [] id is_map idle legal was gone =
    subst (λ (j : List Entry). IsGone (map_after first j) id) (sym (append-nil journal)) gone
gone-on first journal (one ∷ more) id is_map idle legal was gone =
    let next = comes-next first journal one more legal in
    subst (λ (j : List Entry). IsGone (map_after first j) id) (append-cons journal one more)
    (gone-on first (journal ++ one ∷ []) more id is_map idle next.1 (WasActive-more first journal one id was)
    (gone-push first journal one id is_map idle (IsLegal-prefix first journal (one ∷ more) legal) next.0 was gone))
