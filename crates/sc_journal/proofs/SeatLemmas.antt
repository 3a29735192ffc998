-- Which cores sit in the seats of a slice of a legal journal: each in one.
use Rattle.std.proofs.Common.{◌≡◌, ◌≢◌, ◌∙◌, ℕ, ◌+◌, ◌-◌, ◌<◌, ◌≤◌, ◌⊎◌, inl, inr, Bool, true, false, cond, not, eqb, List, [], ◌∷◌, ◌++◌, length, get_or, map, filter, swap, IsPermutation, Contains, refl, sym, ap, subst, arith}
use Rattle.std.specs.List.{range_with_len}
use Rattle.std.proofs.lemmas.Bool.{eq-eqb, eqb-true, ne_eqb, false≢true}
use Rattle.std.proofs.lemmas.List.{map-id, ext_get_or}
use Rattle.std.proofs.lemmas.List.Edits.{length-swap, Swapped, swapped_from_swap}
use Rattle.std.proofs.lemmas.List.Elements.{Contains-append_left, Contains-append_cases}
use Rattle.std.proofs.lemmas.List.FromFn.{length-map-range_with_len, get_or-map-range_with_len}
use Rattle.std.proofs.lemmas.List.Sorted.{IsPermutation-refl, IsPermutation-trans, IsPermutation-swap}
use Rattle.std.proofs.lemmas.List.Sums.{fold-append}
use Rattle.sc_record.specs.Names.{key_of_core}
use Rattle.sc_record.specs.declared.slice.SliceId.{SliceId}
use Rattle.sc_record.specs.declared.slice.SubSlice.{SubSlice}
use Rattle.sc_record.specs.declared.slice.CoreId.{CoreId}
use Rattle.sc_record.specs.declared.entry.Entry.{Entry}
use Rattle.sc_record.specs.declared.entry.Entry.TheVariants as entry
use Rattle.sc_cluster.specs.declared.slice.Slice.{Slice}
use Rattle.sc_cluster.specs.Slices.{is_forming, forming}
use Rattle.sc_cluster.specs.Map.{IsMap}
use Rattle.sc_cluster.specs.Changes.{Change, after, begun_slice, switched_slice}
use Rattle.sc_cluster.proofs.IdLemmas.{id_of}
use Rattle.sc_cluster.proofs.ListLemmas.{Contains-map, Contains-filter, Contains-from_filter}
use Rattle.sc_cluster.proofs.OrderLemmas.{same_from_rising_key}
use Rattle.sc_cluster.proofs.PairLemmas.{Contains-from_map}
use Rattle.sc_cluster.proofs.StateLemmas.{is_settled, is_other, active_settled, is_forming-switched, switched_keeps}
use Rattle.sc_journal.specs.Seats.{exchanged, seats_after, seats}
use Rattle.sc_journal.specs.Legal.{MayFollow, IsLegal}
use Rattle.sc_journal.specs.Laws.{SeatsAreExchanged, SeatsBeginInOrder}
use Rattle.sc_journal.specs.Splits.{map_after}
use Rattle.sc_journal.proofs.FollowerLemmas.{follower_is}
use Rattle.sc_journal.proofs.LegalLemmas.{legal_induction}
use Rattle.sc_journal.proofs.MapLemmas.{legal_fits}
use Rattle.sc_journal.proofs.SplitLemmas.{map_after-push, map_after-left, LeavesSlices, LeavesSlices-write, LeavesSlices-settled, LeavesSlices-committed, LeavesSlices-down, LeavesSlices-up, LeavesSlices-led}

-- the cores by their seats after one entry more
pub seats-push : (journal : List Entry) (one : Entry) (slice : SliceId)
    → seats (journal ++ one ∷ []) slice ≡ seats_after slice (seats journal slice) one
seats-push journal one slice = fold-append (seats_after slice) (λ (seat : ℕ). seat) journal (one ∷ [])

-- the entry moves no core, which is so of each but one by which a core takes the lead and one that drops a slice
abbrev pub LeavesSeats : Entry → Type 0
LeavesSeats one = (slice : SliceId) (core_in : ℕ → ℕ) → seats_after slice core_in one ≡ core_in

-- after such an entry the same cores sit in the seats
pub seats-left : (journal : List Entry) (one : Entry) (slice : SliceId) → LeavesSeats one
    → seats (journal ++ one ∷ []) slice ≡ seats journal slice
seats-left journal one slice leaves = seats-push journal one slice ∙ leaves slice (seats journal slice)

-- after a drop each core of the slice sits in the seat of its number, and those of other slices sit where they sat
pub seats-push_dropped : (journal : List Entry) (dropped id : SliceId) (t : Bool) → eqb dropped.0 id.0 ≡ t
    → seats (journal ++ entry.Dropped dropped ∷ []) id ≡ cond t (λ (seat : ℕ). seat) (seats journal id)
seats-push_dropped journal dropped id t is =
    seats-push journal (entry.Dropped dropped) id ∙ ap (λ b. cond b (λ (seat : ℕ). seat) (seats journal id)) is

-- once a core took the lead, it and the core that led before changed seats, and those of other slices sit where they sat
pub seats-push_led : (journal : List Entry) (core : CoreId) (id : SliceId) (t : Bool) → eqb core.slice.0 id.0 ≡ t
    → seats (journal ++ entry.Led core ∷ []) id ≡ cond t (exchanged core.replica (seats journal id)) (seats journal id)
seats-push_led journal core id t is =
    seats-push journal (entry.Led core) id
    ∙ ap (λ b. cond b (exchanged core.replica (seats journal id)) (seats journal id)) is

-- the cores of so many seats
abbrev seated : (ℕ → ℕ) → ℕ → List ℕ
seated core_in replicas = map core_in (range_with_len 1 replicas)

-- the core in one seat, once another and that of seat 1 changed places
exchanged_first : (seat : ℕ) (core_in : ℕ → ℕ) → exchanged seat core_in 1 ≡ core_in seat
exchanged_first seat core_in = refl

exchanged_own : (seat : ℕ) (core_in : ℕ → ℕ) → seat ≢ 1 → exchanged seat core_in seat ≡ core_in 1
exchanged_own seat core_in higher =
    ap (λ b. cond b (core_in seat) (cond (eqb seat seat) (core_in 1) (core_in seat))) (ne_eqb seat 1 higher)
    ∙ ap (λ b. cond b (core_in 1) (core_in seat)) (eq-eqb seat seat refl)

pub exchanged_other : (seat : ℕ) (core_in : ℕ → ℕ) (at : ℕ) → at ≢ 1 → at ≢ seat → exchanged seat core_in at ≡ core_in at
exchanged_other seat core_in at higher other =
    ap (λ b. cond b (core_in seat) (cond (eqb at seat) (core_in 1) (core_in at))) (ne_eqb at 1 higher)
    ∙ ap (λ b. cond b (core_in 1) (core_in at)) (ne_eqb at seat other)

-- so the cores of all seats are the same, in another order
seated_exchanged : (seat : ℕ) (core_in : ℕ → ℕ) (replicas : ℕ) → 2 ≤ seat → seat ≤ replicas
    → IsPermutation (seated (exchanged seat core_in) replicas) (seated core_in replicas)
seated_exchanged seat core_in replicas low high =
    IsPermutation-swap news olds 0 (seat - 1) (omega (arith, long, low, high)) (omega (arith, long, low, high))
    (ext_get_or 0 olds (swap news 0 (seat - 1))
    (omega (arith, long, long_before, length-swap news 0 (seat - 1)))
    (λ i below. at i (omega (arith, below, long_before)) (eqb i 0) refl (eqb i (seat - 1)) refl))
  where
    olds : List ℕ
    olds = seated core_in replicas

    news : List ℕ
    news = seated (exchanged seat core_in) replicas

    long : length news ≡ replicas
    long = length-map-range_with_len (exchanged seat core_in) 1 replicas

    long_before : length olds ≡ replicas
    long_before = length-map-range_with_len core_in 1 replicas

    moved : Swapped (λ i. get_or news i 0) (λ i. get_or (swap news 0 (seat - 1)) i 0) 0 (seat - 1)
    moved =
        swapped_from_swap news (swap news 0 (seat - 1)) 0 (seat - 1) 0 (omega (arith, long, low, high))
        (omega (arith, long, low, high)) refl

    old : (i j : ℕ) → i < replicas → 1 + i ≡ j → get_or olds i 0 ≡ core_in j
    old i j below is = get_or-map-range_with_len core_in 1 replicas i j 0 below is

    new : (i j : ℕ) → i < replicas → 1 + i ≡ j → get_or news i 0 ≡ exchanged seat core_in j
    new i j below is = get_or-map-range_with_len (exchanged seat core_in) 1 replicas i j 0 below is

    at : (i : ℕ) → i < replicas → (t : Bool) → eqb i 0 ≡ t → (u : Bool) → eqb i (seat - 1) ≡ u
        → get_or olds i 0 ≡ get_or (swap news 0 (seat - 1)) i 0
    at i below true is u last =
        let first : i ≡ 0 = eqb-true i 0 is in
        ap (λ k. get_or olds k 0) first ∙ old 0 1 (omega (arith, low, high)) refl
        ∙ sym (exchanged_own seat core_in (omega arith))
        ∙ sym (new (seat - 1) seat (omega (arith, low, high)) (omega (arith, low))) ∙ sym moved.0
        ∙ ap (λ k. get_or (swap news 0 (seat - 1)) k 0) (sym first)
    at i below false is true last =
        let end : i ≡ seat - 1 = eqb-true i (seat - 1) last in
        ap (λ k. get_or olds k 0) end ∙ old (seat - 1) seat (omega (arith, low, high)) (omega (arith, low))
        ∙ sym (exchanged_first seat core_in)
        ∙ sym (new 0 1 (omega (arith, low, high)) refl) ∙ sym moved.1
        ∙ ap (λ k. get_or (swap news 0 (seat - 1)) k 0) (sym end)
    at i below false is false last =
        let not_first : i ≢ 0 = λ same. false≢true (sym is ∙ eq-eqb i 0 same) in
        let not_last : i ≢ seat - 1 = λ same. false≢true (sym last ∙ eq-eqb i (seat - 1) same) in
        old i (1 + i) below refl
        ∙ sym (exchanged_other seat core_in (1 + i) (λ same. not_first (omega (arith, same)))
        (λ same. not_last (omega (arith, same))))
        ∙ sym (new i (1 + i) below refl) ∙ sym (moved.2 i not_first not_last)

-- each core of the slice sits in one of its seats
abbrev pub IsSeated : List Entry → SliceId → ℕ → Type 0
IsSeated journal slice replicas = IsPermutation (seated (seats journal slice) replicas) (range_with_len 1 replicas)

-- no slice that is settled has this id
abbrev IsNone : List Slice → SliceId → Type 0
IsNone slices id = (slice : Slice) → Contains slices slice → is_forming slice ≡ false → slice.id.0 ≢ id.0

-- Where no settled slice has an id, core k sits in seat k; and each core of a settled slice sits in one of its seats.
record SeatFit (slices : List Slice) (journal : List Entry) : Type 0 where
  pub first : (id : SliceId) → IsNone slices id → seats journal id ≡ (λ (seat : ℕ). seat)
  pub seated : (slice : Slice) → Contains slices slice → is_forming slice ≡ false → IsSeated journal slice.id slice.replicas

-- at first
seated_first : (journal : List Entry) (id : SliceId) (replicas : ℕ) → seats journal id ≡ (λ (seat : ℕ). seat)
    → IsSeated journal id replicas
seated_first journal id replicas is =
    subst (λ (core_in : ℕ → ℕ). IsPermutation (seated core_in replicas) (range_with_len 1 replicas)) (sym is)
    (subst (λ (cores : List ℕ). IsPermutation cores (range_with_len 1 replicas)) (sym (map-id (range_with_len 1 replicas)))
    (IsPermutation-refl (range_with_len 1 replicas)))

fit_none : (first : List Slice) → SeatFit first []
fit_none first = record {
  first = λ id none. refl;
  seated = λ slice there settled. seated_first [] slice.id slice.replicas refl;
}

-- cores that sit as before
seated_same : (journal longer : List Entry) (id : SliceId) (replicas : ℕ) → seats longer id ≡ seats journal id
    → IsSeated journal id replicas → IsSeated longer id replicas
seated_same journal longer id replicas same =
    subst (λ (core_in : ℕ → ℕ). IsPermutation (seated core_in replicas) (range_with_len 1 replicas)) (sym same)

-- after an entry that changes no seats, where each settled slice was settled before, or there is none of its id
fit_kept : (slices slices_after : List Slice) (journal : List Entry) (one : Entry)
    → LeavesSeats one
    → ((id : SliceId) → IsNone slices_after id → IsNone slices id)
    → ((slice : Slice) → Contains slices_after slice → is_forming slice ≡ false → IsSeated journal slice.id slice.replicas)
    → SeatFit slices journal → SeatFit slices_after (journal ++ one ∷ [])
fit_kept slices slices_after journal one same none each fit = record {
  first = λ id absent. seats-left journal one id same ∙ fit.first id (none id absent);
  seated = λ slice there settled.
      seated_same journal (journal ++ one ∷ []) slice.id slice.replicas (seats-left journal one slice.id same)
      (each slice there settled);
}

-- after an entry that changes neither slices nor seats
fit_left : (first : List Slice) (journal : List Entry) (one : Entry) → LeavesSlices one
    → LeavesSeats one
    → SeatFit (map_after first journal) journal → SeatFit (map_after first (journal ++ one ∷ [])) (journal ++ one ∷ [])
fit_left first journal one leaves same fit =
    let slices = map_after first journal in
    subst (λ these. SeatFit these (journal ++ one ∷ [])) (sym (map_after-left first journal one leaves))
    (fit_kept slices slices journal one same (λ id none. none) fit.seated fit)

-- after one that changes the slices
fit_changed : (first : List Slice) (journal : List Entry) (one : Entry) (change : Change)
    → map_after first (journal ++ one ∷ []) ≡ after (map_after first journal) change
    → SeatFit (after (map_after first journal) change) (journal ++ one ∷ [])
    → SeatFit (map_after first (journal ++ one ∷ [])) (journal ++ one ∷ [])
fit_changed first journal one change is = subst (λ slices. SeatFit slices (journal ++ one ∷ [])) (sym is)

fit_begun : (slices : List Slice) (journal : List Entry) (parent : SliceId) (subs : List SubSlice)
    → SeatFit slices journal → SeatFit (slices ++ map begun_slice subs) (journal ++ entry.Begun parent subs ∷ [])
fit_begun slices journal parent subs fit =
    fit_kept slices (slices ++ map begun_slice subs) journal (entry.Begun parent subs) (λ id core_in. refl) none each fit
  where
    none : (id : SliceId) → IsNone (slices ++ map begun_slice subs) id → IsNone slices id
    none id absent slice there = absent slice (Contains-append_left slices (map begun_slice subs) slice there)

    each : (slice : Slice) → Contains (slices ++ map begun_slice subs) slice → is_forming slice ≡ false
        → IsSeated journal slice.id slice.replicas
    each slice there settled = by (Contains-append_cases slices (map begun_slice subs) slice there) where
      by : Contains slices slice ⊎ Contains (map begun_slice subs) slice → IsSeated journal slice.id slice.replicas
      by (inl before) = fit.seated slice before settled
      by (inr begun) =
          let made = Contains-from_map begun_slice subs slice begun in
          let forms : true ≡ is_forming slice = ap is_forming made.2 in
          absurd (false≢true (sym settled ∙ sym forms))

fit_switched : (slices : List Slice) (journal : List Entry) (parent : SliceId) → IsMap slices
    → SeatFit slices journal → SeatFit (map (switched_slice parent) slices) (journal ++ entry.Switched parent ∷ [])
fit_switched slices journal parent is_map fit =
    fit_kept slices (map (switched_slice parent) slices) journal (entry.Switched parent) (λ id core_in. refl) none each fit
  where
    none : (id : SliceId) → IsNone (map (switched_slice parent) slices) id → IsNone slices id
    none id absent slice there settled own =
        absent (switched_slice parent slice) (Contains-map (switched_slice parent) slices slice there)
        (is_forming-switched parent slice) (switched_keeps id_of (λ _ _. refl) parent slice ∙ own)

    before : (slice : Slice) → Contains slices slice → IsSeated journal slice.id slice.replicas
    before slice there = by (is_forming slice) refl where
      by : (t : Bool) → is_forming slice ≡ t → IsSeated journal slice.id slice.replicas
      by false is = fit.seated slice there is
      by true is =
          seated_first journal slice.id slice.replicas (fit.first slice.id (λ other inside settled own.
          let same : other ≡ slice = same_from_rising_key id_of slices other slice is_map.ids inside there own in
          false≢true (sym settled ∙ ap is_forming same ∙ is)))

    each : (slice : Slice) → Contains (map (switched_slice parent) slices) slice → is_forming slice ≡ false
        → IsSeated journal slice.id slice.replicas
    each slice there settled =
        let (old, inside, made) = Contains-from_map (switched_slice parent) slices slice there in
        let id : old.id ≡ slice.id =
        sym (switched_keeps (λ (s : Slice). s.id) (λ _ _. refl) parent old) ∙ ap (λ (s : Slice). s.id) made in
        let replicas : old.replicas ≡ slice.replicas =
        sym (switched_keeps (λ (s : Slice). s.replicas) (λ _ _. refl) parent old) ∙ ap (λ (s : Slice). s.replicas) made in
        subst (λ i. IsSeated journal i slice.replicas) id (subst (IsSeated journal old.id) replicas (before old inside))

fit_failed : (slices : List Slice) (journal : List Entry) (parent : SliceId)
    → SeatFit slices journal → SeatFit (filter is_settled slices) (journal ++ entry.Failed parent ∷ [])
fit_failed slices journal parent fit =
    fit_kept slices (filter is_settled slices) journal (entry.Failed parent) (λ id core_in. refl)
    (λ id absent slice there settled.
    absent slice (Contains-filter is_settled slices slice there (ap not settled)) settled)
    (λ slice there. fit.seated slice (Contains-from_filter is_settled slices slice there).0) fit

fit_dropped : (slices : List Slice) (journal : List Entry) (dropped : SliceId)
    → SeatFit slices journal → SeatFit (filter (is_other dropped) slices) (journal ++ entry.Dropped dropped ∷ [])
fit_dropped slices journal dropped fit = record {
  first = λ id absent. first id absent (eqb dropped.0 id.0) refl;
  seated = λ slice there settled.
      let kept = Contains-from_filter (is_other dropped) slices slice there in
      seated_same journal longer slice.id slice.replicas (stays slice.id (apart slice kept.1))
      (fit.seated slice kept.0 settled);
} where
  longer : List Entry
  longer = journal ++ entry.Dropped dropped ∷ []

  stays : (id : SliceId) → dropped.0 ≢ id.0 → seats longer id ≡ seats journal id
  stays id other = seats-push_dropped journal dropped id false (ne_eqb dropped.0 id.0 other)

  apart : (slice : Slice) → is_other dropped slice ≡ true → dropped.0 ≢ slice.id.0
  apart slice other own =
      let same : is_other dropped slice ≡ false = ap not (eq-eqb slice.id.0 dropped.0 (sym own)) in
      false≢true (sym same ∙ other)

  first : (id : SliceId) → IsNone (filter (is_other dropped) slices) id → (t : Bool) → eqb dropped.0 id.0 ≡ t
      → seats longer id ≡ (λ (seat : ℕ). seat)
  first id absent true is = seats-push_dropped journal dropped id true is
  first id absent false is =
      seats-push_dropped journal dropped id false is ∙ fit.first id (λ slice there settled own.
      let other : is_other dropped slice ≡ true =
      ap not (ne_eqb slice.id.0 dropped.0 (λ same. false≢true (sym is ∙ eq-eqb dropped.0 id.0 (sym same ∙ own)))) in
      absent slice (Contains-filter (is_other dropped) slices slice there other) settled own)

-- after a core took the lead
fit_led : (slices : List Slice) (journal : List Entry) (core : CoreId) → IsMap slices
    → (slice : Slice) → Contains slices slice → is_forming slice ≡ false → core.slice.0 ≡ slice.id.0
    → 2 ≤ core.replica → core.replica ≤ slice.replicas
    → SeatFit slices journal → SeatFit slices (journal ++ entry.Led core ∷ [])
fit_led slices journal core is_map slice inside settled of_slice low high fit = record {
  first = λ id absent.
      seats-push_led journal core id false (ne_eqb core.slice.0 id.0 (λ own. absent slice inside settled (sym of_slice ∙ own)))
      ∙ fit.first id absent;
  seated = λ other there other_settled. seated_then other there other_settled (eqb core.slice.0 other.id.0) refl;
} where
  longer : List Entry
  longer = journal ++ entry.Led core ∷ []

  seated_then : (other : Slice) → Contains slices other → is_forming other ≡ false → (t : Bool)
      → eqb core.slice.0 other.id.0 ≡ t → IsSeated longer other.id other.replicas
  seated_then other there other_settled false is =
      seated_same journal longer other.id other.replicas (seats-push_led journal core other.id false is)
      (fit.seated other there other_settled)
  seated_then other there other_settled true is =
      let same : other ≡ slice = same_from_rising_key id_of slices other slice is_map.ids there inside
      (sym (eqb-true core.slice.0 other.id.0 is) ∙ of_slice) in
      let within : core.replica ≤ other.replicas =
      subst (λ (s : Slice). core.replica ≤ s.replicas) (sym same) high in
      subst (λ (core_in : ℕ → ℕ). IsPermutation (seated core_in other.replicas) (range_with_len 1 other.replicas))
      (sym (seats-push_led journal core other.id true is))
      (IsPermutation-trans (seated (exchanged core.replica (seats journal other.id)) other.replicas)
      (seated (seats journal other.id) other.replicas) (range_with_len 1 other.replicas)
      (seated_exchanged core.replica (seats journal other.id) other.replicas low within)
      (fit.seated other there other_settled))

fit_push : (first : List Slice) → IsMap first → forming first ≡ [] → (journal : List Entry) (one : Entry)
    → IsLegal first journal → MayFollow first journal one → SeatFit (map_after first journal) journal
    → SeatFit (map_after first (journal ++ one ∷ [])) (journal ++ one ∷ [])
fit_push first is_map idle journal (entry.Write cell) legal may fit =
    fit_left first journal (entry.Write cell) (LeavesSlices-write cell) (λ id core_in. refl) fit
fit_push first is_map idle journal (entry.Settled place) legal may fit =
    fit_left first journal (entry.Settled place) (LeavesSlices-settled place) (λ id core_in. refl) fit
fit_push first is_map idle journal entry.Committed legal may fit =
    fit_left first journal entry.Committed LeavesSlices-committed (λ id core_in. refl) fit
fit_push first is_map idle journal (entry.Begun parent subs) legal may fit =
    let one : Entry = entry.Begun parent subs in
    fit_changed first journal one (Change.Begun parent subs)
    (map_after-push first journal one (Change.Begun parent subs) refl)
    (fit_begun (map_after first journal) journal parent subs fit)
fit_push first is_map idle journal (entry.Switched parent) legal may fit =
    let one : Entry = entry.Switched parent in
    fit_changed first journal one (Change.Switched parent)
    (map_after-push first journal one (Change.Switched parent) refl)
    (fit_switched (map_after first journal) journal parent (legal_fits first journal is_map idle legal).is_map fit)
fit_push first is_map idle journal (entry.Failed parent) legal may fit =
    let one : Entry = entry.Failed parent in
    fit_changed first journal one (Change.Failed parent)
    (map_after-push first journal one (Change.Failed parent) refl)
    (fit_failed (map_after first journal) journal parent fit)
fit_push first is_map idle journal (entry.Dropped slice) legal may fit =
    let one : Entry = entry.Dropped slice in
    fit_changed first journal one (Change.Dropped slice)
    (map_after-push first journal one (Change.Dropped slice) refl)
    (fit_dropped (map_after first journal) journal slice fit)
fit_push first is_map idle journal (entry.Down core) legal may fit =
    fit_left first journal (entry.Down core) (LeavesSlices-down core) (λ id core_in. refl) fit
fit_push first is_map idle journal (entry.Up core) legal may fit =
    fit_left first journal (entry.Up core) (LeavesSlices-up core) (λ id core_in. refl) fit
fit_push first is_map idle journal (entry.Led core) legal may fit =
    let one : Entry = entry.Led core in
    let (slice, there, active, follower) = may.follower in
    let number = follower_is slice (key_of_core core) follower in
    subst (λ slices. SeatFit slices (journal ++ one ∷ []))
    (sym (map_after-left first journal one (LeavesSlices-led core)))
    (fit_led (map_after first journal) journal core (legal_fits first journal is_map idle legal).is_map slice there
    (active_settled slice active) number.0 number.1 number.2 fit)

legal_seats : (first : List Slice) (journal : List Entry) → IsMap first → forming first ≡ [] → IsLegal first journal
    → SeatFit (map_after first journal) journal
legal_seats first journal is_map idle legal =
    legal_induction first (λ j. SeatFit (map_after first j) j) (fit_none first) (fit_push first is_map idle) journal legal

pub seats_are_exchanged : SeatsAreExchanged
seats_are_exchanged first journal slice is_map idle legal there = by (is_forming slice) refl where
  fit : SeatFit (map_after first journal) journal
  fit = legal_seats first journal is_map idle legal

  by : (t : Bool) → is_forming slice ≡ t → IsSeated journal slice.id slice.replicas
  by false is = fit.seated slice there is
  by true is =
      seated_first journal slice.id slice.replicas (fit.first slice.id (λ other inside settled own.
      let slices = map_after first journal in
      let same : other ≡ slice =
      same_from_rising_key id_of slices other slice (legal_fits first journal is_map idle legal).is_map.ids inside there own in
      false≢true (sym settled ∙ ap is_forming same ∙ is)))

pub seats_begin_in_order : SeatsBeginInOrder
seats_begin_in_order first journal id is_map idle legal forms seat =
    let make : ℕ → SliceId = λ n. record { 0 = n } in
    ap (λ (core_in : ℕ → ℕ). core_in seat)
    ((legal_seats first journal is_map idle legal).first id
    (λ slice there settled own. false≢true (sym settled ∙ forms slice there (ap make own))))
