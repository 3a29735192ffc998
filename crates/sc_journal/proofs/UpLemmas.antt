-- A core of a legal journal that was down and is not came up by an entry.
use Rattle.std.proofs.Common.{◌≡◌, ◌≢◌, ◌∙◌, ℕ, ◌≤◌, Bool, true, false, cond, not, ◌||◌, eqb, List, [], ◌∷◌, ◌++◌, length, filter, Contains, Some, refl, sym, ap, subst, arith, length-append}
use Rattle.std.specs.Prelude.{fold}
use Rattle.std.proofs.lemmas.Bool.{eq-eqb, eqb-true, ne_eqb, false≢true}
use Rattle.std.proofs.lemmas.List.{append-nil}
use Rattle.std.proofs.Math.Seq.{take-append_seam}
use Rattle.sc_record.specs.Names.{key_of_core, is_key}
use Rattle.sc_record.specs.declared.slice.SliceId.{SliceId}
use Rattle.sc_record.specs.declared.slice.CoreId.{CoreId}
use Rattle.sc_record.specs.declared.entry.Entry.{Entry}
use Rattle.sc_record.specs.declared.entry.Entry.TheVariants as entry
use Rattle.sc_cluster.specs.declared.slice.Slice.{Slice}
use Rattle.sc_cluster.specs.Slices.{forming}
use Rattle.sc_cluster.specs.Map.{IsMap}
use Rattle.sc_cluster.specs.Changes.{Change}
use Rattle.sc_cluster.proofs.ListLemmas.{Contains-from_filter}
use Rattle.sc_cluster.proofs.StateLemmas.{is_other}
use Rattle.sc_journal.specs.Down.{is_down}
use Rattle.sc_journal.specs.Seats.{exchanged, seats_after, seats}
use Rattle.sc_journal.specs.Legal.{MayFollow, IsLegal}
use Rattle.sc_journal.specs.Laws.{ComesUpAt, ComesUpByAnEntry}
use Rattle.sc_journal.specs.Splits.{map_after}
use Rattle.sc_journal.proofs.ListLemmas.{append-cons, slice_get-append_end}
use Rattle.sc_journal.proofs.DownLemmas.{LeavesCores, LeavesCores-write, LeavesCores-settled, LeavesCores-committed, LeavesCores-begun, LeavesCores-switched, LeavesCores-failed, is_down-push, is_down-left, is_down-push_dropped, is_down-push_up_other, same_from_is_key}
use Rattle.sc_journal.proofs.FollowerLemmas.{follower_is}
use Rattle.sc_journal.proofs.LegalDownLemmas.{down_are_followers}
use Rattle.sc_journal.proofs.LegalLemmas.{IsLegal-prefix}
use Rattle.sc_journal.proofs.SeatLemmas.{LeavesSeats, seats-left, seats-push_dropped, seats-push_led, exchanged_other}
use Rattle.sc_journal.proofs.GoneLemmas.{not-eqb, comes-next, WasActive-more, were_active, IsGone, gone-change, gone-on}

-- ---- no two seats have one core
-- the seats have cores of their own
abbrev AreApart : (ℕ → ℕ) → Type 0
AreApart core_in = (one other : ℕ) → core_in one ≡ core_in other → one ≡ other

-- the seat in which the core of this one was, before the cores of two seats changed places
abbrev was_in : ℕ → ℕ → ℕ
was_in seat at = cond (eqb at 1) seat (cond (eqb at seat) 1 at)

was_in-is : (seat : ℕ) (core_in : ℕ → ℕ) (at : ℕ) → exchanged seat core_in at ≡ core_in (was_in seat at)
was_in-is seat core_in at = by (eqb at 1) (eqb at seat) where
  by : (t u : Bool) → cond t (core_in seat) (cond u (core_in 1) (core_in at)) ≡ core_in (cond t seat (cond u 1 at))
  by true u = refl
  by false true = refl
  by false false = refl

was_in-apart : (seat one other : ℕ) → was_in seat one ≡ was_in seat other → one ≡ other
was_in-apart seat one other = by (eqb one 1) refl (eqb one seat) refl (eqb other 1) refl (eqb other seat) refl where
  by : (t : Bool) → eqb one 1 ≡ t → (u : Bool) → eqb one seat ≡ u → (v : Bool) → eqb other 1 ≡ v → (w : Bool) → eqb other seat ≡ w
      → cond t seat (cond u 1 one) ≡ cond v seat (cond w 1 other) → one ≡ other
  by true a u b true c w d same = eqb-true one 1 a ∙ sym (eqb-true other 1 c)
  by true a u b false c true d same = eqb-true one 1 a ∙ sym same ∙ sym (eqb-true other seat d)
  by true a u b false c false d same = absurd (not-eqb other seat d (sym same))
  by false a true b true c w d same = eqb-true one seat b ∙ sym same ∙ sym (eqb-true other 1 c)
  by false a true b false c true d same = eqb-true one seat b ∙ sym (eqb-true other seat d)
  by false a true b false c false d same = absurd (not-eqb other 1 c (sym same))
  by false a false b true c w d same = absurd (not-eqb one seat b same)
  by false a false b false c true d same = absurd (not-eqb one 1 a same)
  by false a false b false c false d same = same

apart-led : (core_in : ℕ → ℕ) (seat : ℕ) → AreApart core_in → AreApart (exchanged seat core_in)
apart-led core_in seat apart one other same =
    was_in-apart seat one other
    (apart (was_in seat one) (was_in seat other) (sym (was_in-is seat core_in one) ∙ same ∙ was_in-is seat core_in other))

apart-after : (slice : SliceId) (core_in : ℕ → ℕ) (one : Entry) → AreApart core_in → AreApart (seats_after slice core_in one)
apart-after slice core_in (entry.Led core) apart = by (eqb core.slice.0 slice.0) where
  by : (t : Bool) → AreApart (cond t (exchanged core.replica core_in) core_in)
  by true = apart-led core_in core.replica apart
  by false = apart
apart-after slice core_in (entry.Dropped other) apart = by (eqb other.0 slice.0) where
  by : (t : Bool) → AreApart (cond t (λ (seat : ℕ). seat) core_in)
  by true = λ a b same. same
  by false = apart
apart-after slice core_in (entry.Write cell) apart = apart
apart-after slice core_in (entry.Settled place) apart = apart
apart-after slice core_in entry.Committed apart = apart
apart-after slice core_in (entry.Begun parent subs) apart = apart
apart-after slice core_in (entry.Switched parent) apart = apart
apart-after slice core_in (entry.Failed parent) apart = apart
apart-after slice core_in (entry.Down core) apart = apart
apart-after slice core_in (entry.Up core) apart = apart

seats-apart : (journal : List Entry) (slice : SliceId) → AreApart (seats journal slice)
seats-apart journal slice = from journal (λ (seat : ℕ). seat) (λ a b same. same) where
  from : (more : List Entry) (core_in : ℕ → ℕ) → AreApart core_in → AreApart (fold (seats_after slice) core_in more)
  from [] core_in apart = apart
  from (one ∷ more) core_in apart = from more (seats_after slice core_in one) (apart-after slice core_in one apart)

-- ---- what one entry more does to a core that is down
-- it comes up, its slice is dropped, or it is down still, and sits where it sat
data Next (journal : List Entry) (slice : SliceId) (seat : ℕ) (one : Entry) : Type 0 where
  comes_up : (core : CoreId) → key_of_core core ≡ (slice.0, seat) → one ≡ entry.Up core → Next journal slice seat one
  drops : (dropped : SliceId) → one ≡ entry.Dropped dropped → slice.0 ≡ dropped.0 → Next journal slice seat one
  stays : is_down (journal ++ one ∷ []) (slice.0, seat) ≡ true → seats (journal ++ one ∷ []) slice seat ≡ seats journal slice seat
      → Next journal slice seat one

or-true : (b : Bool) → (b || true) ≡ true
or-true true = refl
or-true false = refl

stays-left : (journal : List Entry) (slice : SliceId) (seat : ℕ) (one : Entry) → LeavesCores one → LeavesSeats one
    → is_down journal (slice.0, seat) ≡ true → Next journal slice seat one
stays-left journal slice seat one leaves same down =
    stays (is_down-left journal one (slice.0, seat) leaves ∙ down) (ap (λ (core_in : ℕ → ℕ). core_in seat) (seats-left journal one slice same))

next : (first : List Slice) (journal : List Entry) (slice : SliceId) (seat : ℕ) (one : Entry) → IsMap first → forming first ≡ []
    → IsLegal first journal → MayFollow first journal one → is_down journal (slice.0, seat) ≡ true → Next journal slice seat one
next first journal slice seat (entry.Write cell) is_map idle legal may down =
    stays-left journal slice seat (entry.Write cell) (LeavesCores-write cell) (λ id core_in. refl) down
next first journal slice seat (entry.Settled place) is_map idle legal may down =
    stays-left journal slice seat (entry.Settled place) (LeavesCores-settled place) (λ id core_in. refl) down
next first journal slice seat entry.Committed is_map idle legal may down =
    stays-left journal slice seat entry.Committed LeavesCores-committed (λ id core_in. refl) down
next first journal slice seat (entry.Begun parent subs) is_map idle legal may down =
    stays-left journal slice seat (entry.Begun parent subs) (LeavesCores-begun parent subs) (λ id core_in. refl) down
next first journal slice seat (entry.Switched parent) is_map idle legal may down =
    stays-left journal slice seat (entry.Switched parent) (LeavesCores-switched parent) (λ id core_in. refl) down
next first journal slice seat (entry.Failed parent) is_map idle legal may down =
    stays-left journal slice seat (entry.Failed parent) (LeavesCores-failed parent) (λ id core_in. refl) down
next first journal slice seat (entry.Dropped dropped) is_map idle legal may down = by (eqb slice.0 dropped.0) refl where
  by : (t : Bool) → eqb slice.0 dropped.0 ≡ t → Next journal slice seat (entry.Dropped dropped)
  by true is = drops dropped refl (eqb-true slice.0 dropped.0 is)
  by false is =
      let other : slice.0 ≢ dropped.0 = not-eqb slice.0 dropped.0 is in
      let apart : eqb dropped.0 slice.0 ≡ false = ne_eqb dropped.0 slice.0 (λ same. other (sym same)) in
      stays (is_down-push_dropped journal dropped (slice.0, seat) other ∙ down)
      (ap (λ (core_in : ℕ → ℕ). core_in seat) (seats-push_dropped journal dropped slice false apart))
next first journal slice seat (entry.Down core) is_map idle legal may down =
    stays
    (is_down-push journal (entry.Down core) (slice.0, seat) ∙ ap (λ b. is_key (slice.0, seat) (key_of_core core) || b) down
    ∙ or-true (is_key (slice.0, seat) (key_of_core core)))
    (ap (λ (core_in : ℕ → ℕ). core_in seat) (seats-left journal (entry.Down core) slice (λ id core_in. refl)))
next first journal slice seat (entry.Up core) is_map idle legal may down = by (is_key (slice.0, seat) (key_of_core core)) refl where
  by : (t : Bool) → is_key (slice.0, seat) (key_of_core core) ≡ t → Next journal slice seat (entry.Up core)
  by true is = comes_up core (sym (same_from_is_key (slice.0, seat) (key_of_core core) is)) refl
  by false is =
      stays (is_down-push_up_other journal core (slice.0, seat) is ∙ down)
      (ap (λ (core_in : ℕ → ℕ). core_in seat) (seats-left journal (entry.Up core) slice (λ id core_in. refl)))
next first journal slice seat (entry.Led core) is_map idle legal may down =
    stays
    (is_down-push journal (entry.Led core) (slice.0, seat) ∙ ap (λ b. is_key (slice.0, seat) (key_of_core core) || b) down
    ∙ or-true (is_key (slice.0, seat) (key_of_core core)))
    (by (eqb core.slice.0 slice.0) refl)
  where
    follows : 2 ≤ seat
    follows =
        let fits = down_are_followers first journal (slice.0, seat) is_map idle legal down in
        (follower_is fits.0 (slice.0, seat) fits.3).1

    -- the core in that seat is not the one that takes the lead, since that is not down
    other : core.slice.0 ≡ slice.0 → seat ≢ core.replica
    other own same =
        let key : key_of_core core ≡ (slice.0, seat) = ap (λ (n : ℕ). (n, core.replica)) own ∙ ap (λ (n : ℕ). (slice.0, n)) (sym same) in
        false≢true (sym may.up ∙ ap (is_down journal) key ∙ down)

    by : (t : Bool) → eqb core.slice.0 slice.0 ≡ t → seats (journal ++ entry.Led core ∷ []) slice seat ≡ seats journal slice seat
    by true is =
        ap (λ (core_in : ℕ → ℕ). core_in seat) (seats-push_led journal core slice true is)
        ∙ exchanged_other core.replica (seats journal slice) seat (λ same. absurd (omega (arith, follows, same)))
        (other (eqb-true core.slice.0 slice.0 is))
    by false is = ap (λ (core_in : ℕ → ℕ). core_in seat) (seats-push_led journal core slice false is)

-- ---- the law
-- the slice that was dropped is gone
dropped-gone : (slices : List Slice) (dropped : SliceId) (id : ℕ) → id ≡ dropped.0 → IsGone (filter (is_other dropped) slices) id
dropped-gone slices dropped id own slice there same =
    let kept = (Contains-from_filter (is_other dropped) slices slice there).1 in
    let gone : is_other dropped slice ≡ false = ap not (eq-eqb slice.id.0 dropped.0 (same ∙ own)) in
    false≢true (sym gone ∙ kept)

-- an entry of the journal says so at or after its front's end
abbrev ComesUp : List Entry → ℕ → SliceId → ℕ → ℕ → Type 0
ComesUp whole from slice number seat = (place : ℕ) × (from ≤ place) × ComesUpAt whole slice number seat place

comes-up : (first : List Slice) (journal more : List Entry) (slice : Slice) (number seat later : ℕ) → IsMap first
    → forming first ≡ [] → IsLegal first (journal ++ more) → Contains (map_after first (journal ++ more)) slice
    → seats journal slice.id seat ≡ number → is_down journal (slice.id.0, seat) ≡ true
    → seats (journal ++ more) slice.id later ≡ number → is_down (journal ++ more) (slice.id.0, later) ≡ false
    → ComesUp (journal ++ more) (length journal) slice.id number seat
comes-up first journal [] slice number seat later is_map idle legal there sits down sits_later up =
    let same : later ≡ seat =
    seats-apart journal slice.id later seat (ap (λ (j : List Entry). seats j slice.id later) (sym (append-nil journal)) ∙ sits_later ∙ sym sits) in
    absurd (false≢true (sym up ∙ ap (λ (j : List Entry). is_down j (slice.id.0, later)) (append-nil journal)
    ∙ ap (λ (n : ℕ). is_down journal (slice.id.0, n)) same ∙ down))
comes-up first journal (one ∷ more) slice number seat later is_map idle legal there sits down sits_later up =
    by (next first journal slice.id seat one is_map idle before may.0 down)
    (λ still same. comes-up first (journal ++ one ∷ []) more slice number seat later is_map idle may.1
    (subst (λ (j : List Entry). Contains (map_after first j) slice) (sym joined) there) (same ∙ sits) still
    (ap (λ (j : List Entry). seats j slice.id later) joined ∙ sits_later)
    (ap (λ (j : List Entry). is_down j (slice.id.0, later)) joined ∙ up))
  where
    before : IsLegal first journal
    before = IsLegal-prefix first journal (one ∷ more) legal

    may : MayFollow first journal one × IsLegal first ((journal ++ one ∷ []) ++ more)
    may = comes-next first journal one more legal

    joined : (journal ++ one ∷ []) ++ more ≡ journal ++ one ∷ more
    joined = append-cons journal one more

    by : Next journal slice.id seat one
        → (is_down (journal ++ one ∷ []) (slice.id.0, seat) ≡ true → seats (journal ++ one ∷ []) slice.id seat ≡ seats journal slice.id seat
        → ComesUp ((journal ++ one ∷ []) ++ more) (length (journal ++ one ∷ [])) slice.id number seat)
        → ComesUp (journal ++ one ∷ more) (length journal) slice.id number seat
    by (comes_up core key is) on = (
      length journal,
      omega arith,
      record {
        core = core;
        key = key;
        entry_is = slice_get-append_end journal one more ∙ ap Some is;
        number_is = ap (λ (j : List Entry). seats j slice.id seat) (take-append_seam journal (one ∷ more)) ∙ sits;
      },
    )
    by (drops dropped is own) on =
        let gone : IsGone (map_after first (journal ++ one ∷ [])) slice.id.0 =
        subst (λ (e : Entry). IsGone (map_after first (journal ++ e ∷ [])) slice.id.0) (sym is)
        (gone-change first journal (entry.Dropped dropped) (Change.Dropped dropped) slice.id.0 refl
        (dropped-gone (map_after first journal) dropped slice.id.0 own)) in
        let still : IsGone (map_after first (journal ++ one ∷ more)) slice.id.0 =
        subst (λ (j : List Entry). IsGone (map_after first j) slice.id.0) joined
        (gone-on first (journal ++ one ∷ []) more slice.id.0 is_map idle may.1
        (WasActive-more first journal one slice.id.0 (were_active first journal before (slice.id.0, seat) down)) gone) in
        absurd (still slice there refl)
    by (stays still same) on =
        let rest = on still same in
        let from : length journal ≤ rest.0 = omega (arith, rest.1, length-append journal (one ∷ [])) in
        (rest.0, from, subst (λ (j : List Entry). ComesUpAt j slice.id number seat rest.0) joined rest.2)

pub comes_up_by_an_entry : ComesUpByAnEntry
comes_up_by_an_entry = comes-up
