-- Which replicas lead, as the board notes it, after one entry more.
use Rattle.std.proofs.Common.{◌≡◌, ◌≢◌, ◌∙◌, ℕ, zero, suc, ◌<◌, Bool, true, false, cond, List, [], ◌∷◌, ◌++◌, length, map, take, drop, Option, Some, None, All, refl, sym, ap, subst, arith}
use Rattle.std.proofs.Math.Path.{fun_ext}
use Rattle.std.proofs.Math.Seq.{take-append_seam}
use Rattle.std.specs.Prelude.{IfSome, not, nat_eq, replicate, slice_get, slice_index_or, slice_set, ⊤}
use Rattle.std.specs.List.{fold, filter, filter_map, cons_option, remove, AllPairs}
use Rattle.std.specs.Option.{option_map_or}
use Rattle.std.proofs.lemmas.Bool.{ne_eqb, eq-eqb}
use Rattle.std.proofs.lemmas.Option.{none-some, same_Some, slice_get_within, get_or_from_slice_get}
use Rattle.std.proofs.lemmas.List.{length-map, map-append, take-map, drop-map}
use Rattle.std.proofs.lemmas.List.Elements.{All-head, All-tail, All-weaker}
use Rattle.std.proofs.lemmas.List.Kept.{AllPairs-from_increasing}
use Rattle.std.proofs.lemmas.List.Sums.{fold-append}
use Rattle.sc_record.specs.declared.slice.SliceId.{SliceId}
use Rattle.sc_record.specs.declared.slice.SubSlice.{SubSlice}
use Rattle.sc_cluster.specs.declared.plan.SplitPlan.{SplitPlan}
use Rattle.sc_cluster.specs.declared.slice.Slice.{Slice}
use Rattle.sc_cluster.specs.Slices.{is_forming}
use Rattle.sc_cluster.specs.Map.{IsMap}
use Rattle.sc_cluster.specs.Changes.{Change, after, begun_slice, recovering_slice, switched_slice, MayChange}
use Rattle.sc_cluster.specs.Histories.{after_all, AreAllowed}
use Rattle.sc_cluster.proofs.IdLemmas.{id_of}
use Rattle.sc_cluster.proofs.PairLemmas.{AllPairs-from_map}
use Rattle.sc_cluster.proofs.ListLemmas.{filter-all, map-map_kept}
use Rattle.sc_cluster.proofs.StateLemmas.{recovering_keeps, switched_keeps}
use Rattle.sc_cluster.proofs.HistoryLemmas.{uses_no_id_again}
use Rattle.sc_cluster.proofs.UndoLemmas.{undoes_a_failed_split, may_leave_recovery_out}
use Rattle.sc_journal.proofs.ListLemmas.{append-cons}
use Rattle.sc_seen.specs.declared.board.BoardEntry.{BoardEntry}
use Rattle.sc_seen.specs.declared.board.BoardEntry.TheVariants as board
use Rattle.sc_seen.specs.Board.{board_change_of, board_map, after_entry, MayNote, IsLegalBoard}
use Rattle.sc_seen.proofs.BoardLemmas.{board_map-append, board_map-push, may_change, IsLegalBoard-prefix, MayNote_end, Stands, rests, builds, recovers, not_open, board_is_map}
use Rattle.sc_board.specs.Leaders.{leader_after, leader_of, leaders_after}

-- ---- one entry more
leader_of-push : (entries : List BoardEntry) (one : BoardEntry) (id : SliceId)
    → leader_of (entries ++ one ∷ []) id ≡ leader_after id (leader_of entries id) one
leader_of-push entries one id = fold-append (leader_after id) 1 entries (one ∷ [])

pub leaders_after-push : (first : List Slice) (entries : List BoardEntry) (one : BoardEntry)
    → leaders_after first (entries ++ one ∷ [])
    ≡ map (λ (slice : Slice). leader_after slice.id (leader_of entries slice.id) one) (after_entry (board_map first entries) one)
leaders_after-push first entries one =
    ap (map (λ (slice : Slice). leader_of (entries ++ one ∷ []) slice.id)) (board_map-push first entries one)
    ∙ ap (λ (f : Slice → ℕ). map f (after_entry (board_map first entries) one))
    (fun_ext (λ (slice : Slice). leader_of-push entries one slice.id))

-- the leader of a slice, as a function of the slice
abbrev led_by : List BoardEntry → Slice → ℕ
led_by entries slice = leader_of entries slice.id

-- at first the first replica leads each
pub leaders_first : (slices : List Slice) → replicate (length slices) 1 ≡ leaders_after slices []
leaders_first [] = refl
leaders_first (slice ∷ slices) = ap (λ (ns : List ℕ). 1 ∷ ns) (leaders_first slices)

-- ---- the slices of a split go on
pub leaders-recovering : (first : List Slice) (entries : List BoardEntry) (parent : SliceId)
    → leaders_after first (entries ++ board.Recovering parent ∷ []) ≡ leaders_after first entries
leaders-recovering first entries parent =
    leaders_after-push first entries (board.Recovering parent)
    ∙ map-map_kept (led_by entries) recovering_slice (recovering_keeps (led_by entries) (λ _ _. refl)) (board_map first entries)

pub leaders-done : (first : List Slice) (entries : List BoardEntry) (parent : SliceId)
    → leaders_after first (entries ++ board.Done parent ∷ []) ≡ leaders_after first entries
leaders-done first entries parent =
    leaders_after-push first entries (board.Done parent)
    ∙ map-map_kept (led_by entries) (switched_slice parent) (switched_keeps (led_by entries) (λ _ _. refl) parent)
    (board_map first entries)

-- ---- a split begins
-- no entry says who leads the slice
abbrev NoneLeads : SliceId → List BoardEntry → Type 0
NoneLeads id entries =
    (before : List BoardEntry) (slice : SliceId) (replica : ℕ) (after : List BoardEntry)
    → entries ≡ before ++ board.Led slice replica ∷ after → slice.0 ≢ id.0

NoneLeads-later : (id : SliceId) (one : BoardEntry) (entries : List BoardEntry) → NoneLeads id (one ∷ entries) → NoneLeads id entries
NoneLeads-later id one entries none before slice replica after is =
    none (one ∷ before) slice replica after (ap (λ (es : List BoardEntry). one ∷ es) is)

unled : (id : SliceId) (start : ℕ) (entries : List BoardEntry) → NoneLeads id entries → fold (leader_after id) start entries ≡ start
unled id start [] none = refl
unled id start (board.Begun plan ∷ entries) none = unled id start entries (NoneLeads-later id (board.Begun plan) entries none)
unled id start (board.Recovering parent ∷ entries) none =
    unled id start entries (NoneLeads-later id (board.Recovering parent) entries none)
unled id start (board.Done parent ∷ entries) none = unled id start entries (NoneLeads-later id (board.Done parent) entries none)
unled id start (board.Failed parent ∷ entries) none = unled id start entries (NoneLeads-later id (board.Failed parent) entries none)
unled id start (board.Dropped slice ∷ entries) none = unled id start entries (NoneLeads-later id (board.Dropped slice) entries none)
unled id start (board.Led slice replica ∷ entries) none =
    let other : cond (nat_eq slice.0 id.0) replica start ≡ start =
    ap (λ (t : Bool). cond t replica start) (ne_eqb slice.0 id.0 (none [] slice replica entries refl)) in
    ap (λ (n : ℕ). fold (leader_after id) n entries) other
    ∙ unled id start entries (NoneLeads-later id (board.Led slice replica) entries none)

-- what a legal journal makes of the map is allowed, change by change
cons_allowed : (slices : List Slice) (change : Option Change) (changes : List Change) → IfSome change (MayChange slices)
    → AreAllowed (option_map_or (after slices) change slices) changes → AreAllowed slices (cons_option change changes)
cons_allowed slices None changes may rest = rest
cons_allowed slices (Some change) changes may rest = (may, rest)

allowed_after : (first : List Slice) (before more : List BoardEntry) → IsLegalBoard first (before ++ more)
    → AreAllowed (board_map first before) (filter_map board_change_of more)
allowed_after first before [] legal = tt
allowed_after first before (one ∷ more) legal =
    let next = subst (IsLegalBoard first) (sym (append-cons before one more)) legal in
    let rest = allowed_after first (before ++ one ∷ []) more next in
    cons_allowed (board_map first before) (board_change_of one) (filter_map board_change_of more)
    (may_change first before one (legal before one more refl))
    (subst (λ slices. AreAllowed slices (filter_map board_change_of more)) (board_map-push first before one) rest)

-- a slice that was said to be led was active, and its id is given to no sub
subs_unled : (first : List Slice) (entries : List BoardEntry) (plan : SplitPlan) → IsMap first → IsLegalBoard first entries
    → MayNote first entries (board.Begun plan) → All (λ (sub : SubSlice). leader_of entries sub.id ≡ 1) plan.subs
subs_unled first entries plan is_map legal may k d below = unled sub.id 1 entries none where
  sub : SubSlice
  sub = slice_index_or plan.subs k d

  none : NoneLeads sub.id entries
  none before slice replica later is =
      let rest : List BoardEntry = board.Led slice replica ∷ later in
      let legal_at = subst (IsLegalBoard first) is legal in
      let led = legal before (board.Led slice replica) later is in
      let change = Change.Begun plan.parent plan.subs in
      let begins : MayChange (after_all (board_map first before) (filter_map board_change_of rest)) change =
      subst (λ slices. MayChange slices change) (ap (board_map first) is ∙ board_map-append first before rest) may in
      let less = uses_no_id_again (board_map first before) (filter_map board_change_of rest) led.slice plan.parent plan.subs
      (board_is_map first before is_map (IsLegalBoard-prefix first before rest legal_at)) (allowed_after first before rest legal_at)
      led.there led.active begins k d below in
      let named = ap (λ (id : SliceId). id.0) led.named in
      λ same. omega (arith, less, named, same)

ones : (f : Slice → ℕ) (subs : List SubSlice) → All (λ (sub : SubSlice). f (begun_slice sub) ≡ 1) subs
    → map f (map begun_slice subs) ≡ replicate (length subs) 1
ones f [] each = refl
ones f (sub ∷ subs) each =
    let P : SubSlice → Type 0 = λ sub. f (begun_slice sub) ≡ 1 in
    ap (λ (n : ℕ). n ∷ map f (map begun_slice subs)) (All-head P sub subs each)
    ∙ ap (λ (ns : List ℕ). 1 ∷ ns) (ones f subs (All-tail P sub subs each))

pub leaders-begun : (first : List Slice) (entries : List BoardEntry) (plan : SplitPlan) → IsMap first → IsLegalBoard first entries
    → MayNote first entries (board.Begun plan)
    → leaders_after first (entries ++ board.Begun plan ∷ []) ≡ leaders_after first entries ++ replicate (length plan.subs) 1
leaders-begun first entries plan is_map legal may =
    leaders_after-push first entries (board.Begun plan)
    ∙ map-append (led_by entries) (board_map first entries) (map begun_slice plan.subs)
    ∙ ap (λ (ns : List ℕ). leaders_after first entries ++ ns) (ones (led_by entries) plan.subs (subs_unled first entries plan is_map legal may))

-- ---- a split failed
-- the slices that it made are the last ones, so that those of the others stay
cut_off : (f : Slice → ℕ) (slices made whole : List Slice) → map f whole ≡ map f (slices ++ made)
    → filter (λ (slice : Slice). not (is_forming slice)) whole ≡ slices
    → map f (filter (λ (slice : Slice). not (is_forming slice)) whole)
    ≡ take (length (filter (λ (slice : Slice). not (is_forming slice)) whole)) (map f whole)
cut_off f slices made whole same left =
    let count : length slices ≡ length (map f slices) = sym (length-map slices f) in
    ap (map f) left ∙ sym (take-append_seam (map f slices) (map f made))
    ∙ ap (λ n. take n (map f slices ++ map f made)) (sym count ∙ ap length (sym left))
    ∙ ap (take (length (filter (λ (slice : Slice). not (is_forming slice)) whole))) (sym (same ∙ map-append f slices made))

pub leaders-failed : (first : List Slice) (entries : List BoardEntry) (parent : SliceId) → IsLegalBoard first entries
    → Stands first entries → MayNote first entries (board.Failed parent)
    → leaders_after first (entries ++ board.Failed parent ∷ [])
    ≡ take (length (after (board_map first entries) (Change.Failed parent))) (leaders_after first entries)
leaders-failed first entries parent legal (rests none idle owed) may = absurd (not_open (board_map first entries) parent may idle)
leaders-failed first entries parent legal (builds before plan is running recovering owed) may =
    let slices = board_map first before in
    let made = map begun_slice plan.subs in
    let begins = MayNote_end first before (board.Begun plan) (subst (IsLegalBoard first) is legal) in
    let whole : board_map first entries ≡ slices ++ made = ap (board_map first) is ∙ board_map-push first before (board.Begun plan) in
    leaders_after-push first entries (board.Failed parent)
    ∙ cut_off (led_by entries) slices made (board_map first entries) (ap (map (led_by entries)) whole)
    (ap (λ s. after s (Change.Failed plan.parent)) whole ∙ undoes_a_failed_split slices plan.parent plan.subs begins)
leaders-failed first entries parent legal (recovers before plan is running done owed) may =
    let slices = board_map first before in
    let made = map begun_slice plan.subs in
    let begun = before ++ board.Begun plan ∷ [] in
    let last : List BoardEntry = board.Recovering plan.parent ∷ [] in
    let is_two : entries ≡ begun ++ last = is ∙ sym (append-cons before (board.Begun plan) last) in
    let begins = MayNote_end first before (board.Begun plan)
    (IsLegalBoard-prefix first begun last (subst (IsLegalBoard first) is_two legal)) in
    let whole : board_map first entries ≡ map recovering_slice (slices ++ made) =
    ap (board_map first) is_two ∙ board_map-push first begun (board.Recovering plan.parent)
    ∙ ap (map recovering_slice) (board_map-push first before (board.Begun plan)) in
    leaders_after-push first entries (board.Failed parent)
    ∙ cut_off (led_by entries) slices made (board_map first entries)
    (ap (map (led_by entries)) whole
    ∙ map-map_kept (led_by entries) recovering_slice (recovering_keeps (led_by entries) (λ _ _. refl)) (slices ++ made))
    (ap (λ s. after s (Change.Failed plan.parent)) whole
    ∙ may_leave_recovery_out (slices ++ made) plan.parent (Change.Failed plan.parent) refl
    ∙ undoes_a_failed_split slices plan.parent plan.subs begins)

-- ---- one slice among others
-- the id of each is below those of all after it
abbrev Rise : List Slice → Type 0
Rise [] = ⊤
Rise (slice ∷ slices) = All (λ (other : Slice). slice.id.0 < other.id.0) slices × Rise slices

Rise-pairs : (slices : List Slice) → AllPairs (λ (one other : Slice). one.id.0 < other.id.0) slices → Rise slices
Rise-pairs [] pairs = tt
Rise-pairs (slice ∷ slices) pairs = (
  λ k d below. pairs 0 (suc k) d (omega arith) (omega arith),
  Rise-pairs slices (λ i j d before below. pairs (suc i) (suc j) d (omega arith) (omega arith)),
)

Rise-map : (slices : List Slice) → IsMap slices → Rise slices
Rise-map slices is_map =
    Rise-pairs slices (AllPairs-from_map (λ (m n : ℕ). m < n) id_of slices (AllPairs-from_increasing (map id_of slices) is_map.ids))

-- what holds of each holds of the one at a place
at_place : (P : Slice → Type 0) (slices : List Slice) (at : ℕ) (slice : Slice) → All P slices → slice_get slices at ≡ Some slice → P slice
at_place P slices at slice each is =
    subst P (get_or_from_slice_get slices at slice slice is) (each at slice (slice_get_within slices at slice is))

-- a test that the one at a place alone does not pass
left_out : (p : Slice → Bool) (id : SliceId) (slices : List Slice) (at : ℕ) (slice : Slice) → Rise slices
    → ((other : Slice) → other.id.0 ≢ id.0 → p other ≡ true) → (p slice ≡ false) → slice_get slices at ≡ Some slice → slice.id ≡ id
    → filter p slices ≡ remove slices at
left_out p id [] at slice up others this is named = absurd (none-some slice is)
left_out p id (first ∷ slices) zero slice (above, up) others this is named =
    let same : first ≡ slice = same_Some first slice is in
    let number = ap (λ (s : Slice). s.id.0) same in
    let named_is = ap (λ (i : SliceId). i.0) named in
    let fails : p first ≡ false = ap p same ∙ this in
    let rest : filter p slices ≡ slices = filter-all p slices
    (All-weaker (λ (other : Slice). first.id.0 < other.id.0) (λ other. p other ≡ true)
    (λ other more. others other (λ equal. omega (arith, more, equal, number, named_is))) slices above) in
    ap (λ (t : Bool). cond t (first ∷ filter p slices) (filter p slices)) fails ∙ rest
left_out p id (first ∷ slices) (suc at) slice (above, up) others this is named =
    let more : first.id.0 < slice.id.0 = at_place (λ (other : Slice). first.id.0 < other.id.0) slices at slice above is in
    let named_is = ap (λ (i : SliceId). i.0) named in
    let passes : p first ≡ true = others first (λ equal. omega (arith, more, equal, named_is)) in
    ap (λ (t : Bool). cond t (first ∷ filter p slices) (filter p slices)) passes
    ∙ ap (λ (rest : List Slice). first ∷ rest) (left_out p id slices at slice up others this is named)

map-remove : (f : Slice → ℕ) (slices : List Slice) (at : ℕ) → map f (remove slices at) ≡ remove (map f slices) at
map-remove f slices at =
    map-append f (take at slices) (drop (suc at) slices)
    ∙ ap (λ (ns : List ℕ). ns ++ map f (drop (suc at) slices)) (sym (take-map f at slices))
    ∙ ap (λ (ns : List ℕ). take at (map f slices) ++ ns) (sym (drop-map f (suc at) slices))

-- ---- a slice is dropped
pub leaders-dropped : (first : List Slice) (entries : List BoardEntry) (id : SliceId) (at : ℕ) (slice : Slice)
    → IsMap (board_map first entries) → slice_get (board_map first entries) at ≡ Some slice → slice.id ≡ id
    → leaders_after first (entries ++ board.Dropped id ∷ []) ≡ remove (leaders_after first entries) at
leaders-dropped first entries id at slice is_map is named =
    let slices = board_map first entries in
    let named_is = ap (λ (i : SliceId). i.0) named in
    leaders_after-push first entries (board.Dropped id)
    ∙ ap (map (led_by entries))
    (left_out (λ (other : Slice). not (nat_eq other.id.0 id.0)) id slices at slice (Rise-map slices is_map)
    (λ other differs. ap not (ne_eqb other.id.0 id.0 differs)) (ap not (eq-eqb slice.id.0 id.0 named_is)) is named)
    ∙ map-remove (led_by entries) slices at

-- ---- a replica leads
others_stay : (id : SliceId) (replica : ℕ) (f : Slice → ℕ) (slices : List Slice) → All (λ (other : Slice). id.0 ≢ other.id.0) slices
    → map (λ (other : Slice). cond (nat_eq id.0 other.id.0) replica (f other)) slices ≡ map f slices
others_stay id replica f [] each = refl
others_stay id replica f (first ∷ slices) each =
    let P : Slice → Type 0 = λ other. id.0 ≢ other.id.0 in
    let g : Slice → ℕ = λ other. cond (nat_eq id.0 other.id.0) replica (f other) in
    ap (λ (t : Bool). cond t replica (f first) ∷ map g slices) (ne_eqb id.0 first.id.0 (All-head P first slices each))
    ∙ ap (λ (ns : List ℕ). f first ∷ ns) (others_stay id replica f slices (All-tail P first slices each))

set_at : (id : SliceId) (replica : ℕ) (f : Slice → ℕ) (slices : List Slice) (at : ℕ) (slice : Slice) → Rise slices
    → slice_get slices at ≡ Some slice → slice.id ≡ id
    → map (λ (other : Slice). cond (nat_eq id.0 other.id.0) replica (f other)) slices ≡ slice_set (map f slices) at replica
set_at id replica f [] at slice up is named = absurd (none-some slice is)
set_at id replica f (first ∷ slices) zero slice (above, up) is named =
    let number = ap (λ (s : Slice). s.id.0) (same_Some first slice is) in
    let named_is = ap (λ (i : SliceId). i.0) named in
    let g : Slice → ℕ = λ other. cond (nat_eq id.0 other.id.0) replica (f other) in
    ap (λ (t : Bool). cond t replica (f first) ∷ map g slices) (eq-eqb id.0 first.id.0 (sym (number ∙ named_is)))
    ∙ ap (λ (ns : List ℕ). replica ∷ ns)
    (others_stay id replica f slices
    (All-weaker (λ (other : Slice). first.id.0 < other.id.0) (λ other. id.0 ≢ other.id.0)
    (λ other more equal. omega (arith, more, equal, number, named_is)) slices above))
set_at id replica f (first ∷ slices) (suc at) slice (above, up) is named =
    let more : first.id.0 < slice.id.0 = at_place (λ (other : Slice). first.id.0 < other.id.0) slices at slice above is in
    let named_is = ap (λ (i : SliceId). i.0) named in
    let g : Slice → ℕ = λ other. cond (nat_eq id.0 other.id.0) replica (f other) in
    ap (λ (t : Bool). cond t replica (f first) ∷ map g slices) (ne_eqb id.0 first.id.0 (λ equal. omega (arith, more, equal, named_is)))
    ∙ ap (λ (ns : List ℕ). f first ∷ ns) (set_at id replica f slices at slice up is named)

pub leaders-led : (first : List Slice) (entries : List BoardEntry) (id : SliceId) (replica at : ℕ) (slice : Slice)
    → IsMap (board_map first entries) → slice_get (board_map first entries) at ≡ Some slice → slice.id ≡ id
    → leaders_after first (entries ++ board.Led id replica ∷ []) ≡ slice_set (leaders_after first entries) at replica
leaders-led first entries id replica at slice is_map is named =
    leaders_after-push first entries (board.Led id replica)
    ∙ set_at id replica (led_by entries) (board_map first entries) at slice (Rise-map (board_map first entries) is_map) is named
