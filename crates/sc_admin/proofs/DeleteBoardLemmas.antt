-- What the board takes back once a slice was dropped, or was refused to be, and what is seen then.
use Rattle.std.proofs.Common.{◌≡◌, inl, inr, ℕ, Bool, true, false, List, [], ◌∷◌, ◌++◌, length, ltb, Result, Ok, Err, refl, sym, ap, ◌∙◌, subst, cond, arith}
use Rattle.std.specs.Prelude.{IfOk, IfErr, OnErr}
use Rattle.std.proofs.lemmas.Bool.{lt-ltb, le-ltb}
use Rattle.std.proofs.lemmas.List.{append-nil, length_push}
use Rattle.std.proofs.lemmas.Option.{none-some}
use mathlib.Core.List.{IsPrefix}
use Rattle.sc_cluster.specs.declared.slice.Slice.{Slice}
use Rattle.sc_io.specs.declared.hosts.Host.{Host}
use Rattle.sc_cores.specs.Cores.{cores_of_slice}
use Rattle.sc_seen.specs.Board.{board_map}
use Rattle.sc_seen.specs.Seen.{Layout, Seen}
use Rattle.sc_seen.specs.Moments.{view_of}
use Rattle.sc_seen.specs.declared.board.BoardEntry.{BoardEntry}
use Rattle.sc_seen.specs.declared.board.BoardEntry.TheVariants as board
use Rattle.sc_seen.specs.declared.stop.Stop.{Stop}
use Rattle.sc_board.specs.Splits.{IsOfNamed}
use Rattle.sc_board.specs.Drops.{IsDropRefusal}
use Rattle.sc_board.specs.declared.fault.DropFault.{DropFault}
use Rattle.sc_collection.specs.Desks.{MayReplaceBoard, SeesBoardGiven, place_added}
use Rattle.sc_collection.specs.Known.{KeepsBoard}
use Rattle.sc_admin.specs.Deletes.{kept, dropped}
use Rattle.sc_admin.specs.Dropping.{DropsSlice, Deletes, with_board}

-- the board may be given back
pub may_replace : (layout layout' : Layout) (shard : List ℕ) (old new seen : Seen) (held given : List BoardEntry)
    (answer : Result (List Host) DropFault) → IfOk answer (DropsSlice layout shard (with_board old held) (with_board new given)) → OnErr answer (given ≡ held)
    → MayReplaceBoard layout' seen held given
may_replace layout layout' shard old new seen held given (Ok cores) drops same =
    inr (board.Dropped drops.slice.id, drops.noted, λ place found. absurd (none-some place (sym drops.idle ∙ found)))
may_replace layout layout' shard old new seen held given (Err fault) drops same = inl same

-- what is so where it is answered
pub by_ok : {T F : Type 0} (answer : Result T F) (Was IsSo : T → Type 0) → IfOk answer Was → ((one : T) → answer ≡ Ok one → Was one → IsSo one)
    → IfOk answer IsSo
by_ok (Ok one) Was IsSo was is = is one refl was
by_ok (Err fault) Was IsSo was is = tt

pub by_err : {T F : Type 0} (answer : Result T F) (Was IsSo : F → Type 0) → IfErr answer Was
    → ((fault : F) → answer ≡ Err fault → Was fault → IsSo fault) → IfErr answer IsSo
by_err (Ok one) Was IsSo was is = tt
by_err (Err fault) Was IsSo was is = is fault refl was

pub at_err : {T F P : Type 0} (answer : Result T F) (fault : F) → answer ≡ Err fault → OnErr answer P → P
at_err {P = P} answer fault is holds = subst (λ a. OnErr a P) is holds

-- a stop by its lock, its place and whether it made an entry
pub stop_is : (lock lock' place place' : ℕ) (made made' : Bool) → lock ≡ lock' → place ≡ place' → made ≡ made'
    → let one : Stop = record { lock = lock; place = place; made = made } in
    let other : Stop = record { lock = lock'; place = place'; made = made' } in one ≡ other
stop_is lock lock' place place' made made' same_lock same_place same_made =
    ap (λ l. let stop : Stop = record { lock = l; place = place; made = made } in stop) same_lock
    ∙ ap (λ p. let stop : Stop = record { lock = lock'; place = p; made = made } in stop) same_place
    ∙ ap (λ m. let stop : Stop = record { lock = lock'; place = place'; made = m } in stop) same_made

-- the place of one entry that was added, and of none
added_one : {A : Type 0} (entries : List A) (one : A) → place_added entries (entries ++ one ∷ []) ≡ length entries ∷ []
added_one entries one =
    let more : ltb (length entries) (length (entries ++ one ∷ [])) ≡ true =
    lt-ltb (length entries) (length (entries ++ one ∷ [])) (omega (arith, length_push entries one)) in
    ap (λ b. cond b (length entries ∷ []) []) more

added_none : {A : Type 0} (entries : List A) → place_added entries entries ≡ []
added_none entries = ap (λ b. cond b (length entries ∷ []) []) (le-ltb (length entries) (length entries) (omega arith))

module _ (layout out_layout new_layout : Layout) (shard : List ℕ) (start out between final : Seen) (stops stops' : List Stop)
    (held given : List BoardEntry) (same_out : out_layout ≡ layout) (same_new : new_layout ≡ layout) (went_on : IsPrefix start.board held)
    (same_seen : out ≡ start) (keeps : KeepsBoard out between) (sees' : SeesBoardGiven new_layout held given between final) where
  sees : SeesBoardGiven layout held given between final
  sees = subst (λ (l : Layout). SeesBoardGiven l held given between final) same_new sees'

  own : (lock : ℕ) → between.own lock ≡ start.own lock
  own lock = keeps.own lock ∙ ap (λ (seen : Seen). seen.own lock) same_seen

  own_added : (places : List ℕ) → place_added held given ≡ places → final.own layout.buckets ≡ start.own layout.buckets ++ places
  own_added places added =
      sees.own ∙ ap (λ (own : List ℕ). own ++ place_added held given) (own layout.buckets) ∙ ap (λ ps. start.own layout.buckets ++ ps) added

  -- the slice was dropped
  pub deletes_slice : (cores : List Host) → DropsSlice out_layout shard (with_board out held) (with_board between given) cores
      → stops' ≡ stops ++ record { lock = layout.buckets; place = length held; made = true } ∷ []
      → (slice : Slice) × (deletes : Deletes layout (dropped slice) (view_of start stops) (view_of final stops'))
      × IsOfNamed (board_map layout.first deletes.held) shard (λ one. one ≡ slice) × (cores ≡ cores_of_slice layout.nodes slice)
  deletes_slice cores drops' kept_stops = (
    drops.slice,
    record {
      held = held;
      went_on = went_on;
      board = sees.board ∙ drops.noted;
      own = own_added (length held ∷ []) (ap (place_added held) drops.noted ∙ added_one held (board.Dropped drops.slice.id));
      others_own = λ lock other. sees.others_own lock other ∙ own lock;
      buckets = λ lock below. let is = drops.buckets lock below in (is.0, is.1, sees.journals lock ∙ is.2);
      stops = kept_stops;
    },
    drops.named,
    drops.cores_are,
  ) where
    drops : DropsSlice layout shard (with_board start held) (with_board between given) cores
    drops = subst (λ (l : Layout). DropsSlice l shard (with_board start held) (with_board between given) cores) same_out
        (subst (λ (s : Seen). DropsSlice out_layout shard (with_board s held) (with_board between given) cores) same_seen drops')

  -- nothing was
  pub deletes_none : (fault : DropFault) → IsDropRefusal (board_map out_layout.first held) shard fault → given ≡ held
      → ((lock : ℕ) → between.journals lock ≡ out.journals lock)
      → stops' ≡ stops ++ record { lock = layout.buckets; place = length held; made = false } ∷ []
      → (deletes : Deletes layout kept (view_of start stops) (view_of final stops'))
      × IsDropRefusal (board_map layout.first deletes.held) shard fault
  deletes_none fault cause same journals kept_stops = (
    record {
      held = held;
      went_on = went_on;
      board = sees.board ∙ same ∙ sym (append-nil held);
      own = own_added [] (ap (place_added held) same ∙ added_none held);
      others_own = λ lock other. sees.others_own lock other ∙ own lock;
      buckets = λ lock below. sees.journals lock ∙ journals lock ∙ ap (λ (seen : Seen). seen.journals lock) same_seen;
      stops = kept_stops;
    },
    subst (λ (l : Layout). IsDropRefusal (board_map l.first held) shard fault) same_out cause,
  )
