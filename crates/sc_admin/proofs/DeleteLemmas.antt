-- What a deletion came to, by how it went on the board and in the buckets.
use Rattle.std.proofs.Common.{◌≡◌, ◌≢◌, ℕ, ◌<◌, ◌≤◌, Bool, true, false, List, [], ◌∷◌, ◌++◌, length, take, slice_get, nat_eq, nat_lt, Some, refl, sym, ap, ◌∙◌, subst, cond, arith, append_assoc, length-append}
use Rattle.std.specs.Prelude.{map, filter}
use Rattle.std.specs.Option.{option_map_or}
use Rattle.std.proofs.lemmas.Bool.Decides.{nat_tests}
use Rattle.std.proofs.lemmas.List.{append-nil, take_at}
use Rattle.std.specs.List.{range_with_len}
use mathlib.Core.List.{IsPrefix}
use Rattle.sc_record.specs.declared.entry.Entry.TheVariants as entry
use Rattle.sc_cluster.specs.declared.slice.Slice.{Slice}
use Rattle.sc_cores.specs.Cores.{Outside, CountsGoUp}
use Rattle.sc_journal.proofs.ListLemmas.{slice_get-append_end}
use Rattle.sc_seen.specs.Board.{board_map}
use Rattle.sc_seen.specs.Seen.{Layout, Seen, Extends, NotesBoard, IsStopWithin, ComeInOrder, AreLegal, SeesMore, FromNowOn, EndAtLast, place_after, entries_at, stops_at, is_noted}
use Rattle.sc_seen.specs.Moments.{View}
use Rattle.sc_seen.specs.declared.board.BoardEntry.{BoardEntry}
use Rattle.sc_seen.specs.declared.board.BoardEntry.TheVariants as board
use Rattle.sc_seen.specs.declared.stop.Stop.{Stop}
use Rattle.sc_seen.proofs.ExtendsLemmas.{IsPrefix-self, IsPrefix-then, IsPrefix-length}
use Rattle.sc_board.specs.Splits.{IsOfNamed}
use Rattle.sc_board.specs.Drops.{IsDropRefusal}
use Rattle.sc_board.specs.declared.fault.DropFault.{DropFault}
use Rattle.sc_admin.specs.declared.deleting.DeleteEnd.{DeleteEnd}
use Rattle.sc_admin.specs.Deletes.{DeleteCourse, kept, dropped, noted_by_delete, LeavesBucket, StopsCores, IsDeleteAnswered, IsDelete, delete_moment, drop_refusal}
use Rattle.sc_admin.specs.Dropping.{Deletes, is_made}

-- the stop of the board, which had these entries then
abbrev pub stop_of : Layout → List BoardEntry → DeleteCourse → Stop
stop_of layout held course = record { lock = layout.buckets; place = length held; made = is_made course }

same_nat : (n : ℕ) → nat_eq n n ≡ true
same_nat n = grind (arith, nat_tests)

-- the entries after it
place_is : (layout : Layout) (held : List BoardEntry) (course : DeleteCourse)
    → place_after (stop_of layout held course) ≡ length (held ++ noted_by_delete course)
place_is layout held kept = ap length (sym (append-nil held))
place_is layout held (dropped slice) = sym (length-append held (board.Dropped slice.id ∷ []))

-- a bucket's journal goes on
bucket_grows : (course : DeleteCourse) (old new : Seen) (lock : ℕ) → LeavesBucket course old new lock → IsPrefix (old.journals lock) (new.journals lock)
bucket_grows kept old new lock same = subst (IsPrefix (old.journals lock)) (sym same) (IsPrefix-self (old.journals lock))
bucket_grows (dropped slice) old new lock (before, went_on, is) =
    IsPrefix-then (old.journals lock) before (new.journals lock) went_on (entry.Dropped slice.id ∷ [], sym is)

-- the places of the entries that it made are one's own
owns : (layout : Layout) (course : DeleteCourse) (old new : View) (it : Deletes layout course old new)
    → new.seen.own layout.buckets ≡ old.seen.own layout.buckets ++ range_with_len (length it.held) (length (noted_by_delete course))
owns layout kept old new it = it.own
owns layout (dropped slice) old new it = it.own

-- the stop at a lock
stops_apart : (layout : Layout) (held : List BoardEntry) (course : DeleteCourse) (lock : ℕ) → (layout.buckets ≡ lock → ⊥)
    → stops_at lock (stop_of layout held course ∷ []) ≡ []
stops_apart layout held course lock apart =
    let other : nat_eq layout.buckets lock ≡ false = grind (arith, nat_tests, apart) in
    ap (λ b. cond b (stop_of layout held course ∷ []) []) other

stops_there : (layout : Layout) (held : List BoardEntry) (course : DeleteCourse)
    → stops_at layout.buckets (stop_of layout held course ∷ []) ≡ stop_of layout held course ∷ []
stops_there layout held course = ap (λ b. cond b (stop_of layout held course ∷ []) []) (same_nat layout.buckets)

-- the entries of the board
entries_there : (layout : Layout) (seen : Seen) → entries_at layout seen layout.buckets ≡ length seen.board
entries_there layout seen = ap (λ b. cond b (length seen.board) (length (seen.journals layout.buckets))) (same_nat layout.buckets)

-- the entry that was added is the one that the stop made
notes : (layout : Layout) (course : DeleteCourse) (old new : View) (it : Deletes layout course old new)
    → NotesBoard layout old.seen new.seen (stop_of layout it.held course ∷ [])
notes layout kept old new it = record {
  added = [];
  own = it.own;
  after = tt;
  within = tt;
  made = sym (ap (λ (stops : List Stop). map (λ (stop : Stop). stop.place) (filter (λ (stop : Stop). stop.made) stops)) (stops_there layout it.held kept));
}
notes layout (dropped slice) old new it = record {
  added = length it.held ∷ [];
  own = it.own;
  after = (IsPrefix-length old.seen.board it.held it.went_on, tt);
  within = (let count = ap length it.board in omega (arith, count, length-append it.held (board.Dropped slice.id ∷ [])), tt);
  made = ap (λ b. cond b (length it.held ∷ []) []) (ap (λ one. option_map_or is_noted one false) there)
      ∙ sym (ap (λ (stops : List Stop). map (λ (stop : Stop). stop.place) (filter (λ (stop : Stop). stop.made) stops)) (stops_there layout it.held (dropped slice)));
} where
  there : slice_get new.seen.board (length it.held) ≡ Some (board.Dropped slice.id)
  there = ap (λ (es : List BoardEntry). slice_get es (length it.held)) it.board ∙ slice_get-append_end it.held (board.Dropped slice.id) []

module _ (layout : Layout) (course : DeleteCourse) (old new : View) (it : Deletes layout course old new) where
  abbrev pub first : Stop
  first = stop_of layout it.held course

  -- the stop comes after what was seen, and within what is seen then
  ascends : (lock : ℕ) → ComeInOrder (entries_at layout old.seen lock) (stops_at lock (first ∷ []))
  ascends lock = by (nat_eq layout.buckets lock) refl where
    by : (b : Bool) → nat_eq layout.buckets lock ≡ b → ComeInOrder (entries_at layout old.seen lock) (cond b (first ∷ []) [])
    by true is =
        let here : layout.buckets ≡ lock = grind (arith, nat_tests) in
        let before : entries_at layout old.seen layout.buckets ≤ length it.held =
        omega (arith, entries_there layout old.seen, IsPrefix-length old.seen.board it.held it.went_on) in
        (subst (λ (at : ℕ). entries_at layout old.seen at ≤ length it.held) here before, tt)
    by false is = tt

  within : IsStopWithin layout new.seen first
  within = record {
    lock = let same : layout.buckets ≤ layout.buckets = omega arith in same;
    place = let count = ap length it.board in omega (arith, count, place_is layout it.held course, entries_there layout new.seen);
  }

  -- the board at the stop is what it had then, in what is seen later too
  later_is : (later : Seen) → SeesMore new.seen later → (more : List BoardEntry) × (later.board ≡ it.held ++ (noted_by_delete course ++ more))
  later_is later more = (
    more.board.0,
    sym more.board.1 ∙ ap (λ (es : List BoardEntry). es ++ more.board.0) it.board ∙ append_assoc it.held (noted_by_delete course) more.board.0,
  )

  pub held_at : (later : Seen) → SeesMore new.seen later → take (length it.held) later.board ≡ it.held
  held_at later more =
      let is = later_is later more in
      ap (take (length it.held)) is.1 ∙ take_at it.held (noted_by_delete course ++ is.0) (length it.held) refl

  sees_itself : SeesMore new.seen new.seen
  sees_itself = record { journals = λ lock. IsPrefix-self (new.seen.journals lock); board = IsPrefix-self new.seen.board }

  -- no stop is one of a bucket
  ends : EndAtLast layout new.seen (first ∷ [])
  ends [] stop after is below none =
      let same : first ≡ stop = cc in
      let lock : layout.buckets ≡ stop.lock = ap (λ (s : Stop). s.lock) same in absurd (omega (arith, lock, below))
  ends (one ∷ before) stop after is below none =
      let count = ap length is in absurd (omega (arith, count, length-append before (stop ∷ after)))

  module _ (legal : AreLegal layout old.seen) (legal' : AreLegal layout new.seen) where
    grows : (lock : ℕ) → IsPrefix (old.seen.journals lock) (new.seen.journals lock)
    grows lock = by (nat_lt lock layout.buckets) refl where
      by : (b : Bool) → nat_lt lock layout.buckets ≡ b → IsPrefix (old.seen.journals lock) (new.seen.journals lock)
      by true is =
          let below : lock < layout.buckets = grind (arith, nat_tests) in
          bucket_grows course old.seen new.seen lock (it.buckets lock below)
      by false is =
          let past : layout.buckets ≤ lock = grind (arith, nat_tests) in
          subst (IsPrefix (old.seen.journals lock)) (legal.others lock past ∙ sym (legal'.others lock past)) (IsPrefix-self (old.seen.journals lock))

    extends : Extends layout old.seen new.seen (first ∷ [])
    extends = record {
      seen = grows;
      board = IsPrefix-then old.seen.board it.held new.seen.board it.went_on (noted_by_delete course, sym it.board);
      own = λ lock below.
          it.others_own lock (apart lock below) ∙ sym (append-nil (old.seen.own lock)) ∙ ap (λ (places : List ℕ). old.seen.own lock ++ places)
          (sym (ap (λ (stops : List Stop). map (λ (stop : Stop). stop.place) (filter (λ (stop : Stop). stop.made) stops))
          (stops_apart layout it.held course lock (λ is. apart lock below (sym is)))));
      notes = notes layout course old new it;
      ascend = ascends;
      within = (within, tt);
    } where
      apart : (lock : ℕ) → lock < layout.buckets → lock ≢ layout.buckets
      apart lock below is = omega (arith, below, is)

    -- so it went, where it is answered so
    pub is_delete : (shard : List ℕ) (outside_old outside_new : Outside) (end : DeleteEnd)
        → FromNowOn new.seen (λ later. IsDeleteAnswered layout later shard first course end)
        → StopsCores layout.nodes course outside_old outside_new end → CountsGoUp outside_old outside_new
        → outside_new.start_faults ≡ outside_old.start_faults → outside_new.stops ≡ outside_old.stops → outside_new.reach ≡ outside_old.reach
        → IsDelete layout shard (delete_moment old outside_old) (delete_moment new outside_new) end
    is_delete shard outside_old outside_new end answered outside counts no_start no_pace no_reach = record {
      first = first;
      course = course;
      lock = refl;
      stops = it.stops;
      extends = extends;
      last = ends;
      answered = answered;
      board = it.board ∙ ap (λ (es : List BoardEntry). es ++ noted_by_delete course) (sym (held_at new.seen sees_itself));
      own = owns layout course old new it;
      buckets = it.buckets;
      outside = outside;
      counts = counts;
      no_start = no_start;
      no_pace = no_pace;
      no_reach = no_reach;
    }

-- a deletion that the board refused is answered so
pub refused_is : (layout : Layout) (old new : View) (it : Deletes layout kept old new) (shard : List ℕ) (fault : DropFault) (end : DeleteEnd)
    → end ≡ drop_refusal fault → IsDropRefusal (board_map layout.first it.held) shard fault
    → FromNowOn new.seen (λ later. IsDeleteAnswered layout later shard (stop_of layout it.held kept) kept end)
refused_is layout old new it shard fault end is cause later more = record {
  made = refl;
  fault = fault;
  end_is = is;
  cause = subst (λ (entries : List BoardEntry). IsDropRefusal (board_map layout.first entries) shard fault)
      (sym (held_at layout kept old new it later more)) cause;
}

-- and so is one that dropped the slice
pub dropped_is : (layout : Layout) (old new : View) (slice : Slice) (it : Deletes layout (dropped slice) old new) (shard : List ℕ) (end : DeleteEnd)
    → IsOfNamed (board_map layout.first it.held) shard (λ one. one ≡ slice)
    → FromNowOn new.seen (λ later. IsDeleteAnswered layout later shard (stop_of layout it.held (dropped slice)) (dropped slice) end)
dropped_is layout old new slice it shard end named later more =
    let is = later_is layout (dropped slice) old new it later more in record {
      made = refl;
      made_is = ap (λ (es : List BoardEntry). slice_get es (length it.held)) is.1 ∙ slice_get-append_end it.held (board.Dropped slice.id) is.0;
      named = subst (λ (entries : List BoardEntry). IsOfNamed (board_map layout.first entries) shard (λ one. one ≡ slice))
          (sym (held_at layout (dropped slice) old new it later more)) named;
    }
