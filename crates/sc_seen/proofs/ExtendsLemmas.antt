-- What is seen goes on by no stop, and by some stops and then by others.
use Rattle.std.proofs.Common.{◌≡◌, get_or, ℕ, ◌<◌, ◌≤◌, Bool, true, false, cond, List, [], ◌∷◌, ◌++◌, length, Some, refl, sym, ap, ◌∙◌, subst, arith, append_assoc, length-append}
use Rattle.std.specs.Prelude.{◌==◌, map, filter, slice_get}
use Rattle.std.specs.List.{AllByRecursion}
use Rattle.std.specs.Option.{option_map_or}
use Rattle.std.proofs.lemmas.Bool.Decides.{nat_tests}
use Rattle.std.proofs.lemmas.List.{map-append, append-nil, get_or_append_left}
use Rattle.std.proofs.lemmas.Option.{slice_get-get_or}
use Rattle.std.proofs.lemmas.List.Elements.{filter-append}
use Rattle.std.proofs.ByRecursion.{All-append}
use mathlib.Core.List.{IsPrefix}
use Rattle.sc_seen.specs.Seen.{Layout, Seen, Extends, NotesBoard, IsStopWithin, ComeInOrder, place_after, stops_at, made_at, entries_at, is_noted, noted_at}
use Rattle.sc_seen.specs.declared.board.BoardEntry.{BoardEntry}
use Rattle.sc_seen.specs.declared.board.BoardEntry.TheVariants.{Failed}
use Rattle.sc_seen.specs.declared.stop.Stop.{Stop}

pub IsPrefix-self : {A : Type 0} (xs : List A) → IsPrefix xs xs
IsPrefix-self xs = ([], append-nil xs)

pub IsPrefix-then : {A : Type 0} (xs ys zs : List A) → IsPrefix xs ys → IsPrefix ys zs → IsPrefix xs zs
IsPrefix-then xs ys zs b d =
    (b.0 ++ d.0, sym (append_assoc xs b.0 d.0) ∙ ap (λ before. before ++ d.0) b.1 ∙ d.1)

pub IsPrefix-length : {A : Type 0} (xs ys : List A) → IsPrefix xs ys → length xs ≤ length ys
IsPrefix-length xs ys b = omega (arith, length-append xs b.0, ap length b.1)

-- of each lock as many entries are seen as before, or more
pub entries-grow : (layout : Layout) (old new : Seen) → ((lock : ℕ) → IsPrefix (old.journals lock) (new.journals lock))
    → IsPrefix old.board new.board → (lock : ℕ) → entries_at layout old lock ≤ entries_at layout new lock
entries-grow layout old new seen board lock = by (lock == layout.buckets) where
  by : (b : Bool) → cond b (length old.board) (length (old.journals lock)) ≤ cond b (length new.board) (length (new.journals lock))
  by true = IsPrefix-length old.board new.board board
  by false = IsPrefix-length (old.journals lock) (new.journals lock) (seen lock)

-- the entries of a bucket
pub entries-bucket : (layout : Layout) (seen : Seen) (lock : ℕ) → lock < layout.buckets
    → entries_at layout seen lock ≡ length (seen.journals lock)
entries-bucket layout seen lock below =
    let other : (lock == layout.buckets) ≡ false = grind (arith, nat_tests) in
    ap (λ b. cond b (length seen.board) (length (seen.journals lock))) other

pub stops_at-append : (lock : ℕ) (xs ys : List Stop) → stops_at lock (xs ++ ys) ≡ stops_at lock xs ++ stops_at lock ys
stops_at-append lock xs ys = filter-append (λ (stop : Stop). stop.lock == lock) xs ys

pub made_at-append : (lock : ℕ) (xs ys : List Stop) → made_at lock (xs ++ ys) ≡ made_at lock xs ++ made_at lock ys
made_at-append lock xs ys =
    ap (λ stops. map (λ (stop : Stop). stop.place) (filter (λ (stop : Stop). stop.made) stops)) (stops_at-append lock xs ys)
    ∙ ap (map (λ (stop : Stop). stop.place)) (filter-append (λ (stop : Stop). stop.made) (stops_at lock xs) (stops_at lock ys))
    ∙ map-append (λ (stop : Stop). stop.place) (filter (λ (stop : Stop). stop.made) (stops_at lock xs)) (filter (λ (stop : Stop). stop.made) (stops_at lock ys))

-- the stops of one lock are within what was seen there
within_at : (layout : Layout) (seen : Seen) (lock : ℕ) (stops : List Stop) → AllByRecursion (IsStopWithin layout seen) stops
    → AllByRecursion (λ (stop : Stop). place_after stop ≤ entries_at layout seen lock) (stops_at lock stops)
within_at layout seen lock [] h = tt
within_at layout seen lock (stop ∷ stops) h = by (stop.lock == lock) refl (within_at layout seen lock stops h.1) where
  by : (b : Bool) → (stop.lock == lock) ≡ b
      → AllByRecursion (λ (one : Stop). place_after one ≤ entries_at layout seen lock) (stops_at lock stops)
      → AllByRecursion (λ (one : Stop). place_after one ≤ entries_at layout seen lock) (cond b (stop ∷ stops_at lock stops) (stops_at lock stops))
  by true is rest =
      let same : stop.lock ≡ lock = grind (arith, nat_tests) in
      (subst (λ n. place_after stop ≤ entries_at layout seen n) same h.0.place, rest)
  by false is rest = rest

-- what ascends from a place ascends from an earlier one
pub ascend_earlier : (from to : ℕ) (stops : List Stop) → from ≤ to → ComeInOrder to stops → ComeInOrder from stops
ascend_earlier from to [] h a = tt
ascend_earlier from to (stop ∷ stops) h a = ((let l : to ≤ stop.place = a.0 in omega arith), a.1)

ascend-append : (from to : ℕ) (xs ys : List Stop) → ComeInOrder from xs → from ≤ to
    → AllByRecursion (λ (stop : Stop). place_after stop ≤ to) xs → ComeInOrder to ys → ComeInOrder from (xs ++ ys)
ascend-append from to [] ys a h w b = ascend_earlier from to ys h b
ascend-append from to (x ∷ xs) ys a h w b = (a.0, ascend-append (place_after x) to xs ys a.1 w.0 w.1 b)

-- stops that are within what was seen are within what is seen later
within-later : (layout : Layout) (old new : Seen) → ((lock : ℕ) → entries_at layout old lock ≤ entries_at layout new lock)
    → (stops : List Stop) → AllByRecursion (IsStopWithin layout old) stops → AllByRecursion (IsStopWithin layout new) stops
within-later layout old new grow [] h = tt
within-later layout old new grow (stop ∷ stops) h = (
  record {
    lock = h.0.lock;
    place = let a : place_after stop ≤ entries_at layout old stop.lock = h.0.place in
        let b : entries_at layout old stop.lock ≤ entries_at layout new stop.lock = grow stop.lock in omega arith;
  },
  within-later layout old new grow stops h.1,
)

-- places of a list stand there in a longer one too
slice_get-prefix : {A : Type 0} (default : A) (xs ys : List A) (place : ℕ) → IsPrefix xs ys → place < length xs
    → slice_get ys place ≡ slice_get xs place
slice_get-prefix default xs ys place begins below =
    let longer : place < length ys = (let grown : length xs ≤ length ys = IsPrefix-length xs ys begins in omega arith) in
    slice_get-get_or ys place default longer
    ∙ ap Some (ap (λ all. get_or all place default) (sym begins.1) ∙ get_or_append_left xs begins.0 default place below)
    ∙ sym (slice_get-get_or xs place default below)

-- of places that were seen of the board the same are noted later
noted_at-later : (old new : List BoardEntry) (places : List ℕ) → IsPrefix old new
    → AllByRecursion (λ (place : ℕ). place < length old) places → noted_at new places ≡ noted_at old places
noted_at-later old new [] begins within = refl
noted_at-later old new (place ∷ places) begins within =
    ap (λ noted. cond noted (place ∷ noted_at new places) (noted_at new places))
    (ap (λ one. option_map_or is_noted one false) (slice_get-prefix (Failed (record { 0 = 0 })) old new place begins within.0))
    ∙ ap (λ rest. cond (option_map_or is_noted (slice_get old place) false) (place ∷ rest) rest) (noted_at-later old new places begins within.1)

noted_at-append : (entries : List BoardEntry) (xs ys : List ℕ) → noted_at entries (xs ++ ys) ≡ noted_at entries xs ++ noted_at entries ys
noted_at-append entries xs ys = filter-append (λ (place : ℕ). option_map_or is_noted (slice_get entries place) false) xs ys

-- places at or after one are at or after an earlier one
after-earlier : (from to : ℕ) (places : List ℕ) → from ≤ to → AllByRecursion (λ (place : ℕ). to ≤ place) places
    → AllByRecursion (λ (place : ℕ). from ≤ place) places
after-earlier from to [] before h = tt
after-earlier from to (place ∷ places) before h = ((let late : to ≤ place = h.0 in omega arith), after-earlier from to places before h.1)

-- places below one are below a later one
below-later : (from to : ℕ) (places : List ℕ) → from ≤ to → AllByRecursion (λ (place : ℕ). place < from) places
    → AllByRecursion (λ (place : ℕ). place < to) places
below-later from to [] before h = tt
below-later from to (place ∷ places) before h = ((let early : place < from = h.0 in omega arith), below-later from to places before h.1)

-- the board stayed, and no stop held it
pub NotesBoard-same : (layout : Layout) (old new : Seen) (stops : List Stop) → new.own layout.buckets ≡ old.own layout.buckets
    → made_at layout.buckets stops ≡ [] → NotesBoard layout old new stops
NotesBoard-same layout old new stops own none = record {
  added = [];
  own = own ∙ sym (append-nil (old.own layout.buckets));
  after = tt;
  within = tt;
  made = sym none;
}

-- the board went on by stops, and then by others
NotesBoard-then : (layout : Layout) (old between new : Seen) (xs ys : List Stop) → IsPrefix old.board between.board
    → IsPrefix between.board new.board → NotesBoard layout old between xs → NotesBoard layout between new ys
    → NotesBoard layout old new (xs ++ ys)
NotesBoard-then layout old between new xs ys first then one two = record {
  added = one.added ++ two.added;
  own = two.own ∙ ap (λ places. places ++ two.added) one.own ∙ append_assoc (old.own layout.buckets) one.added two.added;
  after = All-append (λ (place : ℕ). length old.board ≤ place) one.added two.added one.after
      (after-earlier (length old.board) (length between.board) two.added (IsPrefix-length old.board between.board first) two.after);
  within = All-append (λ (place : ℕ). place < length new.board) one.added two.added
      (below-later (length between.board) (length new.board) one.added (IsPrefix-length between.board new.board then) one.within) two.within;
  made = noted_at-append new.board one.added two.added
      ∙ ap (λ places. places ++ noted_at new.board two.added) (noted_at-later between.board new.board one.added then one.within ∙ one.made)
      ∙ ap (λ places. made_at layout.buckets xs ++ places) two.made
      ∙ sym (made_at-append layout.buckets xs ys);
}

-- nothing was held
pub Extends-none : (layout : Layout) (seen : Seen) → Extends layout seen seen []
Extends-none layout seen = record {
  seen = λ lock. IsPrefix-self (seen.journals lock);
  board = IsPrefix-self seen.board;
  own = λ lock below. sym (append-nil (seen.own lock));
  notes = NotesBoard-same layout seen seen [] refl refl;
  ascend = λ lock. tt;
  within = tt;
}

-- what went on by stops, and then by others, went on by all of them
pub Extends-then : (layout : Layout) (old between new : Seen) (xs ys : List Stop)
    → Extends layout old between xs → Extends layout between new ys → Extends layout old new (xs ++ ys)
Extends-then layout old between new xs ys one two =
    let first : (lock : ℕ) → entries_at layout old lock ≤ entries_at layout between lock = entries-grow layout old between one.seen one.board in
    let then : (lock : ℕ) → entries_at layout between lock ≤ entries_at layout new lock = entries-grow layout between new two.seen two.board in
    record {
      seen = λ lock. IsPrefix-then (old.journals lock) (between.journals lock) (new.journals lock) (one.seen lock) (two.seen lock);
      board = IsPrefix-then old.board between.board new.board one.board two.board;
      own = λ lock below. two.own lock below ∙ ap (λ places. places ++ made_at lock ys) (one.own lock below)
          ∙ append_assoc (old.own lock) (made_at lock xs) (made_at lock ys)
          ∙ ap (λ places. old.own lock ++ places) (sym (made_at-append lock xs ys));
      notes = NotesBoard-then layout old between new xs ys one.board two.board one.notes two.notes;
      ascend = λ lock. subst (ComeInOrder (entries_at layout old lock)) (sym (stops_at-append lock xs ys))
          (ascend-append (entries_at layout old lock) (entries_at layout between lock) (stops_at lock xs) (stops_at lock ys)
          (one.ascend lock) (first lock) (within_at layout between lock xs one.within) (two.ascend lock));
      within = All-append (IsStopWithin layout new) xs ys (within-later layout between new then xs one.within) two.within;
    }
