-- A board that follows a journal which was kept: what it is after one entry more, and that it is sound at the end.
use Rattle.std.proofs.Common.{◌≡◌, ◌≢◌, ◌∙◌, ℕ, ◌+◌, ◌<◌, ◌≤◌, true, false, not, List, [], ◌∷◌, ◌++◌, length, take, Option, Some, None, All, Contains, refl, sym, ap, subst, arith}
use Rattle.std.specs.Prelude.{is_some, MatchOption, replicate, slice_get, slice_set}
use Rattle.std.proofs.lemmas.Option.{slice_get_within, get_or_from_slice_get}
use Rattle.std.proofs.lemmas.List.{append-nil, length-map}
use Rattle.std.proofs.lemmas.List.Elements.{All-contains}
use Rattle.std.proofs.lemmas.List.Sums.{count_by_more_no, count_by_more_yes}
use Rattle.std.specs.List.{count_by, remove}
use Rattle.sc_record.specs.declared.slice.SliceId.{SliceId}
use Rattle.sc_cluster.specs.Limits.{most_slices}
use Rattle.sc_cluster.specs.declared.plan.SplitPlan.{SplitPlan}
use Rattle.sc_cluster.specs.declared.slice.Slice.{Slice}
use Rattle.sc_cluster.specs.Slices.{forming, is_inactive, greatest_id}
use Rattle.sc_cluster.specs.Map.{IsMap}
use Rattle.sc_cluster.specs.Changes.{Change, after}
use Rattle.sc_journal.specs.Limits.{greatest_journal}
use Rattle.sc_seen.specs.declared.board.BoardEntry.{BoardEntry}
use Rattle.sc_seen.specs.declared.board.BoardEntry.TheVariants as board
use Rattle.sc_seen.specs.Board.{after_entry, board_map, running_split, board_owed, BoardHasRoom, MayNote, IsLegalBoard}
use Rattle.sc_seen.proofs.BoardLemmas.{board_map-push, IsLegalBoard-push, rests_where_idle, running_where, board_is_map, board_stands}
use Rattle.sc_board.specs.Boards.{IsSoundBoard}
use Rattle.sc_board.specs.Leaders.{leader_of, leaders_after}
use Rattle.sc_board.specs.Events.{Notes}
use Rattle.sc_board.specs.Restored.{IsFollowing}
use Rattle.sc_board.specs.declared.board.Board.{Board}
use Rattle.sc_board.proofs.LeaderLemmas.{leaders-begun, leaders-recovering, leaders-done, leaders-failed, leaders-dropped, leaders-led}

-- a sound board follows its journal
pub sound_follows : {K : Type 0} (it : Board K) → IsSoundBoard it → IsFollowing it
sound_follows it sound = record {
  first_map = sound.first_map;
  first_idle = sound.first_idle;
  legal = sound.legal;
  map_is = sound.map_is;
  leaders_are = sound.leaders_are;
}

-- and so does one with the same map, leaders and entries
pub follows_alike : {K : Type 0} (it other : Board K) → IsFollowing it → other.first ≡ it.first → other.map ≡ it.map
    → other.leaders ≡ it.leaders → other.journal.entries ≡ it.journal.entries → IsFollowing other
follows_alike it other follows first slices leaders entries = record {
  first_map = subst IsMap (sym first) follows.first_map;
  first_idle = ap forming first ∙ follows.first_idle;
  legal = subst (λ f. IsLegalBoard f other.journal.entries) (sym first) (subst (IsLegalBoard it.first) (sym entries) follows.legal);
  map_is = slices ∙ follows.map_is ∙ ap (board_map it.first) (sym entries) ∙ ap (λ f. board_map f other.journal.entries) (sym first);
  leaders_are = leaders ∙ follows.leaders_are ∙ ap (leaders_after it.first) (sym entries)
      ∙ ap (λ f. leaders_after f other.journal.entries) (sym first);
}

-- and with one entry more, which may come
pub follows_noted : {K : Type 0} (old : Board K) (one : BoardEntry) (new : Board K) → IsFollowing old
    → MayNote old.first old.journal.entries one → Notes old one new
    → new.leaders ≡ leaders_after old.first (old.journal.entries ++ one ∷ []) → IsFollowing new
follows_noted old one new follows may notes leaders = record {
  first_map = subst IsMap (sym notes.first_is) follows.first_map;
  first_idle = ap forming notes.first_is ∙ follows.first_idle;
  legal = subst (λ first. IsLegalBoard first new.journal.entries) (sym notes.first_is)
      (subst (IsLegalBoard old.first) (sym notes.entries) (IsLegalBoard-push old.first old.journal.entries one follows.legal may));
  map_is = notes.map_is ∙ ap (λ slices. after_entry slices one) follows.map_is
      ∙ sym (board_map-push old.first old.journal.entries one) ∙ ap (board_map old.first) (sym notes.entries)
      ∙ ap (λ first. board_map first new.journal.entries) (sym notes.first_is);
  leaders_are = leaders ∙ ap (leaders_after old.first) (sym notes.entries)
      ∙ ap (λ first. leaders_after first new.journal.entries) (sym notes.first_is);
}

-- its map is one
pub follows_map : {K : Type 0} (it : Board K) → IsFollowing it → IsMap (board_map it.first it.journal.entries)
follows_map it follows = board_is_map it.first it.journal.entries follows.first_map follows.legal

-- it has a leader for each slice of the map
pub leaders_count : {K : Type 0} (it : Board K) → IsFollowing it → length it.leaders ≡ length it.map
leaders_count it follows =
    ap length follows.leaders_are
    ∙ length-map (board_map it.first it.journal.entries) (λ (slice : Slice). leader_of it.journal.entries slice.id)
    ∙ ap length (sym follows.map_is)

-- a slice stands at a place of the board's map
abbrev pub IsAt : {K : Type 0} → Board K → ℕ → SliceId → Type 0
IsAt it at id = (slice : Slice) × (slice_get it.map at ≡ Some slice) × (slice.id ≡ id)

-- what is found of a slice that is there is its place
abbrev pub IsPlaceOf : {K : Type 0} → Board K → SliceId → Option ℕ → Type 0
IsPlaceOf it id found = MatchOption found (All (λ (slice : Slice). slice.id ≢ id) it.map) (λ at. IsAt it at id)

pub place_there : {K : Type 0} (it : Board K) (found : Option ℕ) (id : SliceId) (slice : Slice) → IsFollowing it → IsPlaceOf it id found
    → Contains (board_map it.first it.journal.entries) slice → slice.id ≡ id → is_some found ≡ true
place_there it None id slice follows none there named =
    absurd (All-contains (λ (other : Slice). other.id ≢ id) it.map slice none
    (subst (λ s. Contains s slice) (sym follows.map_is) there) named)
place_there it (Some at) id slice follows is there named = refl

pub place_is : {K : Type 0} (it : Board K) (found : Option ℕ) (at : ℕ) (id : SliceId) → IsPlaceOf it id found → found ≡ Some at → IsAt it at id
place_is it found at id is place = subst (IsPlaceOf it id) place is

-- a slice of the map has a leader
pub leader_there : {K : Type 0} (it : Board K) (at : ℕ) (id : SliceId) → IsFollowing it → IsAt it at id → at < length it.leaders
leader_there it at id follows (there, is, named) =
    let within = slice_get_within it.map at there is in
    let count = leaders_count it follows in
    omega (arith, within, count)

-- the first slices, one more of which is inactive or not
pub one_more : (slices : List Slice) (at : ℕ) (slice : Slice) → slice_get slices at ≡ Some slice → is_inactive slice ≡ true
    → count_by is_inactive (take (at + 1) slices) ≡ count_by is_inactive (take at slices) + 1
one_more slices at slice is inactive =
    count_by_more_yes is_inactive slices at slice (slice_get_within slices at slice is)
    (ap is_inactive (get_or_from_slice_get slices at slice slice is) ∙ inactive)

pub no_more : (slices : List Slice) (at : ℕ) (slice : Slice) → slice_get slices at ≡ Some slice → is_inactive slice ≡ false
    → count_by is_inactive (take (at + 1) slices) ≡ count_by is_inactive (take at slices)
no_more slices at slice is active =
    count_by_more_no is_inactive slices at slice (slice_get_within slices at slice is)
    (ap is_inactive (get_or_from_slice_get slices at slice slice is) ∙ active)

-- ---- the leaders after each entry
-- the entry is that of the journal
pub after_same : {K : Type 0} (it : Board K) (leaders : List ℕ) (one other : BoardEntry) → other ≡ one
    → leaders ≡ leaders_after it.first (it.journal.entries ++ one ∷ []) → leaders ≡ leaders_after it.first (it.journal.entries ++ other ∷ [])
after_same it leaders one other same is =
    is ∙ ap (λ (entry : BoardEntry). leaders_after it.first (it.journal.entries ++ entry ∷ [])) (sym same)

pub few_leaders : {K : Type 0} (it : Board K) (plan : SplitPlan) (n : ℕ) → IsFollowing it
    → MayNote it.first it.journal.entries (board.Begun plan) → n ≡ length plan.subs → length it.leaders + n ≤ most_slices
few_leaders it plan n follows may is =
    let few = may.few in
    let count = leaders_count it follows in
    let same = ap length follows.map_is in
    omega (arith, few, count, same, is)

pub follow_begun : {K : Type 0} (it : Board K) (plan : SplitPlan) (leaders : List ℕ) (n : ℕ) → IsFollowing it
    → MayNote it.first it.journal.entries (board.Begun plan) → leaders ≡ it.leaders ++ replicate n 1 → n ≡ length plan.subs
    → leaders ≡ leaders_after it.first (it.journal.entries ++ board.Begun plan ∷ [])
follow_begun it plan leaders n follows may is count =
    is ∙ ap (λ (k : ℕ). it.leaders ++ replicate k 1) count
    ∙ ap (λ (ns : List ℕ). ns ++ replicate (length plan.subs) 1) follows.leaders_are
    ∙ sym (leaders-begun it.first it.journal.entries plan follows.first_map follows.legal may)

pub follow_recovering : {K : Type 0} (it : Board K) (parent : SliceId) → IsFollowing it
    → it.leaders ≡ leaders_after it.first (it.journal.entries ++ board.Recovering parent ∷ [])
follow_recovering it parent follows = follows.leaders_are ∙ sym (leaders-recovering it.first it.journal.entries parent)

pub follow_done : {K : Type 0} (it : Board K) (parent : SliceId) → IsFollowing it
    → it.leaders ≡ leaders_after it.first (it.journal.entries ++ board.Done parent ∷ [])
follow_done it parent follows = follows.leaders_are ∙ sym (leaders-done it.first it.journal.entries parent)

pub follow_failed : {K : Type 0} (it : Board K) (parent : SliceId) (slices : List Slice) (leaders : List ℕ) → IsFollowing it
    → MayNote it.first it.journal.entries (board.Failed parent) → slices ≡ after it.map (Change.Failed parent)
    → leaders ≡ take (length slices) it.leaders → leaders ≡ leaders_after it.first (it.journal.entries ++ board.Failed parent ∷ [])
follow_failed it parent slices leaders follows may is cut =
    let whole = board_map it.first it.journal.entries in
    let left : slices ≡ after whole (Change.Failed parent) = is ∙ ap (λ s. after s (Change.Failed parent)) follows.map_is in
    cut ∙ ap (λ (s : List Slice). take (length s) it.leaders) left
    ∙ ap (take (length (after whole (Change.Failed parent)))) follows.leaders_are
    ∙ sym (leaders-failed it.first it.journal.entries parent follows.legal
    (board_stands it.first it.journal.entries follows.first_map follows.first_idle follows.legal) may)

pub follow_dropped : {K : Type 0} (it : Board K) (slice : SliceId) (at : ℕ) (leaders : List ℕ) → IsFollowing it → IsAt it at slice
    → leaders ≡ remove it.leaders at → leaders ≡ leaders_after it.first (it.journal.entries ++ board.Dropped slice ∷ [])
follow_dropped it slice at leaders follows (there, is, named) removed =
    removed ∙ ap (λ (ns : List ℕ). remove ns at) follows.leaders_are
    ∙ sym (leaders-dropped it.first it.journal.entries slice at there (follows_map it follows)
    (subst (λ s. slice_get s at ≡ Some there) follows.map_is is) named)

pub follow_led : {K : Type 0} (it : Board K) (slice : SliceId) (replica at : ℕ) (leaders : List ℕ) → IsFollowing it → IsAt it at slice
    → leaders ≡ slice_set it.leaders at replica → leaders ≡ leaders_after it.first (it.journal.entries ++ board.Led slice replica ∷ [])
follow_led it slice replica at leaders follows (there, is, named) set =
    set ∙ ap (λ (ns : List ℕ). slice_set ns at replica) follows.leaders_are
    ∙ sym (leaders-led it.first it.journal.entries slice replica at there (follows_map it follows)
    (subst (λ s. slice_get s at ≡ Some there) follows.map_is is) named)

-- what is so of the map after the journal is so of the board's
pub so_of_map : {K : Type 0} (it : Board K) (IsSo : List Slice → Type 0) → IsFollowing it
    → IsSo (board_map it.first it.journal.entries) → IsSo it.map
so_of_map it IsSo follows so = subst IsSo (sym follows.map_is) so

-- ---- the end
-- Where no split runs after its journal, and it counts the entry that drops each inactive slice and has room for it, the board is sound.
pub restored_is_sound : {K : Type 0} (it : Board K) → IsFollowing it → greatest_id it.first < most_slices → it.limit ≤ greatest_journal
    → running_split it.journal.entries ≡ None → BoardHasRoom 0 it.limit it.first it.journal.entries
    → it.owed ≡ count_by is_inactive it.map → it.owed ≤ it.journal.room → is_some it.keepers ≡ true → IsSoundBoard it
restored_is_sound it follows ids limit idle room owed memory there = record {
  first_map = follows.first_map;
  first_idle = follows.first_idle;
  first_ids = ids;
  limited = limit;
  legal = follows.legal;
  map_is = follows.map_is;
  leaders_are = follows.leaders_are;
  owed_is = owed_is;
  room = omega (arith, owed_is, room);
  memory = memory;
  keepers_there = there ∙ ap (λ (r : Option ℕ). not (is_some r)) (sym idle);
} where
  owed_is : it.owed ≡ board_owed it.first it.journal.entries
  owed_is =
      let stands = board_stands it.first it.journal.entries follows.first_map follows.first_idle follows.legal in
      let none = (rests_where_idle it.first it.journal.entries stands ((running_where it.first it.journal.entries stands).0 idle)).1 in
      let same = ap (count_by is_inactive) follows.map_is in
      omega (arith, owed, none, same)

-- the room is that of the whole journal
pub room_whole : (limit other : ℕ) (first begins : List Slice) (entries journal : List BoardEntry) → BoardHasRoom 0 limit first journal
    → other ≡ limit → begins ≡ first → entries ≡ journal → BoardHasRoom 0 other begins entries
room_whole limit other first begins entries journal room limit_is first_is entries_are =
    subst (λ n. BoardHasRoom 0 n begins entries) (sym limit_is)
    (subst (λ f. BoardHasRoom 0 limit f entries) (sym first_is) (subst (BoardHasRoom 0 limit first) (sym entries_are) room))

-- with none of its entries left the board has them all
pub all_followed : (entries left journal : List BoardEntry) → entries ++ left ≡ journal → length left ≡ 0 → entries ≡ journal
all_followed entries [] journal is none = sym (append-nil entries) ∙ is
all_followed entries (one ∷ left) journal is none = absurd (omega (arith, none))

-- a sound board is sound with other keepers, where no split runs
pub with_is_sound : {K : Type 0} (it : Board (Unit {0})) (keepers : K) → IsSoundBoard it → running_split it.journal.entries ≡ None
    → IsSoundBoard {K = K} (record {
      first = it.first;
      map = it.map;
      leaders = it.leaders;
      journal = it.journal;
      limit = it.limit;
      owed = it.owed;
      keepers = Some keepers;
    })
with_is_sound it keepers sound idle = record {
  first_map = sound.first_map;
  first_idle = sound.first_idle;
  first_ids = sound.first_ids;
  limited = sound.limited;
  legal = sound.legal;
  map_is = sound.map_is;
  leaders_are = sound.leaders_are;
  owed_is = sound.owed_is;
  room = sound.room;
  memory = sound.memory;
  keepers_there = ap (λ (r : Option ℕ). not (is_some r)) (sym idle);
}
