-- A board stays sound, whatever is noted on it.
use Rattle.std.proofs.Common.{◌≡◌, ◌∙◌, ℕ, ◌+◌, ◌-◌, ◌^◌, ◌<◌, ◌≤◌, true, false, not, List, [], ◌∷◌, ◌++◌, length, max, Option, Some, None, All, refl, sym, ap, subst, arith, length-append}
use Rattle.std.specs.Prelude.{is_some, MatchOption, replicate, take, slice_get, slice_set}
use Rattle.std.proofs.lemmas.Option.{same_Some}
use Rattle.std.specs.List.{fold, count_by, remove}
use Rattle.sc_record.specs.declared.slice.SliceId.{SliceId}
use Rattle.sc_cluster.specs.Limits.{most_slices}
use Rattle.sc_cluster.specs.declared.plan.SplitPlan.{SplitPlan}
use Rattle.sc_cluster.specs.declared.slice.State.TheVariants as states
use Rattle.sc_cluster.specs.declared.slice.Slice.{Slice}
use Rattle.sc_cluster.specs.Slices.{is_forming_state, is_inactive_state, is_forming, forming, is_inactive, greatest_id}
use Rattle.sc_cluster.specs.Map.{IsMap}
use Rattle.sc_cluster.specs.Changes.{Change, after, IsBeingSplit}
use Rattle.sc_cluster.proofs.ListLemmas.{filter-none}
use Rattle.sc_cluster.proofs.CountLemmas.{count_by-none}
use Rattle.std.proofs.lemmas.List.Elements.{All-weaker}
use Rattle.sc_journal.specs.Limits.{greatest_journal}
use Rattle.sc_seen.specs.declared.board.BoardEntry.{BoardEntry}
use Rattle.sc_seen.specs.declared.board.BoardEntry.TheVariants as board
use Rattle.sc_seen.specs.Board.{board_map, running_split, owed_after, board_owed, BoardHasRoom, MayNote, IsLegalBoard}
use Rattle.sc_seen.proofs.BoardLemmas.{running_split-push, owed_by_split, IsLegalBoard-none, not_open, same_parent, Stands, running_where, owed_where_open, board_is_map, board_stands, board_ids, board_owed-begun, board_owed-recovering, board_owed-done, board_owed-failed, board_owed-dropped, board_owed-led}
use Rattle.sc_board.specs.Boards.{IsSoundBoard}
use Rattle.sc_board.specs.Leaders.{leaders_after}
use Rattle.sc_board.specs.Events.{Notes}
use Rattle.sc_board.specs.Kept.{BoardJournalState}
use Rattle.sc_board.specs.declared.board.Board.{Board}
use Rattle.sc_board.specs.declared.running.Running.{Running}
use Rattle.sc_board.proofs.FollowLemmas.{IsAt, sound_follows, follows_noted}
use Rattle.sc_board.proofs.LeaderLemmas.{leaders_first, leaders-begun, leaders-recovering, leaders-done, leaders-failed, leaders-dropped, leaders-led}

-- ---- what follows
pub sound_map : {K : Type 0} (it : Board K) → IsSoundBoard it → IsMap it.map
sound_map it sound = subst IsMap (sym sound.map_is) (board_is_map it.first it.journal.entries sound.first_map sound.legal)

pub sound_stands : {K : Type 0} (it : Board K) → IsSoundBoard it → Stands it.first it.journal.entries
sound_stands it sound = board_stands it.first it.journal.entries sound.first_map sound.first_idle sound.legal

-- no slice is being made exactly where no split runs
pub sound_idle : {K : Type 0} (it : Board K) → IsSoundBoard it → running_split it.journal.entries ≡ None → forming it.map ≡ []
sound_idle it sound none =
    ap forming sound.map_is ∙ (running_where it.first it.journal.entries (sound_stands it sound)).0 none

-- the keepers are there where no slice is being made
pub sound_keepers : {K : Type 0} (it : Board K) → IsSoundBoard it → forming (board_map it.first it.journal.entries) ≡ []
    → is_some it.keepers ≡ true
sound_keepers it sound idle =
    sound.keepers_there ∙ ap (λ (r : Option ℕ). not (is_some r)) ((running_where it.first it.journal.entries (sound_stands it sound)).1 idle)

-- ---- a new board
pub sound_new : {K : Type 0} (it : Board K) → IsMap it.first → All (λ (slice : Slice). slice.state ≡ states.Active) it.first
    → greatest_id it.first < most_slices → it.limit ≤ greatest_journal → it.journal.entries ≡ [] → it.map ≡ it.first
    → it.leaders ≡ replicate (length it.map) 1 → it.owed ≡ 0 → is_some it.keepers ≡ true → IsSoundBoard it
sound_new it is_map active ids limit none same ones owed there = record {
  first_map = is_map;
  first_idle = filter-none is_forming it.first (All-weaker (λ (slice : Slice). slice.state ≡ states.Active)
      (λ slice. is_forming slice ≡ false) (λ slice is. ap is_forming_state is) it.first active);
  first_ids = ids;
  limited = limit;
  legal = subst (IsLegalBoard it.first) (sym none) (IsLegalBoard-none it.first);
  map_is = same ∙ ap (board_map it.first) (sym none);
  leaders_are = ones ∙ ap (λ (slices : List Slice). replicate (length slices) 1) same ∙ leaders_first it.first
      ∙ ap (leaders_after it.first) (sym none);
  owed_is =
      let inactive : count_by is_inactive it.first ≡ 0 = count_by-none is_inactive it.first
      (All-weaker (λ (slice : Slice). slice.state ≡ states.Active) (λ slice. is_inactive slice ≡ false)
      (λ slice is. ap is_inactive_state is) it.first active) in
      let start : it.owed ≡ board_owed it.first [] = omega (arith, owed, inactive) in
      start ∙ ap (board_owed it.first) (sym none);
  room = let count = ap length none in omega (arith, count, owed);
  memory = omega (arith, owed);
  keepers_there = there ∙ ap (λ j. not (is_some (running_split j))) (sym none);
}

-- ---- more room
pub sound_roomier : {K : Type 0} (it : Board K) (journal : BoardJournalState) (n : ℕ) → IsSoundBoard it
    → journal ≡ record it.journal { room = max it.journal.room n } → IsSoundBoard (record it { journal = journal })
sound_roomier it journal n sound is =
    let same : journal.entries ≡ it.journal.entries = ap (λ (j : BoardJournalState). j.entries) is in
    let room : journal.room ≡ max it.journal.room n = ap (λ (j : BoardJournalState). j.room) is in
    record {
      first_map = sound.first_map;
      first_idle = sound.first_idle;
      first_ids = sound.first_ids;
      limited = sound.limited;
      legal = subst (IsLegalBoard it.first) (sym same) sound.legal;
      map_is = sound.map_is ∙ ap (board_map it.first) (sym same);
      leaders_are = sound.leaders_are ∙ ap (leaders_after it.first) (sym same);
      owed_is = sound.owed_is ∙ ap (board_owed it.first) (sym same);
      room = let count = ap length same in let within = sound.room in omega (arith, count, within);
      memory = let memory = sound.memory in omega (arith, room, memory);
      keepers_there = sound.keepers_there ∙ ap (λ j. not (is_some (running_split j))) (sym same);
    }

-- ---- an entry more
sound_noted : {K : Type 0} (old : Board K) (one : BoardEntry) (new : Board K) → IsSoundBoard old
    → MayNote old.first old.journal.entries one → Notes old one new
    → new.leaders ≡ leaders_after old.first (old.journal.entries ++ one ∷ [])
    → new.owed ≡ board_owed old.first (old.journal.entries ++ one ∷ [])
    → length old.journal.entries + 1 + new.owed ≤ old.limit → new.owed ≤ new.journal.room
    → is_some new.keepers ≡ not (is_some (running_split (old.journal.entries ++ one ∷ []))) → IsSoundBoard new
sound_noted old one new sound may notes leaders owed within memory keepers =
    let follows = follows_noted old one new (sound_follows old sound) may notes leaders in
    record {
      first_map = follows.first_map;
      first_idle = follows.first_idle;
      first_ids = let same = ap greatest_id notes.first_is in let ids = sound.first_ids in omega (arith, same, ids);
      limited = let same = notes.limit_is in let limited = sound.limited in omega (arith, same, limited);
      legal = follows.legal;
      map_is = follows.map_is;
      leaders_are = follows.leaders_are;
      owed_is = owed ∙ ap (board_owed old.first) (sym notes.entries)
          ∙ ap (λ first. board_owed first new.journal.entries) (sym notes.first_is);
      room =
          let count = ap length notes.entries in
          let same = notes.limit_is in
          omega (arith, count, same, length-append old.journal.entries (one ∷ []));
      memory = memory;
      keepers_there = keepers ∙ ap (λ j. not (is_some (running_split j))) (sym notes.entries);
    }

-- whether one runs then
runs_after : (entries : List BoardEntry) (one : BoardEntry) (running : Option ℕ)
    → running_split (entries ++ one ∷ []) ≡ running
    → not (is_some running) ≡ not (is_some (running_split (entries ++ one ∷ [])))
runs_after entries one running is = ap (λ (r : Option ℕ). not (is_some r)) (sym is)

pub sound_begun : {K : Type 0} (old : Board K) (plan : SplitPlan) (new : Board K) → IsSoundBoard old
    → MayNote old.first old.journal.entries (board.Begun plan) → Notes old (board.Begun plan) new
    → new.leaders ≡ old.leaders ++ replicate (length plan.subs) 1
    → BoardHasRoom 4 old.limit old.first old.journal.entries → new.owed ≡ old.owed + 3 → new.owed ≤ new.journal.room
    → new.keepers ≡ None → IsSoundBoard new
sound_begun old plan new sound may notes leaders room owed memory out =
    let one : BoardEntry = board.Begun plan in
    let more = board_owed-begun old.first old.journal.entries plan (sound_stands old sound) may in
    let was = sound.owed_is in
    let is : new.owed ≡ board_owed old.first (old.journal.entries ++ one ∷ []) = omega (arith, more, was, owed) in
    sound_noted old one new sound may notes
    (leaders ∙ ap (λ (ns : List ℕ). ns ++ replicate (length plan.subs) 1) sound.leaders_are
    ∙ sym (leaders-begun old.first old.journal.entries plan sound.first_map sound.legal may))
    is (omega (arith, was, owed, room)) memory
    (ap is_some out ∙ runs_after old.journal.entries one (Some (length old.journal.entries)) (running_split-push old.journal.entries one))

-- an entry that was owed
sound_less : {K : Type 0} (old : Board K) (one : BoardEntry) (new : Board K) (n : ℕ) → IsSoundBoard old
    → MayNote old.first old.journal.entries one → Notes old one new
    → new.leaders ≡ leaders_after old.first (old.journal.entries ++ one ∷ [])
    → board_owed old.first (old.journal.entries ++ one ∷ []) + n ≡ board_owed old.first old.journal.entries → 1 ≤ n
    → new.owed ≡ old.owed - n → new.journal.room ≡ old.journal.room - 1
    → is_some new.keepers ≡ not (is_some (running_split (old.journal.entries ++ one ∷ []))) → IsSoundBoard new
sound_less old one new n sound may notes leaders less some owed room keepers =
    let was = sound.owed_is in
    let within = sound.room in
    let memory = sound.memory in
    sound_noted old one new sound may notes leaders (omega (arith, less, was, owed)) (omega (arith, within, owed, some, less, was))
    (omega (arith, memory, owed, some, room)) keepers

-- the split that is running goes on
stays : {K : Type 0} (old : Board K) (one : BoardEntry) (new : Board K) → IsSoundBoard old → new.keepers ≡ old.keepers
    → running_split (old.journal.entries ++ one ∷ []) ≡ running_split old.journal.entries
    → is_some new.keepers ≡ not (is_some (running_split (old.journal.entries ++ one ∷ [])))
stays old one new sound same goes =
    ap is_some same ∙ sound.keepers_there ∙ runs_after old.journal.entries one (running_split old.journal.entries) goes

pub sound_recovering : {K : Type 0} (old : Board K) (parent : SliceId) (new : Board K) → IsSoundBoard old
    → MayNote old.first old.journal.entries (board.Recovering parent) → Notes old (board.Recovering parent) new
    → new.leaders ≡ old.leaders → new.owed ≡ old.owed - 1 → new.journal.room ≡ old.journal.room - 1 → new.keepers ≡ old.keepers → IsSoundBoard new
sound_recovering old parent new sound may notes leaders owed room same =
    let one : BoardEntry = board.Recovering parent in
    sound_less old one new 1 sound may notes
    (leaders ∙ sound.leaders_are ∙ sym (leaders-recovering old.first old.journal.entries parent))
    (board_owed-recovering old.first old.journal.entries parent (sound_stands old sound) may) (omega arith) owed room
    (stays old one new sound same (running_split-push old.journal.entries one))

pub sound_done : {K : Type 0} (old : Board K) (parent : SliceId) (new : Board K) (keepers : K) → IsSoundBoard old
    → MayNote old.first old.journal.entries (board.Done parent) → Notes old (board.Done parent) new
    → new.leaders ≡ old.leaders → new.owed ≡ old.owed - 1 → new.journal.room ≡ old.journal.room - 1 → new.keepers ≡ Some keepers → IsSoundBoard new
sound_done old parent new keepers sound may notes leaders owed room back =
    let one : BoardEntry = board.Done parent in
    let slices = board_is_map old.first old.journal.entries sound.first_map sound.legal in
    sound_less old one new 1 sound may notes
    (leaders ∙ sound.leaders_are ∙ sym (leaders-done old.first old.journal.entries parent))
    (board_owed-done old.first old.journal.entries parent slices (sound_stands old sound) may) (omega arith) owed room
    (ap is_some back ∙ runs_after old.journal.entries one None (running_split-push old.journal.entries one))

pub sound_failed : {K : Type 0} (old : Board K) (parent : SliceId) (new : Board K) (keepers : K) → IsSoundBoard old
    → MayNote old.first old.journal.entries (board.Failed parent) → Notes old (board.Failed parent) new
    → new.leaders ≡ take (length new.map) old.leaders → 1 ≤ owed_by_split old.journal.entries
    → new.owed ≡ old.owed - owed_by_split old.journal.entries → new.journal.room ≡ old.journal.room - 1
    → new.keepers ≡ Some keepers → IsSoundBoard new
sound_failed old parent new keepers sound may notes leaders some owed room back =
    let one : BoardEntry = board.Failed parent in
    let slices : new.map ≡ after (board_map old.first old.journal.entries) (Change.Failed parent) =
    notes.map_is ∙ ap (λ s. after s (Change.Failed parent)) sound.map_is in
    sound_less old one new (owed_by_split old.journal.entries) sound may notes
    (leaders ∙ ap (λ (s : List Slice). take (length s) old.leaders) slices
    ∙ ap (take (length (after (board_map old.first old.journal.entries) (Change.Failed parent)))) sound.leaders_are
    ∙ sym (leaders-failed old.first old.journal.entries parent sound.legal (sound_stands old sound) may))
    (board_owed-failed old.first old.journal.entries parent) some owed room
    (ap is_some back ∙ runs_after old.journal.entries one None (running_split-push old.journal.entries one))

pub sound_dropped : {K : Type 0} (old : Board K) (slice : SliceId) (at : ℕ) (new : Board K) → IsSoundBoard old → IsAt old at slice
    → MayNote old.first old.journal.entries (board.Dropped slice) → Notes old (board.Dropped slice) new
    → new.leaders ≡ remove old.leaders at → new.owed ≡ old.owed - 1 → new.journal.room ≡ old.journal.room - 1 → new.keepers ≡ old.keepers → IsSoundBoard new
sound_dropped old slice at new sound (there, is, named) may notes leaders owed room same =
    let one : BoardEntry = board.Dropped slice in
    let slices = board_is_map old.first old.journal.entries sound.first_map sound.legal in
    sound_less old one new 1 sound may notes
    (leaders ∙ ap (λ (ns : List ℕ). remove ns at) sound.leaders_are
    ∙ sym (leaders-dropped old.first old.journal.entries slice at there slices
    (subst (λ s. slice_get s at ≡ Some there) sound.map_is is) named))
    (board_owed-dropped old.first old.journal.entries slice slices may) (omega arith) owed room
    (stays old one new sound same (running_split-push old.journal.entries one))

pub sound_led : {K : Type 0} (old : Board K) (slice : SliceId) (replica at : ℕ) (new : Board K) → IsSoundBoard old → IsAt old at slice
    → MayNote old.first old.journal.entries (board.Led slice replica) → Notes old (board.Led slice replica) new
    → new.leaders ≡ slice_set old.leaders at replica → BoardHasRoom 1 old.limit old.first old.journal.entries → new.owed ≡ old.owed
    → old.owed + 1 ≤ old.journal.room → new.journal.room ≡ old.journal.room - 1 → new.keepers ≡ old.keepers → IsSoundBoard new
sound_led old slice replica at new sound (there, is, named) may notes leaders fits owed memory room same =
    let one : BoardEntry = board.Led slice replica in
    let was = sound.owed_is in
    let slices = board_is_map old.first old.journal.entries sound.first_map sound.legal in
    let as_before = board_owed-led old.first old.journal.entries slice replica in
    sound_noted old one new sound may notes
    (leaders ∙ ap (λ (ns : List ℕ). slice_set ns at replica) sound.leaders_are
    ∙ sym (leaders-led old.first old.journal.entries slice replica at there slices
    (subst (λ s. slice_get s at ≡ Some there) sound.map_is is) named))
    (omega (arith, owed, was, as_before)) (omega (arith, owed, was, fits)) (omega (arith, owed, memory, room))
    (stays old one new sound same (running_split-push old.journal.entries one))

-- what may be dropped may be dropped from the map as it is kept; and so for the others
pub owed_is_some : {K : Type 0} (old : Board K) (one : BoardEntry) → IsSoundBoard old
    → board_owed old.first (old.journal.entries ++ one ∷ []) + 1 ≡ board_owed old.first old.journal.entries
    → (1 ≤ old.owed) × (0 < old.journal.room)
owed_is_some old one sound less =
    let was = sound.owed_is in
    let memory = sound.memory in
    (omega (arith, was, less), omega (arith, was, less, memory))

-- ---- the split that runs
-- it is the one that may go on
pub running_is : {K : Type 0} (it : Board K) (found : Option Running) (parent : SliceId) → IsSoundBoard it
    → MatchOption found (running_split it.journal.entries ≡ None)
    (λ running. IsBeingSplit it.map running.parent × (running.owed ≡ fold owed_after 0 it.journal.entries))
    → IsBeingSplit (board_map it.first it.journal.entries) parent
    → (running : Running) × (found ≡ Some running) × (running.parent ≡ parent) × (running.owed ≡ owed_by_split it.journal.entries)
running_is it None parent sound none split =
    absurd (not_open it.map parent (subst (λ s. IsBeingSplit s parent) (sym sound.map_is) split) (sound_idle it sound none))
running_is it (Some running) parent sound (opened, owed) split =
    let here = subst (λ s. IsBeingSplit s parent) (sym sound.map_is) split in
    (running, refl, same_parent it.map running.parent parent (sound_map it sound) opened here, owed)

-- ---- the notes of a split
-- it is running, and it is this one
pub parent_is : {K : Type 0} (it : Board K) (found : Option Running) (here : Running) (parent : SliceId) → IsSoundBoard it
    → MatchOption found (running_split it.journal.entries ≡ None)
    (λ running. IsBeingSplit it.map running.parent × (running.owed ≡ fold owed_after 0 it.journal.entries))
    → IsBeingSplit (board_map it.first it.journal.entries) parent → found ≡ Some here
    → (here.parent ≡ parent) × (here.owed ≡ owed_by_split it.journal.entries)
parent_is it found here parent sound ends split is =
    let running = running_is it found parent sound ends split in
    let same : running.0 ≡ here = same_Some running.0 here (sym running.1 ∙ is) in (
      ap (λ (r : Running). r.parent) (sym same) ∙ running.2,
      ap (λ (r : Running). r.owed) (sym same) ∙ running.3,
    )

-- what is owed of it, and the room for that
pub some_owed_recovering : {K : Type 0} (it : Board K) (parent : SliceId) → IsSoundBoard it
    → MayNote it.first it.journal.entries (board.Recovering parent) → (1 ≤ it.owed) × (0 < it.journal.room)
some_owed_recovering it parent sound may =
    owed_is_some it (board.Recovering parent) sound
    (board_owed-recovering it.first it.journal.entries parent (sound_stands it sound) may)

pub some_owed_done : {K : Type 0} (it : Board K) (parent : SliceId) → IsSoundBoard it
    → MayNote it.first it.journal.entries (board.Done parent) → (1 ≤ it.owed) × (0 < it.journal.room)
some_owed_done it parent sound may =
    owed_is_some it (board.Done parent) sound
    (board_owed-done it.first it.journal.entries parent (board_is_map it.first it.journal.entries sound.first_map sound.legal)
    (sound_stands it sound) may)

pub some_owed_failed_split : {K : Type 0} (it : Board K) (parent : SliceId) → IsSoundBoard it
    → MayNote it.first it.journal.entries (board.Failed parent) → 1 ≤ owed_by_split it.journal.entries
some_owed_failed_split it parent sound may =
    let two = owed_where_open it.first it.journal.entries parent may (sound_stands it sound) in omega arith

pub some_owed_failed : {K : Type 0} (it : Board K) (parent : SliceId) → IsSoundBoard it
    → MayNote it.first it.journal.entries (board.Failed parent) → (1 ≤ it.owed) × (0 < it.journal.room)
some_owed_failed it parent sound may =
    let some = some_owed_failed_split it parent sound may in
    let less = board_owed-failed it.first it.journal.entries parent in
    let was = sound.owed_is in
    let memory = sound.memory in
    (omega (arith, was, less, some), omega (arith, was, less, some, memory))

-- ---- ids
-- where there is room for a split, the ids of its slices are below 2^32
pub ids_short : {K : Type 0} (it : Board K) (n : ℕ) → IsSoundBoard it → BoardHasRoom 4 it.limit it.first it.journal.entries → n ≤ most_slices
    → greatest_id it.map + n < 2 ^ 32
ids_short it n sound room few =
    let most = board_ids it.first it.journal.entries sound.legal in
    let is = ap greatest_id sound.map_is in
    let ids = sound.first_ids in
    let limited = sound.limited in
    omega (arith, most, is, ids, limited, room)
