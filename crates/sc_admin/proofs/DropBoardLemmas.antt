-- A slice may be dropped from buckets at rest where the board may note it, and then they are at rest as the board says.
use Rattle.std.proofs.Common.{◌≡◌, ℕ, ◌≤◌, List, [], ◌∷◌, ◌++◌, length, drop, Some, None, sym, ap, ◌∙◌, subst, arith}
use Rattle.std.specs.Prelude.{All, Contains}
use Rattle.std.proofs.lemmas.List.Elements.{All-filter}
use Rattle.sc_record.specs.declared.slice.SliceId.{SliceId}
use Rattle.sc_record.specs.declared.entry.Entry.TheVariants as entry
use Rattle.sc_cluster.specs.declared.slice.Slice.{Slice}
use Rattle.sc_cluster.specs.Changes.{Change, IsInactive, after}
use Rattle.sc_io.specs.declared.hosts.Host.{Host}
use Rattle.sc_cores.specs.Cores.{cores_of_slice}
use Rattle.sc_ulog.specs.declared.mode.Mode.TheVariants.{Active}
use Rattle.sc_seen.specs.Board.{MayNote, board_map, running_split}
use Rattle.sc_seen.specs.Rounds.{Round, GoTogether}
use Rattle.sc_seen.specs.Seen.{Layout}
use Rattle.sc_seen.specs.declared.board.BoardEntry.{BoardEntry}
use Rattle.sc_seen.specs.declared.board.BoardEntry.TheVariants as board
use Rattle.sc_seen.proofs.BoardLemmas.{board_map-push, running_where}
use Rattle.sc_board.specs.declared.board.Board.{Board}
use Rattle.sc_board.specs.Boards.{IsSoundBoard}
use Rattle.sc_board.specs.Splits.{slice_named, IsOfNamed}
use Rattle.sc_board.proofs.SoundLemmas.{sound_map, sound_stands}
use Rattle.sc_board.proofs.NamedLemmas.{named_there, same_by_id}
use Rattle.sc_keeper.specs.declared.part.CorePart.{CorePart}
use Rattle.sc_keeper.specs.Conditions.{MayDrop}
use Rattle.sc_collection.specs.Desks.{Keeping, IsAtRest, AreAtRest}
use Rattle.sc_collection.specs.Known.{Known, OfBuckets}
use Rattle.sc_collection.proofs.RestLemmas.{GoTogether-since, since-more}
use Rattle.sc_admin.specs.Dropping.{IsDroppedIn, DropsSlice, with_board}

-- no split runs where a slice may be dropped
pub idle_at_drop : {K : Type 0} (it : Board K) (slice : SliceId) → IsSoundBoard it → MayNote it.first it.journal.entries (board.Dropped slice)
    → running_split it.journal.entries ≡ None
idle_at_drop it slice sound may = (running_where it.first it.journal.entries (sound_stands it sound)).1 may.0

-- it may be dropped from each bucket, where these are at rest
pub may_at_rest : (layout : Layout) (first : List Slice) (entries : List BoardEntry) (keeping : Keeping) (slice : SliceId) → first ≡ layout.first
    → MayNote first entries (board.Dropped slice) → AreAtRest layout entries keeping
    → OfBuckets 0 layout.buckets (λ b. MayDrop (keeping.part b) slice)
may_at_rest layout first entries keeping slice same may rest b low below =
    let at = rest b below in
    (at.idle, subst (λ (slices : List Slice). IsInactive slices slice) (ap (λ (f : List Slice). board_map f entries) same ∙ sym at.map_is) may.1)

-- a bucket from which the slice was dropped is at rest as the board says then
at_rest_dropped : (opened : ℕ) (first : List Slice) (entries given : List BoardEntry) (old new : Known) (slice : SliceId) (b : ℕ)
    → given ≡ entries ++ board.Dropped slice ∷ [] → IsAtRest opened entries (board_map first entries) (old.keeping.part b) (old.keeping.own b)
    → IsDroppedIn slice old new b → IsAtRest opened given (board_map first given) (new.keeping.part b) (new.keeping.own b)
at_rest_dropped opened first entries given old new slice b noted was is = record {
  map_is = is.part.map_is ∙ ap (λ (slices : List Slice). after slices (Change.Dropped slice)) was.map_is
      ∙ sym (board_map-push first entries (board.Dropped slice)) ∙ ap (board_map first) (sym noted);
  idle = is.part.phase_is ∙ was.idle;
  active = subst (All (λ (core : CorePart). core.mode ≡ Active)) (sym is.part.cores_are)
      (All-filter _ (λ (core : CorePart). core.mode ≡ Active) (old.keeping.part b).cores was.active);
  unfed = is.part.feeds_are ∙ was.unfed;
  since = subst (λ (es : List BoardEntry). opened ≤ length es) (sym noted) (since-more opened entries (board.Dropped slice ∷ []) was.since);
  together = subst (λ (es : List BoardEntry). GoTogether (drop opened es) (new.keeping.own b)) (sym noted)
      (subst (GoTogether (drop opened (entries ++ board.Dropped slice ∷ []))) (sym is.own)
      (GoTogether-since opened (Round.dropped slice) entries (old.keeping.own b) was.since was.together));
}

-- so are all
pub rest_dropped : (layout : Layout) (entries given : List BoardEntry) (old new : Known) (slice : SliceId)
    → given ≡ entries ++ board.Dropped slice ∷ [] → AreAtRest layout entries old.keeping
    → OfBuckets 0 layout.buckets (IsDroppedIn slice old new) → AreAtRest layout given new.keeping
rest_dropped layout entries given old new slice noted rest dropped b below =
    let low : 0 ≤ b = omega arith in
    at_rest_dropped layout.opened.board layout.first entries given old new slice b noted (rest b below) (dropped b low below)

-- the slice of this name was dropped, by its id
pub drops_slice : {K : Type 0} (layout : Layout) (shard : List ℕ) (it : Board K) (id : SliceId) (found : Slice) (old new : Known)
    (given : List BoardEntry) (nodes : ℕ) (cores : List Host) → IsSoundBoard it → it.first ≡ layout.first
    → IsOfNamed it.map shard (λ slice. slice.id ≡ id) → MayNote it.first it.journal.entries (board.Dropped id)
    → Contains it.map found × (found.id ≡ id) → given ≡ it.journal.entries ++ board.Dropped id ∷ []
    → OfBuckets 0 layout.buckets (IsDroppedIn id old new) → nodes ≡ layout.nodes → cores ≡ cores_of_slice nodes found
    → DropsSlice layout shard (with_board old.seen it.journal.entries) (with_board new.seen given) cores
drops_slice layout shard it id found old new given nodes cores sound first named may there noted dropped same_nodes cores_are = record {
  slice = found;
  named = (
    named.0,
    subst (λ (slices : List Slice). slice_named slices shard ≡ Some named.0)
        (sound.map_is ∙ ap (λ (f : List Slice). board_map f it.journal.entries) first) named.1,
    same_by_id it.map named.0 found (sound_map it sound) (named_there it.map shard named.0 named.1) there.0 (named.2 ∙ sym there.1),
  );
  idle = idle_at_drop it id sound may;
  noted = noted ∙ ap (λ (i : SliceId). it.journal.entries ++ board.Dropped i ∷ []) (sym there.1);
  buckets = λ lock below.
      let low : 0 ≤ lock = omega arith in
      let is = dropped lock low below in
      (is.before, is.went_on, is.journal ∙ ap (λ (i : SliceId). is.before ++ entry.Dropped i ∷ []) (sym there.1));
  cores_are = cores_are ∙ ap (λ (n : ℕ). cores_of_slice n found) same_nodes;
}
