-- Which split runs on a sound board, by its last entry.
use Rattle.std.proofs.Common.{◌≡◌, ◌∙◌, ℕ, ◌⊎◌, inl, inr, List, [], ◌∷◌, ◌++◌, Some, None, sym, ap, subst}
use Rattle.std.proofs.lemmas.Option.{none-some, same_Some}
use Rattle.std.specs.List.{fold}
use Rattle.sc_record.specs.declared.slice.SliceId.{SliceId}
use Rattle.sc_cluster.specs.declared.plan.SplitPlan.{SplitPlan}
use Rattle.sc_cluster.specs.Changes.{IsBeingSplit}
use Rattle.sc_journal.specs.Journal.{last_of}
use Rattle.sc_journal.proofs.ListLemmas.{last_of_cases}
use Rattle.sc_seen.specs.declared.board.BoardEntry.{BoardEntry}
use Rattle.sc_seen.specs.declared.board.BoardEntry.TheVariants as board
use Rattle.sc_seen.specs.Board.{board_map, running_split, owed_after, IsLegalBoard}
use Rattle.sc_seen.proofs.BoardLemmas.{running_split-push, owed_by_split-push, owed_by_split, MayNote_end, IsLegalBoard-prefix, may_go_on_begun, may_go_on_recovered, rests_where_idle, board_stands}
use Rattle.sc_board.specs.Boards.{IsSoundBoard}
use Rattle.sc_board.specs.declared.board.Board.{Board}

-- what a journal ends with
ends_with : (entries : List BoardEntry) (one : BoardEntry) → last_of entries ≡ Some one
    → (init : List BoardEntry) × (entries ≡ init ++ one ∷ [])
ends_with entries one last = by (last_of_cases entries) where
  by : ((entries ≡ []) × (last_of entries ≡ None))
      ⊎ ((init : List BoardEntry) × (x : BoardEntry) × (entries ≡ init ++ x ∷ []) × (last_of entries ≡ Some x))
      → (init : List BoardEntry) × (entries ≡ init ++ one ∷ [])
  by (inl (none, is)) = absurd (none-some one (sym is ∙ last))
  by (inr (init, x, is, some)) = (init, is ∙ ap (λ e. init ++ e ∷ []) (same_Some x one (sym some ∙ last)))

pub begun_last : {K : Type 0} (it : Board K) (plan : SplitPlan) → IsSoundBoard it
    → last_of it.journal.entries ≡ Some (board.Begun plan)
    → IsBeingSplit it.map plan.parent × (3 ≡ fold owed_after 0 it.journal.entries)
begun_last it plan sound last =
    let ends = ends_with it.journal.entries (board.Begun plan) last in
    let init = ends.0 in
    let may = may_go_on_begun it.first init plan sound.first_map (subst (IsLegalBoard it.first) ends.1 sound.legal) in (
      subst (λ s. IsBeingSplit s plan.parent) (ap (board_map it.first) (sym ends.1) ∙ sym sound.map_is) may.0,
      sym (ap owed_by_split ends.1 ∙ owed_by_split-push init (board.Begun plan)),
    )

pub recovering_last : {K : Type 0} (it : Board K) (parent : SliceId) → IsSoundBoard it
    → last_of it.journal.entries ≡ Some (board.Recovering parent)
    → IsBeingSplit it.map parent × (2 ≡ fold owed_after 0 it.journal.entries)
recovering_last it parent sound last =
    let ends = ends_with it.journal.entries (board.Recovering parent) last in
    let init = ends.0 in
    let may = may_go_on_recovered it.first init parent (subst (IsLegalBoard it.first) ends.1 sound.legal) in (
      subst (λ s. IsBeingSplit s parent) (ap (board_map it.first) (sym ends.1) ∙ sym sound.map_is) may.0,
      sym (ap owed_by_split ends.1 ∙ owed_by_split-push init (board.Recovering parent)),
    )

pub done_last : {K : Type 0} (it : Board K) (parent : SliceId) → last_of it.journal.entries ≡ Some (board.Done parent)
    → running_split it.journal.entries ≡ None
done_last it parent last =
    let ends = ends_with it.journal.entries (board.Done parent) last in
    ap running_split ends.1 ∙ running_split-push ends.0 (board.Done parent)

pub failed_last : {K : Type 0} (it : Board K) (parent : SliceId) → last_of it.journal.entries ≡ Some (board.Failed parent)
    → running_split it.journal.entries ≡ None
failed_last it parent last =
    let ends = ends_with it.journal.entries (board.Failed parent) last in
    ap running_split ends.1 ∙ running_split-push ends.0 (board.Failed parent)

pub dropped_last : {K : Type 0} (it : Board K) (slice : SliceId) → IsSoundBoard it
    → last_of it.journal.entries ≡ Some (board.Dropped slice) → running_split it.journal.entries ≡ None
dropped_last it slice sound last =
    let one : BoardEntry = board.Dropped slice in
    let ends = ends_with it.journal.entries one last in
    let init = ends.0 in
    let legal : IsLegalBoard it.first (init ++ one ∷ []) = subst (IsLegalBoard it.first) ends.1 sound.legal in
    let may = MayNote_end it.first init one legal in
    let stands = board_stands it.first init sound.first_map sound.first_idle (IsLegalBoard-prefix it.first init (one ∷ []) legal) in
    ap running_split ends.1 ∙ running_split-push init one ∙ (rests_where_idle it.first init stands may.0).0

pub led_last : {K : Type 0} (it : Board K) (slice : SliceId) (replica : ℕ) → IsSoundBoard it
    → last_of it.journal.entries ≡ Some (board.Led slice replica) → running_split it.journal.entries ≡ None
led_last it slice replica sound last =
    let one : BoardEntry = board.Led slice replica in
    let ends = ends_with it.journal.entries one last in
    let init = ends.0 in
    let legal : IsLegalBoard it.first (init ++ one ∷ []) = subst (IsLegalBoard it.first) ends.1 sound.legal in
    let may = MayNote_end it.first init one legal in
    let stands = board_stands it.first init sound.first_map sound.first_idle (IsLegalBoard-prefix it.first init (one ∷ []) legal) in
    ap running_split ends.1 ∙ running_split-push init one ∙ (rests_where_idle it.first init stands may.idle).0
